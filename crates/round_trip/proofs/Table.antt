-- A table of subfields that stand one after the other, by induction over it: what is written is cut at the offsets into the values'
-- texts, so that the walk passes; and where each text is its subfield's bytes, all of them together are the bytes. Assumes nothing.
use Rattle.std.specs.Prelude.{Ok}
use mathlib.Core.Path.{◌≡◌, refl, sym, ap, ◌∙◌}
use mathlib.Core.List.{List, [], ◌∷◌, ◌++◌, append_assoc}
use mathlib.Core.Bool.{Bool, true, false, cond, ◌&&◌, and-eq-true_iff}
use Prim.Native.Nat.{ℕ, zero, suc, ◌+◌, ◌/◌, ◌^◌, ◌≤◌, ◌<◌}
use native.Mathlib.Nat.{not-suc-le-zero, le_of_suc-le-suc}
use native.Mathlib.Omega.{arith}
use lib.Dec.{eqb}
use lib.IntN.{ℤ, nat_abs}
use lib.ListN.{length, get_or, drop, length-append, drop_of_length-le}
use borrow.Author.Tests.{le-leb, eqb-true}
use Rattle.text.specs.Text.{is_flag, name_laid, part}
use Rattle.card_text.specs.declared.Fill.{Fill}
use Rattle.card_text.specs.Layout.{Kind, Subfield, STR, bytes_of, right_kind, right_value, judge_field, walk}
use Rattle.card_text.specs.Write.{Value, counted, angle, named, flagged, text_of, written}
use Rattle.text.proofs.Bytes.{part_at, cut}
use Rattle.text.proofs.Numbers.{length_digits, all_digits, number_digits}
use Rattle.text.proofs.Angles.{length-angle, text-laid, text-valid}

-- ---- a value that its subfield can hold

pub data Holds : Kind → ℕ → Value → Type 0 where
  a-number : {low high w v : ℕ} → low ≤ v → v ≤ high → v < 10 ^ w → Holds (Kind.Number low high) w (counted v)
  an-angle : {d limit w : ℕ} {z : ℤ} → w ≡ d + 8 → nat_abs z ≤ limit → limit / 360000 < 10 ^ d → Holds (Kind.Angle d limit) w (angle d z)
  a-name : {w : ℕ} {s : List ℕ} → length s ≡ w → name_laid s ≡ true → Holds Kind.Name w (named s)
  a-flag : {w : ℕ} {t : Bool} → w ≡ 1 → Holds Kind.Flag w (flagged t)

-- the same, of arguments that the table tells
pub count_held : {low high w v : ℕ} → (low ≤ v) × (v ≤ high) × (v < 10 ^ w) → Holds (Kind.Number low high) w (counted v)
count_held h = a-number h.0 h.1 h.2

pub angle-held : {d limit w : ℕ} {z : ℤ} → (w ≡ d + 8) × (nat_abs z ≤ limit) × (limit / 360000 < 10 ^ d) → Holds (Kind.Angle d limit) w (angle d z)
angle-held h = an-angle h.0 h.1 h.2

-- its text fills the subfield and passes
pub record Passes (k : Kind) (w : ℕ) (t : List ℕ) : Type 0 where
  pub long : length t ≡ w
  pub right-kind : right_kind Fill.Zeros k t ≡ true
  pub right-value : right_value k t ≡ true

passes : {k : Kind} {w : ℕ} {v : Value} → Holds k w v → Passes k w (text_of w v)
passes (a-number {low} {high} {w} {v} p q h) =
    record { long = length_digits w v; right-kind = all_digits w v; right-value = rw (number_digits w v h, le-leb low v p, le-leb v high q) }
passes (an-angle {d} {limit} {w} {z} e h m) =
    record { long = length-angle d z ∙ sym e; right-kind = text-laid d z; right-value = text-valid d z (omega arith) limit h }
passes (a-name l h) = record { long = l; right-kind = h; right-value = refl }
passes (a-flag {w} {t} e) = record { long = sym e; right-kind = refl; right-value = go t }
  where
    go : (t : Bool) → is_flag (cond t 89 78) ≡ true
    go true = refl
    go false = refl

-- ---- tables

-- what holds of each subfield and its value
pub data Along (P : Subfield → Value → Type 0) : List Subfield → List Value → Type 0 where
  done : Along P [] []
  next : {f : Subfield} {v : Value} {fs : List Subfield} {vs : List Value} → P f v → Along P fs vs → Along P (f ∷ fs) (v ∷ vs)

-- the same, of arguments that the table tells
infixr 5 ◌then◌
pub ◌then◌ : {P : Subfield → Value → Type 0} {f : Subfield} {v : Value} {fs : List Subfield} {vs : List Value}
    → P f v → Along P fs vs → Along P (f ∷ fs) (v ∷ vs)
p then a = next p a

pub along-at : {P : Subfield → Value → Type 0} {fs : List Subfield} {vs : List Value} → Along P fs vs
    → (i : ℕ) → i < length fs → P (get_or fs i STR) (get_or vs i (counted 0))
along-at done i h = absurd (not-suc-le-zero h)
along-at (next p a) zero h = p
along-at (next p a) (suc i) h = along-at a i (le_of_suc-le-suc h)

abbrev pub Held : Subfield → Value → Type 0
Held f v = Holds f.kind f.width v

-- the subfield's bytes are the value's text
abbrev pub Text : List ℕ → Subfield → Value → Type 0
Text s f v = bytes_of f s ≡ text_of f.width v

-- each subfield starts where the one before it ends, the first at o
abbrev pub contiguous : ℕ → List Subfield → Bool
contiguous o [] = true
contiguous o (f ∷ fs) = eqb f.at o && contiguous (o + f.width) fs

-- where the last one ends
abbrev pub end : ℕ → List Subfield → ℕ
end o [] = o
end o (f ∷ fs) = end (o + f.width) fs

module _ (o : ℕ) (f : Subfield) (fs : List Subfield) (c : contiguous o (f ∷ fs) ≡ true) where
  starts : f.at ≡ o
  starts = eqb-true f.at o ((and-eq-true_iff (eqb f.at o) (contiguous (o + f.width) fs)).0 c).0

  goes_on : contiguous (o + f.width) fs ≡ true
  goes_on = ((and-eq-true_iff (eqb f.at o) (contiguous (o + f.width) fs)).0 c).1

-- ---- what was written

pub length-written : (o : ℕ) {fs : List Subfield} {vs : List Value} → Along Held fs vs → o + length (written fs vs) ≡ end o fs
length-written o done = omega arith
length-written o (next {f} p a) =
    let e = length-written (o + f.width) a in
    rw (length-append, (passes p).long) (omega arith)

module _ (s : List ℕ) where
  -- each text at its offset, pre being before the first
  pub texts : (o : ℕ) (pre : List ℕ) {fs : List Subfield} {vs : List Value} → contiguous o fs ≡ true → length pre ≡ o
      → s ≡ pre ++ written fs vs → Along Held fs vs → Along (Text s) fs vs
  texts o pre c l e done = done
  texts o pre c l e (next {f} {v} {fs} {vs} p a) =
      let t = text_of f.width v in
      let k : length t ≡ f.width = (passes p).long in
      let q : Text s f v = rw (starts o f fs c, e) (part_at pre t (written fs vs) o f.width l k) in
      next q (texts (o + f.width) (pre ++ t) (goes_on o f fs c) (length-append pre t ∙ rw (l, k)) (e ∙ sym (append_assoc pre t (written fs vs))) a)

  pub walks : {fs : List Subfield} {vs : List Value} → Along Held fs vs → Along (Text s) fs vs → walk Fill.Zeros fs s ≡ Ok tt
  unfolding judge_field
  walks done t = refl
  walks (next p a) (next e t) = rw (e, (passes p).right-kind, (passes p).right-value) (walks a t)

  -- the texts together are the bytes from o
  pub written_back : (o : ℕ) {fs : List Subfield} {vs : List Value} → contiguous o fs ≡ true → length s ≡ end o fs
      → Along (Text s) fs vs → written fs vs ≡ drop o s
  written_back o c l done = sym (drop_of_length-le s {i = o} (omega arith))
  written_back o c l (next {f} {v} {fs} {vs} p t) =
      let e : text_of f.width v ≡ part o f.width s = sym p ∙ ap (λ (k : ℕ). part k f.width s) (starts o f fs c) in
      let r = written_back (o + f.width) (goes_on o f fs c) l t in
      ap (λ (x : List ℕ). x ++ written fs vs) e ∙ ap (λ (x : List ℕ). part o f.width s ++ x) r ∙ sym (cut o f.width (o + f.width) s refl)
