-- The bytes of the subfields, one after the other: the offset of a row is the length of what is written before it. Assumes nothing.
use mathlib.Core.Path.{◌≡◌, refl, sym, ap, ◌∙◌}
use mathlib.Core.List.{List, [], ◌∷◌}
use mathlib.Core.Bool.{Bool, true, ◌&&◌, and-eq-true_iff}
use Prim.Native.Nat.{ℕ, ◌+◌, ◌≤◌}
use native.Mathlib.Omega.{arith}
use borrow.Author.Tests.{leb-true, eqb-true}
use lib.Dec.{leb, eqb}
use lib.ListN.{length}
use Rattle.card_text.specs.Layout.{Subfield}
use Rattle.card_text.specs.Write.{Value, counted, angle, named, flagged, text_of, written}
use Rattle.text.specs.Buffer.{splice, put_at}
use Rattle.text.proofs.Numbers.{length_digits}
use Rattle.text.proofs.Angles.{length-angle}
use Rattle.text.proofs.Splices.{splice-nil, splice-splice, length-splice, length-put, put-fits}

-- ---- lengths

-- the width of a value's bytes
abbrev fits : ℕ → Value → Bool
fits w (counted v) = true
fits w (angle d z) = eqb (d + 8) w
fits w (named s) = eqb (length s) w
fits w (flagged t) = eqb 1 w

-- each subfield starts where the one before it ends, the first at o, and has its value's width
abbrev pub contiguous : ℕ → List Subfield → List Value → Bool
contiguous o [] vs = true
contiguous o (f ∷ fs) [] = true
contiguous o (f ∷ fs) (v ∷ vs) = (eqb f.at o && leb (o + f.width) 98) && (fits f.width v && contiguous (o + f.width) fs vs)

length-text : (w : ℕ) (v : Value) → fits w v ≡ true → length (text_of w v) ≡ w
length-text w (counted v) e = length_digits w v
length-text w (angle d z) e = length-angle d z ∙ eqb-true (d + 8) w e
length-text w (named s) e = eqb-true (length s) w e
length-text w (flagged t) e = eqb-true 1 w e

-- ---- subfields put one after the other, each at its offset

infixr 5 ◌▸◌
pub data FieldsPut : List Subfield → List Value → List ℕ → List ℕ → Type 0 where
  end : {s : List ℕ} → FieldsPut [] [] s s
  ◌▸◌ : {f : Subfield} {fs : List Subfield} {v : Value} {vs : List Value} {s t u : List ℕ}
      → t ≡ put_at (text_of f.width v) f.at s → FieldsPut fs vs t u → FieldsPut (f ∷ fs) (v ∷ vs) s u

pub fields-length : {fs : List Subfield} {vs : List Value} {s u : List ℕ} → FieldsPut fs vs s u → length u ≡ length s
fields-length end = refl
fields-length (◌▸◌ {f} {fs} {v} {vs} {s} e p) = fields-length p ∙ ap length e ∙ length-put (text_of f.width v) f.at s

pub put_all : {fs : List Subfield} {vs : List Value} {s u : List ℕ} → FieldsPut fs vs s u → (o : ℕ) → contiguous o fs vs ≡ true → 98 ≤ length s
    → u ≡ splice o (written fs vs) s
put_all (end {s}) o c h = sym (splice-nil o s)
put_all (◌▸◌ {f} {fs} {v} {vs} {s} {t} {u} e p) o c h =
    let x = text_of f.width v in
    let both = (and-eq-true_iff (eqb f.at o && leb (o + f.width) 98) (fits f.width v && contiguous (o + f.width) fs vs)).0 c in
    let here = (and-eq-true_iff (eqb f.at o) (leb (o + f.width) 98)).0 both.0 in
    let then = (and-eq-true_iff (fits f.width v) (contiguous (o + f.width) fs vs)).0 both.1 in
    let at = eqb-true f.at o here.0 in
    let most = leb-true (o + f.width) 98 here.1 in
    let wide = length-text f.width v then.0 in
    let first : t ≡ splice o x s = (rw at at e) ∙ put-fits x o s (omega arith) in
    let long : length t ≡ length s = ap length first ∙ length-splice o x s (omega arith) in
    let ends : o + f.width ≡ o + length x = omega arith in
    put_all p (o + f.width) then.1 (omega arith) ∙ rw (first, ends) (splice-splice o x (written fs vs) s (omega arith))
