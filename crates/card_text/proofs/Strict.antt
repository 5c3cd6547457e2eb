-- A card without blanks before its digits is walked alike whatever may fill its numbers, and its total is told only where it is
-- accepted; the digits that its numbers need leave room for 37. Assumes nothing.
use mathlib.Core.Path.{◌≡◌, refl, sym, ap, ap₂, ◌∙◌}
use mathlib.Core.Bool.{Bool, true, false, not, ◌&&◌, and-eq-true_iff}
use mathlib.Core.List.{List, [], ◌∷◌}
use mathlib.Core.Option.{Option, some, none}
use Rattle.std.specs.Prelude.{if◌then◌else◌, Result, Ok, Err}
use Prim.Native.Nat.{ℕ, ◌+◌, ◌^◌, ◌≤◌, ◌<◌}
use native.Mathlib.Omega.{arith}
use borrow.Author.Tests.{leb-true, eqb-true}
use lib.Dec.{leb, eqb}
use lib.IntN.{ℤ}
use lib.ListN.{length, get_or}
use Rattle.arc.specs.declared.series.Series.{Series}
use Rattle.arc.specs.declared.refusal.Refusal.{Refusal}
use Rattle.arc.specs.declared.series.Spacing.{Spacing}
use Rattle.whole.specs.Results.{◌>>=◌}
use Rattle.arc.specs.Zones.{is_polar}
use Rattle.arc.specs.Spacing.{spacing_of}
use Rattle.arc.proofs.Answered.{answered-least}
use Rattle.text.specs.Text.{is_digit, all, blanks, filled}
use Rattle.text.proofs.Bytes.{length_part}
use Rattle.text.proofs.Blanks.{number-after, digits-none, none_filled, blanks-below, blanks-few}
use Rattle.card_text.specs.declared.Fields.{Fields}
use Rattle.card_text.specs.declared.Fill.{Fill}
use Rattle.card_text.specs.declared.Reading.{Reading}
use Rattle.card_text.specs.Layout.{Kind, Subfield, STR, ARV, BRV, PNC, PNL, layout}
use Rattle.card_text.specs.Layout.{bytes_of, right_kind, right_value, Judged, judge, judge_field, or_else, walk}
use Rattle.card_text.specs.Blanks.{blanks_of, blanks_in, total_blanks}
use Rattle.card_text.specs.Read.{number_in, card_of, accepted_card, blanks_told, with_origin, with_values, read_in, read_as}
use Rattle.card_text.specs.Strict.{OneDigit, DigitsAlone, SameWithout, StrictAccepts, TolerantAccepts, RefusedNone, AtMost37}
use Rattle.card_text.proofs.Walked.{between, or_else-both, judge-both, right-in}
use Rattle.card_text.proofs.Acceptance.{row_tile, column_tile, extents_in, ReadTo, read-to}

pub digits-alone : DigitsAlone
digits-alone = number-after

pub one-digit : OneDigit
one-digit [] h = absurd (omega arith)
one-digit (b ∷ c ∷ bs) h = absurd (omega arith)
one-digit (b ∷ []) h = go (eqb b 32) refl
  where
    go : (e : Bool) → eqb b 32 ≡ e → filled (b ∷ []) ≡ all is_digit (b ∷ [])
    go true e = rw (eqb-true b 32 e)
    go false e = none_filled (b ∷ []) (omega arith) (rw e)

-- ---- a card without blanks

-- each subfield has a byte at least, and ends within the card
abbrev pub inside : List Subfield → Bool
inside [] = true
inside (f ∷ fs) = (leb 1 f.width && leb (f.at + f.width) 98) && inside fs

kind-same : (k : Kind) (s : List ℕ) → 0 < length s → blanks_of k s ≡ 0 → right_kind Fill.Blanks k s ≡ right_kind Fill.Zeros k s
kind-same (Kind.Number low high) s h e = none_filled s h e
kind-same (Kind.Angle d limit) s h e = refl
kind-same Kind.Name s h e = refl
kind-same Kind.Flag s h e = refl

kind-none : (k : Kind) (s : List ℕ) → right_kind Fill.Zeros k s ≡ true → blanks_of k s ≡ 0
kind-none (Kind.Number low high) s e = digits-none s e
kind-none (Kind.Angle d limit) s e = refl
kind-none Kind.Name s e = refl
kind-none Kind.Flag s e = refl

module _ (s : List ℕ) where
  long-bytes : length s ≡ 98 → (f : Subfield) → f.at + f.width ≤ 98 → length (bytes_of f s) ≡ f.width
  long-bytes l f h = length_part f.at f.width s (omega arith)

  walk_same : length s ≡ 98 → (fs : List Subfield) → inside fs ≡ true → total_blanks fs s ≡ 0 → walk Fill.Blanks fs s ≡ walk Fill.Zeros fs s
  unfolding judge_field blanks_in
  walk_same l [] i e = refl
  walk_same l (f ∷ fs) i e =
      let p = (and-eq-true_iff (leb 1 f.width && leb (f.at + f.width) 98) (inside fs)).0 i in
      let q = (and-eq-true_iff (leb 1 f.width) (leb (f.at + f.width) 98)).0 p.0 in
      let w = leb-true 1 f.width q.0 in
      let o = long-bytes l f (leb-true (f.at + f.width) 98 q.1) in
      ap₂ or_else (ap (λ (b : Bool). judge b (right_value f.kind (bytes_of f s)) f.at) (kind-same f.kind (bytes_of f s) (omega arith) (omega arith)))
      (walk_same l fs p.1 (omega arith))

  pub walk_none : (fs : List Subfield) → walk Fill.Zeros fs s ≡ Ok tt → total_blanks fs s ≡ 0
  unfolding judge_field blanks_in
  walk_none [] e = refl
  walk_none (f ∷ fs) e =
      let p = or_else-both (judge_field Fill.Zeros f s) (walk Fill.Zeros fs s) e in
      let b = judge-both (right_kind Fill.Zeros f.kind (bytes_of f s)) (right_value f.kind (bytes_of f s)) f.at p.0 in
      omega (arith, kind-none f.kind (bytes_of f s) b.0, walk_none fs p.1)

  layout-same : length s ≡ 98 → total_blanks layout s ≡ 0 → walk Fill.Blanks layout s ≡ walk Fill.Zeros layout s
  unfolding layout
  layout-same l e = walk_same l layout refl e

same-reading : (series : Series) (s : List ℕ) → total_blanks layout s ≡ 0 → read_as Fill.Blanks series s ≡ read_as Fill.Zeros series s
unfolding read_in
same-reading series s e = go (spacing_of series)
  where
    past : (a b : ℕ) (t : Bool) → eqb (length s) 98 ≡ t
        → (if not t then Err Refusal.Length else ◌>>=◌ {B = Reading} (walk Fill.Blanks layout s) (λ _. with_values series a b s))
        ≡ (if not t then Err Refusal.Length else ◌>>=◌ {B = Reading} (walk Fill.Zeros layout s) (λ _. with_values series a b s))
    past a b true t = rw (layout-same s (eqb-true (length s) 98 t) e)
    past a b false t = refl

    go : (x : Result Spacing Refusal) → ◌>>=◌ {B = Reading} x (λ y. read_in Fill.Blanks series y s) ≡ x >>= (λ y. read_in Fill.Zeros series y s)
    go (Ok x) = ap (λ y. if is_polar series.zone then Err Refusal.Polar else y) (past x.a x.b (eqb (length s) 98) refl)
    go (Err r) = refl

-- ---- the total is told where a card is accepted, and only there

data Told (s : List ℕ) : Result Reading Refusal → Type 0 where
  refuses : (r : Refusal) → Told s (Err r)
  accepts : (k : Fields) → Told s (accepted_card k (total_blanks layout s))

module _ {s : List ℕ} {x : Result Reading Refusal} (o : Told s x) (r : Refusal) where
  unless : (t : Bool) → Told s (if t then Err r else x)
  unless true = refuses r
  unless false = o

  where-right : (t : Bool) → Told s (if not t then Err r else x)
  where-right true = o
  where-right false = refuses r

module _ (fill : Fill) (series : Series) (s : List ℕ) where
  told-origin : (a b : ℕ) (n m : Option ℤ) → Told s (with_origin series a b s n m)
  unfolding card_of
  told-origin a b (some n) (some m) = where-right (accepts (card_of series a b n m s)) Refusal.Extent (extents_in a b n s)
  told-origin a b (some n) none = refuses Refusal.Origin
  told-origin a b none m = refuses Refusal.Origin

  told-walk : (a b : ℕ) (v : Judged) → Told s (v >>= (λ _. with_values series a b s))
  unfolding with_values
  told-walk a b (Err r) = refuses r
  told-walk a b (Ok u) =
      where-right (told-origin a b (row_tile b s) (column_tile a s)) Refusal.Spacing (eqb (number_in ARV s) a && eqb (number_in BRV s) b)

  told_in : (x : Result Spacing Refusal) → Told s (x >>= (λ y. read_in fill series y s))
  unfolding read_in
  told_in (Err r) = refuses r
  told_in (Ok x) =
      unless (where-right (told-walk x.a x.b (walk fill layout s)) Refusal.Length (eqb (length s) 98)) Refusal.Polar (is_polar series.zone)

  told : Told s (read_as fill series s)
  told = told_in (spacing_of series)

told_none : {s : List ℕ} {x : Result Reading Refusal} → Told s x → total_blanks layout s ≡ 0 → blanks_told x ≡ 0
told_none (refuses r) e = refl
told_none (accepts k) e = e

refused-told : {s : List ℕ} {x : Result Reading Refusal} → Told s x → (r : Refusal) → x ≡ Err r → blanks_told x ≡ 0
refused-told (refuses r) q e = refl
refused-told (accepts k) q e = let z : ◌≡◌ {A = ℕ} 0 1 = cc in absurd (omega arith)

pub refused_none : RefusedNone
refused_none fill series s r e = refused-told (told fill series s) r e

pub same-without : SameWithout
same-without series s e = (same-reading series s e, told_none (told Fill.Blanks series s) e)

pub strict-accepts : StrictAccepts
strict-accepts series s k n e =
    let r = read-to Fill.Zeros series s k n e in
    let z = walk_none s layout r.judged in
    let y : n ≡ 0 = sym r.counted ∙ z in
    (y, same-reading series s z ∙ e ∙ ap (accepted_card k) y)

pub tolerant-accepts : TolerantAccepts
tolerant-accepts series s k e = sym (same-reading series s (read-to Fill.Blanks series s k 0 e).counted) ∙ e

-- ---- at most 37

module _ (series : Series) (s : List ℕ) (k : Fields) (n : ℕ) (r : ReadTo Fill.Blanks series s k n) where
  right : (i : ℕ) → i < 20 → (right_kind Fill.Blanks (get_or layout i STR).kind (bytes_of (get_or layout i STR) s) ≡ true)
      × (right_value (get_or layout i STR).kind (bytes_of (get_or layout i STR) s) ≡ true)
  right = right-in Fill.Blanks s r.judged

  -- fewer than the width
  spare : (f : Subfield) → f.at + f.width ≤ 98 → filled (bytes_of f s) ≡ true → blanks (bytes_of f s) < f.width
  spare f h e = omega (arith, blanks-below (bytes_of f s) e, long-bytes s r.long f h)

  -- fewer by the digits of the number
  spare-from : (f : Subfield) (j : ℕ) → f.at + f.width ≤ 98 → filled (bytes_of f s) ≡ true → 10 ^ j ≤ number_in f s → blanks (bytes_of f s) + j < f.width
  spare-from f j h e m = blanks-few (bytes_of f s) e f.width j (long-bytes s r.long f h) m

  most : total_blanks layout s ≤ 37
  unfolding layout blanks_in
  most =
      let least = answered-least series r.a r.b r.spacing in
      let arv = spare-from ARV 3 (omega arith) (right 1 (omega arith)).0 (omega (arith, r.arv, least.0)) in
      let brv = spare-from BRV 4 (omega arith) (right 2 (omega arith)).0 (omega (arith, r.brv, least.1)) in
      let pnc = right 11 (omega arith) in
      let pnl = right 12 (omega arith) in
      let of-pnc = spare-from PNC 2 (omega arith) pnc.0 (omega (arith, between 128 (number_in PNC s) 128 pnc.1)) in
      let of-pnl = spare-from PNL 2 (omega arith) pnl.0 (omega (arith, between 128 (number_in PNL s) 128 pnl.1)) in
      omega (
        arith,
        spare (get_or layout 0 STR) (omega arith) (right 0 (omega arith)).0,
        spare (get_or layout 5 STR) (omega arith) (right 5 (omega arith)).0,
        spare (get_or layout 6 STR) (omega arith) (right 6 (omega arith)).0,
        spare (get_or layout 7 STR) (omega arith) (right 7 (omega arith)).0,
        spare (get_or layout 8 STR) (omega arith) (right 8 (omega arith)).0,
        spare (get_or layout 9 STR) (omega arith) (right 9 (omega arith)).0,
        spare (get_or layout 10 STR) (omega arith) (right 10 (omega arith)).0,
        spare (get_or layout 13 STR) (omega arith) (right 13 (omega arith)).0,
        spare (get_or layout 14 STR) (omega arith) (right 14 (omega arith)).0,
        spare (get_or layout 15 STR) (omega arith) (right 15 (omega arith)).0,
        spare (get_or layout 16 STR) (omega arith) (right 16 (omega arith)).0,
        spare (get_or layout 17 STR) (omega arith) (right 17 (omega arith)).0,
      )

pub at-most-37 : AtMost37
at-most-37 series s k n e = let r = read-to Fill.Blanks series s k n e in omega (arith, most series s k n r, r.counted)
