-- The first place of a byte parts a text in what stands before it and what stands after it. Assumes nothing.
use Rattle.std.proofs.Common.{◌≡◌, ℕ, suc, ◌+◌, ◌≤◌, ◌<◌, Bool, true, false, cond, List, [], ◌∷◌, length, take, drop, refl, ap, sym, ◌∙◌}
use Rattle.std.proofs.Common.{add-one, arith, take_all, length-drop, drop_of_length-le, ltb-false, ltb-true, Option, Some, None, MatchOption, ◌==◌, nat_lt}
use Rattle.std.proofs.lemmas.List.Recursion.{is_position_or_len}
use Rattle.std.specs.List.{position, position_or_len}
use lib.Seq.{drop-nil}
use Rattle.printing.specs.Lines.{up_to, after}
use Rattle.printing.specs.Steps.{IsUncut}

-- what stands before it is a part from the front
pub up_to-take : (e : ℕ) (s : List ℕ) → take (length (up_to e s)) s ≡ up_to e s
up_to-take e [] = refl
up_to-take e (b ∷ bs) = split (b == e) (up_to-take e bs)
  where
    split : (t : Bool) → take (length (up_to e bs)) bs ≡ up_to e bs → take (length (cond t [] (b ∷ up_to e bs))) (b ∷ bs) ≡ cond t [] (b ∷ up_to e bs)
    split true m = refl
    split false m = ap (λ (t : List ℕ). b ∷ t) m

up_to-short : (e : ℕ) (s : List ℕ) → length (up_to e s) ≤ length s
up_to-short e [] = omega arith
up_to-short e (b ∷ bs) = split (b == e) (up_to-short e bs)
  where
    split : (t : Bool) → length (up_to e bs) ≤ length bs → length (cond t [] (b ∷ up_to e bs)) ≤ suc (length bs)
    split true m = omega arith
    split false m = omega arith

-- from an offset on, it ends within the whole
pub up_to-within : (e : ℕ) (s : List ℕ) (at : ℕ) → at ≤ length s → at + length (up_to e (drop at s)) ≤ length s
up_to-within e s at h = omega (arith, up_to-short e (drop at s), length-drop at s)

-- what stands after it
after-drop : (e : ℕ) (s : List ℕ) → drop (length (up_to e s) + 1) s ≡ after e s
after-drop e [] = drop-nil (0 + 1)
after-drop e (b ∷ bs) = rw add-one (split (b == e) (rw add-one at (after-drop e bs)))
  where
    split : (t : Bool) → drop (suc (length (up_to e bs))) bs ≡ after e bs
        → drop (length (cond t [] (b ∷ up_to e bs))) bs ≡ cond t bs (after e bs)
    split true m = refl
    split false m = m

-- its place
first-is : (e : ℕ) (s : List ℕ) → length (up_to e s) ≡ position_or_len (λ b. b == e) s
first-is e s = is_position_or_len (λ t. length (up_to e t)) (λ b. b == e) refl (λ b bs. step (b == e) b bs) s
  where
    step : (t : Bool) (b : ℕ) (bs : List ℕ) → length (cond t [] (b ∷ up_to e bs)) ≡ cond t 0 (1 + length (up_to e bs))
    step true b bs = refl
    step false b bs = omega arith

pub cut-is : (e : ℕ) (s : List ℕ) {r : Option ℕ} → r ≡ position (λ b. b == e) s
    → MatchOption r (IsUncut e s) (λ i. (i < length s) × (take i s ≡ up_to e s) × (drop (i + 1) s ≡ after e s))
cut-is e s {r} q = rw (q, ← first-is e s) (go (nat_lt (length (up_to e s)) (length s)) refl)
  where
    n : ℕ
    n = length (up_to e s)

    go : (t : Bool) → nat_lt n (length s) ≡ t
        → MatchOption (cond t (Some n) None) (IsUncut e s) (λ i. (i < length s) × (take i s ≡ up_to e s) × (drop (i + 1) s ≡ after e s))
    go true h = (ltb-true n (length s) h, up_to-take e s, after-drop e s)
    go false h =
        let m = ltb-false n (length s) h in
        record {
          whole = sym (up_to-take e s) ∙ take_all n s m;
          ended = sym (after-drop e s) ∙ drop_of_length-le s {i = n + 1} (omega arith);
        }
