-- Blanks before the digits of a number: they count nothing, digits have none before them, and a number of so many digits leaves
-- so much room for them. Assumes nothing.
use Rattle.std.proofs.Common.{◌≡◌, ℕ, zero, suc, ◌+◌, ◌-◌, ◌^◌, ◌<◌, ◌≤◌, Bool, true, false, cond, eqb, ltb, List, [], ◌∷◌, length, drop, refl, arith}
use Rattle.std.proofs.Common.{length-drop, ltb-false, ltb-true, lt-ltb, ne_eqb, eqb-true}
use mathlib.Core.Bool.{and-eq-true_iff}
use native.Mathlib.Nat.{pow-le-pow_right}
use Rattle.text.specs.Text.{all, is_digit, onward, number, blanks, filled}
use Rattle.text.proofs.Numbers.{digit-in, number-below}

onward-after : (s : List ℕ) → onward 0 s ≡ onward 0 (drop (blanks s) s)
onward-after [] = refl
onward-after (b ∷ bs) = go (eqb b 32) refl (onward-after bs)
  where
    go : (e : Bool) → eqb b 32 ≡ e → onward 0 bs ≡ onward 0 (drop (blanks bs) bs)
        → onward 0 (b ∷ bs) ≡ onward 0 (drop (cond e (suc (blanks bs)) zero) (b ∷ bs))
    go true e r = rw (eqb-true b 32 e) r
    go false e r = refl

pub number-after : (s : List ℕ) → number s ≡ number (drop (blanks s) s)
unfolding number
number-after s = onward-after s

pub digits-none : (s : List ℕ) → all is_digit s ≡ true → blanks s ≡ 0
digits-none [] e = refl
digits-none (b ∷ bs) e =
    let d = digit-in b ((and-eq-true_iff (is_digit b) (all is_digit bs)).0 e).0 in
    rw (ne_eqb b 32 (λ x. omega arith))

-- without blanks, digits are all there is
pub none_filled : (s : List ℕ) → 0 < length s → blanks s ≡ 0 → filled s ≡ all is_digit s
none_filled s h e = rw (e, lt-ltb 0 (length s) h)

module _ (s : List ℕ) (e : filled s ≡ true) where
  pub blanks-below : blanks s < length s
  blanks-below = ltb-true (blanks s) (length s) ((and-eq-true_iff (ltb (blanks s) (length s)) (all is_digit (drop (blanks s) s))).0 e).0

  pub rest-digits : all is_digit (drop (blanks s) s) ≡ true
  rest-digits = ((and-eq-true_iff (ltb (blanks s) (length s)) (all is_digit (drop (blanks s) s))).0 e).1

  -- a number from 10 ^ j up has more than j digits
  pub blanks-few : (w j : ℕ) → length s ≡ w → 10 ^ j ≤ number s → blanks s + j < w
  blanks-few w j l h =
      let k : ℕ = w - blanks s in
      let n : number s < 10 ^ k = rw (number-after s) (number-below k (drop (blanks s) s) (omega (arith, length-drop (blanks s) s)) rest-digits) in
      let g = go k n (ltb j k) refl in
      omega arith
    where
      go : (k : ℕ) → number s < 10 ^ k → (t : Bool) → ltb j k ≡ t → j < k
      go k n true t = ltb-true j k t
      go k n false t = let p : 10 ^ k ≤ 10 ^ j = pow-le-pow_right (omega arith) (ltb-false j k t) in absurd (omega arith)
