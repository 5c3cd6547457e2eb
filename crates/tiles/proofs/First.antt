-- The first of i, i + 1, .. of which f holds. Assumes nothing.
use mathlib.Core.Path.{◌≡◌, refl, ap, ◌∙◌}
use mathlib.Core.Bool.{Bool, true, false, cond}
use mathlib.Core.Option.{some, none}
use Prim.Native.Nat.{ℕ, zero, suc, ◌+◌, ◌-◌, ◌≤◌, ◌<◌}
use native.Mathlib.Omega.{arith}
use native.Mathlib.Decide.{ℕ_discrete}
use Rattle.whole.specs.Lists.{first_from, one_more}

-- one turn, from i on and up to n
module _ (f : ℕ → Bool) (i n : ℕ) where
  pub first-hit : i < n → f i ≡ true → first_from one_more f i (n - i) ≡ some i
  unfolding first_from
  first-hit h t = let e : n - i ≡ suc (n - (i + 1)) = omega arith in rw (e, t)

  pub first_next : i < n → f i ≡ false → first_from one_more f i (n - i) ≡ first_from one_more f (i + 1) (n - (i + 1))
  unfolding first_from
  first_next h t = let e : n - i ≡ suc (n - (i + 1)) = omega arith in rw (e, t)

  pub first-none : n ≤ i → first_from one_more f i (n - i) ≡ none
  unfolding first_from
  first-none h = let e : n - i ≡ 0 = omega arith in rw e

-- there is none just where f holds of none of the n
pub none_of : (f : ℕ → Bool) (i n : ℕ) → first_from one_more f i n ≡ none → (j : ℕ) → i ≤ j → j < i + n → f j ≡ false
unfolding first_from
none_of f i zero e j p q = absurd (omega arith)
none_of f i (suc n) e j p q = go (f i) refl e (none_of f (i + 1) n) (ℕ_discrete j i)
  where
    go : (b : Bool) → f i ≡ b → cond b (some i) (first_from one_more f (i + 1) n) ≡ none
        → (first_from one_more f (i + 1) n ≡ none → (x : ℕ) → i + 1 ≤ x → x < i + 1 + n → f x ≡ false) → Dec (j ≡ i) → f j ≡ false
    go true o w g d = let z : ◌≡◌ {A = ℕ} 0 1 = cc in absurd (omega arith)
    go false o w g (yes d) = ap f d ∙ o
    go false o w g (no d) = g w j (omega arith) (omega arith)

pub none_from : (f : ℕ → Bool) (i n : ℕ) → ((j : ℕ) → i ≤ j → j < i + n → f j ≡ false) → first_from one_more f i n ≡ none
unfolding first_from
none_from f i zero h = refl
none_from f i (suc n) h =
    rw (h i (omega arith) (omega arith)) (none_from f (i + 1) n (λ j p q. h j (omega arith) (omega arith)))
