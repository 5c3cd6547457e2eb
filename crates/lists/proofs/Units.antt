-- The nearest hundredth over a spacing of 512 u: the 512 cancels, since H is 256 times 506,250. Assumes nothing.
use mathlib.Core.Path.{◌≡◌, sym, ap, ap₂, ◌∙◌}
use Prim.Native.Nat.{ℕ, ◌+◌, ◌-◌, ◌*◌, ◌/◌, ◌%◌, ◌≤◌, ◌<◌}
use native.Mathlib.Nat.{mul-div-mul_left, div-eq_of_lt-le, div-mul-le_self, lt-div-mul-add, add-mul, lt_of_mul-lt-mul_right, mod-lt, div-add-mod'}
use native.Mathlib.Omega.{arith}
use Rattle.whole.specs.Whole.{near}

pub angle-unit : (u x : ℕ) → near (256 * x) (512 * u) ≡ (x + u) / (2 * u)
unfolding near
angle-unit u x = ap₂ ◌/◌ (omega arith) (omega arith) ∙ mul-div-mul_left {m = 512} (x + u) (2 * u) (omega arith)

-- y taken off a number, by what is taken off its quotient
module _ (d : ℕ) (hd : 0 < d) (x y : ℕ) (h : y ≤ x) where
  abbrev t : ℕ
  t = (d - 1 - x % d + y) / d

  low : t * d ≤ d - 1 - x % d + y
  low = div-mul-le_self (d - 1 - x % d + y) d

  pub quotient-under : (d - 1 - x % d + y) / d ≤ x / d
  quotient-under =
      let le : t < x / d + 1 = lt_of_mul-lt-mul_right d (omega (arith, low, mod-lt x hd, div-add-mod' x d, add-mul (x / d) 1 d)) in omega arith

  pub quotient-down : x / d - (d - 1 - x % d + y) / d ≡ (x - y) / d
  quotient-down =
      let q : ℕ = x / d in
      let high : d - 1 - x % d + y < t * d + d = lt-div-mul-add hd in
      let split : q * d ≡ (q - t) * d + t * d = ap (λ (n : ℕ). n * d) (omega (arith, quotient-under)) ∙ add-mul (q - t) t d in
      sym (div-eq_of_lt-le d (omega (arith, low, mod-lt x hd, div-add-mod' x d)) (omega (arith, low, mod-lt x hd, div-add-mod' x d, add-mul (q - t) 1 d)))
