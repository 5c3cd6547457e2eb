-- A quotient (R + p c) / d by multiplication: with the rate p / d and the start R / d in parts of one, rounded up, the error over c steps
-- stays below one dth, so the floor is the same. Assumes nothing.
use mathlib.Core.Path.{◌≡◌, sym, ap, ◌∙◌}
use Prim.Native.Nat.{ℕ, ◌+◌, ◌-◌, ◌*◌, ◌/◌, ◌≤◌, ◌<◌}
use native.Mathlib.Nat.{mul-le-mul_left, mul-le-mul_right, mul_comm, mul_assoc, mul-add, add-mul, mul-one, mul_right_comm, div-eq_of_lt-le, div-mul-le_self}
use native.Mathlib.Nat.{lt-div-mul-add, le_of_mul-le-mul_right, lt_of_mul-lt-mul_right}
use native.Mathlib.Omega.{arith}
use Rattle.lists.specs.Axes.{scale_up}

module _ (one d : ℕ) (hd : 0 < d) where
  pub scale-low : (x : ℕ) → x * one ≤ scale_up one x d * d
  scale-low x =
      let h : x * one + (d - 1) < scale_up one x d * d + d = lt-div-mul-add hd in omega arith

  pub scale-high : (x : ℕ) → scale_up one x d * d < x * one + d
  scale-high x = omega (arith, div-mul-le_self (x * one + (d - 1)) d)

  less_one : (c : ℕ) → c * (d - 1) + c ≡ c * d
  less_one c = sym (mul-add c (d - 1) 1 ∙ ap (λ (n : ℕ). c * (d - 1) + n) (mul-one c)) ∙ ap (λ (n : ℕ). c * n) (omega arith)

  -- c steps of p from R
  pub fixed : (p R c : ℕ) → (c + 1) * d ≤ one → (c * scale_up one p d + scale_up one R d) / one ≡ (R + p * c) / d
  fixed p R c most =
      let q : ℕ = (R + p * c) / d in
      let rate : ℕ = scale_up one p d in
      let start : ℕ = scale_up one R d in
      let ql : q * d ≤ R + p * c = div-mul-le_self (R + p * c) d in
      let qh : R + p * c < q * d + d = lt-div-mul-add hd in
      let all : (c * rate + start) * d ≡ c * (rate * d) + start * d = add-mul (c * rate) start d ∙ ap (λ (n : ℕ). n + start * d) (mul_assoc c rate d) in
      let low : c * (p * one) ≤ c * (rate * d) = mul-le-mul_left c (scale-low p) in
      let high : c * (rate * d) ≤ c * (p * one + (d - 1)) = mul-le-mul_left c (omega (arith, scale-high p)) in
      let whole : (R + p * c) * one ≡ R * one + c * (p * one) =
      add-mul R (p * c) one ∙ ap (λ (n : ℕ). R * one + n) (ap (λ (n : ℕ). n * one) (mul_comm p c) ∙ mul_assoc c p one) in
      div-eq_of_lt-le one
      (le_of_mul-le-mul_right {m = q * one} {n = c * rate + start} {k = d}
      (omega (arith, scale-low R, mul_right_comm q one d, mul-le-mul_right one ql)) hd)
      (lt_of_mul-lt-mul_right d {m = c * rate + start} {n = (q + 1) * one}
      (omega (
        arith,
        scale-high R,
        mul-add c (p * one) (d - 1),
        mul_right_comm (q + 1) one d,
        add-mul q 1 d,
        add-mul (R + p * c) 1 one,
        mul-le-mul_right {m = R + p * c + 1} {n = (q + 1) * d} one (omega (arith, add-mul q 1 d)),
        add-mul c 1 d,
        less_one c,
      )))
