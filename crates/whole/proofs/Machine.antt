-- Signed numbers as the machine holds them: a local holds bits, and an operation reads them back, `to_z w64 (of_z w64 z)`.
-- Whatever is a difference of naturals below 2 ^ 63 comes back as it was. Assumes nothing.
use mathlib.Core.Path.{◌≡◌, refl, ap, ◌∙◌, subst⁻¹}
use mathlib.Core.Bool.{Bool, true, false}
use Prim.Native.Nat.{ℕ, suc, ◌+◌, ◌-◌, ◌*◌, ◌≤◌, ◌<◌, ◌^◌}
use native.Mathlib.Nat.{mul-le-mul, lt_of_le_of_lt}
use native.Mathlib.Omega.{arith}
use borrow.Author.Tests.{ltb-true}
use lib.Dec.{T, ltb, lit<}
use lib.IntN.{ℤ, pos, negsuc, neg_ℤ, nat_abs, ◌+ℤ◌, ◌-ℤ◌}
use lib.Signed.{mag, lt_z, non_neg}
use mir.Syntax.{w64}
use mir.Val.{SFits, Fits, to_z, of_z}
use mir.ValLaws.{to_z_pos, to_z-of_z}
use Rattle.whole.specs.Whole.{raise, outside}
use Rattle.whole.proofs.Signed.{Is, is-nat, is-neg, is-add, is-minus, is_same, is-unique, is-difference, is-raise, raise-high}

-- a product below 2 ^ 64, from bounds on its factors: `fits-mul 100 200 tt h k`
pub fits-mul : (p q : ℕ) {a b : ℕ} → T (ltb (p * q) (2 ^ 64)) → a ≤ p → b ≤ q → Fits w64 (a * b)
fits-mul p q t h k = record { fits = lt_of_le_of_lt (mul-le-mul h k) (lit< t) }

pub is-fits : (x : ℤ) (a b : ℕ) → Is x a b → a < 2 ^ 63 → b ≤ 2 ^ 63 → SFits w64 x
is-fits (pos n) a b p h k = record { sfits = omega arith }
is-fits (negsuc n) a b p h k = record { sfits = omega arith }

pub held : (x : ℤ) (a b : ℕ) → Is x a b → a < 2 ^ 63 → b ≤ 2 ^ 63 → to_z w64 (of_z w64 x) ≡ x
held x a b p h k = to_z-of_z w64 x (is-fits x a b p h k)

-- a result, as the machine reads it back
pub result-is : {r k : ℤ} → mag r < 2 ^ 63 → r ≡ k → to_z w64 (of_z w64 r) ≡ k
result-is {r} f e = to_z-of_z w64 r (record { sfits = f }) ∙ e

-- a result that is the difference k
pub told : {r k : ℤ} (n t : ℕ) → mag r < 2 ^ 63 → r ≡ pos n -ℤ pos t → Is k n t → to_z w64 (of_z w64 r) ≡ k
told {r} {k} n t f d e = result-is f (d ∙ is-unique (pos n -ℤ pos t) k n t (is-difference n t) e)

-- a difference that is not negative
pub is_pos : (x : ℤ) (a b : ℕ) → Is x a b → b ≤ a → x ≡ pos (a - b)
is_pos x a b p h = is-unique x (pos (a - b)) a b p (omega arith)

-- what a cast to an unsigned type asks of a number that is not negative
pub casts : {y : ℤ} (n : ℕ) → y ≡ pos n → n < 2 ^ 64 → T (non_neg y) × Fits w64 (nat_abs y)
casts n e h = subst⁻¹ (λ (y : ℤ). T (non_neg y) × Fits w64 (nat_abs y)) e (tt, record { fits = h })

-- ---- a − b of naturals
module _ (a b : ℕ) (ha : a < 2 ^ 32) (hb : b < 2 ^ 32) where
  pub minus-plain : to_z w64 a -ℤ to_z w64 b ≡ pos a -ℤ pos b
  minus-plain = rw (to_z_pos w64 a (omega arith), to_z_pos w64 b (omega arith))

  pub minus-fits : SFits w64 (pos a -ℤ pos b)
  minus-fits = is-fits (pos a -ℤ pos b) a b (is-difference a b) (omega arith) (omega arith)

-- ---- z against a limit k
module _ (k : ℕ) (hk : k < 2 ^ 32) where
  pub negated : pos 0 -ℤ to_z w64 k ≡ neg_ℤ (pos k)
  negated =
      rw (to_z_pos w64 k (omega arith))
      (is-unique (pos 0 -ℤ pos k) (neg_ℤ (pos k)) 0 k (is-difference 0 k) (is-neg (pos k) k 0 (is-nat k)))

  pub negated_fits : SFits w64 (neg_ℤ (pos k))
  negated_fits = is-fits (neg_ℤ (pos k)) 0 k (is-neg (pos k) k 0 (is-nat k)) (omega arith) (omega arith)

  module _ (z : ℤ) (fz : SFits w64 z) where
    -- the tests `z < 0 - k` and `k < z`
    pub low-test : {t : Bool} → lt_z (to_z w64 (of_z w64 z)) (to_z w64 (of_z w64 (pos 0 -ℤ to_z w64 k))) ≡ t → lt_z z (neg_ℤ (pos k)) ≡ t
    low-test h = rw (negated, to_z-of_z w64 (neg_ℤ (pos k)) negated_fits, to_z-of_z w64 z fz) at h

    pub high-test : {t : Bool} → lt_z (to_z w64 k) (to_z w64 (of_z w64 z)) ≡ t → lt_z (pos k) z ≡ t
    high-test h = rw (to_z_pos w64 k (omega arith), to_z-of_z w64 z fz) at h

    -- the sum `z + k`, where z is not outside
    module _ (h : outside k z ≡ false) where
      plain : to_z w64 (of_z w64 z) +ℤ to_z w64 k ≡ pos (raise k z)
      plain =
          rw (to_z_pos w64 k (omega arith), to_z-of_z w64 z fz)
          (is-unique (z +ℤ pos k) (pos (raise k z)) (raise k z + k) (k + 0) (is-add z (pos k) (raise k z) k k 0 (is-raise k z h) (is-nat k)) (omega arith))

      pub sum_fits : SFits w64 (to_z w64 (of_z w64 z) +ℤ to_z w64 k)
      sum_fits = rw plain (is-fits (pos (raise k z)) (raise k z) 0 (is-nat (raise k z)) (omega (arith, raise-high k z h)) (omega arith))

      pub sum_is : to_z w64 (of_z w64 (to_z w64 (of_z w64 z) +ℤ to_z w64 k)) ≡ pos (raise k z)
      sum_is = to_z-of_z w64 (to_z w64 (of_z w64 z) +ℤ to_z w64 k) sum_fits ∙ plain

      pub sum-casts : T (non_neg (to_z w64 (of_z w64 (to_z w64 (of_z w64 z) +ℤ to_z w64 k))))
          × Fits w64 (nat_abs (to_z w64 (of_z w64 (to_z w64 (of_z w64 z) +ℤ to_z w64 k))))
      sum-casts = casts (raise k z) sum_is (omega (arith, raise-high k z h))

-- ---- the size of z, as (0 − (z + 1)) + 1 where z is negative
up_is : (z : ℤ) → lt_z z (pos 0) ≡ true → Is (z +ℤ pos 1) 1 (nat_abs z)
up_is (pos n) t = absurd (omega (arith, ltb-true n 0 t))
up_is (negsuc n) t =
    is_same (negsuc n +ℤ pos 1) (0 + 1) (suc n + 0) 1 (suc n)
    (is-add (negsuc n) (pos 1) 0 (suc n) 1 0 (omega arith) (is-nat 1)) (omega arith)

pub size_fits : (z : ℤ) → SFits w64 z → nat_abs z ≤ 2 ^ 63
size_fits (pos n) f = omega (arith, f.sfits)
size_fits (negsuc n) f = omega (arith, f.sfits)

module _ (z : ℤ) (fz : SFits w64 z) where
  module _ (t : lt_z (to_z w64 (of_z w64 z)) (pos 0) ≡ true) where
    negative : lt_z z (pos 0) ≡ true
    negative = rw (to_z-of_z w64 z fz) at t

    some : 1 ≤ nat_abs z
    some = go z negative
      where
        go : (y : ℤ) → lt_z y (pos 0) ≡ true → 1 ≤ nat_abs y
        go (pos n) e = absurd (omega (arith, ltb-true n 0 e))
        go (negsuc n) e = omega arith

    pub up_fits : SFits w64 (to_z w64 (of_z w64 z) +ℤ pos 1)
    up_fits = rw (to_z-of_z w64 z fz) (is-fits (z +ℤ pos 1) 1 (nat_abs z) (up_is z negative) (omega arith) (size_fits z fz))

    down_is : Is (pos 0 -ℤ to_z w64 (of_z w64 (to_z w64 (of_z w64 z) +ℤ pos 1))) (nat_abs z) 1
    down_is =
        rw (to_z-of_z w64 (to_z w64 (of_z w64 z) +ℤ pos 1) up_fits, to_z-of_z w64 z fz)
        (is_same (pos 0 -ℤ (z +ℤ pos 1)) (0 + nat_abs z) (0 + 1) (nat_abs z) 1
        (is-minus (pos 0) (z +ℤ pos 1) 0 0 1 (nat_abs z) (is-nat 0) (up_is z negative)) (omega arith))

    plain_down : pos 0 -ℤ to_z w64 (of_z w64 (to_z w64 (of_z w64 z) +ℤ pos 1)) ≡ pos (nat_abs z - 1)
    plain_down = is_pos (pos 0 -ℤ to_z w64 (of_z w64 (to_z w64 (of_z w64 z) +ℤ pos 1))) (nat_abs z) 1 down_is some

    pub down_fits : SFits w64 (pos 0 -ℤ to_z w64 (of_z w64 (to_z w64 (of_z w64 z) +ℤ pos 1)))
    down_fits = rw plain_down (is-fits (pos (nat_abs z - 1)) (nat_abs z - 1) 0 (is-nat (nat_abs z - 1)) (omega (arith, size_fits z fz, some)) (omega arith))

    pub down-held : to_z w64 (of_z w64 (pos 0 -ℤ to_z w64 (of_z w64 (to_z w64 (of_z w64 z) +ℤ pos 1)))) ≡ pos (nat_abs z - 1)
    down-held = to_z-of_z w64 (pos 0 -ℤ to_z w64 (of_z w64 (to_z w64 (of_z w64 z) +ℤ pos 1))) down_fits ∙ plain_down

    pub size-sum : nat_abs (to_z w64 (of_z w64 (pos 0 -ℤ to_z w64 (of_z w64 (to_z w64 (of_z w64 z) +ℤ pos 1))))) + 1 ≡ nat_abs z
    size-sum =
        let e : nat_abs (to_z w64 (of_z w64 (pos 0 -ℤ to_z w64 (of_z w64 (to_z w64 (of_z w64 z) +ℤ pos 1))))) ≡ nat_abs z - 1 =
        ap nat_abs down-held in
        omega (arith, some)

  pub whole-held : lt_z (to_z w64 (of_z w64 z)) (pos 0) ≡ false → to_z w64 (of_z w64 z) ≡ pos (nat_abs z)
  whole-held t = to_z-of_z w64 z fz ∙ go z (rw (to_z-of_z w64 z fz) at t)
    where
      go : (y : ℤ) → lt_z y (pos 0) ≡ false → y ≡ pos (nat_abs y)
      go (pos n) e = refl
      go (negsuc n) e = let b : ◌≡◌ {A = ℕ} 0 1 = cc in absurd (omega arith)
