-- The scale that a spacing is read from: what is answered, and the factor 1. Assumes nothing.
use mathlib.Core.Path.{◌≡◌, refl}
use mathlib.Core.Bool.{Bool, true, false, cond, not, and-eq-true_iff}
use mathlib.Core.Logic.{◌⊎◌, inl, inr}
use Prim.Native.Nat.{ℕ, ◌*◌, ◌≤◌, ◌<◌}
use native.Mathlib.Nat.{mul-le-mul_left, mul-one}
use native.Mathlib.Omega.{arith}
use borrow.Author.Tests.{leb-true, ltb-false, le-leb, lt-leb, le-ltb, lt-ltb}
use lib.Dec.{leb, ltb}
use Rattle.std.specs.Prelude.{Ok, Err}
use Rattle.arc.specs.declared.refusal.Refusal.{Refusal}
use Rattle.arc.specs.Scales.{is_scale, is_factor, Served, overview_scale, chart_scale, ScaleRefused, FactorRefused, ProductRefused, ProductServed}
use Rattle.arc.specs.Scales.{OverviewOf, ScaleIs, ScaleAtOne}

-- the tests' ends
pub scale-least : (s : ℕ) → is_scale s ≡ true → 5000 ≤ s
scale-least s g = leb-true 5000 s ((and-eq-true_iff (leb 5000 s) (leb s 20000000)).0 g).0

pub scale-most : (s : ℕ) → is_scale s ≡ true → s ≤ 20000000
scale-most s g = leb-true s 20000000 ((and-eq-true_iff (leb 5000 s) (leb s 20000000)).0 g).1

factor-least : (factor : ℕ) → is_factor factor ≡ true → 1 ≤ factor
factor-least factor g = leb-true 1 factor ((and-eq-true_iff (leb 1 factor) (leb factor 64)).0 g).0

factor-most : (factor : ℕ) → is_factor factor ≡ true → factor ≤ 64
factor-most factor g = leb-true factor 64 ((and-eq-true_iff (leb 1 factor) (leb factor 64)).0 g).1

-- the product stays small, and is no smaller than the scale
module _ (s factor : ℕ) (g : is_scale s ≡ true) (h : is_factor factor ≡ true) where
  pub product-most : s * factor ≤ 1280000000
  product-most = omega (arith, mul-le-mul_left s (factor-most factor h), scale-most s g)

  product-least : 5000 ≤ s * factor
  product-least = omega (arith, mul-le-mul_left s (factor-least factor h), scale-least s g)

-- the tests' answers
scale-outside : (s : ℕ) → (s < 5000) ⊎ (20000000 < s) → is_scale s ≡ false
scale-outside s (inl h) = rw (lt-leb 5000 s h)
scale-outside s (inr h) = rw (le-leb 5000 s (omega arith), lt-leb s 20000000 h)

scale-inside : (s : ℕ) → 5000 ≤ s → s ≤ 20000000 → is_scale s ≡ true
scale-inside s p q = rw (le-leb 5000 s p, le-leb s 20000000 q)

factor-outside : (factor : ℕ) → (factor < 1) ⊎ (64 < factor) → is_factor factor ≡ false
factor-outside factor (inl h) = rw (lt-leb 1 factor h)
factor-outside factor (inr h) = rw (le-leb 1 factor (omega arith), lt-leb factor 64 h)

factor-inside : (factor : ℕ) → 1 ≤ factor → factor ≤ 64 → is_factor factor ≡ true
factor-inside factor p q = rw (le-leb 1 factor p, le-leb factor 64 q)

pub scale-refused : ScaleRefused
scale-refused s factor h = rw (scale-outside s h)

pub factor-refused : FactorRefused
factor-refused s factor p q h = rw (scale-inside s p q, factor-outside factor h)

pub product-refused : ProductRefused
product-refused s factor p q m n h = rw (scale-inside s p q, factor-inside factor m n, lt-ltb 20000000 (s * factor) h)

pub product-served : ProductServed
product-served s factor p m n h =
    let q : s ≤ 20000000 = omega (arith, mul-le-mul_left s m) in
    rw (scale-inside s p q, factor-inside factor m n, le-ltb 20000000 (s * factor) h)

pub scale-is : ScaleIs
scale-is s factor t e = go (is_scale s) (is_factor factor) (ltb 20000000 (s * factor)) refl refl refl e
  where
    go : (x y z : Bool) → is_scale s ≡ x → is_factor factor ≡ y → ltb 20000000 (s * factor) ≡ z
        → cond (not x) (Err Refusal.Scale) (cond (not y) (Err Refusal.Factor)
        (cond z (Err Refusal.Scale) (Ok (s * factor)))) ≡ Ok t
        → OverviewOf s factor t
    go true true false p q r f =
        let g : t ≡ s * factor = cc in
        let served : is_scale (s * factor) ≡ true =
        rw (le-leb 5000 (s * factor) (product-least s factor p q), le-leb (s * factor) 20000000 (ltb-false 20000000 (s * factor) r)) refl in
        record { good_scale = p; good_factor = q; product = g; served = rw g served }
    go true true true p q r f = let z : ◌≡◌ {A = ℕ} 0 1 = cc in absurd (omega arith)
    go true false z p q r f = let z : ◌≡◌ {A = ℕ} 0 1 = cc in absurd (omega arith)
    go false y z p q r f = let z : ◌≡◌ {A = ℕ} 0 1 = cc in absurd (omega arith)

pub scale-at-one : ScaleAtOne
scale-at-one s = go (is_scale s) refl
  where
    go : (x : Bool) → is_scale s ≡ x → overview_scale s 1 ≡ chart_scale s
    go true p = rw (p, mul-one s, le-ltb 20000000 s (scale-most s p)) refl
    go false p = rw p refl

-- ---- what `Scale::of_overview` makes
pub served-is : (s : ℕ) → Served s → is_scale s ≡ true
served-is s h = scale-inside s h.least h.most

pub served-product : (s factor : ℕ) → is_scale s ≡ true → is_factor factor ≡ true → s * factor ≤ 20000000 → Served (s * factor)
served-product s factor g h m = record { least = product-least s factor g h; most = m }

pub ruleset products = (product-most, served-product)

pub ruleset claims = (scale-refused, factor-refused, product-refused, product-served, scale-is, scale-at-one)
