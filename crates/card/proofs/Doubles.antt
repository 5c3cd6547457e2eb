-- A whole number of at most 2 ^ 53 is a double, and comes back; both differences are below that. Assumes nothing.
use Rattle.std.specs.Prelude.{if◌then◌else◌, Ok, Err}
use Rattle.arc.specs.declared.refusal.Refusal.{Refusal}
use mathlib.Core.Path.{◌≡◌, refl, subst}
use mathlib.Core.Bool.{Bool, true, false}
use Prim.Native.Nat.{ℕ, ◌+◌, ◌-◌, ◌*◌, ◌%◌, ◌≤◌, ◌^◌}
use native.Mathlib.Omega.{arith}
use lib.Dec.{T, le→leb, lt→ltb}
use lib.IntN.{ℤ, pos, negsuc, nat_abs, ◌-ℤ◌}
use lib.Ieee.{of_int, in_float, binary64}
use lib.Ieee.Back.{positive_back, negative_back}
use Rattle.whole.specs.Whole.{outside, raise}
use Rattle.whole.proofs.Signed.{Is, is_same, is-minus, is-size, is-raise, raise-high}
use Rattle.arc.specs.Zones.{circle, half, quarter}
use Rattle.card.proofs.Same.{same-offset}
use Rattle.card.specs.Grid.{into_range}
use Rattle.card.specs.Offset.{Exactly, difference, offset_of, ExactOffset, Exact}
use Rattle.card.proofs.Line.{range-is}

pub in-float : (z : ℤ) → nat_abs z ≤ 129600000 → T (in_float binary64 z)
unfolding in_float
in-float (pos n) h = le→leb n (2 ^ 53) (omega arith)
in-float (negsuc n) h = lt→ltb n (2 ^ 53) (omega arith)

exactly : (z : ℤ) → nat_abs z ≤ 129600000 → Exactly (of_int binary64 z) z
exactly (pos n) h = record { rounded = refl; back = (positive_back binary64 63 n (in-float (pos n) h) (omega arith)).1 }
exactly (negsuc n) h = record { rounded = refl; back = (negative_back binary64 63 n (in-float (negsuc n) h) (omega arith)).1 }

-- the short way between two longitudes counted from one place
pub short-is : (z : ℤ) (e c : ℕ) → c ≤ circle → Is z e c → Is (into_range z) ((e + 194400000 - c) % circle) half
short-is z e c h i = range-is z (e + 194400000 - c) 1 (is_same z e c (e + 194400000 - c) (half + 1 * circle) i (omega arith))

pub short-size : (z : ℤ) (e c : ℕ) → c ≤ circle → Is z e c → nat_abs (into_range z) ≤ 129600000
short-size z e c h i = omega (arith, is-size (into_range z) ((e + 194400000 - c) % circle) half (short-is z e c h i))

-- two numbers within k of 0, as a difference
module _ (k : ℕ) (x y : ℤ) (p : outside k x ≡ false) (q : outside k y ≡ false) where
  apart : Is (x -ℤ y) (raise k x) (raise k y)
  apart =
      is_same (x -ℤ y) (raise k x + k) (k + raise k y) (raise k x) (raise k y)
      (is-minus x y (raise k x) k (raise k y) k (is-raise k x p) (is-raise k y q)) (omega arith)

pub exact : Exact
unfolding offset_of
exact lat lon clat clon o e = go (outside quarter lat) (outside half lon) (outside quarter clat) (outside half clon) refl refl refl refl e
  where
    go : (s t u v : Bool) → outside quarter lat ≡ s → outside half lon ≡ t → outside quarter clat ≡ u → outside half clon ≡ v
        → (if s then Err Refusal.Latitude else (if t then Err Refusal.Longitude else (if u then Err Refusal.Latitude
        else (if v then Err Refusal.Longitude else Ok (difference lat lon clat clon))))) ≡ Ok o
        → ExactOffset lat lon clat clon o
    go true t u v es et eu ev k = let x : ◌≡◌ {A = ℕ} 0 1 = cc in absurd (omega arith)
    go false true u v es et eu ev k = let x : ◌≡◌ {A = ℕ} 0 1 = cc in absurd (omega arith)
    go false false true v es et eu ev k = let x : ◌≡◌ {A = ℕ} 0 1 = cc in absurd (omega arith)
    go false false false true es et eu ev k = let x : ◌≡◌ {A = ℕ} 0 1 = cc in absurd (omega arith)
    go false false false false es et eu ev k =
        let same = same-offset (difference lat lon clat clon) o k in
        let high = raise-high quarter lat es in
        let high' = raise-high quarter clat eu in
        subst (ExactOffset lat lon clat clon) same
        (record {
          lat_exact =
              exactly (lat -ℤ clat) (omega (arith, is-size (lat -ℤ clat) (raise quarter lat) (raise quarter clat) (apart quarter lat clat es eu)));
          lon_exact =
              exactly (into_range (lon -ℤ clon))
              (short-size (lon -ℤ clon) (raise half lon) (raise half clon) (raise-high half clon ev) (apart half lon clon et ev));
        })
