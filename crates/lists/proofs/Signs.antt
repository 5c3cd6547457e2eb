-- Signed numbers against the chart's first ones: differences of latitudes and of longitudes. Assumes nothing.
use mathlib.Core.Path.{◌≡◌, refl, sym, ap, ◌∙◌}
use mathlib.Core.Bool.{Bool, true, false, ◌||◌, false≢true}
use Prim.Native.Nat.{ℕ, suc, ◌+◌, ◌-◌, ◌≤◌, ◌<◌}
use native.Mathlib.Omega.{arith}
use borrow.Author.Tests.{ltb-true, ltb-false, le-ltb}
use lib.IntN.{ℤ, pos, negsuc, neg_ℤ, ◌+ℤ◌, ◌-ℤ◌}
use lib.Signed.{lt_z}
use Rattle.whole.specs.Whole.{outside, raise}
use Rattle.whole.proofs.Signed.{Is, is-add, is-minus, is-difference, is-nat, is-lt_z, is-raise, raise-high}
use Rattle.whole.proofs.Machine.{is_pos}
use Rattle.arc.specs.Zones.{half, quarter}

neither : (a b : Bool) → a || b ≡ false → (a ≡ false) × (b ≡ false)
neither true b e = absurd (false≢true (sym e))
neither false b e = (refl, e)

-- ---- a latitude against the chart's first one
module _ (first : ℕ) (h : first ≤ 64800000) where
  -- where they fail, it is a latitude no farther north
  pub south-inside : (lat : ℤ) → lt_z lat (neg_ℤ (pos quarter)) || lt_z (pos first -ℤ pos quarter) lat ≡ false
      → (outside quarter lat ≡ false) × (raise quarter lat ≤ first)
  south-inside (pos m) e =
      let le : m + 32400000 ≤ first + 0 =
      ltb-false (first + 0) (m + 32400000) (sym (is-lt_z (pos first -ℤ pos quarter) (pos m) first quarter m 0 (is-difference first quarter) (is-nat m)) ∙ e) in
      (le-ltb quarter m (omega arith), omega arith)
  south-inside (negsuc m) e =
      let t = neither (lt_z (negsuc m) (neg_ℤ (pos quarter))) (lt_z (pos first -ℤ pos quarter) (negsuc m)) e in
      let low : m ≤ 32399999 = ltb-false 32399999 m t.0 in
      let le : 0 + 32400000 ≤ first + suc m =
      ltb-false (first + suc m) (0 + 32400000)
      (sym (is-lt_z (pos first -ℤ pos quarter) (negsuc m) first quarter 0 (suc m) (is-difference first quarter) (omega arith)) ∙ t.1) in
      (rw t.0 refl, omega arith)

  -- and how far south of the first it is
  pub south-is : (lat : ℤ) → outside quarter lat ≡ false → raise quarter lat ≤ first → pos first -ℤ pos quarter -ℤ lat ≡ pos (first - raise quarter lat)
  south-is lat o le =
      is_pos (pos first -ℤ pos quarter -ℤ lat) (first + quarter) (quarter + raise quarter lat)
      (is-minus (pos first -ℤ pos quarter) lat first quarter (raise quarter lat) quarter (is-difference first quarter) (is-raise quarter lat o)) (omega arith)
      ∙ ap pos (omega arith)

-- ---- a longitude against the chart's first one
module _ (west lon : ℤ) (i : outside half west ≡ false) (j : outside half lon ≡ false) where
  abbrev w : ℕ
  w = raise half west

  abbrev n : ℕ
  n = raise half lon

  apart : Is (lon -ℤ west) (n + half) (half + w)
  apart = is-minus lon west n half w half (is-raise half lon j) (is-raise half west i)

  -- west of it, by a circle more
  pub east-round : lon -ℤ west +ℤ pos 129600000 ≡ pos (n + 129600000 - w)
  east-round =
      is_pos (lon -ℤ west +ℤ pos 129600000) (n + half + 129600000) (half + w + 0)
      (is-add (lon -ℤ west) (pos 129600000) (n + half) (half + w) 129600000 0 apart (is-nat 129600000)) (omega (arith, raise-high half west i))
      ∙ ap pos (omega arith)

  pub east-past : lt_z lon west ≡ false → w ≤ n
  east-past e =
      let le : w + half ≤ n + half = ltb-false (n + half) (w + half) (sym (is-lt_z lon west n half w half (is-raise half lon j) (is-raise half west i)) ∙ e) in
      omega arith

  pub east-west : lt_z lon west ≡ true → n < w
  east-west e =
      let lt : n + half < w + half = ltb-true (n + half) (w + half) (sym (is-lt_z lon west n half w half (is-raise half lon j) (is-raise half west i)) ∙ e) in
      omega arith

  pub east-straight : w ≤ n → lon -ℤ west ≡ pos (n - w)
  east-straight h = is_pos (lon -ℤ west) (n + half) (half + w) apart (omega arith) ∙ ap pos (omega arith)
