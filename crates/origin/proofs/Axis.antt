-- Laws of one axis of the tile grid, latitude or longitude: a line whose unit is a tile. Assumes nothing.
use mathlib.Core.Path.{◌≡◌, ◌∙◌}
use mathlib.Core.Bool.{false}
use Prim.Native.Nat.{ℕ, ◌+◌, ◌*◌, ◌/◌, ◌%◌, ◌≤◌, ◌<◌, min}
use native.Mathlib.Nat.{mul_assoc, mul-le-mul_right}
use native.Mathlib.Omega.{arith}
use borrow.Author.Tests.{le-ltb, lt-ltb}
use lib.IntN.{ℤ, pos, nat_abs, ◌*ℤ◌}
use Rattle.whole.specs.Whole.{near, outside, raise}
use Rattle.whole.proofs.Signed.{Is, is_same, is_mul, is-lmul, is-size, is-floor, is-ceil, is-raise, raise-high}
use Rattle.whole.proofs.Near.{near_le}
use Rattle.arc.specs.Zones.{circle, half, quarter, tile}
use Rattle.arc.specs.Pixels.{Grid}
use Rattle.origin.specs.declared.Origin.{Origin}
use Rattle.origin.specs.Origin.{row_tiles, column_tiles, stored_angle}
use Rattle.origin.specs.Steps.{stored_from}
use Rattle.origin.proofs.Line.{Line, angle-is, scaled-is}

-- 128 × H
abbrev pub tile_angle : ℕ
tile_angle = 16588800000

-- l hundredths are t tiles, where x pixels are the circle
abbrev pub Axis : ℕ → ℕ → ℕ → Type 0
Axis x t l = Line tile_angle x t l

-- the two axes
pub latitudes : (b : ℕ) → Grid b → Axis b (b / 512) quarter
latitudes b g = record { some = omega (arith, g.some); exact = omega (arith, g.whole) }

pub longitudes : (a : ℕ) → Grid a → Axis a (a / 256) half
longitudes a g = record { some = omega (arith, g.some); exact = omega (arith, g.whole) }

-- an angle that `stored_at` answers
pub from-near : (x n : ℕ) {v : ℕ} → v ≡ stored_from x n → n ≤ circle → v ≡ near (n * tile_angle) x
unfolding stored_from
from-near x n e h = e ∙ rw (le-ltb circle n h)

-- 128 × k × H
pub is-tiles : (k : ℤ) (n t : ℕ) → Is k n t → Is (pos tile *ℤ k *ℤ pos circle) (n * tile_angle) (t * tile_angle)
is-tiles k n t e =
    is_same (pos tile *ℤ k *ℤ pos circle) (tile * n * circle) (tile * t * circle) (n * tile_angle) (t * tile_angle)
    (is_mul (pos tile *ℤ k) circle (tile * n) (tile * t) (is-lmul k tile n t e)) (omega arith)

module _ {x t l : ℕ} (axis : Axis x t l) where
  -- the code's quotients
  pub row_is : (z : ℤ) (p : ℕ) → Is z p l → Is (row_tiles x z) ((p * x + 16588799999) / tile_angle) t
  row_is z p e = is-ceil (z *ℤ pos x) tile_angle (p * x) t (omega arith) (scaled-is axis z p e)

  pub column-is : (z : ℤ) (p : ℕ) → Is z p l → Is (column_tiles x z) (p * x / tile_angle) t
  column-is z p e = is-floor (z *ℤ pos x) tile_angle (p * x) t (omega arith) (scaled-is axis z p e)

  pub stored_is : (k : ℤ) (n : ℕ) → Is k n t → Is (stored_angle x k) (near (n * tile_angle) x) l
  unfolding stored_angle
  stored_is k n e = angle-is axis (pos tile *ℤ k *ℤ pos circle) (n * tile_angle) (is-tiles k n t e)

  -- none passes the far end
  pub spanned : (p : ℕ) → p ≤ 2 * l → p * x ≤ 2 * t * tile_angle
  spanned p h = omega (arith, mul-le-mul_right x h, mul_assoc 2 l x, axis.exact)

  pub row-high : (p : ℕ) → p ≤ 2 * l → (p * x + 16588799999) / tile_angle ≤ 2 * t
  row-high p h = omega (arith, spanned p h)

  pub column-high : (p : ℕ) → p ≤ 2 * l → p * x / tile_angle ≤ 2 * t
  column-high p h = omega (arith, spanned p h)

  pub stored-high : (n : ℕ) → n ≤ 2 * t → near (n * tile_angle) x ≤ 2 * l
  stored-high n h = near_le x axis.some (n * tile_angle) (2 * l) (omega (arith, mul_assoc 2 l x, axis.some, axis.exact))

  pub stored-within : (k : ℤ) → outside t k ≡ false → nat_abs (stored_angle x k) ≤ l
  stored-within k h =
      let n : ℕ = raise t k in
      omega (
        arith,
        is-size (stored_angle x k) (near (n * tile_angle) x) l (stored_is k n (is-raise t k h)),
        stored-high n (omega (arith, raise-high t k h)),
      )

-- ---- what `stored_at` does
pub stored_far : (x n : ℕ) → circle < n → 0 ≡ stored_from x n
unfolding stored_from
stored_far x n h = rw (lt-ltb circle n h)

pub stored_near : (x n : ℕ) → n ≤ circle → near (n * tile_angle) x ≡ stored_from x n
unfolding stored_from
stored_near x n h = rw (le-ltb circle n h)

pub ruleset stored = (stored_far, stored_near)

-- the code's ceiling
pub as_ceiling : (n : ℕ) → n / tile_angle + min 1 (n % tile_angle) ≡ (n + 16588799999) / tile_angle
as_ceiling n = omega arith

-- fewer tiles than the circle has hundredths
pub few : {x n : ℕ} → Grid x → n ≤ 2 * (x / 256) → n ≤ circle
few g h = omega (arith, g.most)

pub same : {n n' m m' p p' l l' : ℤ} → n ≡ n' → m ≡ m' → p ≡ p' → l ≡ l'
    → ◌≡◌ {A = Origin} (record { n = n; m = m; pso = p; lso = l }) (record { n = n'; m = m'; pso = p'; lso = l' })
same e f g h = cc
