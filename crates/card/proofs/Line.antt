-- The two lines of the zone grid counted in pixels, and longitudes brought into range. Assumes nothing.
use mathlib.Core.Path.{subst⁻¹}
use Prim.Native.Nat.{ℕ, ◌+◌, ◌*◌, ◌/◌, ◌%◌}
use native.Mathlib.Omega.{arith}
use lib.IntN.{ℤ, pos, ◌+ℤ◌, ◌-ℤ◌}
use Rattle.whole.proofs.Signed.{Is, is-nat, is_same, is-add, is-modulo, is-difference}
use Rattle.arc.specs.Zones.{circle, half, quarter}
use Rattle.arc.specs.Pixels.{Grid}
use Rattle.origin.proofs.Line.{Line}
use Rattle.card.specs.Grid.{into_range}

pub rows-line : (b : ℕ) → Grid b → Line circle b (128 * (b / 512)) quarter
rows-line b g = record { some = omega (arith, g.some); exact = omega (arith, g.whole) }

pub columns-line : (a : ℕ) → Grid a → Line circle a (128 * (a / 256)) half
columns-line a g = record { some = omega (arith, g.some); exact = omega (arith, g.whole) }

-- whole circles away
pub range-is : (z : ℤ) (p j : ℕ) → Is z p (half + j * circle) → Is (into_range z) (p % circle) half
range-is z p j e =
    subst⁻¹ (λ (y : ℤ). Is (y -ℤ pos half) (p % circle) half)
    (is-modulo (z +ℤ pos half) circle p j (omega arith)
    (is_same (z +ℤ pos half) (p + half) (half + j * circle + 0) p (j * circle)
    (is-add z (pos half) p (half + j * circle) half 0 e (is-nat half)) (omega arith)))
    (is-difference (p % circle) half)
