-- The two pairs as one number, nothing or half a pixel: the exact places, and the nearest and the floor over H as one floor. Assumes nothing.
use mathlib.Core.Path.{subst}
use Prim.Native.Nat.{ℕ, ◌+◌, ◌-◌, ◌*◌, ◌/◌, ◌≤◌, ◌<◌}
use native.Mathlib.Omega.{arith}
use lib.IntN.{ℤ, pos, ◌-ℤ◌, ◌+ℤ◌, ◌*ℤ◌}
use Rattle.whole.specs.Whole.{floor_div, nearest}
use Rattle.whole.proofs.Signed.{Is, is-nat, is_same, is-add, is-minus, is_mul, is-floor}
use Rattle.whole.proofs.Near.{is-nearest}
use Rattle.arc.specs.Zones.{circle, half}
use Rattle.origin.proofs.Line.{near-circle}
use Rattle.card.specs.declared.Pair.{Pair}
use Rattle.card.specs.Grid.{exact_row, exact_column}
use Rattle.card.specs.Steps.{inward}

pub inward-high : (p : Pair) → inward p ≤ half
inward-high Pair.Corner = omega arith
inward-high Pair.Centre = omega arith

-- the exact places of a row and a column, counted from s pixels below
pub exact-row : (p : Pair) (u : ℤ) (y s : ℕ) → 0 < y → Is u y s → Is (exact_row p u) (y * circle - inward p) (s * circle)
exact-row Pair.Corner u y s h e =
    is_same (u *ℤ pos circle) (y * circle) (s * circle) (y * circle - 0) (s * circle) (is_mul u circle y s e) (omega arith)
exact-row Pair.Centre u y s h e =
    is_same (u *ℤ pos circle -ℤ pos half) (y * circle + 0) (s * circle + half) (y * circle - half) (s * circle)
    (is-minus (u *ℤ pos circle) (pos half) (y * circle) (s * circle) half 0 (is_mul u circle y s e) (is-nat half)) (omega arith)

pub exact-column : (p : Pair) (w : ℤ) (v s : ℕ) → Is w v s → Is (exact_column p w) (v * circle + inward p) (s * circle)
exact-column Pair.Corner w v s e =
    is_same (w *ℤ pos circle) (v * circle) (s * circle) (v * circle + 0) (s * circle) (is_mul w circle v s e) (omega arith)
exact-column Pair.Centre w v s e =
    is_same (w *ℤ pos circle +ℤ pos half) (v * circle + half) (s * circle + 0) (v * circle + half) (s * circle)
    (is-add (w *ℤ pos circle) (pos half) (v * circle) (s * circle) half 0 (is_mul w circle v s e) (is-nat half)) (omega arith)

-- a value over H made whole, k being added before and taken off after
pub nearest-circle : (z : ℤ) (a k : ℕ) → Is z a (k * circle) → Is (nearest z circle) ((a + half) / circle) k
nearest-circle z a k e = subst (λ (n : ℕ). Is (nearest z circle) n k) (near-circle a) (is-nearest circle (omega arith) z a k e)

pub floor-circle : (z : ℤ) (a k : ℕ) → Is z a (k * circle) → Is (floor_div z circle) ((a + 0) / circle) k
floor-circle z a k e =
    is-floor z circle (a + 0) k (omega arith) (is_same z a (k * circle) (a + 0) (k * circle) e (omega arith))
