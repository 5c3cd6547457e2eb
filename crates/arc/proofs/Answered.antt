-- What an answered pair of constants is: the scale is good, the zone has a row, and its unit is one of the table's. Assumes nothing.
use mathlib.Core.Path.{◌≡◌, refl, sym, ap}
use mathlib.Core.Bool.{Bool, true, false, cond, ◌&&◌}
use mathlib.Core.List.{List, [], ◌∷◌}
use Prim.Native.Nat.{ℕ, ◌≤◌}
use native.Mathlib.Omega.{arith}
use borrow.Author.Tests.{leb-true}
use lib.Dec.{leb}
use Rattle.std.specs.Prelude.{Option, Some, None, Result, Ok, Err}
use Rattle.arc.specs.declared.refusal.Refusal.{Refusal}
use Rattle.arc.specs.declared.series.Series.{Series}
use Rattle.arc.specs.declared.series.Spacing.{Spacing}
use Rattle.arc.specs.declared.zone_table.Row.{Row}
use Rattle.whole.specs.Results.{◌>>=◌}
use Rattle.arc.specs.Zones.{table, has_zone, row_in, table_row}
use Rattle.arc.specs.Scales.{overview_scale, OverviewOf}
use Rattle.arc.specs.Pixels.{spacing_at, row_unit}
use Rattle.arc.specs.Spacing.{columns_in, rows_of, spacing_of, GridsIs}
use Rattle.arc.proofs.ScaleLaws.{scale-is}
use Rattle.arc.proofs.PixelLaws.{grid, columns-least, rows-least}

-- the units of a table are in range
abbrev units_in : List Row → Bool
units_in [] = true
units_in (r ∷ rs) = (leb 161 r.unit && leb r.unit 782) && units_in rs

abbrev UnitOf : Option Row → Type 0
UnitOf (Some r) = (161 ≤ r.unit) × (r.unit ≤ 782)
UnitOf None = Unit {0}

unit-in : (rs : List Row) (zone : ℕ) → units_in rs ≡ true → UnitOf (row_in rs zone)
unit-in [] zone e = tt
unit-in (r ∷ rs) zone e =
    go (leb 161 r.unit) (leb r.unit 782) (has_zone r zone) (leb-true 161 r.unit) (leb-true r.unit 782) e (λ t. unit-in rs zone t)
  where
    go : (x y t : Bool) → (x ≡ true → 161 ≤ r.unit) → (y ≡ true → r.unit ≤ 782) → (x && y) && units_in rs ≡ true
        → (units_in rs ≡ true → UnitOf (row_in rs zone)) → UnitOf (cond t (Some r) (row_in rs zone))
    go true true true f g p k = (f refl, g refl)
    go true true false f g p k = k p
    go true false t f g p k = let z : ◌≡◌ {A = ℕ} 0 1 = cc in absurd (omega arith)
    go false y t f g p k = let z : ◌≡◌ {A = ℕ} 0 1 = cc in absurd (omega arith)

-- an answer that is no refusal comes from a scale, a factor and a row
pub record From (series : Series) (a b : ℕ) : Type 0 where
  pub t : ℕ
  pub of : OverviewOf series.scale series.factor t
  pub of_row : Row
  pub is_row : table_row series.zone ≡ Some of_row
  pub is-a : a ≡ spacing_at of_row.unit t
  pub is_b : b ≡ spacing_at row_unit t

a_of : Result Spacing Refusal → ℕ
a_of (Ok x) = x.a
a_of (Err e) = 0

b_of : Result Spacing Refusal → ℕ
b_of (Ok x) = x.b
b_of (Err e) = 0

pub answered-from : (series : Series) (a b : ℕ) → spacing_of series ≡ Ok (record { a = a; b = b }) → From series a b
unfolding a_of b_of
answered-from series a b e = go (overview_scale series.scale series.factor) (table_row series.zone) refl refl e
  where
    go : (x : Result ℕ Refusal) (o : Option Row) → overview_scale series.scale series.factor ≡ x → table_row series.zone ≡ o
        → x >>= (λ t. ◌>>=◌ {B = Spacing} (columns_in t o) (λ y. Ok (record { a = y; b = spacing_at row_unit t }))) ≡ Ok (record { a = a; b = b })
        → From series a b
    go (Ok t) (Some r) p q k =
        record { t = t; of = scale-is series.scale series.factor t p; of_row = r; is_row = q; is-a = sym (ap a_of k); is_b = sym (ap b_of k) }
    go (Ok t) None p q k = let z : ◌≡◌ {A = ℕ} 0 1 = cc in absurd (omega arith)
    go (Err r) o p q k = let z : ◌≡◌ {A = ℕ} 0 1 = cc in absurd (omega arith)

-- its unit is one of the table's
unit-of : {series : Series} {a b : ℕ} (f : From series a b) → (161 ≤ f.of_row.unit) × (f.of_row.unit ≤ 782)
unit-of {series} f = let u : UnitOf (Some f.of_row) = rw f.is_row at (unit-in table series.zone refl) in u

pub answered-grids : GridsIs
answered-grids series a b e =
    let f = answered-from series a b e in
    let u = unit-of f in
    record {
      columns = rw f.is-a (grid f.of_row.unit f.t f.of.served (record { least = omega arith; most = u.1 }));
      rows = rw f.is_b (grid row_unit f.t f.of.served (record { least = omega arith; most = omega arith }));
    }

pub answered-least : (series : Series) (a b : ℕ) → spacing_of series ≡ Ok (record { a = a; b = b }) → (4608 ≤ a) × (20480 ≤ b)
answered-least series a b e =
    let f = answered-from series a b e in
    (rw f.is-a (columns-least f.of_row.unit f.t (unit-of f).0 f.of.served), rw f.is_b (rows-least f.t f.of.served))

-- B alone
pub rows-from : (s factor b : ℕ) → rows_of s factor ≡ Ok b → (t : ℕ) × OverviewOf s factor t × (b ≡ spacing_at row_unit t)
rows-from s factor b e = go (overview_scale s factor) refl e
  where
    go : (x : Result ℕ Refusal) → overview_scale s factor ≡ x
        → x >>= (λ t. Ok (spacing_at row_unit t)) ≡ Ok b
        → (t : ℕ) × OverviewOf s factor t × (b ≡ spacing_at row_unit t)
    go (Ok t) p f = (t, scale-is s factor t p, cc)
    go (Err r) p f = let z : ◌≡◌ {A = ℕ} 0 1 = cc in absurd (omega arith)
