-- Pixel spacing (DIGEST, "The ARC System", 3.4.6), read from S × k. Definitions, and what they are held to.
--     Asz | a        pixels round a parallel, 360° of longitude
--     Bs  | b        pixels round a meridian, 360° of latitude
--     S   | scale
--     columns_of S zone                A at 1:S, the scale being good, or the refusal Zone
--     rows_for x, spacing_for x zone   B, and A and B, where x is what is answered of the scale
--     rows_of S factor                 what `b_constant` answers: B, or the refusals Scale, Factor, Scale
--     spacing_of series                what `Series::spacing` answers: A and B, or these and then Zone
use Rattle.std.specs.Prelude.{◌≡◌, ℕ, Result, Ok, Err, Option, Some, None}
use Rattle.whole.specs.Results.{◌>>=◌}
use Rattle.arc.specs.declared.refusal.Refusal.{Refusal}
use Rattle.arc.specs.declared.series.Series.{Series}
use Rattle.arc.specs.declared.series.Spacing.{Spacing}
use Rattle.arc.specs.declared.zone_table.Row.{Row}
use Rattle.arc.specs.Zones.{table_row}
use Rattle.arc.specs.Scales.{overview_scale}
use Rattle.arc.specs.Pixels.{spacing_at, row_unit, Grid}

abbrev pub columns_in : ℕ → Option Row → Result ℕ Refusal
columns_in s (Some r) = Ok (spacing_at r.unit s)
columns_in s None = Err Refusal.Zone

abbrev pub columns_of : ℕ → ℕ → Result ℕ Refusal
columns_of s zone = columns_in s (table_row zone)

-- the scale's refusals, else B
abbrev pub rows_for : Result ℕ Refusal → Result ℕ Refusal
rows_for x = do
  t ← x
  Ok (spacing_at row_unit t)

abbrev pub rows_of : ℕ → ℕ → Result ℕ Refusal
rows_of s factor = rows_for (overview_scale s factor)

-- the scale's refusals, then Zone
abbrev pub spacing_for : Result ℕ Refusal → ℕ → Result Spacing Refusal
spacing_for x zone = do
  t ← x
  a ← columns_of t zone
  Ok (record { a = a; b = spacing_at row_unit t })

-- the spacing is that of scale 1:(S × k)
abbrev pub spacing_of : Series → Result Spacing Refusal
spacing_of series = spacing_for (overview_scale series.scale series.factor) series.zone

-- ---- what an answer is held to: proved in proofs/Answered.antt

-- what is answered lies on the grid
pub record Grids (a b : ℕ) : Type 0 where
  pub columns : Grid a
  pub rows : Grid b

abbrev pub GridsIs : Type 0
GridsIs = (series : Series) (a b : ℕ) → spacing_of series ≡ Ok (record { a = a; b = b }) → Grids a b
