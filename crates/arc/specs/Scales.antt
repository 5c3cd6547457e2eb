-- The scale that a spacing is read from, of a chart or of an overview. Definitions, and what they are held to.
--     Series                   what is stated beside a card: scale S, factor k and zone
--     is_scale S               5,000 to 20,000,000
--     is_factor factor         1 to 64
--     Served S                 is_scale, as a fact
--     overview_scale S factor  S × k, or the refusals Scale, Factor, Scale
--     chart_scale S            S, or the refusal Scale: a chart has no factor
--     chart_series S zone      scale and zone with the factor 1
use Rattle.std.specs.Prelude.{◌≡◌, Bool, true, if◌then◌else◌, not, ◌&&◌, ◌⊎◌, ℕ, ◌*◌, ◌≤◌, ◌<◌, leb, ltb, Result, Ok, Err}
use Rattle.arc.specs.declared.refusal.Refusal.{Refusal}
use Rattle.arc.specs.declared.series.Series.{Series}

abbrev pub is_scale : ℕ → Bool
is_scale s = leb 5000 s && leb s 20000000

abbrev pub is_factor : ℕ → Bool
is_factor factor = leb 1 factor && leb factor 64

pub record Served (s : ℕ) : Type 0 where
  pub least : 5000 ≤ s
  pub most : s ≤ 20000000

-- the scale is judged first, then the factor, then their product
abbrev pub overview_scale : ℕ → ℕ → Result ℕ Refusal
overview_scale s factor =
    if not (is_scale s) then Err Refusal.Scale
    else (if not (is_factor factor) then Err Refusal.Factor
    else (if ltb 20000000 (s * factor) then Err Refusal.Scale
    else Ok (s * factor)))

abbrev pub chart_scale : ℕ → Result ℕ Refusal
chart_scale s = if not (is_scale s) then Err Refusal.Scale else Ok s

-- k = 1 is a chart
abbrev pub chart_series : ℕ → ℕ → Series
chart_series s zone = record { scale = s; factor = 1; zone = zone }

-- ---- what it is held to, one claim for each stretch of scales and factors: proved in proofs/ScaleLaws.antt

-- S outside its range, whatever the factor
abbrev pub ScaleRefused : Type 0
ScaleRefused = (s factor : ℕ) → (s < 5000) ⊎ (20000000 < s) → overview_scale s factor ≡ Err Refusal.Scale

-- k outside its range
abbrev pub FactorRefused : Type 0
FactorRefused =
    (s factor : ℕ) → 5000 ≤ s → s ≤ 20000000 → (factor < 1) ⊎ (64 < factor) → overview_scale s factor ≡ Err Refusal.Factor

-- S × k above 20,000,000: the scale again
abbrev pub ProductRefused : Type 0
ProductRefused =
    (s factor : ℕ) → 5000 ≤ s → s ≤ 20000000 → 1 ≤ factor → factor ≤ 64 → 20000000 < s * factor
    → overview_scale s factor ≡ Err Refusal.Scale

-- every other pair: S × k
abbrev pub ProductServed : Type 0
ProductServed = (s factor : ℕ) → 5000 ≤ s → 1 ≤ factor → factor ≤ 64 → s * factor ≤ 20000000 → overview_scale s factor ≡ Ok (s * factor)

-- what is answered is S × k, of a scale and a factor, and is a scale itself
pub record OverviewOf (s factor t : ℕ) : Type 0 where
  pub good_scale : is_scale s ≡ true
  pub good_factor : is_factor factor ≡ true
  pub product : t ≡ s * factor
  pub served : is_scale t ≡ true

abbrev pub ScaleIs : Type 0
ScaleIs = (s factor t : ℕ) → overview_scale s factor ≡ Ok t → OverviewOf s factor t

-- S × 1 is S
abbrev pub ScaleAtOne : Type 0
ScaleAtOne = (s : ℕ) → overview_scale s 1 ≡ chart_scale s
