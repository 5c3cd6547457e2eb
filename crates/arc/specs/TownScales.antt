-- The town scales, at which cards are no longer written and origins no longer aligned. Definitions, and what they are held to.
--     is_town_scale S             1:5,000 to 1:9,999
--     for_writing S x             the spacing x, where a card is to be written or an origin aligned
--     spacing_for_writing series  what `spacing_for_writing` answers, for writing and alignment alone: the refusals Scale, TownScale, Factor, Scale, Zone
use Rattle.std.specs.Prelude.{◌≡◌, Bool, if◌then◌else◌, not, ◌&&◌, ℕ, ◌≤◌, ◌<◌, leb, Result, Err}
use Rattle.arc.specs.declared.refusal.Refusal.{Refusal}
use Rattle.arc.specs.declared.series.Series.{Series}
use Rattle.arc.specs.declared.series.Spacing.{Spacing}
use Rattle.arc.specs.Scales.{is_scale}
use Rattle.arc.specs.Spacing.{spacing_of}

abbrev pub is_town_scale : ℕ → Bool
is_town_scale s = leb 5000 s && leb s 9999

-- the scale, then the town scale, judged on S, then what the spacing x answers
abbrev pub for_writing : ℕ → Result Spacing Refusal → Result Spacing Refusal
for_writing s x =
    if not (is_scale s) then Err Refusal.Scale
    else (if is_town_scale s then Err Refusal.TownScale
    else x)

abbrev pub spacing_for_writing : Series → Result Spacing Refusal
spacing_for_writing series = for_writing series.scale (spacing_of series)

-- ---- what it is held to, one claim for each stretch of scales: proved in proofs/TownScales.antt

-- below 5,000: no scale
abbrev pub BelowRefused : Type 0
BelowRefused = (series : Series) → series.scale < 5000 → spacing_for_writing series ≡ Err Refusal.Scale

-- from 5,000 to 9,999: a town scale, whatever the factor and the zone
abbrev pub TownRefused : Type 0
TownRefused = (series : Series) → 5000 ≤ series.scale → series.scale < 10000 → spacing_for_writing series ≡ Err Refusal.TownScale

-- from 10,000 up: the spacing, its refusals too
abbrev pub WrittenFrom : Type 0
WrittenFrom = (series : Series) → 10000 ≤ series.scale → spacing_for_writing series ≡ spacing_of series
