-- What only the code needs: the pairs as one number, and a position in range, counted in naturals. Definitions only.
--     inward p           how far south and east of a pixel's corner the pair's exact place is, a pixel being H: nothing, or H/2, half a pixel
--     ranged_of lat lon  what `count_position` answers: the position counted from the South Pole and from 180° west, or Latitude, Longitude
use Rattle.std.specs.Prelude.{if◌then◌else◌, ℕ, ℤ, Result, Ok, Err}
use Rattle.whole.specs.Whole.{outside, raise}
use Rattle.arc.specs.declared.refusal.Refusal.{Refusal}
use Rattle.arc.specs.Zones.{half, quarter}
use Rattle.card.specs.declared.Pair.{Pair}
use Rattle.card.specs.declared.range.Ranged.{Ranged}

abbrev pub inward : Pair → ℕ
inward Pair.Corner = 0
inward Pair.Centre = half

-- Latitude, Longitude
abbrev pub ranged_of : ℤ → ℤ → Result Ranged Refusal
ranged_of lat lon =
    if outside quarter lat then Err Refusal.Latitude
    else (if outside half lon then Err Refusal.Longitude
    else Ok (record { north = raise quarter lat; east = raise half lon }))
