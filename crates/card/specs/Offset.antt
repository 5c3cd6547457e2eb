-- The offset of a position from a centre (01, "Origins and the zone grid"). Definitions, and a claim.
--     Exactly x z            the double x is the whole number z, nothing lost
--     offset_of ..           what `offset_from` answers: 4, 5 of the position, then 4, 5 of the centre
use Rattle.std.specs.Prelude.{Result, Ok, Err}
use Rattle.arc.specs.declared.refusal.Refusal.{Refusal}
use Rattle.std.specs.Prelude.{◌≡◌, if◌then◌else◌, ℤ, ◌-ℤ◌, Float}
use Rattle.std.specs.Float.Ieee.{of_int, to_signed}
use Rattle.std.specs.Float.{binary64}
use Rattle.whole.specs.Whole.{outside}
use Rattle.arc.specs.Zones.{half, quarter}
use Rattle.card.specs.declared.Offset.{Offset}
use Rattle.card.specs.Grid.{into_range}

-- it is the nearest double to z, and taken back as a whole number it is z
pub record Exactly (x : Float) (z : ℤ) : Type 0 where
  pub rounded : x ≡ of_int binary64 z
  pub back : to_signed 63 x ≡ z

-- position minus centre, the longitude difference from −64,800,000 up to but not including 64,800,000
abbrev pub difference : ℤ → ℤ → ℤ → ℤ → Offset
difference lat lon clat clon = record { lat = of_int binary64 (lat -ℤ clat); lon = of_int binary64 (into_range (lon -ℤ clon)) }

unfoldable pub offset_of : ℤ → ℤ → ℤ → ℤ → Result Offset Refusal
offset_of lat lon clat clon =
    if outside quarter lat then Err Refusal.Latitude
    else (if outside half lon then Err Refusal.Longitude
    else (if outside quarter clat then Err Refusal.Latitude
    else (if outside half clon then Err Refusal.Longitude
    else Ok (difference lat lon clat clon))))

-- both doubles hold whole hundredths, exactly
pub record ExactOffset (lat lon clat clon : ℤ) (o : Offset) : Type 0 where
  pub lat_exact : Exactly o.lat (lat -ℤ clat)
  pub lon_exact : Exactly o.lon (into_range (lon -ℤ clon))

-- ---- what the answer is held to: proved in proofs/Doubles.antt

abbrev pub Exact : Type 0
Exact = (lat lon clat clon : ℤ) (o : Offset) → offset_of lat lon clat clon ≡ Ok o → ExactOffset lat lon clat clon o
