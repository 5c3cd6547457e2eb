-- The zones that cover a latitude (DIGEST, "The ARC System", 3.3.3). Definitions, and what they are held to.
--     overlaps b r size  the row's overlap of 1024 rows poleward reaches a latitude of that size, B being b
--     covers b lat zone  the zone covers the latitude
--     zones_equatorward lat  the zones on the Equator's side of the basic zone, nearest to it first
--     cover_zones b lat  the cover list
--     listed zs          zs as the code gathers them
--     cover_of S factor lat  what `cover` answers: the cover list, or the refusals Scale, Factor, Scale, Latitude
use Rattle.std.specs.Prelude.{◌≡◌, ℕ, ◌-◌, ◌*◌, ◌≤◌, Bool, true, false, if◌then◌else◌, not, ◌&&◌, ◌||◌, List, ◌∷◌, leb, ltb, eqb, length}
use Rattle.std.specs.Prelude.{ℤ, pos, nat_abs, Option, Some, None, Result, Ok, Err}
use Rattle.std.specs.Int.Signed.{lt_z}
use Rattle.arrayvec.specs.ArrayVec.{ArrayVec}
use Rattle.whole.specs.Whole.{outside}
use Rattle.whole.specs.Results.{◌>>=◌}
use Rattle.whole.specs.Lists.{those, down_from}
use Rattle.arc.specs.declared.refusal.Refusal.{Refusal}
use Rattle.arc.specs.declared.zone_table.Row.{Row}
use Rattle.arc.specs.Zones.{circle, quarter, table_row, is_polar}
use Rattle.arc.specs.Scales.{is_scale}
use Rattle.arc.specs.Pixels.{row_unit, spacing_at}
use Rattle.arc.specs.Spacing.{rows_of}
use Rattle.zones.specs.Basic.{holds_size, zone_on, basic_zone}

-- a non-polar zone with poleward limit P: |lat| at least P and (|lat| − P) × B < 1024 × H
abbrev pub overlaps : ℕ → Row → ℕ → Bool
overlaps b r size = not (is_polar r.northern) && (leb r.poleward size && ltb ((size - r.poleward) * b) (1024 * circle))

-- a latitude of its hemisphere, that lies in it or in its overlap
abbrev pub covers_in : ℕ → ℤ → ℕ → Option Row → Bool
covers_in b lat zone (Some r) = eqb zone (zone_on lat r) && (holds_size r (nat_abs lat) || overlaps b r (nat_abs lat))
covers_in b lat zone None = false

unfoldable pub covers : ℕ → ℤ → ℕ → Bool
covers b lat zone = covers_in b lat zone (table_row zone)

-- the first zone of the latitude's hemisphere, 1 or 10
abbrev pub first_zone : ℤ → ℕ
first_zone lat = if lt_z lat (pos 0) then 10 else 1

abbrev pub zones_equatorward : ℤ → List ℕ
zones_equatorward lat = down_from (first_zone lat) (basic_zone lat - first_zone lat)

-- it starts with the basic zone and goes equatorward
abbrev pub cover_zones : ℕ → ℤ → List ℕ
cover_zones b lat = basic_zone lat ∷ those (covers b lat) (zones_equatorward lat)

abbrev pub listed : List ℕ → ArrayVec ℕ
listed zs = record { items = zs }

abbrev pub cover_at : ℕ → ℤ → Result (List ℕ) Refusal
cover_at b lat = if outside quarter lat then Err Refusal.Latitude else Ok (cover_zones b lat)

abbrev pub cover_of : ℕ → ℕ → ℤ → Result (List ℕ) Refusal
cover_of s factor lat = do
  b ← rows_of s factor
  cover_at b lat

-- ---- what the list is held to: proved in proofs/Six.antt

-- at most six zones cover a latitude
abbrev pub AtMostSix : Type 0
AtMostSix = (s : ℕ) → is_scale s ≡ true → (lat : ℤ) → outside quarter lat ≡ false → length (cover_zones (spacing_at row_unit s) lat) ≤ 6
