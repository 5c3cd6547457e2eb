-- Stretches of latitude (DIGEST, "The ARC System", 3.3.3). Definitions only. Latitude is a continuous line, and P + 1024 H / B is mostly no whole
-- hundredth: each end is given times B, so nothing is rounded.
--     poleward_end b r       where a row's stretch ends, with its overlap of 1024 rows, times B; b is B
--     Stretch                two ends, times B
--     northern_stretch, southern_stretch  those of a row's two zones
--     zone_stretch b zone r  that of a zone, r being its row
--     rectangle_stretch b south north     that of a rectangle from south to north
--     larger, smaller        of two numbers
--     shares_height p q      the two share a stretch of more than zero height
--     shares b south north zone           the zone and the rectangle do
use Rattle.std.specs.Prelude.{ℕ, ◌+◌, ◌*◌, Bool, false, cond, eqb, ℤ, pos, neg_ℤ, ◌*ℤ◌, Option, Some, None}
use Rattle.std.specs.Int.Signed.{lt_z}
use Rattle.arc.specs.Zones.{circle, quarter, table_row, is_polar}
use Rattle.arc.specs.declared.zone_table.Row.{Row}

-- (P + 1024 H / B) × B; a polar zone's ends at the pole
abbrev pub poleward_end : ℕ → Row → ℕ
poleward_end b r = cond (is_polar r.northern) (quarter * b) (r.poleward * b + 1024 * circle)

pub record Stretch : Type 0 where
  pub south_end : ℤ
  pub north_end : ℤ

-- from the equatorward limit poleward; the southern ones are the mirror
abbrev pub northern_stretch : ℕ → Row → Stretch
northern_stretch b r = record { south_end = pos (r.equatorward * b); north_end = pos (poleward_end b r) }

abbrev pub southern_stretch : ℕ → Row → Stretch
southern_stretch b r = record { south_end = neg_ℤ (pos (poleward_end b r)); north_end = neg_ℤ (pos (r.equatorward * b)) }

abbrev pub zone_stretch : ℕ → ℕ → Row → Stretch
zone_stretch b zone r = cond (eqb zone r.southern) (southern_stretch b r) (northern_stretch b r)

abbrev pub rectangle_stretch : ℕ → ℤ → ℤ → Stretch
rectangle_stretch b south north = record { south_end = south *ℤ pos b; north_end = north *ℤ pos b }

abbrev pub larger : ℤ → ℤ → ℤ
larger x y = cond (lt_z x y) y x

abbrev pub smaller : ℤ → ℤ → ℤ
smaller x y = cond (lt_z x y) x y

-- the larger south end is below the smaller north end
abbrev pub shares_height : Stretch → Stretch → Bool
shares_height p q = lt_z (larger p.south_end q.south_end) (smaller p.north_end q.north_end)

abbrev pub shares_in : ℕ → ℤ → ℤ → ℕ → Option Row → Bool
shares_in b south north zone (Some r) = shares_height (zone_stretch b zone r) (rectangle_stretch b south north)
shares_in b south north zone None = false

unfoldable pub shares : ℕ → ℤ → ℤ → ℕ → Bool
shares b south north zone = shares_in b south north zone (table_row zone)
