-- The basic zone of a latitude (DIGEST, "The ARC System", 3.3.3). Definitions only.
--     holds_size r size  a latitude of that size lies between the row's limits
--     row_holding size   the row that holds it
--     zone_on lat r      the row's zone on the latitude's side of the Equator
--     basic_zone lat     the basic zone
--     basic_zone_of lat  what `basic_zone` answers: the basic zone, or the refusal Latitude
use Rattle.std.specs.Prelude.{ℕ, Bool, if◌then◌else◌, ◌&&◌, ◌||◌, List, [], ◌∷◌, leb, ltb, eqb, ℤ, pos, nat_abs, Result, Ok, Err}
use Rattle.std.specs.Int.Signed.{lt_z}
use Rattle.whole.specs.Whole.{outside}
use Rattle.arc.specs.declared.refusal.Refusal.{Refusal}
use Rattle.arc.specs.declared.zone_table.Row.{Row}
use Rattle.arc.specs.Zones.{quarter, table, no_row}

-- a limit belongs to the poleward zone, and 90° to the polar zones
abbrev pub holds_size : Row → ℕ → Bool
holds_size r size = leb r.equatorward size && (ltb size r.poleward || eqb r.poleward quarter)

-- the first row of a list that holds a size; no size up to 90° is left without one
unfoldable pub first_holding : List Row → ℕ → Row
first_holding [] size = no_row
first_holding (r ∷ rs) size = if holds_size r size then r else first_holding rs size

abbrev pub row_holding : ℕ → Row
row_holding size = first_holding table size

-- latitude 0 is zone 1, below 0 is southern
abbrev pub zone_on : ℤ → Row → ℕ
zone_on lat r = if lt_z lat (pos 0) then r.southern else r.northern

abbrev pub basic_zone : ℤ → ℕ
basic_zone lat = zone_on lat (row_holding (nat_abs lat))

abbrev pub basic_zone_of : ℤ → Result ℕ Refusal
basic_zone_of lat = if outside quarter lat then Err Refusal.Latitude else Ok (basic_zone lat)
