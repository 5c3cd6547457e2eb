-- What only the code needs: how it asks of a row and a stretch of sizes of latitude. The law that ties it to the rectangle is in proofs/.
-- Definitions only.
--     shares_row b r low high    the row shares a stretch of more than zero height with the sizes from low to high; low is below high, or both are 0
--     Sides                      what `zone_shares` is handed
use Rattle.std.specs.Prelude.{ℕ, ◌≤◌, ◌<◌, Bool, ◌&&◌, ltb}
use Rattle.arc.specs.Zones.{half}
use Rattle.arc.specs.declared.zone_table.Row.{Row}
use Rattle.zones.specs.Steps.{reaches, Rows}

abbrev pub shares_row : ℕ → Row → ℕ → ℕ → Bool
shares_row b r low high = ltb r.equatorward high && reaches b r low

-- a zone, and a rectangle whose edges are counted from the South Pole
pub record Sides (b zone south north : ℕ) : Type 0 where
  pub rows : Rows b
  pub some_zone : 1 ≤ zone
  pub last_zone : zone ≤ 18
  pub order : south < north
  pub pole : north ≤ half
