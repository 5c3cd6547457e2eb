-- The zone table once more, row by row as it is printed, in a place of its own: what is changed in the code's table and in `table` alike is refused by
-- this claim. The proof is proofs/AsPrinted.antt.
--     Printed                 a printed row: its two zones, its limits in degrees, and A / 512
--     printed_row n s e p u   the row of the zones n and s, from e to p degrees, A / 512 being u
--     printed_rows            the rows
--     in_hundredths r         a printed row with its limits in hundredths of an arc-second
--     TableAsPrinted          the table has these rows
--     CodeAsPrinted           the code's table has them
use Rattle.std.specs.Prelude.{◌≡◌, List, [], ◌∷◌, ℕ, ◌*◌, map}
use Rattle.arc.specs.declared.zone_table.Row.{Row}
use Rattle.arc.specs.declared.zone_table.TheConstants.{TABLE}
use Rattle.arc.specs.Zones.{table}

pub record Printed : Type 0 where
  pub northern : ℕ
  pub southern : ℕ
  pub equatorward : ℕ
  pub poleward : ℕ
  pub unit : ℕ

abbrev pub printed_row : ℕ → ℕ → ℕ → ℕ → ℕ → Printed
printed_row n s e p u = record { northern = n; southern = s; equatorward = e; poleward = p; unit = u }

-- a degree is 360,000 hundredths of an arc-second
abbrev pub in_hundredths : Printed → Row
in_hundredths r = record { northern = r.northern; southern = r.southern; equatorward = r.equatorward * 360000; poleward = r.poleward * 360000; unit = r.unit }

-- zones, degrees, A / 512
abbrev pub printed_rows : List Printed
printed_rows =
    printed_row 1 10 0 32 722 ∷
    printed_row 2 11 32 48 591 ∷
    printed_row 3 12 48 56 480 ∷
    printed_row 4 13 56 64 389 ∷
    printed_row 5 14 64 68 319 ∷
    printed_row 6 15 68 72 268 ∷
    printed_row 7 16 72 76 215 ∷
    printed_row 8 17 76 80 161 ∷
    printed_row 9 18 80 90 782 ∷
    []

abbrev pub TableAsPrinted : Type 0
TableAsPrinted = table ≡ map in_hundredths printed_rows

-- and so has the code's own
abbrev pub CodeAsPrinted : Type 0
CodeAsPrinted = TABLE ≡ map in_hundredths printed_rows
