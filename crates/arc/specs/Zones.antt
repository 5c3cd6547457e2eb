-- The zone table (DIGEST, "The ARC System", Tables 3-1 and 3-5). Definitions only.
--     circle             H, the circle, in hundredths of an arc-second
--     half, quarter      180° and 90°, the limits of a longitude and a latitude
--     degree             a degree
--     tile               128 pixels, the side of a tile
--     row n s e p u      a row of the table: its two zones, its limits, given in degrees, and A / 512 at 1:1,000,000
--     table              the rows
--     table_row zone     the row of a zone, none where the number is no zone's
--     is_polar zone      zone 9 or 18
--     row_at i           the row at place i, 0 to 8
use Rattle.std.specs.Prelude.{ℕ, ◌*◌, Bool, if◌then◌else◌, ◌||◌, List, [], ◌∷◌, eqb, get_or, Option, Some, None}
use Rattle.arc.specs.declared.zone_table.Row.{Row}

-- H: 360°
abbrev pub circle : ℕ
circle = 129600000

abbrev pub half : ℕ
half = 64800000

abbrev pub quarter : ℕ
quarter = 32400000

abbrev pub degree : ℕ
degree = 360000

abbrev pub tile : ℕ
tile = 128

abbrev pub row : ℕ → ℕ → ℕ → ℕ → ℕ → Row
row n s e p u = record { northern = n; southern = s; equatorward = e * degree; poleward = p * degree; unit = u }

-- zones, degrees, A / 512
abbrev pub table : List Row
table =
    row 1 10 0 32 722 ∷
    row 2 11 32 48 591 ∷
    row 3 12 48 56 480 ∷
    row 4 13 56 64 389 ∷
    row 5 14 64 68 319 ∷
    row 6 15 68 72 268 ∷
    row 7 16 72 76 215 ∷
    row 8 17 76 80 161 ∷
    row 9 18 80 90 782 ∷
    []

abbrev pub has_zone : Row → ℕ → Bool
has_zone r zone = eqb zone r.northern || eqb zone r.southern

abbrev pub row_in : List Row → ℕ → Option Row
row_in [] zone = None
row_in (r ∷ rs) zone = if has_zone r zone then Some r else row_in rs zone

abbrev pub table_row : ℕ → Option Row
table_row zone = row_in table zone

abbrev pub is_polar : ℕ → Bool
is_polar zone = eqb zone 9 || eqb zone 18

-- no row stands past the last
abbrev pub no_row : Row
no_row = row 0 0 0 0 0

abbrev pub row_at : ℕ → Row
row_at i = get_or table i no_row
