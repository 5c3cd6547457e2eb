-- Places of the zone grid, positions and pixels (001, 3.4.3, 3.4.4; 01, "Origins and the zone grid"; 02, E8). Definitions only.
--     place_row k r, place_column k c        the place of pixel (r, c): (128n − r, (128m + c) modulo A)
--     exact_row p u, exact_column p v        the exact place of (u, v) in the pair p: the corner or the centre of a pixel there
--     latitude_of p k r, longitude_of p k c  the position of pixel (r, c) in the pair p
--     row_value k lat, column_value k lon    the row and the column of a position before they are made whole
--     row_of p k lat, column_of p k lon      the pixel at a position in the pair p, before the bounds are looked at
--     in_tiles k r c, in_chart k r c         the pixel is one of the card's tiles, of its chart rectangle
--     place_of, position_of p, pixel_of p    what the methods `place`, `position_in` and `pixel_in` answer; `position` and `pixel` are the centre pair's
--     verdict_of, extents_of                 what `judge_pixel` and `extents` answer
use Rattle.arc.specs.declared.refusal.Refusal.{Refusal}
use Rattle.card_text.specs.Layout.{Judged}
use Rattle.std.specs.Prelude.{◌*◌, Bool, if◌then◌else◌, not, ◌&&◌, [], ◌∷◌, Result, Ok, Err, ℤ, pos, ◌+ℤ◌, ◌-ℤ◌, ◌*ℤ◌}
use Rattle.std.specs.Int.Signed.{le_z, lt_z}
use Rattle.whole.specs.Whole.{floor_div, nearest, modulo, outside}
use Rattle.whole.specs.Results.{◌>>=◌}
use Rattle.arc.specs.Refusals.{Report, answered, refused_with}
use Rattle.arc.specs.Zones.{circle, half, quarter}
use Rattle.card_text.specs.declared.Fields.{Fields}
use Rattle.card_text.specs.declared.Extents.{Extents}
use Rattle.card.specs.declared.Pair.{Pair}
use Rattle.card.specs.declared.Place.{Place}
use Rattle.card.specs.declared.Position.{Position}
use Rattle.card.specs.declared.Pixel.{Pixel}

abbrev pub place_row : Fields → ℤ → ℤ
place_row k r = pos 128 *ℤ k.n -ℤ r

-- before the modulo
abbrev pub grid_column : Fields → ℤ → ℤ
grid_column k c = pos 128 *ℤ k.m +ℤ c

abbrev pub place_column : Fields → ℤ → ℤ
place_column k c = modulo (grid_column k c) k.a

-- brought into −180° up to but not including 180° by whole circles
abbrev pub into_range : ℤ → ℤ
into_range z = modulo (z +ℤ pos half) circle -ℤ pos half

-- ---- the two pairs: a pixel's corner, and the pixel whose corner is nearest; a pixel's centre, and the pixel that contains a position (02, E8)

-- the exact place of (u, v), u H/B and v H/A, or the centre there, (u − 1/2)H/B and (v + 1/2)H/A; times B and times A, half being H/2
abbrev pub exact_row : Pair → ℤ → ℤ
exact_row Pair.Corner u = u *ℤ pos circle
exact_row Pair.Centre u = u *ℤ pos circle -ℤ pos half

abbrev pub exact_column : Pair → ℤ → ℤ
exact_column Pair.Corner v = v *ℤ pos circle
exact_column Pair.Centre v = v *ℤ pos circle +ℤ pos half

-- the nearest hundredth to the exact place of (128n − r, 128m + c), longitude then brought into range
unfoldable pub latitude_of : Pair → Fields → ℤ → ℤ
latitude_of p k r = nearest (exact_row p (place_row k r)) k.b

unfoldable pub longitude_of : Pair → Fields → ℤ → ℤ
longitude_of p k c = into_range (nearest (exact_column p (grid_column k c)) k.a)

-- 128n − lat × B/H, times H
abbrev pub row_value : Fields → ℤ → ℤ
row_value k lat = pos 128 *ℤ k.n *ℤ pos circle -ℤ lat *ℤ pos k.b

-- (lon × A/H − 128m) modulo A, times H (001 has the absolute difference)
abbrev pub column_value : Fields → ℤ → ℤ
column_value k lon = modulo (lon *ℤ pos k.a -ℤ pos 128 *ℤ k.m *ℤ pos circle) (k.a * circle)

-- the nearest whole number to the row's value, or its floor
unfoldable pub row_of : Pair → Fields → ℤ → ℤ
row_of Pair.Corner k lat = nearest (row_value k lat) circle
row_of Pair.Centre k lat = floor_div (row_value k lat) circle

-- the nearest whole number to the column's value, then modulo A again (001 has no second modulo), or its floor
unfoldable pub column_of : Pair → Fields → ℤ → ℤ
column_of Pair.Corner k lon = modulo (nearest (column_value k lon) circle) k.a
column_of Pair.Centre k lon = floor_div (column_value k lon) circle

-- OutsideTiles where this fails: outside the tiles on any side
abbrev pub in_tiles : Fields → ℤ → ℤ → Bool
in_tiles k r c = (le_z (pos 0) r && lt_z r (pos (128 * k.nfl))) && (le_z (pos 0) c && lt_z c (pos (128 * k.nfc)))

-- Padding where this fails: the rectangle NUL..NLL by NLS..NUS is the chart
abbrev pub in_chart : Fields → ℤ → ℤ → Bool
in_chart k r c = (le_z (pos k.nul) r && le_z r (pos k.nll)) && (le_z (pos k.nls) c && le_z c (pos k.nus))

-- the edges and the tiles down and across
abbrev pub extents_of : Fields → Extents
extents_of k = record { nul = k.nul; nus = k.nus; nll = k.nll; nls = k.nls; nfl = k.nfl; nfc = k.nfc }

-- OutsideTiles, Padding
abbrev pub verdict_of : Fields → ℤ → ℤ → Judged
verdict_of k r c =
    if not (in_tiles k r c) then Err Refusal.OutsideTiles
    else (if not (in_chart k r c) then Err Refusal.Padding
    else Ok tt)

-- the answers
abbrev pub at_place : ℤ → ℤ → Result Place Refusal
at_place u v = Ok (record { row = u; column = v })

abbrev pub at_position : ℤ → ℤ → Result Position Refusal
at_position lat lon = Ok (record { lat = lat; lon = lon })

abbrev pub at_pixel : ℤ → ℤ → Result Pixel Refusal
at_pixel r c = Ok (record { row = r; column = c })

-- OutsideTiles
unfoldable pub place_of : Fields → ℤ → ℤ → Result Place Refusal
place_of k r c = if not (in_tiles k r c) then Err Refusal.OutsideTiles else at_place (place_row k r) (place_column k c)

-- OutsideTiles, Padding
unfoldable pub position_of : Pair → Fields → ℤ → ℤ → Result Position Refusal
position_of p k r c = verdict_of k r c >>= (λ _. at_position (latitude_of p k r) (longitude_of p k c))

-- OutsideTiles, Padding, for the pixel found
abbrev pub pixel_at : Fields → ℤ → ℤ → Result Pixel Refusal
pixel_at k r c = verdict_of k r c >>= (λ _. at_pixel r c)

-- Latitude, Longitude, OutsideTiles, Padding
unfoldable pub pixel_of : Pair → Fields → ℤ → ℤ → Result Pixel Refusal
pixel_of p k lat lon =
    if outside quarter lat then Err Refusal.Latitude
    else (if outside half lon then Err Refusal.Longitude
    else pixel_at k (row_of p k lat) (column_of p k lon))

-- ---- a refusal's number and place, and the values, as callers that hand out numbers tell them

abbrev pub position_report : Result Position Refusal → Report
position_report (Ok x) = answered (x.lat ∷ x.lon ∷ [])
position_report (Err r) = refused_with r 2

abbrev pub pixel_report : Result Pixel Refusal → Report
pixel_report (Ok x) = answered (x.row ∷ x.column ∷ [])
pixel_report (Err r) = refused_with r 2
