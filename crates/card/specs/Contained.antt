-- The pixel that contains a position, in the centre pair (02, E8). Definitions and claims; the proof is proofs/Containing.antt.
--     north_edge k r, west_edge k c  a pixel's north edge, times B, and its west edge, times A
--     Contains k r c lat lon         a pixel contains a position: its north and west edges belong to it, its south and east edges do not
--     TilesContain, ChartContains    a pixel of the card's tiles, of its chart rectangle, contains the position
--     FoundContains                  a pixel is given exactly where it is one of the chart and contains the position
--     RefusedContains                12 exactly where no pixel of the tiles contains the position, 13 exactly where one does and none of the chart
--     InsideItsPixel k r c           the position answered for a pixel lies in that pixel, and asked back it gives that pixel
--     CentreInside                   so it is with every pixel of the chart of every accepted card
--     AskedBack                      in either pair a position asked back gives its pixel
use Rattle.std.specs.Prelude.{Err}
use Rattle.arc.specs.declared.refusal.Refusal.{Refusal}
use Rattle.card.specs.Grid.{at_position, at_pixel}
use Rattle.std.specs.Prelude.{◌≡◌, true, false, ◌↔◌, ℤ, pos, ◌+ℤ◌, ◌*ℤ◌, ◌≤ℤ◌, ◌<ℤ◌}
use Rattle.whole.specs.Whole.{outside}
use Rattle.arc.specs.Zones.{circle, half, quarter}
use Rattle.card_text.specs.declared.Fields.{Fields}
use Rattle.card.specs.declared.Pair.{Pair}
use Rattle.card_text.specs.Read.{Known}
use Rattle.card.specs.Grid.{place_row, grid_column, in_tiles, in_chart, position_of, pixel_of}

-- (128n − r)H/B, times B, and (128m + c)H/A, times A
abbrev pub north_edge : Fields → ℤ → ℤ
north_edge k r = place_row k r *ℤ pos circle

abbrev pub west_edge : Fields → ℤ → ℤ
west_edge k c = grid_column k c *ℤ pos circle

-- the south edge is the next row's north edge, the east edge the next column's west edge; a longitude is compared up to whole circles
pub record Contains (k : Fields) (r c lat lon : ℤ) : Type 0 where
  pub north : (lat *ℤ pos k.b) ≤ℤ north_edge k r
  pub south : north_edge k (r +ℤ pos 1) <ℤ (lat *ℤ pos k.b)
  pub circles : ℤ
  pub west : west_edge k c ≤ℤ ((lon +ℤ circles *ℤ pos circle) *ℤ pos k.a)
  pub east : ((lon +ℤ circles *ℤ pos circle) *ℤ pos k.a) <ℤ west_edge k (c +ℤ pos 1)

pub record TilesContain (k : Fields) (lat lon : ℤ) : Type 0 where
  pub r : ℤ
  pub c : ℤ
  pub within : in_tiles k r c ≡ true
  pub inside : Contains k r c lat lon

pub record ChartContains (k : Fields) (lat lon : ℤ) : Type 0 where
  pub r : ℤ
  pub c : ℤ
  pub within : in_chart k r c ≡ true
  pub inside : Contains k r c lat lon

-- ---- the claims: any accepted card, any position in range

abbrev pub FoundContains : Type 0
FoundContains =
    (k : Fields) → Known k → (lat lon : ℤ) → outside quarter lat ≡ false → outside half lon ≡ false
    → (r c : ℤ) → pixel_of Pair.Centre k lat lon ≡ at_pixel r c ↔ ((in_chart k r c ≡ true) × Contains k r c lat lon)

abbrev pub RefusedContains : Type 0
RefusedContains =
    (k : Fields) → Known k → (lat lon : ℤ) → outside quarter lat ≡ false → outside half lon ≡ false
    → (pixel_of Pair.Centre k lat lon ≡ Err Refusal.OutsideTiles ↔ (¬ TilesContain k lat lon))
    × (pixel_of Pair.Centre k lat lon ≡ Err Refusal.Padding ↔ (TilesContain k lat lon × (¬ ChartContains k lat lon)))

pub record InsideItsPixel (k : Fields) (r c : ℤ) : Type 0 where
  pub lat : ℤ
  pub lon : ℤ
  pub answered : position_of Pair.Centre k r c ≡ at_position lat lon
  pub inside : Contains k r c lat lon
  pub back : pixel_of Pair.Centre k lat lon ≡ at_pixel r c

abbrev pub CentreInside : Type 0
CentreInside = (k : Fields) → Known k → (r c : ℤ) → in_chart k r c ≡ true → InsideItsPixel k r c

abbrev pub AskedBack : Type 0
AskedBack =
    (p : Pair) (k : Fields) → Known k → (r c lat lon : ℤ) → position_of p k r c ≡ at_position lat lon → pixel_of p k lat lon ≡ at_pixel r c
