-- The overview pixel of a chart's pixel, in the corner pair (02, E4, E8). Definitions and claims: the proofs are proofs/Nearest.antt.
--     overview_pixel_of chart overview r c  what the method `overview_pixel` answers
--     apart x angle u                       |angle − u H / x|, times x: how far an angle is from u pixels, x being A or B
--     NearestRow, NearestColumn             no other row, or column, of the grid is as near
--     PixelNearest                          the pixel that a card gives for a position in the corner pair is the nearest
--     OverviewNearest                       so it is with an overview
--     OverviewRefused                       what an overview question is refused with
use Rattle.std.specs.Prelude.{Result, Err}
use Rattle.card.specs.Grid.{at_position, at_pixel}
use Rattle.std.specs.Prelude.{◌≡◌, ◌⊎◌, ℕ, ◌*◌, ◌<◌, ℤ, pos, nat_abs, ◌+ℤ◌, ◌-ℤ◌, ◌*ℤ◌, ◌≤ℤ◌, ◌<ℤ◌}
use Rattle.arc.specs.declared.refusal.Refusal.{Refusal}
use Rattle.whole.specs.Results.{◌>>=◌}
use Rattle.arc.specs.Zones.{circle}
use Rattle.card_text.specs.declared.Fields.{Fields}
use Rattle.card.specs.declared.Pair.{Pair}
use Rattle.card.specs.declared.Pixel.{Pixel}
use Rattle.card_text.specs.Read.{Known}
use Rattle.card.specs.Grid.{place_row, place_column, position_of, pixel_of}

-- the chart's card answers its position, then the overview's card the pixel there, each with its own refusals
unfoldable pub overview_pixel_of : Fields → Fields → ℤ → ℤ → Result Pixel Refusal
overview_pixel_of chart overview r c = do
  x ← position_of Pair.Corner chart r c
  pixel_of Pair.Corner overview x.lat x.lon

-- ---- what is true of it, for any two accepted cards, and so for a chart and an overview of one zone and scale

abbrev pub apart : ℕ → ℤ → ℤ → ℕ
apart x angle u = nat_abs (angle *ℤ pos x -ℤ u *ℤ pos circle)

-- less than half a row away, and every other row is farther
pub record NearestRow (b : ℕ) (lat u : ℤ) : Type 0 where
  pub within : 2 * apart b lat u < circle
  pub nearest : (w : ℤ) → (w ≡ u → ⊥) → apart b lat u < apart b lat w

-- the same round the circle, whose columns are 0 to A − 1: a longitude is compared up to whole circles
pub record NearestColumn (a : ℕ) (lon v : ℤ) : Type 0 where
  pub circles : ℤ
  pub within : 2 * apart a (lon +ℤ circles *ℤ pos circle) v < circle
  pub nearest : (w turns : ℤ) → pos 0 ≤ℤ w → w <ℤ pos a → (w ≡ v → ⊥)
      → apart a (lon +ℤ circles *ℤ pos circle) v < apart a (lon +ℤ turns *ℤ pos circle) w

-- pixel (r, c) of the card k has the nearest place of k's grid to the position
pub record NearestPlace (k : Fields) (lat lon r c : ℤ) : Type 0 where
  pub row : NearestRow k.b lat (place_row k r)
  pub column : NearestColumn k.a lon (place_column k c)

abbrev pub PixelNearest : Type 0
PixelNearest = (k : Fields) → Known k → (lat lon r c : ℤ) → pixel_of Pair.Corner k lat lon ≡ at_pixel r c → NearestPlace k lat lon r c

-- the chart answered a position, and the overview's pixel is the nearest to it
pub record OverviewFound (chart overview : Fields) (r c r' c' : ℤ) : Type 0 where
  pub lat : ℤ
  pub lon : ℤ
  pub position : position_of Pair.Corner chart r c ≡ at_position lat lon
  pub pixel : NearestPlace overview lat lon r' c'

abbrev pub OverviewNearest : Type 0
OverviewNearest =
    (chart overview : Fields) → Known chart → Known overview → (r c r' c' : ℤ)
    → overview_pixel_of chart overview r c ≡ at_pixel r' c' → OverviewFound chart overview r c r' c'

-- the chart answered a position, and the overview refuses that
pub record OverviewRefuses (chart overview : Fields) (r c : ℤ) (e : Refusal) : Type 0 where
  pub lat : ℤ
  pub lon : ℤ
  pub position : position_of Pair.Corner chart r c ≡ at_position lat lon
  pub pixel : pixel_of Pair.Corner overview lat lon ≡ Err e

-- the chart's refusal first, else the overview's; 12 or 13, never 4 or 5
abbrev pub OverviewRefused : Type 0
OverviewRefused =
    (chart overview : Fields) → Known chart → Known overview → (r c : ℤ) (e : Refusal) → overview_pixel_of chart overview r c ≡ Err e
    → ((position_of Pair.Corner chart r c ≡ Err e) ⊎ OverviewRefuses chart overview r c e) × ((e ≡ Refusal.OutsideTiles) ⊎ (e ≡ Refusal.Padding))
