-- Demand 3 (NoDrift), of each later card by itself, in either pair: what it answers is told by the place alone (01, "Origins and the zone grid";
-- 02, E8). Definitions and claims; the proof is proofs/Places.antt.
--     GivesPixel p k lat lon   the card gives a pixel for the position
--     AlongList Q, EachLater P   Q of the later cards, P of each later card, with the place and the position of the first card's pixel
--     OnlyAt k u v r c       the pixel (r, c) has the place, and no other pixel of the card's tiles does
--     GivesWhere, GivesOnly, RefusesWhere   what the three claims say of one later card
--     GivesExactly           a pixel is given exactly where the card's chart rectangle has the place
--     OnlyPixel              it is the only pixel of that card's tiles with the place
--     RefusesExactly         12 exactly where no pixel of the tiles has the place, 13 exactly where one has and none of the chart
--     AskedAlike             the walk asks each later card with the first position itself
use Rattle.std.specs.Prelude.{Err}
use Rattle.arc.specs.declared.refusal.Refusal.{Refusal}
use Rattle.card.specs.Grid.{at_position, at_pixel}
use Rattle.std.specs.Prelude.{◌≡◌, true, List, ◌∷◌, map, ◌↔◌, ℤ}
use Rattle.arc.specs.declared.series.Series.{Series}
use Rattle.card_text.specs.declared.Fields.{Fields}
use Rattle.card.specs.declared.Pair.{Pair}
use Rattle.card_text.specs.Read.{Accepted}
use Rattle.card.specs.Grid.{place_row, place_column, in_tiles, in_chart, position_of, pixel_of}
use Rattle.card.specs.NoDrift.{HasPlace, TilesHave, ChartHas, visit, visits, Every}

pub record GivesPixel (p : Pair) (k : Fields) (lat lon : ℤ) : Type 0 where
  pub r : ℤ
  pub c : ℤ
  pub given : pixel_of p k lat lon ≡ at_pixel r c

-- Q holds of the later cards of any list of accepted cards of one scale, zone and factor, with the place and the position of any pixel in
-- the first card's chart rectangle
abbrev pub AlongList : (Pair → List Fields → ℤ → ℤ → ℤ → ℤ → Type 0) → Type 0
AlongList Q =
    (p : Pair) (series : Series) (first : Fields) (rest : List Fields) → Every (Accepted series) (first ∷ rest)
    → (r c : ℤ) → in_chart first r c ≡ true → (lat lon : ℤ) → position_of p first r c ≡ at_position lat lon
    → Q p rest (place_row first r) (place_column first c) lat lon

-- P holds of each later card
abbrev pub EachLater : (Pair → Fields → ℤ → ℤ → ℤ → ℤ → Type 0) → Type 0
EachLater P = AlongList (λ p rest u v lat lon. Every (λ k. P p k u v lat lon) rest)

-- what is said of the pair p, a later card k, the place (u, v) and the position (lat, lon)
abbrev pub GivesWhere : Pair → Fields → ℤ → ℤ → ℤ → ℤ → Type 0
GivesWhere p k u v lat lon = GivesPixel p k lat lon ↔ ChartHas k u v

abbrev pub OnlyAt : Fields → ℤ → ℤ → ℤ → ℤ → Type 0
OnlyAt k u v r c = HasPlace k u v r c × ((i j : ℤ) → in_tiles k i j ≡ true → HasPlace k u v i j → (i ≡ r) × (j ≡ c))

abbrev pub GivesOnly : Pair → Fields → ℤ → ℤ → ℤ → ℤ → Type 0
GivesOnly p k u v lat lon = (r c : ℤ) → pixel_of p k lat lon ≡ at_pixel r c → OnlyAt k u v r c

abbrev pub RefusesWhere : Pair → Fields → ℤ → ℤ → ℤ → ℤ → Type 0
RefusesWhere p k u v lat lon =
    (pixel_of p k lat lon ≡ Err Refusal.OutsideTiles ↔ (¬ TilesHave k u v))
    × (pixel_of p k lat lon ≡ Err Refusal.Padding ↔ (TilesHave k u v × (¬ ChartHas k u v)))

-- ---- the claims

abbrev pub GivesExactly : Type 0
GivesExactly = EachLater GivesWhere

abbrev pub OnlyPixel : Type 0
OnlyPixel = EachLater GivesOnly

abbrev pub RefusesExactly : Type 0
RefusesExactly = EachLater RefusesWhere

abbrev pub AskedAlike : Type 0
AskedAlike = AlongList (λ p rest u v lat lon. visits p lat lon rest ≡ map (λ k. visit p k lat lon) rest)
