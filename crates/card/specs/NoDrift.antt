-- Demand 3: down any list of accepted cards of one scale, one zone and one factor a pixel's position goes from card to card with no drift,
-- in either pair taken alone (01, "Origins and the zone grid"; 02, E4, E8). The claim is `NoDrift`; the proof is proofs/Chain.antt.
--     HasPlace k u v r c         pixel (r, c) has the place (u, v) of the zone grid
--     TilesHave, ChartHas        a pixel of the card's tiles, of its chart rectangle, has the place
--     Close p a b u v lat lon    the position is within half a hundredth of the exact place, which in the centre pair is the centre
--     Visit, visit               what one later card does
--     visits p lat lon ks        the visits down the list, each with the position last answered
--     NoDrift                    the demand
use Rattle.std.specs.Prelude.{Result, Ok, Err}
use Rattle.card.specs.Grid.{at_position}
use Rattle.std.specs.Prelude.{◌≡◌, true, List, [], ◌∷◌, ◌⊎◌, ℕ, ◌*◌, ◌≤◌, ℤ, pos, nat_abs, ◌+ℤ◌, ◌-ℤ◌, ◌*ℤ◌}
use Rattle.arc.specs.declared.series.Series.{Series}
use Rattle.arc.specs.declared.refusal.Refusal.{Refusal}
use Rattle.arc.specs.Zones.{circle}
use Rattle.card_text.specs.declared.Fields.{Fields}
use Rattle.card.specs.declared.Pair.{Pair}
use Rattle.card.specs.declared.Position.{Position}
use Rattle.card.specs.declared.Pixel.{Pixel}
use Rattle.card_text.specs.Read.{Accepted}
use Rattle.card.specs.Grid.{place_row, place_column, exact_row, exact_column, in_tiles, in_chart, position_of, pixel_of}

pub record HasPlace (k : Fields) (u v r c : ℤ) : Type 0 where
  pub row : place_row k r ≡ u
  pub column : place_column k c ≡ v

-- a rectangle has a place when one of its pixels has it
pub record TilesHave (k : Fields) (u v : ℤ) : Type 0 where
  pub r : ℤ
  pub c : ℤ
  pub within : in_tiles k r c ≡ true
  pub at : HasPlace k u v r c

pub record ChartHas (k : Fields) (u v : ℤ) : Type 0 where
  pub r : ℤ
  pub c : ℤ
  pub within : in_chart k r c ≡ true
  pub at : HasPlace k u v r c

-- |lat − u H / B| ≤ 1 / 2, and |lon + some whole circles − v H / A| ≤ 1 / 2, or the same of the centre, multiplied out
pub record Close (p : Pair) (a b : ℕ) (u v lat lon : ℤ) : Type 0 where
  pub latitude : 2 * nat_abs (lat *ℤ pos b -ℤ exact_row p u) ≤ b
  pub circles : ℤ
  pub longitude : 2 * nat_abs ((lon +ℤ circles *ℤ pos circle) *ℤ pos a -ℤ exact_column p v) ≤ a

-- a later card is asked for the pixel at the position last answered and, where it gives one, for that pixel's position
pub data Visit : Type 0 where
  gave : ℤ → ℤ → Result Position Refusal → Visit
  refused : Refusal → Visit

abbrev pub visit_with : Pair → Fields → Result Pixel Refusal → Visit
visit_with p k (Ok x) = gave x.row x.column (position_of p k x.row x.column)
visit_with p k (Err e) = refused e

abbrev pub visit : Pair → Fields → ℤ → ℤ → Visit
visit p k lat lon = visit_with p k (pixel_of p k lat lon)

-- the position that goes on to the next card: the one last answered
abbrev pub latitude_after : ℤ → Visit → ℤ
latitude_after lat (gave r c (Ok x)) = x.lat
latitude_after lat (gave r c (Err e)) = lat
latitude_after lat (refused e) = lat

abbrev pub longitude_after : ℤ → Visit → ℤ
longitude_after lon (gave r c (Ok x)) = x.lon
longitude_after lon (gave r c (Err e)) = lon
longitude_after lon (refused e) = lon

abbrev pub visits : Pair → ℤ → ℤ → List Fields → List Visit
visits p lat lon [] = []
visits p lat lon (k ∷ ks) =
    visit p k lat lon ∷ visits p (latitude_after lat (visit p k lat lon)) (longitude_after lon (visit p k lat lon)) ks

-- what holds of a visit, (u, v) being the first pixel's place and (lat, lon) its position: a pixel is given only in the chart, at that
-- same place, and its position is the same two numbers; else the chart does not have the place, and the refusal is 12 where no pixel of
-- the card's tiles has it, else 13
abbrev pub Right : ℤ → ℤ → ℤ → ℤ → Fields → Visit → Type 0
Right u v lat lon k (gave r c answer) =
    (in_chart k r c ≡ true) × HasPlace k u v r c × (answer ≡ at_position lat lon)
Right u v lat lon k (refused e) =
    (ChartHas k u v → ⊥) × (((e ≡ Refusal.OutsideTiles) × (TilesHave k u v → ⊥)) ⊎ ((e ≡ Refusal.Padding) × TilesHave k u v))

-- R holds of each card and its visit
abbrev pub Each : (Fields → Visit → Type 0) → List Fields → List Visit → Type 0
Each R [] [] = Unit {0}
Each R [] (x ∷ xs) = ⊥
Each R (k ∷ ks) [] = ⊥
Each R (k ∷ ks) (x ∷ xs) = R k x × Each R ks xs

abbrev pub Every : (Fields → Type 0) → List Fields → Type 0
Every P [] = Unit {0}
Every P (k ∷ ks) = P k × Every P ks

-- the first card answers the pixel's position, close to the exact place, and so it goes down the whole list
pub record NoDriftFrom (p : Pair) (first : Fields) (rest : List Fields) (r c : ℤ) : Type 0 where
  pub lat : ℤ
  pub lon : ℤ
  pub answered : position_of p first r c ≡ at_position lat lon
  pub close : Close p first.a first.b (place_row first r) (place_column first c) lat lon
  pub each : Each (Right (place_row first r) (place_column first c) lat lon) rest (visits p lat lon rest)

-- either pair, any list of one or more accepted cards of one scale, one zone and one factor, and any pixel in the first card's chart rectangle
abbrev pub NoDrift : Type 0
NoDrift =
    (p : Pair) (series : Series) (first : Fields) (rest : List Fields) → Every (Accepted series) (first ∷ rest)
    → (r c : ℤ) → in_chart first r c ≡ true → NoDriftFrom p first rest r c
