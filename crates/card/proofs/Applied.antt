-- Demand 3 says something: document 01's own card and another of its scale and zone, two at 1:5,000, and two overviews of factor 16 are
-- accepted, and positions go from card to card, also past a refusal; a pixel of 01's card has one on an overview. Every test is computed,
-- and the tiles are those that store the angles. Assumes nothing.
use Rattle.card.specs.Grid.{at_position, at_pixel}
use mathlib.Core.Path.{◌≡◌, refl}
use mathlib.Core.List.{List, [] as []ᴸ, ◌∷◌ as ◌∷ᴸ◌}
use Prim.Native.Nat.{ℕ}
use Prim.Native.Char.{code}
use Prim.Native.String.{String, [], ◌∷◌}
use lib.IntN.{ℤ, pos, negsuc}
use Rattle.whole.specs.Whole.{floor_div, ceil_div, nearest, modulo}
use Rattle.arc.specs.declared.refusal.Refusal.{Refusal}
use Rattle.arc.specs.declared.series.Series.{Series}
use Rattle.arc.specs.Scales.{chart_series}
use Rattle.arc.specs.Pixels.{spacing_at}
use Rattle.origin.specs.Origin.{stored_angle}
use Rattle.card_text.specs.declared.Fields.{Fields}
use Rattle.card.specs.declared.Pair.{Pair}
use Rattle.text.specs.Text.{number, angle_laid, degrees, minutes, seconds, hundredths, angle_size, angle_of, angle_valid, name_laid}
use Rattle.card_text.specs.Layout.{layout, judge_field}
use Rattle.card_text.specs.Extents.{extents_hold}
use Rattle.card_text.specs.Read.{card_of, Accepted}
use Rattle.card.specs.Grid.{latitude_of, longitude_of, row_of, column_of, position_of, pixel_of}
use Rattle.card.specs.Overview.{overview_pixel_of}
use Rattle.card.specs.NoDrift.{Visit, gave, refused, visits, NoDriftFrom}
use Rattle.card_text.proofs.Acceptance.{bytes-accepted}
use Rattle.card.proofs.Chain.{no-drift}

abbrev bytes : String → List ℕ
bytes [] = []ᴸ
bytes (c ∷ s) = code c ∷ᴸ bytes s

-- 01, "The printing program": n = 100, m = −20
abbrev paper : List ℕ
paper = bytes "30036966400400384-0022935.07+113032.2300000000012700025500000000200100012800012801008BASE0101.IMGN"

-- a tile north and a tile west of it, with padding all round
abbrev beside : List ℕ
beside = bytes "30036966400400384-0023703.82+113726.5500006400019100031900006400300200012800012801008BASE0102.IMGY"

-- the same two at 1:5,000, with 312,801 and 577,601 tiles to look through
abbrev town : List ℕ
town = bytes "37393280080076800-0000044.88+000327.1600000000012700025500000000200100012800012801008TOWN0101.IMGN"

abbrev town_beside : List ℕ
town_beside = bytes "37393280080076800-0000047.12+000329.2300006400019100031900006400300200012800012801008TOWN0102.IMGY"

-- over all of document 01's card, and another cut of that
abbrev over : List ℕ
over = bytes "30002355200025088-0035446.96+125125.7100000000025500025500000000200200012800012801008OVER0101.IMGN"

abbrev over_beside : List ℕ
over_beside = bytes "30002355200025088-0055210.43+144137.9600006400031900031900006400300300012800012801008OVER0102.IMGY"

abbrev paper_series : Series
paper_series = chart_series 1000000 1

abbrev town_series : Series
town_series = chart_series 5000 1

abbrev over_series : Series
over_series = record { scale = 1000000; factor = 16; zone = 1 }

abbrev paper_card : Fields
paper_card = card_of paper_series 369664 400384 (pos 100) (negsuc 19) paper

abbrev beside_card : Fields
beside_card = card_of paper_series 369664 400384 (pos 101) (negsuc 20) beside

abbrev town_card : Fields
town_card = card_of town_series 73932800 80076800 (pos 100) (negsuc 19) town

abbrev town_beside_card : Fields
town_beside_card = card_of town_series 73932800 80076800 (pos 101) (negsuc 20) town_beside

abbrev over_card : Fields
over_card = card_of over_series 23552 25088 (pos 7) (negsuc 1) over

abbrev over_beside_card : Fields
over_beside_card = card_of over_series 23552 25088 (pos 8) (negsuc 2) over_beside

pub all-accepted : (Accepted paper_series paper_card × Accepted paper_series beside_card)
    × (Accepted town_series town_card × Accepted town_series town_beside_card)
    × (Accepted over_series over_card × Accepted over_series over_beside_card)
unfolding spacing_at ceil_div floor_div nearest stored_angle number angle_laid degrees minutes seconds hundredths angle_size angle_of angle_valid
    name_laid layout judge_field extents_hold
all-accepted = (
  (
    bytes-accepted paper_series 369664 400384 (pos 100) (negsuc 19) paper refl refl refl refl refl refl refl refl refl refl refl,
    bytes-accepted paper_series 369664 400384 (pos 101) (negsuc 20) beside refl refl refl refl refl refl refl refl refl refl refl,
  ),
  (
    bytes-accepted town_series 73932800 80076800 (pos 100) (negsuc 19) town refl refl refl refl refl refl refl refl refl refl refl,
    bytes-accepted town_series 73932800 80076800 (pos 101) (negsuc 20) town_beside refl refl refl refl refl refl refl refl refl refl refl,
  ),
  (
    bytes-accepted over_series 23552 25088 (pos 7) (negsuc 1) over refl refl refl refl refl refl refl refl refl refl refl,
    bytes-accepted over_series 23552 25088 (pos 8) (negsuc 2) over_beside refl refl refl refl refl refl refl refl refl refl refl,
  ),
)

-- ---- the demand, from each card's pixels over the other and back

pub paper-walked : (p : Pair) → NoDriftFrom p paper_card (beside_card ∷ᴸ paper_card ∷ᴸ []ᴸ) (pos 0) (pos 0)
    × NoDriftFrom p paper_card (beside_card ∷ᴸ paper_card ∷ᴸ []ᴸ) (pos 200) (pos 100)
unfolding card_of number
paper-walked p =
    let go = no-drift p paper_series paper_card (beside_card ∷ᴸ paper_card ∷ᴸ []ᴸ) (all-accepted.0.0, (all-accepted.0.1, (all-accepted.0.0, tt))) in
    (go (pos 0) (pos 0) refl, go (pos 200) (pos 100) refl)

pub beside-walked : (p : Pair) → NoDriftFrom p beside_card (paper_card ∷ᴸ beside_card ∷ᴸ []ᴸ) (pos 64) (pos 64)
unfolding card_of number
beside-walked p =
    no-drift p paper_series beside_card (paper_card ∷ᴸ beside_card ∷ᴸ []ᴸ)
    (all-accepted.0.1, (all-accepted.0.0, (all-accepted.0.1, tt))) (pos 64) (pos 64) refl

pub town-walked : (p : Pair) → NoDriftFrom p town_card (town_beside_card ∷ᴸ town_card ∷ᴸ []ᴸ) (pos 1) (pos 1)
unfolding card_of number
town-walked p =
    no-drift p town_series town_card (town_beside_card ∷ᴸ town_card ∷ᴸ []ᴸ)
    (all-accepted.1.0, (all-accepted.1.1, (all-accepted.1.0, tt))) (pos 1) (pos 1) refl

pub over-walked : (p : Pair) → NoDriftFrom p over_card (over_beside_card ∷ᴸ over_card ∷ᴸ []ᴸ) (pos 94) (pos 35)
unfolding card_of number
over-walked p =
    no-drift p over_series over_card (over_beside_card ∷ᴸ over_card ∷ᴸ []ᴸ)
    (all-accepted.2.0, (all-accepted.2.1, (all-accepted.2.0, tt))) (pos 94) (pos 35) refl

-- ---- the same walks, computed: a pixel each time; 13, then a pixel; 12, then a pixel

abbrev gives : ℤ → ℤ → ℤ → ℤ → Visit
gives r c lat lon = gave r c (at_position lat lon)

-- over another card and back, from the position of a first card's pixel
abbrev both-give : Pair → Fields → ℤ → ℤ → Fields → ℤ → ℤ → ℤ → ℤ → Type 0
both-give p first r c other r' c' lat lon =
    (position_of p first r c ≡ at_position lat lon)
    × (visits p lat lon (other ∷ᴸ first ∷ᴸ []ᴸ) ≡ gives r' c' lat lon ∷ᴸ gives r c lat lon ∷ᴸ []ᴸ)

abbrev one-refuses : Pair → Fields → ℤ → ℤ → Fields → Refusal → ℤ → ℤ → Type 0
one-refuses p first r c other e lat lon =
    (position_of p first r c ≡ at_position lat lon)
    × (visits p lat lon (other ∷ᴸ first ∷ᴸ []ᴸ) ≡ refused e ∷ᴸ gives r c lat lon ∷ᴸ []ᴸ)

pub corner-visits : both-give Pair.Corner paper_card (pos 0) (pos 0) beside_card (pos 128) (pos 128) (pos 4143223) (negsuc 897506)
    × one-refuses Pair.Corner paper_card (pos 200) (pos 100) beside_card Refusal.Padding (pos 4078485) (negsuc 862447)
    × one-refuses Pair.Corner beside_card (pos 64) (pos 64) paper_card Refusal.OutsideTiles (pos 4163939) (negsuc 919944)
    × both-give Pair.Corner town_card (pos 1) (pos 1) town_beside_card (pos 129) (pos 129) (pos 20714) (negsuc 4485)
    × both-give Pair.Corner over_card (pos 94) (pos 35) over_beside_card (pos 222) (pos 163) (pos 4142985) (negsuc 1216100)
unfolding card_of number floor_div nearest modulo latitude_of longitude_of row_of column_of position_of pixel_of
corner-visits = ((refl, refl), (refl, refl), (refl, refl), (refl, refl), (refl, refl))

pub centre-visits : both-give Pair.Centre paper_card (pos 0) (pos 0) beside_card (pos 128) (pos 128) (pos 4143061) (negsuc 897331)
    × one-refuses Pair.Centre paper_card (pos 200) (pos 100) beside_card Refusal.Padding (pos 4078323) (negsuc 862272)
    × one-refuses Pair.Centre beside_card (pos 64) (pos 64) paper_card Refusal.OutsideTiles (pos 4163777) (negsuc 919768)
    × both-give Pair.Centre town_card (pos 1) (pos 1) town_beside_card (pos 129) (pos 129) (pos 20714) (negsuc 4484)
    × both-give Pair.Centre over_card (pos 94) (pos 35) over_beside_card (pos 222) (pos 163) (pos 4140402) (negsuc 1213348)
unfolding card_of number floor_div nearest modulo latitude_of longitude_of row_of column_of position_of pixel_of
centre-visits = ((refl, refl), (refl, refl), (refl, refl), (refl, refl), (refl, refl))

-- the overview pixel of the worked example's third
pub overviewed : overview_pixel_of paper_card over_card (pos 255) (pos 127) ≡ at_pixel (pos 110) (pos 101)
unfolding card_of number floor_div nearest modulo latitude_of longitude_of row_of column_of position_of pixel_of overview_pixel_of
overviewed = refl
