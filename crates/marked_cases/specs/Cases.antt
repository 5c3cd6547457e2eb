-- The twelve cases marked P (01, "Figures on both sides of each edge"), the factor being 1 and the pixel case in the corner pair (02, E8). A claim:
-- the proof is proofs/AllHold.antt.
--     Case               what the definitions give, and what document 01 states
--     AllAs cs           in each case the two are the same
--     card               the bytes of document 01's card, as its two parts
--     cases              the list
use Rattle.std.specs.Prelude.{◌≡◌, List, [], ◌∷◌, ◌++◌, map, length, ℕ, ℤ, pos, neg_ℤ, Result, Ok, Err}
use Rattle.whole.specs.Lists.{padded}
use Rattle.whole.specs.Results.{◌>>=◌}
use Rattle.arc.specs.declared.refusal.Refusal.{Refusal}
use Rattle.arc.specs.Scales.{chart_series}
use Rattle.arc.specs.Spacing.{spacing_of, rows_of}
use Rattle.zones.specs.Basic.{basic_zone_of}
use Rattle.zones.specs.Cover.{cover_of}
use Rattle.origin.specs.Origin.{stored_angle}
use Rattle.text.specs.Text.{bytes}
use Rattle.card_text.specs.Read.{read_of}
use Rattle.card.specs.declared.Pair.{Pair}
use Rattle.card.specs.Grid.{position_of}

pub record Case : Type 0 where
  pub found : List ℤ
  pub stated : List ℤ

abbrev pub AllAs : List Case → Type 0
AllAs [] = Unit {0}
AllAs (c ∷ cs) = (c.found ≡ c.stated) × AllAs cs

abbrev pub case : List ℤ → List ℤ → Case
case found stated = record { found = found; stated = stated }

abbrev pub card : List ℕ
card =
    bytes "30036966400400384-0022935.07+113032.23000000000127000255000000002001000128000128"
    ++ bytes "01008BASE0101.IMGN"

-- what is answered, as a list of numbers: nothing of a refusal
abbrev pub numbers : {A : Type 0} → (A → List ℤ) → Result A Refusal → List ℤ
numbers f (Ok x) = f x
numbers f (Err e) = []

-- the length of a cover list, and the list in its six slots
abbrev pub cover : ℕ → ℤ → List ℤ
cover scale lat = numbers (λ v. map pos (length v ∷ padded 6 v)) (cover_of scale 1 lat)

abbrev pub zone : ℤ → List ℤ
zone lat = numbers (λ z. pos z ∷ []) (basic_zone_of lat)

abbrev pub a_of : ℕ → ℕ → List ℤ
a_of scale zone = numbers (λ x. pos x.a ∷ []) (spacing_of (chart_series scale zone))

abbrev pub b_of : ℕ → List ℤ
b_of scale = numbers (λ b. pos b ∷ []) (rows_of scale 1)

-- the stored angles of n and of m
abbrev pub stored_row : ℤ → List ℤ
stored_row n = numbers (λ x. stored_angle x.b n ∷ []) (spacing_of (chart_series 1000000 1))

abbrev pub stored_column : ℤ → List ℤ
stored_column m = numbers (λ x. stored_angle x.a m ∷ []) (spacing_of (chart_series 1000000 1))

abbrev pub cases : List Case
cases =
    -- 1:50,000 zone 1 has A 7,393,280
    case (a_of 50000 1) (pos 7393280 ∷ []) ∷
    -- 1:250,000 zone 5 has A 653,312
    case (a_of 250000 5) (pos 653312 ∷ []) ∷
    -- 1:75,000 has B 5,338,624
    case (b_of 75000) (pos 5338624 ∷ []) ∷
    -- 1:1,250,000 has B 320,512
    case (b_of 1250000) (pos 320512 ∷ []) ∷
    -- latitudes 11,519,999 and 11,520,000 are zones 1 and 2
    case (zone (pos 11519999) ++ zone (pos 11520000)) (pos 1 ∷ pos 2 ∷ []) ∷
    -- 0 and −1 are zones 1 and 10
    case (zone (pos 0) ++ zone (neg_ℤ (pos 1))) (pos 1 ∷ pos 10 ∷ []) ∷
    -- 28,799,999 and 28,800,000 are zones 8 and 9
    case (zone (pos 28799999) ++ zone (pos 28800000)) (pos 8 ∷ pos 9 ∷ []) ∷
    -- at 1:1,000,000, 11,851,457 is covered by 2, 1 and 11,851,458 by 2 only
    case (cover 1000000 (pos 11851457) ++ cover 1000000 (pos 11851458))
    (map pos (2 ∷ 2 ∷ 1 ∷ 0 ∷ 0 ∷ 0 ∷ 0 ∷ 1 ∷ 2 ∷ 0 ∷ 0 ∷ 0 ∷ 0 ∷ 0 ∷ [])) ∷
    -- at 1:5,000,000, 27,360,000 is covered by 8, 7, 6
    case (cover 5000000 (pos 27360000)) (map pos (3 ∷ 8 ∷ 7 ∷ 6 ∷ 0 ∷ 0 ∷ 0 ∷ [])) ∷
    -- at 1:1,000,000 zone 1, n = 100 stores 4,143,223
    case (stored_row (pos 100)) (pos 4143223 ∷ []) ∷
    -- m = −20 stores −897,507
    case (stored_column (neg_ℤ (pos 20))) (neg_ℤ (pos 897507) ∷ []) ∷
    -- the card's pixel (1, 1) is 4,142,899 and −897,156
    case (numbers (λ x. x.lat ∷ x.lon ∷ []) (read_of (chart_series 1000000 1) card >>= (λ x. position_of Pair.Corner x.fields (pos 1) (pos 1))))
    (pos 4142899 ∷ neg_ℤ (pos 897156) ∷ []) ∷
    []

-- the statement
abbrev pub MarkedCases : Type 0
MarkedCases = AllAs cases
