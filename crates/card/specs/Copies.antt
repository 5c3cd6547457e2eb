-- What makes two cards copies of one chart as far as any answer goes, and what a stored angle rounded again is worth
-- (01, "Origins and the zone grid"; 02, E8). Definitions and claims; the proof is proofs/Copies.antt, and of AnswerAlike and AlikeExactly proofs/Alike.antt.
--     Copies j k             the same n and m, and the same extents: BAD and TIF may differ
--     Alike p j k            every question on a pixel or a position is answered alike in the pair p
--     AnswerAlike            copies of one scale, zone and factor answer alike
--     AlikeExactly           cards of one series answer alike exactly where their upper left pixels have one place and the extents are the same
--     PlaceAlike             on any two cards of one scale, zone and factor, pixels of one place have one position, and pixels of one position one place
--     SameIn fs s t          s and t have the same bytes in each of the subfields fs
--     BytesAlike             the same bytes in LSO, PSO and the extents make copies
--     Moved y z              the angle z is not y, and is at most two seconds of arc from it
--     RoundedAgain           an angle so moved from a stored angle is that of no tile
--     MovedRefused           a card whose origin is so moved is refused
use Rattle.std.specs.Prelude.{Err}
use Rattle.arc.specs.declared.refusal.Refusal.{Refusal}
use Rattle.std.specs.Prelude.{◌≡◌, true, List, [], ◌∷◌, ◌⊎◌, ◌↔◌, ℕ, ◌≤◌, ℤ, pos, nat_abs, ◌-ℤ◌, length}
use Rattle.std.proofs.Math.Option.{none}
use Rattle.arc.specs.declared.series.Series.{Series}
use Rattle.whole.specs.Results.{◌>>=◌}
use Rattle.arc.specs.Pixels.{Grid}
use Rattle.origin.specs.Origin.{stored_angle}
use Rattle.text.specs.Text.{angle_of}
use Rattle.card_text.specs.declared.Fields.{Fields}
use Rattle.card_text.specs.declared.Fill.{Fill}
use Rattle.card.specs.declared.Pair.{Pair}
use Rattle.card_text.specs.Layout.{STR, ARV, BRV, LSO, PSO, NUL, NUS, NLL, NLS, NFL, NFC, PNC, PNL, COD, ROD, POR, PCB, PVB, BAD, TIF}
use Rattle.card_text.specs.Layout.{Subfield, bytes_of, judge_field, or_else}
use Rattle.card_text.specs.Read.{tile_storing, accepted_card, read_of, Accepted}
use Rattle.card.specs.Grid.{in_chart, extents_of, place_of, position_of, pixel_of, verdict_of}

-- ---- copies

pub record Copies (j k : Fields) : Type 0 where
  pub same_n : j.n ≡ k.n
  pub same_m : j.m ≡ k.m
  pub same_extents : extents_of j ≡ extents_of k

pub record Alike (p : Pair) (j k : Fields) : Type 0 where
  pub place : (r c : ℤ) → place_of j r c ≡ place_of k r c
  pub position : (r c : ℤ) → position_of p j r c ≡ position_of p k r c
  pub pixel : (lat lon : ℤ) → pixel_of p j lat lon ≡ pixel_of p k lat lon
  pub verdict : (r c : ℤ) → verdict_of j r c ≡ verdict_of k r c

abbrev pub AnswerAlike : Type 0
AnswerAlike = (p : Pair) (series : Series) (j k : Fields) → Accepted series j → Accepted series k → Copies j k → Alike p j k

-- the same, in both directions: n is the same and 128m is the same modulo A, so m may also be A/256 on one card and −A/256 on the other
abbrev pub AlikeExactly : Type 0
AlikeExactly =
    (p : Pair) (series : Series) (j k : Fields) → Accepted series j → Accepted series k
    → Alike p j k ↔ ((place_of j (pos 0) (pos 0) ≡ place_of k (pos 0) (pos 0)) × (extents_of j ≡ extents_of k))

-- two cuts, each with its own n, m and extents, and a pixel of each one's chart rectangle
abbrev pub PlaceAlike : Type 0
PlaceAlike =
    (p : Pair) (series : Series) (j k : Fields) → Accepted series j → Accepted series k
    → (r c : ℤ) → in_chart j r c ≡ true → (r' c' : ℤ) → in_chart k r' c' ≡ true
    → place_of j r c ≡ place_of k r' c' ↔ position_of p j r c ≡ position_of p k r' c'

abbrev pub SameIn : List Subfield → List ℕ → List ℕ → Type 0
SameIn [] s t = Unit {0}
SameIn (f ∷ fs) s t = (bytes_of f s ≡ bytes_of f t) × SameIn fs s t

abbrev pub BytesAlike : Type 0
BytesAlike =
    (series : Series) (s t : List ℕ) (j k : Fields) (total total' : ℕ) → read_of series s ≡ accepted_card j total → read_of series t ≡ accepted_card k total'
    → SameIn (LSO ∷ PSO ∷ NUL ∷ NUS ∷ NLL ∷ NLS ∷ NFL ∷ NFC ∷ []) s t → Copies j k

-- ---- stored angles rounded again

-- two seconds of arc are 200 hundredths
pub record Moved (y z : ℤ) : Type 0 where
  pub other : 1 ≤ nat_abs (z -ℤ y)
  pub little : nat_abs (z -ℤ y) ≤ 200

-- x is A or B of any scale, factor and zone, k any tile, and the tiles looked through are those from −t to t
abbrev pub RoundedAgain : Type 0
RoundedAgain = (x : ℕ) → Grid x → (t : ℕ) (k z : ℤ) → Moved (stored_angle x k) z → tile_storing x t z ≡ none

-- every subfield but LSO and PSO
abbrev pub others : List Subfield
others = STR ∷ ARV ∷ BRV ∷ NUL ∷ NUS ∷ NLL ∷ NLS ∷ NFL ∷ NFC ∷ PNC ∷ PNL ∷ COD ∷ ROD ∷ POR ∷ PCB ∷ PVB ∷ BAD ∷ TIF ∷ []

abbrev pub LSOMoved : List ℕ → List ℕ → Type 0
LSOMoved s t = Moved (angle_of 3 (bytes_of LSO s)) (angle_of 3 (bytes_of LSO t))

abbrev pub PSOMoved : List ℕ → List ℕ → Type 0
PSOMoved s t = Moved (angle_of 2 (bytes_of PSO s)) (angle_of 2 (bytes_of PSO t))

-- s is accepted, and t differs from it only in LSO and PSO, one of them so moved: t is refused with 10, or before that with 7 or 8 where
-- its LSO or PSO is not of the right kind or value
abbrev pub MovedRefused : Type 0
MovedRefused =
    (series : Series) (s t : List ℕ) (k : Fields) (total : ℕ) → read_of series s ≡ accepted_card k total
    → length t ≡ length s → SameIn others s t → LSOMoved s t ⊎ PSOMoved s t
    → read_of series t ≡ or_else (judge_field Fill.Blanks LSO t) (judge_field Fill.Blanks PSO t) >>= (λ _. Err Refusal.Origin)
