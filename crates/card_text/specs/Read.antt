-- Reading a card: 1, 17, 1 (02, E4), 2, 3, 6, the subfields left to right with 7 before 8 in each, 9, 10, 11 (01, "Numbers given in refusal").
-- Definitions only.
--     tile_storing x t angle  the whole number from −t to t whose stored angle this is; the angle fixes it
--     card_of ..              the value of a card that is not refused
--     read_as fill series s   what reading answers, whatever may fill the numbers
--     read_of series s        what reading answers: blanks may stand before a number's digits, and the total of them is told (02, E2)
--     read_strict series s    what reading answers where none may: 01 as it stands
--     Accepted, Known         some bytes are read to this card
--     blanks_told x           the total of blanks that reading met, 0 where it refuses
use Rattle.std.specs.Prelude.{◌≡◌, ℕ, ◌+◌, ◌*◌, ◌/◌, List, Bool, false, if◌then◌else◌, not, ◌&&◌, eqb, length, get_or, ℤ, pos, negsuc, neg_ℤ, Result, Ok, Err}
use Rattle.std.proofs.Math.Option.{Option, some, none}
use Rattle.std.proofs.Math.IntN.{suc_ℤ}
use Rattle.whole.specs.Whole.{raise}
use Rattle.whole.specs.Lists.{first_from}
use Rattle.arc.specs.declared.series.Series.{Series}
use Rattle.arc.specs.declared.refusal.Refusal.{Refusal}
use Rattle.arc.specs.declared.series.Spacing.{Spacing}
use Rattle.whole.specs.Results.{◌>>=◌}
use Rattle.arc.specs.Zones.{is_polar}
use Rattle.arc.specs.Spacing.{spacing_of}
use Rattle.origin.specs.Origin.{stored_angle}
use Rattle.card_text.specs.declared.Fields.{Fields}
use Rattle.card_text.specs.declared.Reading.{Reading}
use Rattle.card_text.specs.declared.Fill.{Fill}
use Rattle.text.specs.Text.{number, angle_of}
use Rattle.card_text.specs.Layout.{Subfield, ARV, BRV, LSO, PSO, NUL, NUS, NLL, NLS, NFL, NFC, BAD, TIF, layout, bytes_of, walk}
use Rattle.card_text.specs.Blanks.{total_blanks}
use Rattle.card_text.specs.Extents.{extents_hold}

abbrev pub equal_ℤ : ℤ → ℤ → Bool
equal_ℤ (pos m) (pos n) = eqb m n
equal_ℤ (pos m) (negsuc n) = false
equal_ℤ (negsuc m) (pos n) = false
equal_ℤ (negsuc m) (negsuc n) = eqb m n

abbrev pub tile_storing : ℕ → ℕ → ℤ → Option ℤ
tile_storing x t angle = first_from suc_ℤ (λ k. equal_ℤ (stored_angle x k) angle) (neg_ℤ (pos t)) (2 * t + 1)

-- the values of the subfields
abbrev pub number_in : Subfield → List ℕ → ℕ
number_in f s = number (bytes_of f s)

-- north and east: 128 n and 128 m counted from the South Pole and from 180° west
unfoldable pub card_of : Series → ℕ → ℕ → ℤ → ℤ → List ℕ → Fields
card_of series a b n m s =
    record {
      series = series;
      a = a;
      b = b;
      n = n;
      m = m;
      nul = number_in NUL s;
      nus = number_in NUS s;
      nll = number_in NLL s;
      nls = number_in NLS s;
      nfl = number_in NFL s;
      nfc = number_in NFC s;
      bad = bytes_of BAD s;
      tif = eqb (get_or (bytes_of TIF s) 0 0) 89;
      north = 128 * raise (b / 512) n;
      east = 128 * raise (a / 256) m;
    }

-- and so many blanks were met
abbrev pub accepted_card : Fields → ℕ → Result Reading Refusal
accepted_card k total = Ok (record { fields = k; blanks = total })

-- 11
abbrev pub with_extents : Fields → ℕ → Result Reading Refusal
with_extents k total =
    if not (extents_hold k.a k.b k.n k.nul k.nus k.nll k.nls k.nfl k.nfc) then Err Refusal.Extent
    else accepted_card k total

-- 10, 11
abbrev pub with_origin : Series → ℕ → ℕ → List ℕ → Option ℤ → Option ℤ → Result Reading Refusal
with_origin series a b s (some n) (some m) = with_extents (card_of series a b n m s) (total_blanks layout s)
with_origin series a b s (some n) none = Err Refusal.Origin
with_origin series a b s none m = Err Refusal.Origin

-- 9, 10, 11
unfoldable pub with_values : Series → ℕ → ℕ → List ℕ → Result Reading Refusal
with_values series a b s =
    if not (eqb (number_in ARV s) a && eqb (number_in BRV s) b) then Err Refusal.Spacing
    else with_origin series a b s (tile_storing b (b / 512) (angle_of 2 (bytes_of PSO s))) (tile_storing a (a / 256) (angle_of 3 (bytes_of LSO s)))

-- 3, 6, then 7, 8, then these
unfoldable pub read_in : Fill → Series → Spacing → List ℕ → Result Reading Refusal
read_in fill series x s =
    if is_polar series.zone then Err Refusal.Polar
    else (if not (eqb (length s) 98) then Err Refusal.Length
    else walk fill layout s >>= (λ _. with_values series x.a x.b s))

-- 1, 17, 1, 2, then these
abbrev pub read_as : Fill → Series → List ℕ → Result Reading Refusal
read_as fill series s = do
  x ← spacing_of series
  read_in fill series x s

abbrev pub read_of : Series → List ℕ → Result Reading Refusal
read_of series s = read_as Fill.Blanks series s

abbrev pub read_strict : Series → List ℕ → Result Reading Refusal
read_strict series s = read_as Fill.Zeros series s

-- a card is accepted when reading does not refuse it (01, "Origins and the zone grid")
pub record Accepted (series : Series) (k : Fields) : Type 0 where
  pub bytes : List ℕ
  pub blanks : ℕ
  pub read : read_of series bytes ≡ accepted_card k blanks

-- some accepted card gives the value
pub record Known (k : Fields) : Type 0 where
  pub series : Series
  pub is_read : Accepted series k

-- 0 in a refusal
abbrev pub blanks_told : Result Reading Refusal → ℕ
blanks_told (Ok x) = x.blanks
blanks_told (Err r) = 0
