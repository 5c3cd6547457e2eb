-- What only the code needs: a subfield as it is read, once, and the subfields one after the other. Definitions only; proofs/ tie them to the walk.
--     digits_run s           the number of a run of digits, none where a byte is no digit
--     lead s             how many blanks s starts with, its last byte not among them
--     skip fill s        how many of them are passed over
--     number_as fill s   a number, blanks before it where they may stand; none where it is not laid out as one
--     lead_total s       the blanks that the numbers of a card start with, their last bytes not among them
--     shifted ..         an angle counted from its limit below zero
--     parts_of d s       the four numbers of an angle, none where it is not laid out as one
--     checked ..         a value, its bytes being of the right kind and the value right
--     read_number ..     a subfield as it is read: its value, or the refusal of its kind or of its value
--     read_all fill s    the card as it is read: every value, or the first refusal
--     all_values s        every value
use Rattle.std.specs.Prelude.{ℕ, suc, ◌+◌, ◌-◌, List, [], ◌∷◌, Bool, true, cond, if◌then◌else◌, not, ◌&&◌, eqb, leb, get_or}
use Rattle.std.specs.Prelude.{Option, Some, None, Result, Ok, Err}
use Rattle.whole.specs.Results.{◌>>=◌}
use Rattle.arc.specs.declared.refusal.Refusal.{Refusal}
use Rattle.text.specs.Text.{part, is_digit, all, number, minus, angle_laid, angle_valid, angle_size, degrees, minutes, seconds, hundredths, name_laid, is_flag}
use Rattle.card_text.specs.declared.Extents.{Extents}
use Rattle.card_text.specs.declared.Fill.{Fill}
use Rattle.card_text.specs.declared.subfields.Angle.{Angle}
use Rattle.card_text.specs.declared.subfields.Stated.{Stated}
use Rattle.card_text.specs.declared.subfields.Values.{Values}
use Rattle.card_text.specs.Layout.{number_laid}

abbrev pub digits_run : List ℕ → Option ℕ
digits_run s = if all is_digit s then Some (number s) else None

abbrev pub lead : List ℕ → ℕ
lead [] = 0
lead (b ∷ []) = 0
lead (b ∷ c ∷ bs) = cond (eqb b 32) (suc (lead (c ∷ bs))) 0

abbrev pub skip : Fill → List ℕ → ℕ
skip Fill.Zeros s = 0
skip Fill.Blanks s = lead s

abbrev pub number_as : Fill → List ℕ → Option ℕ
number_as fill s = if number_laid fill s then Some (number s) else None

-- ARV and BRV, NUL and NLL, NUS and NLS, NFL and NFC, PNC and PNL
abbrev pub lead_total : List ℕ → ℕ
lead_total s =
    (lead (part 1 8 s) + lead (part 9 8 s)) + (lead (part 38 6 s) + lead (part 50 6 s)) + (lead (part 44 6 s) + lead (part 56 6 s))
    + (lead (part 62 3 s) + lead (part 65 3 s)) + (lead (part 68 6 s) + lead (part 74 6 s))

-- an angle z of a limit l is held as z + l, and as 0 below −l
abbrev pub shifted : ℕ → Bool → ℕ → ℕ
shifted limit below size = if below then limit - size else limit + size

abbrev pub parts_of : ℕ → List ℕ → Option Angle
parts_of d s =
    if angle_laid d s then Some (record { degrees = degrees d s; minutes = minutes d s; seconds = seconds d s; hundredths = hundredths d s })
    else None

-- ---- one subfield

abbrev pub checked : {A : Type 0} → Bool → Bool → ℕ → A → Result A Refusal
checked kind value at x =
    if not kind then Err (Refusal.Kind at)
    else (if not value then Err (Refusal.Value at)
    else Ok x)

abbrev pub read_number : Fill → ℕ → ℕ → ℕ → ℕ → List ℕ → Result ℕ Refusal
read_number fill o w low high s =
    checked (number_laid fill (part o w s)) (leb low (number (part o w s)) && leb (number (part o w s)) high) o (number (part o w s))

abbrev pub angle_held : ℕ → ℕ → List ℕ → ℕ
angle_held d limit s = shifted limit (minus s) (angle_size d s)

abbrev pub read_angle : ℕ → ℕ → ℕ → List ℕ → Result ℕ Refusal
read_angle o d limit s =
    checked (angle_laid d (part o (d + 8) s)) (angle_valid d limit (part o (d + 8) s)) o (angle_held d limit (part o (d + 8) s))

abbrev pub read_name : ℕ → List ℕ → Result (List ℕ) Refusal
read_name o s = checked (name_laid (part o 12 s)) true o (part o 12 s)

abbrev pub read_flag : ℕ → List ℕ → Result Bool Refusal
read_flag o s = checked true (is_flag (get_or s o 0)) o (eqb (get_or s o 0) 89)

-- ---- one after the other

-- STR ARV BRV LSO PSO
abbrev pub read_stated : Fill → List ℕ → Result Stated Refusal
read_stated fill s = do
  str ← read_number fill 0 1 3 3 s
  arv ← read_number fill 1 8 0 99999999 s
  brv ← read_number fill 9 8 0 99999999 s
  lso ← read_angle 17 3 64800000 s
  pso ← read_angle 28 2 32400000 s
  Ok (record { arv = arv; brv = brv; lso = lso; pso = pso })

abbrev pub read_extents : Fill → List ℕ → Result Extents Refusal
read_extents fill s = do
  nul ← read_number fill 38 6 0 99999999 s
  nus ← read_number fill 44 6 0 99999999 s
  nll ← read_number fill 50 6 0 99999999 s
  nls ← read_number fill 56 6 0 99999999 s
  nfl ← read_number fill 62 3 1 999 s
  nfc ← read_number fill 65 3 1 999 s
  Ok (record { nul = nul; nus = nus; nll = nll; nls = nls; nfl = nfl; nfc = nfc })

-- PNC PNL COD ROD POR PCB PVB
abbrev pub read_sides : Fill → List ℕ → Result (Unit {0}) Refusal
read_sides fill s = do
  pnc ← read_number fill 68 6 128 128 s
  pnl ← read_number fill 74 6 128 128 s
  cod ← read_number fill 80 1 0 0 s
  rod ← read_number fill 81 1 1 1 s
  por ← read_number fill 82 1 0 0 s
  pcb ← read_number fill 83 1 0 0 s
  pvb ← read_number fill 84 1 8 8 s
  Ok tt

abbrev pub read_all : Fill → List ℕ → Result Values Refusal
read_all fill s = do
  stated ← read_stated fill s
  extents ← read_extents fill s
  sides ← read_sides fill s
  bad ← read_name 85 s
  tif ← read_flag 97 s
  Ok (record { stated = stated; extents = extents; bad = bad; tif = tif })

-- ---- the values

abbrev pub stated_of : List ℕ → Stated
stated_of s =
    record {
      arv = number (part 1 8 s);
      brv = number (part 9 8 s);
      lso = angle_held 3 64800000 (part 17 11 s);
      pso = angle_held 2 32400000 (part 28 10 s);
    }

abbrev pub extents_in : List ℕ → Extents
extents_in s =
    record {
      nul = number (part 38 6 s);
      nus = number (part 44 6 s);
      nll = number (part 50 6 s);
      nls = number (part 56 6 s);
      nfl = number (part 62 3 s);
      nfc = number (part 65 3 s);
    }

abbrev pub all_values : List ℕ → Values
all_values s = record { stated = stated_of s; extents = extents_in s; bad = part 85 12 s; tif = eqb (get_or s 97 0) 89 }
