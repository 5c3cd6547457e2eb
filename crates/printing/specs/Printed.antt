-- What the program prints, from input bytes to output bytes. It asks the corner pair. Definitions only.
--     line_for k l       what is printed for a line of row and column
--     printed s          the whole output
use Rattle.std.specs.Prelude.{ℕ, List, [], ◌∷◌, ◌++◌, cond, nat_lt, length, pos, Option, Some, None, Result, Ok, Err}
use Rattle.arc.specs.declared.refusal.Refusal.{Refusal}
use Rattle.arc.specs.Refusals.{refusal_number, refusal_place}
use Rattle.arc.specs.Scales.{chart_series}
use Rattle.card_text.specs.declared.Fields.{Fields}
use Rattle.card.specs.declared.Reading.{Reading}
use Rattle.card.specs.declared.Pair.{Pair}
use Rattle.card.specs.declared.Position.{Position}
use Rattle.text.specs.Text.{bytes, decimal, angle_text}
use Rattle.card.specs.Read.{card_read}
use Rattle.card.specs.Grid.{position_of}
use Rattle.printing.specs.Lines.{lines_of, numbers_of}
use Rattle.printing.specs.declared.parse.TwoNumbers.{TwoNumbers}

abbrev pub header : List ℕ
header = bytes "row column latitude longitude\n"

abbrev pub bad_line : List ℕ
bad_line = bytes "bad line\n"

abbrev pub too_long : List ℕ
too_long = bytes "input too long\n"

-- latitude and longitude in card form
abbrev pub position_text : Position → List ℕ
position_text p = angle_text 2 p.lat ++ bytes " " ++ angle_text 3 p.lon ++ bytes "\n"

-- the position, or "refused" and the number
abbrev pub answer_text : Result Position Refusal → List ℕ
answer_text (Ok p) = position_text p
answer_text (Err e) = bytes "refused " ++ decimal (refusal_number e) ++ bytes "\n"

-- row, column, and the answer
abbrev pub pixel_text : ℕ → ℕ → Result Position Refusal → List ℕ
pixel_text row column a = decimal row ++ bytes " " ++ decimal column ++ bytes " " ++ answer_text a

-- other lines print "bad line"
abbrev pub line_out : Fields → Option TwoNumbers → List ℕ
line_out k (Some p) = pixel_text p.left p.right (position_of Pair.Corner k (pos p.left) (pos p.right))
line_out k None = bad_line

unfoldable pub line_for : Fields → List ℕ → List ℕ
line_for k l = line_out k (numbers_of l)

abbrev pub lines_for : Fields → List (List ℕ) → List ℕ
lines_for k [] = []
lines_for k (l ∷ ls) = line_for k l ++ lines_for k ls

-- a refused card, scale and zone included, prints only "card refused", the number and the place
abbrev pub refusal_text : Refusal → List ℕ
refusal_text e = bytes "card refused " ++ decimal (refusal_number e) ++ bytes " " ++ decimal (refusal_place e) ++ bytes "\n"

abbrev pub card_out : Result Reading Refusal → List (List ℕ) → List ℕ
card_out (Ok r) ls = header ++ lines_for r.card ls
card_out (Err e) ls = refusal_text e

-- a bad first line prints only that; the factor is 1
abbrev pub with_card : Option TwoNumbers → List ℕ → List (List ℕ) → List ℕ
with_card (Some p) card ls = card_out (card_read (chart_series p.left p.right) card) ls
with_card None card ls = bad_line

-- a line with scale and zone, a line with the card, then lines of row and column; no second line prints only "bad line"
abbrev pub run : List (List ℕ) → List ℕ
run [] = bad_line
run (first ∷ []) = bad_line
run (first ∷ card ∷ ls) = with_card (numbers_of first) card ls

-- at most 64 KiB; longer input prints only "input too long"
unfoldable pub printed : List ℕ → List ℕ
printed s = cond (nat_lt 65536 (length s)) too_long (run (lines_of s))
