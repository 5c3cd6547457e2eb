-- A run: what is printed first, and then a line at a time, and where it goes on. Definitions, and the claims they are held to, which src/laws.rt states.
--     line_at s at       the line that starts at an offset
--     next_at s at       where the next line starts
--     opening_of s       what is printed before any line of row and column, and where those start; where none follow, the end of the input
--     opening_blanks o        the total of blanks met in reading the card, 0 where none was read; nothing is printed of it
--     goes_on s at out   where a caller of `pixel_line` goes on
--     from_on k s at n   the texts of the lines from an offset on, put together, n being no less than their count
--     run_of s           the texts of `opening` and of `pixel_line`, put together, in a run whose buffers have room
--     RunPrints          a run prints what is to be printed
--     RunEnds            a run with buffers of 64 bytes or more ends: it goes on above the offset wherever a line starts
--     NeverBack          a caller never goes on below the offset
use Rattle.std.specs.Prelude.{◌≡◌, ℕ, zero, suc, ◌+◌, ◌≤◌, ◌<◌, List, [], ◌++◌, cond, nat_lt, nat_le, length, drop, Option, Some, None, Result, Ok, Err}
use Rattle.arc.specs.declared.refusal.Refusal.{Refusal}
use Rattle.arc.specs.Scales.{chart_series}
use Rattle.card_text.specs.declared.Fields.{Fields}
use Rattle.card.specs.declared.Reading.{Reading}
use Rattle.card.specs.Read.{card_read}
use Rattle.printing.specs.Lines.{up_to, numbers_of}
use Rattle.printing.specs.Printed.{header, bad_line, too_long, line_for, refusal_text, printed}
use Rattle.printing.specs.declared.parse.TwoNumbers.{TwoNumbers}

-- up to the line feed
abbrev pub first_line : List ℕ → List ℕ
first_line s = up_to 10 s

abbrev pub line_at : List ℕ → ℕ → List ℕ
line_at s at = first_line (drop at s)

abbrev pub next_at : List ℕ → ℕ → ℕ
next_at s at = at + length (line_at s at) + 1

-- the text; from where lines follow, and the card that they ask of with the total of blanks met in reading it
pub record Opened : Type 0 where
  pub text : List ℕ
  pub next : ℕ
  pub read : Option Reading

-- no line follows: the next one would start at the end of the input
abbrev pub closed : List ℕ → ℕ → Opened
closed text end = record { text = text; next = end; read = None }

abbrev pub opened_with : Result Reading Refusal → ℕ → ℕ → Opened
opened_with (Ok r) next end = record { text = header; next = next; read = Some r }
opened_with (Err e) next end = closed (refusal_text e) end

abbrev pub opened_card : Option TwoNumbers → List ℕ → ℕ → ℕ → Opened
opened_card (Some p) card next end = opened_with (card_read (chart_series p.left p.right) card) next end
opened_card None card next end = closed bad_line end

-- no second line where the first one reaches the end of the input
unfoldable pub opening_of : List ℕ → Opened
opening_of s =
    cond (nat_lt 65536 (length s)) (closed too_long (length s))
    (cond (nat_le (length s) (next_at s 0)) (closed bad_line (length s))
    (opened_card (numbers_of (line_at s 0)) (line_at s (next_at s 0)) (next_at s (next_at s 0)) (length s)))

abbrev pub opening_blanks : Option Reading → ℕ
opening_blanks (Some r) = r.blanks
opening_blanks None = 0

-- past the input, at the offset itself; in an input above 64 KiB, at its end; with room in the buffer, after the line; else at the line again
unfoldable pub goes_on : List ℕ → ℕ → List ℕ → ℕ
goes_on s at out =
    cond (nat_le (length s) at) at
    (cond (nat_lt 65536 (length s)) (length s)
    (cond (nat_le 64 (length out)) (next_at s at) at))

abbrev pub from_on : Fields → List ℕ → ℕ → ℕ → List ℕ
from_on k s at zero = []
from_on k s at (suc n) = cond (nat_lt at (length s)) (line_for k (line_at s at) ++ from_on k s (next_at s at) n) []

-- the lines of a card that was read
abbrev pub lines_from : Option Reading → List ℕ → ℕ → List ℕ
lines_from (Some r) s next = from_on r.card s next (length s)
lines_from None s next = []

abbrev pub run_from : Opened → List ℕ → List ℕ
run_from o s = o.text ++ lines_from o.read s o.next

abbrev pub run_of : List ℕ → List ℕ
run_of s = run_from (opening_of s) s

abbrev pub RunPrints : Type 0
RunPrints = (s : List ℕ) → run_of s ≡ printed s

abbrev pub RunEnds : Type 0
RunEnds = (s : List ℕ) (at : ℕ) (out : List ℕ) → at < length s → 64 ≤ length out → at < goes_on s at out

abbrev pub NeverBack : Type 0
NeverBack = (s : List ℕ) (at : ℕ) (out : List ℕ) → at ≤ goes_on s at out
