-- What only the code needs: what its functions answer, as its declared types have it. Definitions only.
--     IsUncut e s             there is no e in s
--     opening_for s out       what is printed first, into a buffer of 64 bytes or more; else nothing
--     opening_text o          the same as `opening` answers it
--     opening_left s out      what the buffer then holds
--     Opens o s t r           o is printed into the buffer s, which is t then, and r is answered
--     served s at out         a line starts at the offset, and the buffer has 64 bytes or more
--     text_at k s at out      what is printed for that line; else nothing
--     line_text k s at out    the same as `pixel_line` answers it
--     line_left k s at out    what the buffer then holds
use Rattle.std.specs.Prelude.{◌≡◌, ℕ, Bool, cond, ◌&&◌, List, [], nat_le, nat_lt, length, None}
use Rattle.card_text.specs.declared.Fields.{Fields}
use Rattle.whole.specs.Lists.{over}
use Rattle.printing.specs.Lines.{up_to, after}
use Rattle.printing.specs.Printed.{line_for}
use Rattle.printing.specs.Run.{line_at, Opened, closed, opening_of, goes_on}
use Rattle.printing.specs.declared.OpeningText.{OpeningText}
use Rattle.printing.specs.declared.LineText.{LineText}

pub record IsUncut (e : ℕ) (s : List ℕ) : Type 0 where
  pub whole : up_to e s ≡ s
  pub ended : after e s ≡ []

unfoldable pub opening_for : List ℕ → List ℕ → Opened
opening_for s out = cond (nat_le 64 (length out)) (opening_of s) (closed [] (length s))

abbrev pub opening_text : Opened → OpeningText
opening_text o = record { length = length o.text; next = o.next; read = o.read }

-- what the buffer then holds
abbrev pub opening_left : List ℕ → List ℕ → List ℕ
opening_left s out = over (opening_for s out).text out

-- nothing follows a text of n bytes
abbrev pub stopped : ℕ → ℕ → OpeningText
stopped n end = record { length = n; next = end; read = None }

-- the buffer s is t then, and r is answered
pub record Opens (o : Opened) (s t : List ℕ) (r : OpeningText) : Type 0 where
  pub answer : r ≡ opening_text o
  pub left : t ≡ over o.text s

-- at most 64 KiB, as the program takes it
abbrev pub served : List ℕ → ℕ → List ℕ → Bool
served s at out = nat_le (length s) 65536 && nat_lt at (length s) && nat_le 64 (length out)

unfoldable pub text_at : Fields → List ℕ → ℕ → List ℕ → List ℕ
text_at k s at out = cond (served s at out) (line_for k (line_at s at)) []

unfoldable pub line_text : Fields → List ℕ → ℕ → List ℕ → LineText
line_text k s at out = record { length = length (text_at k s at out); next = goes_on s at out }

-- nothing is printed for a line
abbrev pub no_line : ℕ → LineText
no_line next = record { length = 0; next = next }

abbrev pub line_left : Fields → List ℕ → ℕ → List ℕ → List ℕ
line_left k s at out = over (text_at k s at out) out
