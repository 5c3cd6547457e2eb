-- The lines of the input and the two numbers of a line. Definitions only.
--     lines_of s          the lines: each ends at a line feed or at the end, and a line feed at the very end starts no further line
--     up_to e s           the bytes before the first e, all where there is none
--     after e s           the bytes after it, none where there is none
--     before_space, after_space    a line's two parts at its first space
--     is_number s         1 to 9 digits
--     short_number s         their number
--     numbers_of l        the two numbers of a line, one space between
use Rattle.std.specs.Prelude.{ℕ, List, [], ◌∷◌, Bool, cond, ◌&&◌, ◌==◌, nat_le, length, Option, Some, None}
use Rattle.text.specs.Text.{is_digit, all, number}
use Rattle.printing.specs.declared.parse.TwoNumbers.{TwoNumbers}

-- b in front of the first line
abbrev pub into_first : ℕ → List (List ℕ) → List (List ℕ)
into_first b [] = (b ∷ []) ∷ []
into_first b (l ∷ ls) = (b ∷ l) ∷ ls

-- 10 is the line feed
unfoldable pub lines_of : List ℕ → List (List ℕ)
lines_of [] = []
lines_of (b ∷ bs) = cond (b == 10) ([] ∷ lines_of bs) (into_first b (lines_of bs))

-- the bytes before the first e
abbrev pub up_to : ℕ → List ℕ → List ℕ
up_to e [] = []
up_to e (b ∷ bs) = cond (b == e) [] (b ∷ up_to e bs)

-- the bytes after the first e
abbrev pub after : ℕ → List ℕ → List ℕ
after e [] = []
after e (b ∷ bs) = cond (b == e) bs (after e bs)

-- 32 is the space
abbrev pub before_space : List ℕ → List ℕ
before_space s = up_to 32 s

abbrev pub after_space : List ℕ → List ℕ
after_space s = after 32 s

abbrev pub is_number : List ℕ → Bool
is_number s = nat_le 1 (length s) && nat_le (length s) 9 && all is_digit s

abbrev pub short_number : List ℕ → Option ℕ
short_number s = cond (is_number s) (Some (number s)) None

abbrev pub both : Option ℕ → Option ℕ → Option TwoNumbers
both (Some x) (Some y) = Some (record { left = x; right = y })
both (Some x) None = None
both None o = None

unfoldable pub numbers_of : List ℕ → Option TwoNumbers
numbers_of l = both (short_number (before_space l)) (short_number (after_space l))
