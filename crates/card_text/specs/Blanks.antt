-- The total of blanks before the digits of a card's numbers. Definitions only.
--     total_blanks layout s       the total of blanks that the numbers start with; an accepted card has none in a subfield of one digit
use Rattle.std.specs.Prelude.{ℕ, ◌+◌, List, [], ◌∷◌}
use Rattle.text.specs.Text.{blanks}
use Rattle.card_text.specs.Layout.{Kind, Subfield, bytes_of}

-- angles, BAD and TIF have none
abbrev pub blanks_of : Kind → List ℕ → ℕ
blanks_of (Kind.Number low high) s = blanks s
blanks_of (Kind.Angle d limit) s = 0
blanks_of Kind.Name s = 0
blanks_of Kind.Flag s = 0

unfoldable pub blanks_in : Subfield → List ℕ → ℕ
blanks_in f s = blanks_of f.kind (bytes_of f s)

abbrev pub total_blanks : List Subfield → List ℕ → ℕ
total_blanks [] s = 0
total_blanks (f ∷ fs) s = blanks_in f s + total_blanks fs s
