-- Text put at an offset of a lent buffer, and digits as they are read. Definitions only.
--     splice o x s       s with x at offset o
--     has_room x o s     x fits at offset o of s
--     put_at x o s       s with x at offset o, where x fits there; else s as it was
--     end_of x o s       where x then ends; else the offset itself, nothing being put
--     readable s         up to 17 bytes, each a digit
--     summed v s         the bytes s written after a number v, each less 48 and, below 48, 256 more; of digits it is their number
--     digits_in s        the number of a run of up to 17 digits; else what its bytes sum to, 0 for a longer run
use Rattle.std.specs.Prelude.{ℕ, ◌+◌, ◌*◌, ◌%◌, Bool, cond, ◌&&◌, List, [], ◌∷◌, ◌++◌, length, take, drop, nat_le, Result, Ok, Err}
use Rattle.text.specs.declared.NotDigits.{NotDigits}
use Rattle.text.specs.Text.{is_digit, all, number}

unfoldable pub splice : ℕ → List ℕ → List ℕ → List ℕ
splice o x s = take o s ++ (x ++ drop (o + length x) s)

abbrev pub has_room : List ℕ → ℕ → List ℕ → Bool
has_room x o s = nat_le (o + length x) (length s)

unfoldable pub put_at : List ℕ → ℕ → List ℕ → List ℕ
put_at x o s = cond (has_room x o s) (splice o x s) s

unfoldable pub end_of : List ℕ → ℕ → List ℕ → ℕ
end_of x o s = cond (has_room x o s) (o + length x) o

-- so many digits are always below 2 ^ 64
abbrev pub readable : List ℕ → Bool
readable s = nat_le (length s) 17 && all is_digit s

abbrev pub less_zero : ℕ → ℕ
less_zero b = (b + 208) % 256

abbrev pub summed : ℕ → List ℕ → ℕ
summed v [] = v
summed v (b ∷ bs) = summed (v * 10 + less_zero b) bs

unfoldable pub digits_in : List ℕ → Result ℕ NotDigits
digits_in s = cond (readable s) (Ok (number s)) (Err (record { sum = cond (nat_le (length s) 17) (summed 0 s) 0 }))
