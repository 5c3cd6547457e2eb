-- The bytes of a subfield: digits, angles, names (MIL-A-89007, 3.17.1). Definitions only.
--     bytes t            the bytes of a text, each character's code
--     part o w s         the w bytes of s from offset o
--     is_digit, is_capital 0 to 9, A to Z
--     all f s            f holds of each byte
--     number s           the number that digits stand for; a byte below 0, as the blank is, counts as a 0
--     blanks s           how many blanks s starts with
--     filled s           blanks or none, then digits to the end, one at least
--     angle_laid d s     ±DDDMMSS.SS or ±DDMMSS.SS, d being the count of degree digits
--     angle_size d s     its size in hundredths of an arc-second
--     angle_of d s       the angle
--     angle_valid d limit s     minutes and seconds below 60, within the limit, and no minus zero
--     name_laid s        eight letters or digits, a dot, three more
--     digits w v         the w digits of v, zero-filled
--     decimal n          a number with no leading zeros
--     angle_text d z     ±DDDMMSS.SS or ±DDMMSS.SS; zero carries a plus
use Rattle.std.specs.Prelude.{ℕ, zero, suc, ◌+◌, ◌-◌, ◌*◌, ◌/◌, ◌%◌, ◌^◌, Bool, true, cond, not, ◌&&◌, ◌||◌, List, [], ◌∷◌, ◌++◌, length, take, drop}
use Rattle.std.specs.Prelude.{ℤ, pos, neg_ℤ, ◌==◌, int_lt, nat_le, nat_lt, slice_index, unsigned_abs}
use Prim.Native.Char.{code}
use Prim.Native.String.{String, [] as []ᵗ, ◌∷◌ as ◌∷ᵗ◌}

abbrev pub bytes : String → List ℕ
bytes []ᵗ = []
bytes (c ∷ᵗ t) = code c ∷ bytes t

abbrev pub part : ℕ → ℕ → List ℕ → List ℕ
part o w s = take w (drop o s)

abbrev pub is_digit : ℕ → Bool
is_digit b = nat_le 48 b && nat_le b 57

abbrev pub is_capital : ℕ → Bool
is_capital b = nat_le 65 b && nat_le b 90

abbrev pub all : (ℕ → Bool) → List ℕ → Bool
all f [] = true
all f (b ∷ bs) = f b && all f bs

-- the digits bs written after a number v
abbrev pub onward : ℕ → List ℕ → ℕ
onward v [] = v
onward v (b ∷ bs) = onward (v * 10 + (b - 48)) bs

unfoldable pub number : List ℕ → ℕ
number s = onward 0 s

-- 32 is the blank
abbrev pub blanks : List ℕ → ℕ
blanks [] = zero
blanks (b ∷ bs) = cond (b == 32) (suc (blanks bs)) zero

-- of blanks alone no digit is left
abbrev pub filled : List ℕ → Bool
filled s = nat_lt (blanks s) (length s) && all is_digit (drop (blanks s) s)

-- 43 is +, 45 is −, 46 is the dot
abbrev pub is_sign : ℕ → Bool
is_sign b = b == 43 || b == 45

abbrev pub minus : List ℕ → Bool
minus s = slice_index s 0 == 45

unfoldable pub angle_laid : ℕ → List ℕ → Bool
angle_laid d s =
    is_sign (slice_index s 0) && all is_digit (part 1 (d + 4) s) && slice_index s (d + 5) == 46 && all is_digit (part (d + 6) 2 s)

unfoldable pub degrees : ℕ → List ℕ → ℕ
degrees d s = number (part 1 d s)

unfoldable pub minutes : ℕ → List ℕ → ℕ
minutes d s = number (part (d + 1) 2 s)

unfoldable pub seconds : ℕ → List ℕ → ℕ
seconds d s = number (part (d + 3) 2 s)

unfoldable pub hundredths : ℕ → List ℕ → ℕ
hundredths d s = number (part (d + 6) 2 s)

unfoldable pub angle_size : ℕ → List ℕ → ℕ
angle_size d s = degrees d s * 360000 + minutes d s * 6000 + seconds d s * 100 + hundredths d s

unfoldable pub angle_of : ℕ → List ℕ → ℤ
angle_of d s = cond (minus s) (neg_ℤ (pos (angle_size d s))) (pos (angle_size d s))

unfoldable pub angle_valid : ℕ → ℕ → List ℕ → Bool
angle_valid d limit s =
    nat_lt (minutes d s) 60 && nat_lt (seconds d s) 60 && nat_le (angle_size d s) limit && not (minus s && angle_size d s == 0)

-- a capital letter or a digit
abbrev pub is_name_byte : ℕ → Bool
is_name_byte b = is_capital b || is_digit b

unfoldable pub name_laid : List ℕ → Bool
name_laid s = all is_name_byte (part 0 8 s) && slice_index s 8 == 46 && all is_name_byte (part 9 3 s)

-- 89 is Y, 78 is N
abbrev pub is_flag : ℕ → Bool
is_flag b = b == 89 || b == 78

-- ---- written

abbrev pub digits : ℕ → ℕ → List ℕ
digits zero v = []
digits (suc w) v = (48 + v / 10 ^ w % 10) ∷ digits w v

-- leading zeros off, but for a last digit
abbrev pub trimmed : List ℕ → List ℕ
trimmed [] = []
trimmed (d ∷ []) = d ∷ []
trimmed (d ∷ e ∷ ds) = cond (d == 48) (trimmed (e ∷ ds)) (d ∷ e ∷ ds)

unfoldable pub decimal : ℕ → List ℕ
decimal n = trimmed (digits 20 n)

-- the degrees, the minutes, the seconds, the dot and the hundredths of a size z
abbrev pub size_text : ℕ → ℕ → List ℕ
size_text d z = digits d (z / 360000) ++ digits 2 (z / 6000 % 60) ++ digits 2 (z / 100 % 60) ++ (46 ∷ []) ++ digits 2 (z % 100)

unfoldable pub angle_text : ℕ → ℤ → List ℕ
angle_text d z = cond (int_lt z (pos 0)) 45 43 ∷ size_text d (unsigned_abs z)
