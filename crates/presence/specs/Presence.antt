-- Presence bits: one bit a tile, 64 to a word, first tile lowest. Definitions only.
--     present words t         the bit of tile t, 1 where it is stored, else 0; 0 past the words
--     counted words n         the count of ones among the first n tiles
--     number_at words t       the stored number of tile t, 0 where it is not stored
--     numbers_to words n      the stored numbers of the first n tiles
--     any_set_from words t n  one of the n bits from tile t's on is set
--     within words count n    how far, up to n tiles, the count of ones is not above `count`
use Rattle.std.specs.Prelude.{ℕ, zero, suc, ◌+◌, ◌/◌, ◌%◌, ◌^◌, List, [], ◌∷◌, Bool, false, cond, not, ◌||◌, ltb, eqb, get_or}
use Rattle.whole.specs.Lists.{each}

abbrev pub present : List ℕ → ℕ → ℕ
present words t = get_or words (t / 64) 0 / 2 ^ (t % 64) % 2

unfoldable pub counted : List ℕ → ℕ → ℕ
counted words zero = 0
counted words (suc n) = present words n + counted words n

-- the stored number is the count of ones up to and including the tile
unfoldable pub number_at : List ℕ → ℕ → ℕ
number_at words t = cond (eqb (present words t) 0) 0 (counted words (t + 1))

abbrev pub numbers_to : List ℕ → ℕ → List ℕ
numbers_to words n = each n (λ t. number_at words t ∷ [])

unfoldable pub any_set_from : List ℕ → ℕ → ℕ → Bool
any_set_from words t zero = false
any_set_from words t (suc n) = not (eqb (present words t) 0) || any_set_from words (t + 1) n

unfoldable pub within : List ℕ → ℕ → ℕ → ℕ
within words count zero = 0
within words count (suc n) = cond (ltb count (counted words (suc n))) (within words count n) (suc n)
