-- The index as presence bits: `words` in place of the index list. Definitions only.
--     words_wrong k words count    the words or the count are of the wrong length
--     bits_wrong ..          the words, the count or the store is of the wrong length
--     stray_bit k words      a bit is set past the last tile
--     said_bits k words count t    what the bits say of tile t
--     by_bits k words count    the bits, as an index
--     bits_number_of, .., corrected_bits_window_of    look-up and window by bits, and with corrections beside them
use Rattle.std.specs.Prelude.{ℕ, ◌+◌, ◌-◌, ◌*◌, ◌/◌, List, [], Bool, cond, not, ◌||◌, eqb, length, ℤ, Option, Result, Ok, Err}
use Rattle.arc.specs.declared.refusal.Refusal.{Refusal}
use Rattle.presence.specs.Presence.{number_at, any_set_from}
use Rattle.card_text.specs.declared.Fields.{Fields}
use Rattle.tiles.specs.declared.Source.{Source}
use Rattle.tiles.specs.declared.Stored.{Stored}
use Rattle.tiles.specs.declared.Bands.{Bands}
use Rattle.tiles.specs.declared.Said.{Said}
use Rattle.tiles.specs.Index.{tiles, IndexView, unless_wrong, tile_bytes, count_wrong, said, in_base}
use Rattle.tiles.specs.LookUp.{stored_by, part_by, bands_by}
use Rattle.tiles.specs.Window.{window_by}
use Rattle.tiles.specs.Corrections.{corrected_by}

-- one bit a tile, 64 to a word: the tiles / 64, rounded up; none with N
abbrev pub words_length : Fields → ℕ
words_length k = cond k.tif ((tiles k + 63) / 64) 0

-- Length for a wrong number of words; the count is stated as beside a list
unfoldable pub words_wrong : Fields → List ℕ → ℕ → Bool
words_wrong k words count = not (eqb (length words) (words_length k)) || count_wrong k count

-- Length, of the words, the count or the store
abbrev pub bits_wrong : Fields → List ℕ → ℕ → List ℕ → Bool
bits_wrong k words count store = words_wrong k words count || not (eqb (length store) (count * tile_bytes))

-- StrayBit: from the bit past the last tile's to the end of the words
unfoldable pub stray_bit : Fields → List ℕ → Bool
stray_bit k words = any_set_from words (tiles k) (length words * 64 - tiles k)

abbrev pub unless_stray : Fields → List ℕ → Result Unit Refusal
unless_stray k words = cond (stray_bit k words) (Err Refusal.StrayBit) (Ok tt)

-- the stored number is the count of ones up to and including the tile; with N all are stored in reading order
unfoldable pub said_bits : Fields → List ℕ → ℕ → ℕ → Said
said_bits k words count t = cond k.tif (said Source.Base count (number_at words t)) (Said.Stored (in_base (t + 1)))

abbrev pub by_bits : Fields → List ℕ → ℕ → IndexView
by_bits k words count =
    record {
      check = unless_wrong (words_wrong k words count) (unless_stray k words);
      check_with = λ base second. unless_wrong (bits_wrong k words count base) (unless_stray k words);
      says = said_bits k words count;
    }

-- ---- without corrections

-- Length, StrayBit, then OutsideTiles, Padding, NotStored, Entry
abbrev pub bits_number_of : Fields → List ℕ → ℕ → List ℕ → ℤ → ℤ → Result Stored Refusal
bits_number_of k words count store r c = stored_by k (by_bits k words count) store [] r c

abbrev pub bits_part_of : Fields → List ℕ → ℕ → List ℕ → ℤ → ℤ → List ℕ
bits_part_of k words count store r c = part_by k (by_bits k words count) store [] r c

abbrev pub bits_bands_of : Fields → List ℕ → ℕ → List ℕ → ℤ → ℤ → Result Bands Refusal
bits_bands_of k words count store r c = bands_by k (by_bits k words count) store [] r c

-- Length, StrayBit, then OutsideTiles, Entry
abbrev pub bits_window_of : Fields → List ℕ → ℕ → ℕ → ℕ → ℕ → ℕ → Result (Option ℕ) Refusal
bits_window_of k words count top left height width = window_by k (by_bits k words count) top left height width

-- ---- with corrections beside

-- Length of the base or of the corrections, StrayBit, then OutsideTiles, Padding, Entry of a correction, NotStored, Entry
abbrev pub bits_source_of : Fields → List ℕ → ℕ → List ℕ → List ℕ → ℕ → List ℕ → ℤ → ℤ → Result Stored Refusal
bits_source_of k words count store corrections corrected second r c =
    stored_by k (corrected_by k (by_bits k words count) corrections corrected) store second r c

abbrev pub bits_either_part_of : Fields → List ℕ → ℕ → List ℕ → List ℕ → ℕ → List ℕ → ℤ → ℤ → List ℕ
bits_either_part_of k words count store corrections corrected second r c =
    part_by k (corrected_by k (by_bits k words count) corrections corrected) store second r c

abbrev pub bits_either_bands_of : Fields → List ℕ → ℕ → List ℕ → List ℕ → ℕ → List ℕ → ℤ → ℤ → Result Bands Refusal
bits_either_bands_of k words count store corrections corrected second r c =
    bands_by k (corrected_by k (by_bits k words count) corrections corrected) store second r c

-- Length of the base or of the corrections, StrayBit, then OutsideTiles, Entry
abbrev pub corrected_bits_window_of : Fields → List ℕ → ℕ → List ℕ → ℕ → ℕ → ℕ → ℕ → ℕ → Result (Option ℕ) Refusal
corrected_bits_window_of k words count corrections corrected top left height width =
    window_by k (corrected_by k (by_bits k words count) corrections corrected) top left height width
