-- What presence bits are held to: every look-up and window answer is the same as from the list. Proved in proofs/AsList.antt.
--     list_of k words        the list of these bits
--     Forms k index words    the list and the bits are two forms of one index
use Rattle.std.specs.Prelude.{◌≡◌, ℕ, List, false, length, get_or, ℤ}
use Rattle.presence.specs.Presence.{number_at, numbers_to}
use Rattle.card_text.specs.declared.Fields.{Fields}
use Rattle.tiles.specs.Index.{index_length}
use Rattle.tiles.specs.LookUp.{number_of, part_of, bands_of}
use Rattle.tiles.specs.Window.{window_of}
use Rattle.tiles.specs.Corrections.{source_of, either_part_of, either_bands_of, corrected_window_of}
use Rattle.tiles.specs.Bits.{words_length, stray_bit, bits_number_of, bits_part_of, bits_bands_of, bits_window_of}
use Rattle.tiles.specs.Bits.{bits_source_of, bits_either_part_of, bits_either_bands_of, corrected_bits_window_of}

-- an entry for each tile: its stored number, 0 where it is not stored; with N the list is empty
abbrev pub list_of : Fields → List ℕ → List ℕ
list_of k words = numbers_to words (index_length k)

-- both are of the right length, no bit is set past the last tile, and each tile's number by the bits is its entry, both 0 past the last tile
pub record Forms (k : Fields) (index words : List ℕ) : Type 0 where
  pub index_long : length index ≡ index_length k
  pub words_long : length words ≡ words_length k
  pub none_stray : stray_bit k words ≡ false
  pub entries : (t : ℕ) → number_at words t ≡ get_or index t 0

-- bits of the right length with none past the last tile have a list
abbrev pub BitsHaveList : Type 0
BitsHaveList =
    (k : Fields) (words : List ℕ) → length words ≡ words_length k → stray_bit k words ≡ false → Forms k (list_of k words) words

-- ---- without corrections

abbrev pub NumberAsList : Type 0
NumberAsList =
    (k : Fields) (index words : List ℕ) → Forms k index words → (count : ℕ) (store : List ℕ) (r c : ℤ)
    → bits_number_of k words count store r c ≡ number_of k index count store r c

abbrev pub PartAsList : Type 0
PartAsList =
    (k : Fields) (index words : List ℕ) → Forms k index words → (count : ℕ) (store : List ℕ) (r c : ℤ)
    → bits_part_of k words count store r c ≡ part_of k index count store r c

abbrev pub BandsAsList : Type 0
BandsAsList =
    (k : Fields) (index words : List ℕ) → Forms k index words → (count : ℕ) (store : List ℕ) (r c : ℤ)
    → bits_bands_of k words count store r c ≡ bands_of k index count store r c

abbrev pub WindowAsList : Type 0
WindowAsList =
    (k : Fields) (index words : List ℕ) → Forms k index words → (count top left height width : ℕ)
    → bits_window_of k words count top left height width ≡ window_of k index count top left height width

-- ---- with corrections beside

abbrev pub SourceAsList : Type 0
SourceAsList =
    (k : Fields) (index words : List ℕ) → Forms k index words
    → (count : ℕ) (store corrections : List ℕ) (corrected : ℕ) (second : List ℕ) (r c : ℤ)
    → bits_source_of k words count store corrections corrected second r c ≡ source_of k index count store corrections corrected second r c

abbrev pub EitherPartAsList : Type 0
EitherPartAsList =
    (k : Fields) (index words : List ℕ) → Forms k index words
    → (count : ℕ) (store corrections : List ℕ) (corrected : ℕ) (second : List ℕ) (r c : ℤ)
    → bits_either_part_of k words count store corrections corrected second r c ≡ either_part_of k index count store corrections corrected second r c

abbrev pub EitherBandsAsList : Type 0
EitherBandsAsList =
    (k : Fields) (index words : List ℕ) → Forms k index words
    → (count : ℕ) (store corrections : List ℕ) (corrected : ℕ) (second : List ℕ) (r c : ℤ)
    → bits_either_bands_of k words count store corrections corrected second r c ≡ either_bands_of k index count store corrections corrected second r c

abbrev pub CorrectedWindowAsList : Type 0
CorrectedWindowAsList =
    (k : Fields) (index words : List ℕ) → Forms k index words
    → (count : ℕ) (corrections : List ℕ) (corrected top left height width : ℕ)
    → corrected_bits_window_of k words count corrections corrected top left height width
    ≡ corrected_window_of k index count corrections corrected top left height width
