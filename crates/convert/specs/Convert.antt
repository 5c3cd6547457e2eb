-- Converting the index between a list and presence bits. Definitions, and what they are held to.
--     in_order n index          the non-zero entries are n + 1, n + 2, n + 3 and so on in reading order
--     word_from index t n       the number whose n bits are those of the tiles from t on, first tile lowest
--     bits_of index n           the list's bits, in n words
--     to_bits_of, bits_left ..  what `to_bits` answers, and what the words then hold
--     to_list_of, list_left ..  what `to_list` answers, and what the list then holds
use Rattle.std.specs.Prelude.{◌≡◌, ℕ, zero, suc, ◌+◌, ◌*◌, ◌^◌, ◌<◌, List, [], ◌∷◌, Bool, true, cond, not, ◌&&◌, ◌||◌, eqb, length, get_or, Result, Ok, Err}
use Rattle.whole.specs.Lists.{each}
use Rattle.arc.specs.declared.refusal.Refusal.{Refusal}
use Rattle.card_text.specs.declared.Fields.{Fields}
use Rattle.tiles.specs.Index.{index_length}
use Rattle.tiles.specs.Bits.{words_length, stray_bit}
use Rattle.tiles.specs.Corrections.{kept}
use Rattle.tiles.specs.AsList.{list_of, Forms}

-- Length, of the lengths of the list and of the words
unfoldable pub lengths_wrong : Fields → ℕ → ℕ → Bool
lengths_wrong k index_long words_long = not (eqb index_long (index_length k)) || not (eqb words_long (words_length k))

-- ---- list to bits

unfoldable pub in_order : ℕ → List ℕ → Bool
in_order n [] = true
in_order n (e ∷ es) = cond (eqb e 0) (in_order n es) (eqb e (n + 1) && in_order (n + 1) es)

-- a tile is stored where its entry is not 0
abbrev pub bit_of : ℕ → ℕ
bit_of e = cond (eqb e 0) 0 1

unfoldable pub word_from : List ℕ → ℕ → ℕ → ℕ
word_from index t zero = 0
word_from index t (suc n) = bit_of (get_or index t 0) + 2 * word_from index (t + 1) n

-- 64 to a word
abbrev pub bits_of : List ℕ → ℕ → List ℕ
bits_of index n = each n (λ i. word_from index (i * 64) 64 ∷ [])

-- Length, then ReadingOrder where the list isn't in reading order
unfoldable pub to_bits_of : Fields → List ℕ → List ℕ → Result Unit Refusal
to_bits_of k index words =
    cond (lengths_wrong k (length index) (length words)) (Err Refusal.Length)
    (cond (in_order 0 index) (Ok tt) (Err Refusal.ReadingOrder))

-- in a refusal the words stay
unfoldable pub bits_left : Fields → List ℕ → List ℕ → List ℕ
bits_left k index words = kept (to_bits_of k index words) words (bits_of index (length words))

-- ---- bits to list

-- Length, then StrayBit for a bit set past the last tile
unfoldable pub to_list_of : Fields → List ℕ → List ℕ → Result Unit Refusal
to_list_of k words index =
    cond (lengths_wrong k (length index) (length words)) (Err Refusal.Length)
    (cond (stray_bit k words) (Err Refusal.StrayBit) (Ok tt))

-- in a refusal the list stays
unfoldable pub list_left : Fields → List ℕ → List ℕ → List ℕ
list_left k words index = kept (to_list_of k words index) index (list_of k words)

-- ---- what converting is held to: proved in proofs/RoundTrip.antt

-- the words written are the list's other form, so every look-up and window answer is the same
abbrev pub ToBitsForms : Type 0
ToBitsForms = (k : Fields) (index words : List ℕ) → to_bits_of k index words ≡ Ok tt → Forms k index (bits_left k index words)

-- and the list written is the words' other form
abbrev pub ToListForms : Type 0
ToListForms = (k : Fields) (words index : List ℕ) → to_list_of k words index ≡ Ok tt → Forms k (list_left k words index) words

-- a list that has presence bits is in reading order, so 20 is for those alone that have none
abbrev pub FormsInOrder : Type 0
FormsInOrder = (k : Fields) (index words : List ℕ) → Forms k index words → in_order 0 index ≡ true

-- to bits and back gives the list, into whatever list of that length
abbrev pub BitsAndBack : Type 0
BitsAndBack =
    (k : Fields) (index words other : List ℕ) → to_bits_of k index words ≡ Ok tt → length other ≡ length index
    → let bits = bits_left k index words in
    (to_list_of k bits other ≡ Ok tt) × (list_left k bits other ≡ index)

-- to a list and back gives the bits, in words of 64 bits
abbrev pub ListAndBack : Type 0
ListAndBack =
    (k : Fields) (words index other : List ℕ) → ((i : ℕ) → get_or words i 0 < 2 ^ 64) → to_list_of k words index ≡ Ok tt
    → length other ≡ length words
    → let list = list_left k words index in
    (to_bits_of k list other ≡ Ok tt) × (bits_left k list other ≡ words)
