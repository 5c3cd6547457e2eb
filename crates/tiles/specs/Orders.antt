-- The orders of refusals, written out for each form of the index: proved in proofs/Orders.antt.
use Rattle.std.specs.Prelude.{◌≡◌, ℕ, List, ℤ, cond, Option, Result, Err}
use Rattle.arc.specs.declared.refusal.Refusal.{Refusal}
use Rattle.card_text.specs.declared.Fields.{Fields}
use Rattle.tiles.specs.declared.Stored.{Stored}
use Rattle.tiles.specs.Index.{index_wrong, store_wrong, said_of}
use Rattle.tiles.specs.LookUp.{found_of, number_of}
use Rattle.tiles.specs.Window.{view_of, window_of}
use Rattle.tiles.specs.Corrections.{list_wrong, corrections_wrong, said_with, source_of, corrected_window_of}
use Rattle.tiles.specs.Bits.{words_wrong, bits_wrong, stray_bit, said_bits, bits_number_of, bits_window_of, bits_source_of, corrected_bits_window_of}

-- ---- look-up

-- Length, then OutsideTiles, Padding, NotStored, Entry
abbrev pub NumberOrder : Type 0
NumberOrder =
    (k : Fields) (index : List ℕ) (count : ℕ) (store : List ℕ) (r c : ℤ)
    → number_of k index count store r c
    ≡ cond {A = Result Stored Refusal} (store_wrong k index count store) (Err Refusal.Length) (found_of k (said_of k index count) r c)

-- Length, StrayBit, then OutsideTiles, Padding, NotStored, Entry
abbrev pub BitsNumberOrder : Type 0
BitsNumberOrder =
    (k : Fields) (words : List ℕ) (count : ℕ) (store : List ℕ) (r c : ℤ)
    → bits_number_of k words count store r c
    ≡ cond {A = Result Stored Refusal} (bits_wrong k words count store) (Err Refusal.Length)
    (cond (stray_bit k words) (Err Refusal.StrayBit) (found_of k (said_bits k words count) r c))

-- Length of the base, Length of the corrections, then OutsideTiles, Padding, Entry of a correction, NotStored, Entry
abbrev pub SourceOrder : Type 0
SourceOrder =
    (k : Fields) (index : List ℕ) (count : ℕ) (store corrections : List ℕ) (corrected : ℕ) (second : List ℕ) (r c : ℤ)
    → source_of k index count store corrections corrected second r c
    ≡ cond {A = Result Stored Refusal} (store_wrong k index count store) (Err Refusal.Length)
    (cond (corrections_wrong k corrections corrected second) (Err Refusal.Length)
    (found_of k (said_with corrections corrected (said_of k index count)) r c))

-- Length of the base, Length of the corrections, StrayBit, then OutsideTiles, Padding, Entry of a correction, NotStored, Entry
abbrev pub BitsSourceOrder : Type 0
BitsSourceOrder =
    (k : Fields) (words : List ℕ) (count : ℕ) (store corrections : List ℕ) (corrected : ℕ) (second : List ℕ) (r c : ℤ)
    → bits_source_of k words count store corrections corrected second r c
    ≡ cond {A = Result Stored Refusal} (bits_wrong k words count store) (Err Refusal.Length)
    (cond (corrections_wrong k corrections corrected second) (Err Refusal.Length)
    (cond (stray_bit k words) (Err Refusal.StrayBit)
    (found_of k (said_with corrections corrected (said_bits k words count)) r c)))

-- ---- the window

-- Length, then OutsideTiles, Entry
abbrev pub WindowOrder : Type 0
WindowOrder =
    (k : Fields) (index : List ℕ) (count top left height width : ℕ)
    → window_of k index count top left height width
    ≡ cond {A = Result (Option ℕ) Refusal} (index_wrong k index count) (Err Refusal.Length) (view_of k (said_of k index count) top left height width)

-- Length, StrayBit, then OutsideTiles, Entry
abbrev pub BitsWindowOrder : Type 0
BitsWindowOrder =
    (k : Fields) (words : List ℕ) (count top left height width : ℕ)
    → bits_window_of k words count top left height width
    ≡ cond {A = Result (Option ℕ) Refusal} (words_wrong k words count) (Err Refusal.Length)
    (cond (stray_bit k words) (Err Refusal.StrayBit) (view_of k (said_bits k words count) top left height width))

-- Length of the base, Length of the corrections, then OutsideTiles, Entry
abbrev pub CorrectedWindowOrder : Type 0
CorrectedWindowOrder =
    (k : Fields) (index : List ℕ) (count : ℕ) (corrections : List ℕ) (corrected top left height width : ℕ)
    → corrected_window_of k index count corrections corrected top left height width
    ≡ cond {A = Result (Option ℕ) Refusal} (index_wrong k index count) (Err Refusal.Length)
    (cond (list_wrong k corrections corrected) (Err Refusal.Length)
    (view_of k (said_with corrections corrected (said_of k index count)) top left height width))

-- Length of the base, Length of the corrections, StrayBit, then OutsideTiles, Entry
abbrev pub CorrectedBitsWindowOrder : Type 0
CorrectedBitsWindowOrder =
    (k : Fields) (words : List ℕ) (count : ℕ) (corrections : List ℕ) (corrected top left height width : ℕ)
    → corrected_bits_window_of k words count corrections corrected top left height width
    ≡ cond {A = Result (Option ℕ) Refusal} (words_wrong k words count) (Err Refusal.Length)
    (cond (list_wrong k corrections corrected) (Err Refusal.Length)
    (cond (stray_bit k words) (Err Refusal.StrayBit)
    (view_of k (said_with corrections corrected (said_bits k words count)) top left height width)))
