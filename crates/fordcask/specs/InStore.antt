-- A tile's block names its bytes: they are the part of the store that look-up hands back, none in a refusal. Claims, proved in proofs/Questions.antt.
use Rattle.std.specs.Prelude.{◌≡◌, ℕ, List, cond, eqb, take, drop, ℤ}
use Rattle.card_text.specs.declared.Fields.{Fields}
use Rattle.tiles.specs.LookUp.{number_of, part_of}
use Rattle.tiles.specs.Corrections.{source_of, either_part_of}
use Rattle.tiles.specs.Bits.{bits_number_of, bits_part_of, bits_source_of, bits_either_part_of}
use Rattle.fordcask.specs.Entry.{told}
use Rattle.fordcask.specs.Tiles.{tile_block, corrected_tile_block}

abbrev pub TileIsPart : Type 0
TileIsPart =
    (k : Fields) (index : List ℕ) (count : ℕ) (store : List ℕ) (r c : ℤ) (total : ℕ) → let t = tile_block (told total (number_of k index count store r c)) in
    take t.length (drop t.offset store) ≡ part_of k index count store r c

abbrev pub BitsTileIsPart : Type 0
BitsTileIsPart =
    (k : Fields) (words : List ℕ) (count : ℕ) (store : List ℕ) (r c : ℤ) (total : ℕ)
    → let t = tile_block (told total (bits_number_of k words count store r c)) in
    take t.length (drop t.offset store) ≡ bits_part_of k words count store r c

-- and of whichever store is named
abbrev pub CorrectedTileIsPart : Type 0
CorrectedTileIsPart =
    (k : Fields) (index : List ℕ) (count : ℕ) (store corrections : List ℕ) (corrected : ℕ) (second : List ℕ) (r c : ℤ) (total : ℕ)
    → let t = corrected_tile_block (told total (source_of k index count store corrections corrected second r c)) in
    take t.length (drop t.offset (cond (eqb t.source 0) store second)) ≡ either_part_of k index count store corrections corrected second r c

abbrev pub CorrectedBitsTileIsPart : Type 0
CorrectedBitsTileIsPart =
    (k : Fields) (words : List ℕ) (count : ℕ) (store corrections : List ℕ) (corrected : ℕ) (second : List ℕ) (r c : ℤ) (total : ℕ)
    → let t = corrected_tile_block (told total (bits_source_of k words count store corrections corrected second r c)) in
    take t.length (drop t.offset (cond (eqb t.source 0) store second))
    ≡ bits_either_part_of k words count store corrections corrected second r c
