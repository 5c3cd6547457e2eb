-- Where a tile's bytes stand, and that they end within 64 bits. Assumes nothing.
use mathlib.Core.Path.{◌≡◌, refl, subst}
use mathlib.Core.List.{List, []}
use mathlib.Core.Bool.{Bool, true, false, cond}
use native.Mathlib.Omega.{arith}
use Prim.Native.Nat.{ℕ, ◌+◌, ◌^◌, ◌<◌}
use lib.Dec.{eqb}
use lib.ListN.{length, take, drop}
use lib.IntN.{ℤ}
use Rattle.std.specs.Prelude.{Result, Ok, Err}
use Rattle.arc.specs.declared.refusal.Refusal.{Refusal}
use Rattle.card_text.specs.declared.Fields.{Fields}
use Rattle.card.specs.declared.Reading.{Reading}
use Rattle.tiles.specs.declared.Source.{Source}
use Rattle.tiles.specs.declared.Stored.{Stored}
use Rattle.tiles.specs.declared.Said.{Said}
use Rattle.tiles.specs.Index.{IndexView, in_base, said, said_of, by_list}
use Rattle.tiles.specs.LookUp.{stored_by, store_at, part_in, part_by, number_of}
use Rattle.tiles.specs.Corrections.{source_number, source_of}
use Rattle.tiles.specs.Bits.{said_bits, by_bits, bits_number_of, bits_source_of}
use Rattle.tiles.specs.Steps.{IsHeld}
use Rattle.tiles.specs.Entries.{EntryIs, entry-is}
use Rattle.tiles.proofs.PixelTile.{found, past, lies_stored}
use Rattle.presence.specs.Presence.{number_at}
use Rattle.fordcask.specs.Entry.{told, asked}
use Rattle.fordcask.specs.Tiles.{tile_block, corrected_tile_block}
use Rattle.fordcask.specs.InStore.{TileIsPart, BitsTileIsPart, CorrectedTileIsPart, CorrectedBitsTileIsPart}
use Rattle.fordcask.specs.Steps.{Small, Numbered}

-- ---- without corrections a tile is in the base store
abbrev SourceIs : Said → Type 0
SourceIs (Said.Stored s) = s.source ≡ Source.Base
SourceIs Said.Missing = Unit
SourceIs Said.Above = Unit

says-base : (k : Fields) (count e t : ℕ) → SourceIs (cond k.tif (said Source.Base count e) (Said.Stored (in_base (t + 1))))
says-base k count e t = go k.tif
  where
    of-entry : (v : Said) → EntryIs Source.Base count e v → SourceIs v
    of-entry (Said.Stored s) x = x.0
    of-entry Said.Missing x = tt
    of-entry Said.Above x = tt

    go : (b : Bool) → SourceIs (cond b (said Source.Base count e) (Said.Stored (in_base (t + 1))))
    go true = of-entry (said Source.Base count e) (entry-is Source.Base count e (said Source.Base count e) refl)
    go false = refl

of-base : (k : Fields) (v : IndexView) (store second : List ℕ) (r c : ℤ) (s : Stored) → ((t : ℕ) → SourceIs (v.says t))
    → stored_by k v store second r c ≡ Ok s → s.source ≡ Source.Base
of-base k v store second r c s base e =
    let f = found k v.says r c s (past k v store second r c s e).1 in
    subst SourceIs f.said-is (base _)

tile-part : (total : ℕ) (a : Result Stored Refusal) (store : List ℕ) → ((s : Stored) → a ≡ Ok s → s.source ≡ Source.Base)
    → take (tile_block (told total a)).length (drop (tile_block (told total a)).offset store) ≡ part_in a store []
tile-part total (Ok s) store base = rw (base s refl)
tile-part total (Err e) store base = refl

pub tile-is-part : TileIsPart
unfolding part_by said_of
tile-is-part k index count store r c total =
    tile-part total (number_of k index count store r c) store (λ s. of-base k (by_list k index count) store [] r c s (λ t. says-base k count _ t))

pub bits-tile-is-part : BitsTileIsPart
unfolding part_by said_bits
bits-tile-is-part k words count store r c total =
    tile-part total (bits_number_of k words count store r c) store
    (λ s. of-base k (by_bits k words count) store [] r c s (λ t. says-base k count (number_at words t) t))

-- ---- with corrections it is in the store that is named
in-store : (x : Source) (store second : List ℕ) → cond (eqb (source_number x) 0) store second ≡ store_at x store second
in-store Source.Base store second = refl
in-store Source.Corrections store second = refl

corrected-part : (total : ℕ) (a : Result Stored Refusal) (store second : List ℕ) → let t = corrected_tile_block (told total a) in
    take t.length (drop t.offset (cond (eqb t.source 0) store second)) ≡ part_in a store second
corrected-part total (Ok s) store second = rw (in-store s.source store second)
corrected-part total (Err e) store second = refl

pub corrected-tile-is-part : CorrectedTileIsPart
unfolding part_by
corrected-tile-is-part k index count store corrections corrected second r c total =
    corrected-part total (source_of k index count store corrections corrected second r c) store second

pub corrected-bits-tile-is-part : CorrectedBitsTileIsPart
unfolding part_by
corrected-bits-tile-is-part k words count store corrections corrected second r c total =
    corrected-part total (bits_source_of k words count store corrections corrected second r c) store second

-- ---- a tile in a store ends within 64 bits
store-small : (x : Source) (store second : List ℕ) → length store < 2 ^ 64 → length second < 2 ^ 64 → length (store_at x store second) < 2 ^ 64
store-small Source.Base store second b d = b
store-small Source.Corrections store second b d = d

held-small : (k : Fields) (v : IndexView) (store second : List ℕ) (r c : ℤ) (s : Stored) → length store < 2 ^ 64 → length second < 2 ^ 64
    → IsHeld k v → stored_by k v store second r c ≡ Ok s → Small s.number
held-small k v store second r c s b d h e =
    let l = lies_stored k v store second r c s h e in
    (l.0, omega (arith, l.1, store-small s.source store second b d))

pub numbered : (x : Result Reading Refusal) (v : Fields → IndexView) (store second : List ℕ) (r c : ℤ) → length store < 2 ^ 64 → length second < 2 ^ 64
    → ((k : Fields) → IsHeld k (v k)) → Numbered (asked x (λ k. stored_by k (v k) store second r c))
numbered (Err e) v store second r c b d h = tt
numbered (Ok x) v store second r c b d h = go (stored_by x.card (v x.card) store second r c) refl
  where
    go : (a : Result Stored Refusal) → stored_by x.card (v x.card) store second r c ≡ a → Numbered (told x.blanks a)
    go (Ok s) e = held-small x.card (v x.card) store second r c s b d (h x.card) e
    go (Err y) e = tt
