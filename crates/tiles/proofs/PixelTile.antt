-- A pixel's tile is one of the image, and what is stored lies in its store. Assumes nothing.
use mathlib.Core.Path.{◌≡◌, refl, sym, subst}
use mathlib.Core.Bool.{false, not}
use mathlib.Core.List.{List}
use Prim.Native.Nat.{ℕ, ◌-◌, ◌*◌, ◌/◌, ◌≤◌, ◌<◌}
use native.Mathlib.Omega.{arith}
use borrow.Author.Tests.{eqb-true, not-false}
use lib.Dec.{eqb}
use lib.ListN.{length, drop, length-drop}
use lib.Seq.{length-take-le}
use lib.IntN.{ℤ, nat_abs}
use Rattle.std.specs.Prelude.{Result, Ok, Err, IfOk}
use Rattle.whole.specs.Results.{◌>>=◌}
use Rattle.arc.specs.declared.refusal.Refusal.{Refusal}
use Rattle.card_text.specs.declared.Fields.{Fields}
use Rattle.card_text.specs.Read.{Known}
use Rattle.card.specs.Grid.{verdict_of}
use Rattle.card.proofs.Answers.{accepted-in}
use Rattle.card.proofs.Regions.{PixelInside, tiles-inside}
use Rattle.tiles.specs.declared.Source.{Source}
use Rattle.tiles.specs.declared.Stored.{Stored}
use Rattle.tiles.specs.declared.Said.{Said}
use Rattle.presence.specs.Presence.{number_at}
use Rattle.tiles.specs.Bits.{words_length, words_wrong, said_bits, bits_number_of}
use Rattle.tiles.specs.Laws.{BaseIs, base-most}
use Rattle.tiles.specs.Index.{count_wrong, IndexView, tiles, tile_bytes, index_wrong, said_of, tile_of}
use Rattle.tiles.specs.LookUp.{stored_said, found_of, stored_by, store_at, number_of, part_at}
use Rattle.tiles.specs.Steps.{Lies, IsHeld}
use Rattle.tiles.specs.Entries.{neither, not-wrong}
use Rattle.tiles.proofs.Entry.{tiles_small, tile-inside, stored-most}

-- a pixel of the tiles
tile-of : (k : Fields) (r c : ℤ) → PixelInside k r c → tile_of k (nat_abs r) (nat_abs c) < tiles k
tile-of k r c w =
    rw (w.row.same, w.column.same)
    (tile-inside (w.row.at / 128) (w.column.at / 128) k.nfl k.nfc (omega (arith, w.row.below))
    (omega (arith, w.column.below)))

pub tile-in : (k : Fields) (r c : ℤ) → verdict_of k r c ≡ Ok tt → tile_of k (nat_abs r) (nat_abs c) < tiles k
tile-in k r c v = tile-of k r c (tiles-inside k r c (accepted-in k r c v).0)

pub tile_few : (k : Fields) (r c : ℤ) → Known k → verdict_of k r c ≡ Ok tt → tile_of k (nat_abs r) (nat_abs c) ≤ 998001
tile_few k r c w v = omega (arith, tile-in k r c v, tiles_small k w)

-- ---- what is stored is an accepted pixel's tile

pub record Found (k : Fields) (says : ℕ → Said) (r c : ℤ) (s : Stored) : Type 0 where
  pub inside : tile_of k (nat_abs r) (nat_abs c) < tiles k
  pub said-is : says (tile_of k (nat_abs r) (nat_abs c)) ≡ Said.Stored s

number-stored : (t : ℕ) (s : Stored) (v : Said) → stored_said t v ≡ Ok s → v ≡ Said.Stored s
number-stored t s (Said.Stored m) e = cc
number-stored t s Said.Missing e = let z : ◌≡◌ {A = ℕ} 0 1 = cc in absurd (omega arith)
number-stored t s Said.Above e = let z : ◌≡◌ {A = ℕ} 0 1 = cc in absurd (omega arith)

pub found : (k : Fields) (says : ℕ → Said) (r c : ℤ) (s : Stored) → found_of k says r c ≡ Ok s → Found k says r c s
unfolding found_of
found k says r c s = go (verdict_of k r c) refl
  where
    go : (v : Result Unit Refusal) → verdict_of k r c ≡ v
        → v >>= (λ u. stored_said (tile_of k (nat_abs r) (nat_abs c)) (says (tile_of k (nat_abs r) (nat_abs c)))) ≡ Ok s → Found k says r c s
    go (Ok u) e h = record { inside = tile-in k r c e; said-is = number-stored _ s _ h }
    go (Err x) e h = let z : ◌≡◌ {A = ℕ} 0 1 = cc in absurd (omega arith)

-- past the index's own refusals
pub past : (k : Fields) (v : IndexView) (base second : List ℕ) (r c : ℤ) (s : Stored) → stored_by k v base second r c ≡ Ok s
    → (v.check_with base second ≡ Ok tt) × (found_of k v.says r c ≡ Ok s)
unfolding stored_by
past k v base second r c s = go (v.check_with base second) refl
  where
    go : (a : Result Unit Refusal) → v.check_with base second ≡ a → a >>= (λ x. found_of k v.says r c) ≡ Ok s
        → (v.check_with base second ≡ Ok tt) × (found_of k v.says r c ≡ Ok s)
    go (Ok x) e h = (e, h)
    go (Err x) e h = let z : ◌≡◌ {A = ℕ} 0 1 = cc in absurd (omega arith)

-- it lies in the store that is named
pub lies_found : (k : Fields) (v : IndexView) (base second : List ℕ) (r c : ℤ) → IsHeld k v → v.check_with base second ≡ Ok tt → (s : Stored)
    → found_of k v.says r c ≡ Ok s → Lies s.number (store_at s.source base second)
lies_found k v base second r c held o s e =
    let f = found k v.says r c s e in
    held base second o _ f.inside s f.said-is

pub lies_told : (k : Fields) (v : IndexView) (base second : List ℕ) (r c : ℤ) → IsHeld k v → v.check_with base second ≡ Ok tt → (a : Result Stored Refusal)
    → a ≡ found_of k v.says r c → IfOk a (λ s. Lies s.number (store_at s.source base second))
lies_told k v base second r c held o (Ok s) e = lies_found k v base second r c held o s (sym e)
lies_told k v base second r c held o (Err x) e = tt

pub lies_stored : (k : Fields) (v : IndexView) (base second : List ℕ) (r c : ℤ) (s : Stored) → IsHeld k v → stored_by k v base second r c ≡ Ok s
    → Lies s.number (store_at s.source base second)
lies_stored k v base second r c s held e =
    let p = past k v base second r c s e in
    lies_found k v base second r c held p.0 s p.1

-- ---- by a list: of a tile in the base store

-- a number, and the store it is in
pub record InStore (n count : ℕ) (store : List ℕ) : Type 0 where
  pub some : 1 ≤ n
  pub most : n ≤ count
  pub long : length store ≡ count * tile_bytes

pub in-store : (n count : ℕ) (store : List ℕ) → 1 ≤ n → n ≤ count → not (eqb (length store) (count * tile_bytes)) ≡ false → InStore n count store
in-store n count store p q e = record { some = p; most = q; long = eqb-true (length store) (count * tile_bytes) (not-false _ e) }

pub number-held : (k : Fields) (index : List ℕ) (count : ℕ) (store : List ℕ) (r c : ℤ) (s : Stored)
    → number_of k index count store r c ≡ Ok s → (s.source ≡ Source.Base) × InStore s.number count store
number-held k index count store r c s e =
    let p = past k _ store _ r c s e in
    let w = neither (index_wrong k index count) (not (eqb (length store) (count * tile_bytes))) (not-wrong _ _ p.0).0 in
    let f = found k (said_of k index count) r c s p.1 in
    let m = stored-most k index count _ s w.0 f.inside f.said-is in
    (m.0, in-store s.number count store m.1 m.2 w.1)

-- by bits: of the base store too
pub bits-base : (k : Fields) (words : List ℕ) (count : ℕ) (store : List ℕ) (r c : ℤ) (s : Stored) → bits_number_of k words count store r c ≡ Ok s
    → s.source ≡ Source.Base
unfolding said_bits words_wrong
bits-base k words count store r c s e =
    let p = past k _ store _ r c s e in
    let w = neither (words_wrong k words count) (not (eqb (length store) (count * tile_bytes))) (not-wrong _ _ p.0).0 in
    let x = neither (not (eqb (length words) (words_length k))) (count_wrong k count) w.0 in
    let f = found k (said_bits k words count) r c s p.1 in
    let t = tile_of k (nat_abs r) (nat_abs c) in
    (subst (BaseIs count) f.said-is (base-most k count (number_at words t) t x.1 f.inside)).0

-- its bytes are a tile's
pub lies : (n count : ℕ) (store : List ℕ) → InStore n count store → Lies n store
lies n count store h = (h.some, omega (arith, h.most, h.long))

pub part_length : (n : ℕ) (store : List ℕ) → Lies n store → length (part_at n store) ≡ tile_bytes
part_length n store h =
    length-take-le tile_bytes (drop ((n - 1) * tile_bytes) store) (omega (arith, h.0, h.1, length-drop ((n - 1) * tile_bytes) store))
