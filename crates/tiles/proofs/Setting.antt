-- Setting an entry keeps the list's length and every other entry. Assumes nothing.
use mathlib.Core.Path.{◌≡◌, refl, sym, ap, ap₂, ◌∙◌}
use mathlib.Core.Bool.{Bool, true, false, cond, ◌||◌}
use mathlib.Core.List.{List, [], ◌∷◌}
use Prim.Native.Nat.{ℕ, ◌+◌, ◌≤◌, ◌<◌}
use native.Mathlib.Omega.{arith}
use borrow.Author.Tests.{eqb-false, ltb-false, leb-false}
use lib.Dec.{ltb, leb, eqb}
use lib.ListN.{length, get_or, set, length-set}
use lib.Seq.{get_or-set_same, get_or-set_other}
use lib.IntN.{ℤ, nat_abs}
use Rattle.whole.specs.Lists.{occurs}
use Rattle.arc.specs.declared.refusal.Refusal.{Refusal}
use Rattle.std.specs.Prelude.{Option, Result, Ok, Err}
use Rattle.card_text.specs.declared.Fields.{Fields}
use Rattle.card.specs.Grid.{verdict_of}
use Rattle.tiles.specs.declared.Said.{Said}
use Rattle.tiles.specs.declared.Source.{Source}
use Rattle.tiles.specs.Index.{tiles, tile_of, in_second, store_wrong, said_of}
use Rattle.tiles.specs.LookUp.{found_of, stored_by, part_by, bands_by}
use Rattle.tiles.specs.Window.{window_tiles, scanned, scan, view_of, window_by}
use Rattle.tiles.specs.Corrections.{list_wrong, corrections_wrong, said_with, source_of, setting_of, kept, set_of}
use Rattle.tiles.specs.Corrected.{SetsOne, OtherPixels, OtherWindows, FromNewEntry}
use Rattle.tiles.specs.Entries.{neither, said-stored}
use Rattle.tiles.specs.Laws.{with-some}
use Rattle.tiles.proofs.Sources.{list-long}
use Rattle.tiles.proofs.Corrections.{standby-alike, as-base}

module _ (k : Fields) (corrections : List ℕ) (corrected t number : ℕ) where
  -- what was accepted
  record Set : Type 0 where
    right : list_wrong k corrections corrected ≡ false
    inside : t < tiles k
    most : number ≤ corrected

  accepted : setting_of k corrections corrected t number ≡ Ok tt → Set
  unfolding setting_of
  accepted = go (list_wrong k corrections corrected) (leb (tiles k) t) (ltb corrected number) refl refl refl
    where
      go : (a b d : Bool) → list_wrong k corrections corrected ≡ a → leb (tiles k) t ≡ b → ltb corrected number ≡ d
          → cond {A = Result Unit Refusal} a (Err Refusal.Length) (cond b (Err Refusal.OutsideTiles) (cond d (Err (Refusal.Entry t)) (Ok tt)))
          ≡ Ok tt → Set
      go true b d p q s e = let z : ◌≡◌ {A = ℕ} 0 1 = cc in absurd (omega arith)
      go false true d p q s e = let z : ◌≡◌ {A = ℕ} 0 1 = cc in absurd (omega arith)
      go false false true p q s e = let z : ◌≡◌ {A = ℕ} 0 1 = cc in absurd (omega arith)
      go false false false p q s e =
          record { right = p; inside = leb-false (tiles k) t q; most = ltb-false corrected number s }

  abbrev after : List ℕ
  after = set_of k corrections corrected t number

  -- accepted or not
  after-length : length after ≡ length corrections
  unfolding set_of
  after-length = go (setting_of k corrections corrected t number)
    where
      go : (v : Result Unit Refusal) → length (kept v corrections (set corrections t number)) ≡ length corrections
      go (Ok x) = length-set corrections t number
      go (Err e) = refl

  after-other : (j : ℕ) → (j ≡ t → ⊥) → get_or after j 0 ≡ get_or corrections j 0
  unfolding set_of
  after-other j d = go (setting_of k corrections corrected t number)
    where
      go : (v : Result Unit Refusal) → get_or (kept v corrections (set corrections t number)) j 0 ≡ get_or corrections j 0
      go (Ok x) = get_or-set_other corrections t j number 0 d
      go (Err e) = refl

  after-there : setting_of k corrections corrected t number ≡ Ok tt → get_or after t 0 ≡ number
  unfolding set_of
  after-there e =
      let s = accepted e in
      rw e (get_or-set_same corrections t number 0 (omega (arith, s.inside, list-long k corrections corrected s.right)))

  -- in a refusal
  stays : (x : Refusal) → setting_of k corrections corrected t number ≡ Err x → after ≡ corrections
  unfolding set_of
  stays x e = rw e

  -- the lengths stay as they are
  after-right : (second : List ℕ) → corrections_wrong k corrections corrected second ≡ false → corrections_wrong k after corrected second ≡ false
  unfolding corrections_wrong list_wrong
  after-right second w = rw after-length w

  after-says : (says : ℕ → Said) (j : ℕ) → (j ≡ t → ⊥) → said_with after corrected says j ≡ said_with corrections corrected says j
  unfolding said_with
  after-says says j d = rw (after-other j d)

pub sets-one : SetsOne
sets-one k corrections corrected t number = (
  λ e. record {
    long = after-length k corrections corrected t number;
    there = after-there k corrections corrected t number e;
    elsewhere = after-other k corrections corrected t number;
  },
  stays k corrections corrected t number,
)

-- ---- pixels

pub other-pixels : OtherPixels
other-pixels k index count store corrections corrected second t number r c d =
    standby-alike k index count store (set_of k corrections corrected t number) corrections corrected second r c
    (after-length k corrections corrected t number) (λ i. after-other k corrections corrected t number _ (λ s. d (i, s)))

-- a pixel of the chart, in a tile that is corrected by `number`
corrected-found : (k : Fields) (corrections : List ℕ) (corrected number : ℕ) (says : ℕ → Said) (r c : ℤ) → verdict_of k r c ≡ Ok tt
    → get_or corrections (tile_of k (nat_abs r) (nat_abs c)) 0 ≡ number → (number ≡ 0 → ⊥) → number ≤ corrected
    → found_of k (said_with corrections corrected says) r c ≡ Ok (in_second number)
unfolding found_of
corrected-found k corrections corrected number says r c v e d h =
    let t = tile_of k (nat_abs r) (nat_abs c) in
    let g : get_or corrections t 0 ≡ 0 → ⊥ = λ z. d (sym e ∙ z) in
    rw (v, with-some corrections t corrected says g, e, said-stored Source.Corrections corrected number d h)

-- past the lengths
past-lengths : (k : Fields) (index : List ℕ) (count : ℕ) (store corrections : List ℕ) (corrected : ℕ) (second : List ℕ) (r c : ℤ)
    → store_wrong k index count store ≡ false → corrections_wrong k corrections corrected second ≡ false
    → source_of k index count store corrections corrected second r c ≡ found_of k (said_with corrections corrected (said_of k index count)) r c
unfolding stored_by
past-lengths k index count store corrections corrected second r c b w = rw (b, w)

pub from-new-entry : FromNewEntry
unfolding part_by bands_by
from-new-entry k index count store corrections corrected second t number r c e b w v s =
    let x = set_of k corrections corrected t number in
    let new : get_or x (tile_of k (nat_abs r) (nat_abs c)) 0 ≡ number =
    ap (λ (j : ℕ). get_or x j 0) s ∙ after-there k corrections corrected t number e in
    let right = after-right k corrections corrected t number second w in (
      λ d. let a = past-lengths k index count store x corrected second r c b right
          ∙ corrected-found k x corrected number (said_of k index count) r c v new d (accepted k corrections corrected t number e).most in
          (a, rw a, rw a),
      λ z. as-base k index count store x corrected second r c right (new ∙ z),
    )

-- ---- windows

-- two that say the same of every tile but t scan alike what does not hold t
scan-apart : (f g : ℕ → Said) (t : ℕ) → ((j : ℕ) → (j ≡ t → ⊥) → f j ≡ g j) → (ts : List ℕ) → occurs t ts ≡ false → scan f ts ≡ scan g ts
scan-apart f g t h [] o = refl
scan-apart f g t h (x ∷ ts) o =
    let n = neither (eqb x t) (occurs t ts) o in
    ap₂ (scanned x) (h x (eqb-false x t n.0)) (scan-apart f g t h ts n.1)

-- a window that is not outside holds no such tile
view-apart : (k : Fields) (f g : ℕ → Said) (t top left height width : ℕ) → ((j : ℕ) → (j ≡ t → ⊥) → f j ≡ g j)
    → (top + height ≤ k.nfl → left + width ≤ k.nfc → occurs t (window_tiles k top left height width) ≡ false)
    → view_of k f top left height width ≡ view_of k g top left height width
unfolding view_of
view-apart k f g t top left height width h o = go (ltb k.nfl (top + height)) (ltb k.nfc (left + width)) refl refl
  where
    go : (a b : Bool) → ltb k.nfl (top + height) ≡ a → ltb k.nfc (left + width) ≡ b
        → cond {A = Result (Option ℕ) Refusal} (a || b) (Err Refusal.OutsideTiles) (scan f (window_tiles k top left height width))
        ≡ cond {A = Result (Option ℕ) Refusal} (a || b) (Err Refusal.OutsideTiles) (scan g (window_tiles k top left height width))
    go true b p q = refl
    go false true p q = refl
    go false false p q =
        scan-apart f g t h (window_tiles k top left height width) (o (ltb-false k.nfl (top + height) p) (ltb-false k.nfc (left + width) q))

pub other-windows : OtherWindows
unfolding window_by list_wrong
other-windows k index count corrections corrected t number top left height width o =
    rw (
      after-length k corrections corrected t number,
      view-apart k _ _ t top left height width (after-says k corrections corrected t number (said_of k index count)) o,
    )
