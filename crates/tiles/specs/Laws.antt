-- The laws of an index: what is said to be stored lies in its store, and a glance tells what is said. Assumes nothing.
use mathlib.Core.Path.{◌≡◌, refl, sym, ap, subst, ◌∙◌}
use mathlib.Core.Bool.{Bool, true, false, cond, not}
use mathlib.Core.List.{List}
use Prim.Native.Nat.{ℕ, ◌+◌, ◌*◌, ◌/◌, ◌≤◌, ◌<◌}
use native.Mathlib.Omega.{arith}
use native.Mathlib.Nat.{lt_of_not-le}
use native.Mathlib.Decide.{ℕ_discrete, dec_le}
use borrow.Author.Tests.{le-leb, lt-leb, eq-eqb, ne_eqb, eqb-true, not-false}
use lib.Dec.{ltb, eqb}
use lib.ListN.{length, get_or}
use Rattle.std.specs.Prelude.{Ok}
use Rattle.presence.specs.Presence.{present, number_at, within}
use Rattle.presence.proofs.Counted.{number-none, number-some, some_number, near, far}
use Rattle.card_text.specs.declared.Fields.{Fields}
use Rattle.tiles.specs.declared.Source.{Source}
use Rattle.tiles.specs.declared.Stored.{Stored}
use Rattle.tiles.specs.declared.Said.{Said}
use Rattle.tiles.specs.Index.{tiles, in_base, IndexView, tile_bytes, index_length, count_wrong, index_wrong, said, said_of, by_list}
use Rattle.tiles.specs.LookUp.{store_at}
use Rattle.tiles.specs.Corrections.{list_wrong, corrections_wrong, said_with, corrected_by}
use Rattle.tiles.specs.Bits.{words_length, words_wrong, said_bits, by_bits}
use Rattle.tiles.specs.Steps.{Lies, IsHeld, kind, IsGlance, said_before, glance_bits, bits_end}
use Rattle.tiles.specs.Entries.{neither, not-wrong, said-above, said-stored, EntryIs, entry-is}

-- ---- what is said to be stored lies in its store
-- by either form, e being the tile's number in it
abbrev pub BaseIs : ℕ → Said → Type 0
BaseIs count (Said.Stored s) = (s.source ≡ Source.Base) × (1 ≤ s.number) × (s.number ≤ count)
BaseIs count Said.Missing = Unit
BaseIs count Said.Above = Unit

pub base-most : (k : Fields) (count e t : ℕ) → count_wrong k count ≡ false → t < tiles k
    → BaseIs count (cond k.tif (said Source.Base count e) (Said.Stored (in_base (t + 1))))
base-most k count e t w h = go k.tif w
  where
    told : (v : Said) → EntryIs Source.Base count e v → BaseIs count v
    told (Said.Stored s) x = (x.0, x.2, x.3)
    told Said.Missing x = tt
    told Said.Above x = tt

    go : (b : Bool) → cond b (ltb (tiles k) count) (not (eqb count (tiles k))) ≡ false
        → BaseIs count (cond b (said Source.Base count e) (Said.Stored (in_base (t + 1))))
    go true x = told (said Source.Base count e) (entry-is Source.Base count e (said Source.Base count e) refl)
    go false x = (refl, omega arith, omega (arith, eqb-true count (tiles k) (not-false _ x)))

lies-in : (count : ℕ) (base second : List ℕ) (v : Said) (s : Stored) → v ≡ Said.Stored s → BaseIs count v → not (eqb (length base) (count * tile_bytes)) ≡ false
    → Lies s.number (store_at s.source base second)
lies-in count base second v s e b w =
    let m = subst (BaseIs count) e b in
    let l = eqb-true (length base) (count * tile_bytes) (not-false _ w) in
    subst (λ (x : Source). Lies s.number (store_at x base second)) (sym m.0) (m.1, omega (arith, m.2, l))

pub list-held : (k : Fields) (index : List ℕ) (count : ℕ) → IsHeld k (by_list k index count)
unfolding said_of index_wrong
list-held k index count base second c t h s e =
    let w = neither (index_wrong k index count) (not (eqb (length base) (count * tile_bytes))) (not-wrong _ _ c).0 in
    let x = neither (not (eqb (length index) (index_length k))) (count_wrong k count) w.0 in
    lies-in count base second _ s e (base-most k count (get_or index t 0) t x.1 h) w.1

pub bits-held : (k : Fields) (words : List ℕ) (count : ℕ) → IsHeld k (by_bits k words count)
unfolding said_bits words_wrong
bits-held k words count base second c t h s e =
    let w = neither (words_wrong k words count) (not (eqb (length base) (count * tile_bytes))) (not-wrong _ _ c).0 in
    let x = neither (not (eqb (length words) (words_length k))) (count_wrong k count) w.0 in
    lies-in count base second _ s e (base-most k count (number_at words t) t x.1 h) w.1

module _ (corrections : List ℕ) (t corrected : ℕ) (says : ℕ → Said) where
  pub with_none : get_or corrections t 0 ≡ 0 → said_with corrections corrected says t ≡ says t
  unfolding said_with
  with_none e = rw (eq-eqb (get_or corrections t 0) 0 e)

  pub with-some : (get_or corrections t 0 ≡ 0 → ⊥) → said_with corrections corrected says t ≡ said Source.Corrections corrected (get_or corrections t 0)
  unfolding said_with
  with-some d = rw (ne_eqb (get_or corrections t 0) 0 d)

pub corrected-held : (k : Fields) (v : IndexView) (corrections : List ℕ) (corrected : ℕ) → IsHeld k v → IsHeld k (corrected_by k v corrections corrected)
unfolding corrections_wrong
corrected-held k v corrections corrected held base second c t h s = go (ℕ_discrete (get_or corrections t 0) 0)
  where
    past : (corrections_wrong k corrections corrected second ≡ false) × (v.check_with base second ≡ Ok tt)
    past = not-wrong _ _ c

    go : Dec (get_or corrections t 0 ≡ 0) → said_with corrections corrected v.says t ≡ Said.Stored s → Lies s.number (store_at s.source base second)
    go (yes z) e = held base second past.1 t h s (sym (with_none corrections t corrected v.says z) ∙ e)
    go (no d) e =
        let m = entry-is Source.Corrections corrected (get_or corrections t 0) (Said.Stored s) (sym (with-some corrections t corrected v.says d) ∙ e) in
        let w = neither (list_wrong k corrections corrected) (not (eqb (length second) (corrected * tile_bytes))) past.0 in
        let l = eqb-true (length second) (corrected * tile_bytes) (not-false _ w.1) in
        subst (λ (x : Source). Lies s.number (store_at x base second)) (sym m.0) (m.2, omega (arith, m.3, l))

-- ---- a glance tells what is said
pub corrected-glance : (k : Fields) (f g : ℕ → Said) (corrections : List ℕ) (corrected : ℕ) → IsGlance k f g
    → IsGlance k (said_with corrections corrected f) (said_with corrections corrected g)
unfolding said_with
corrected-glance k f g corrections corrected same t h = go (eqb (get_or corrections t 0) 0)
  where
    other : Said
    other = said Source.Corrections corrected (get_or corrections t 0)

    go : (b : Bool) → kind (cond b (f t) other) ≡ kind (cond b (g t) other)
    go true = same t h
    go false = refl

-- the bits say the same by their count and by how far it is not passed, up to the image's tiles or further, the number aside
pub within-glance : (k : Fields) (words : List ℕ) (count n : ℕ) → tiles k ≤ n
    → IsGlance k (glance_bits k words (within words count n)) (said_bits k words count)
unfolding said_bits glance_bits
within-glance k words count n m t h = go k.tif (ℕ_discrete (present words t) 0) (dec_le (within words count n) t)
  where
    passed : ℕ
    passed = within words count n

    go : (b : Bool) → Dec (present words t ≡ 0) → Dec (passed ≤ t)
        → kind (cond b (said_before passed words t) (Said.Stored (in_base 0)))
        ≡ kind (cond b (said Source.Base count (number_at words t)) (Said.Stored (in_base (t + 1))))
    go false d b = refl
    go true (yes e) b = rw (eq-eqb (present words t) 0 e, number-none words t e)
    go true (no d) (yes l) =
        rw (ne_eqb (present words t) 0 d, le-leb passed t l)
        (sym (ap kind (said-above Source.Base count (number_at words t) (some_number words t d)
        (omega (arith, number-some words t d, far words count n t (omega arith) l)))))
    go true (no d) (no l) =
        rw (ne_eqb (present words t) 0 d, lt-leb passed t (lt_of_not-le l))
        (sym (ap kind (said-stored Source.Base count (number_at words t) (some_number words t d)
        (omega (arith, number-some words t d, near words count n t (lt_of_not-le l))))))

-- so they do by what `end` answers: up to the last word's end, and 0 where no bit is asked
pub bits-glance : (k : Fields) (words : List ℕ) (count : ℕ) → IsGlance k (glance_bits k words (bits_end k words count)) (said_bits k words count)
unfolding said_bits glance_bits
bits-glance k words count t h = go k.tif (within-glance k words count ((tiles k + 63) / 64 * 64) (omega arith) t h)
  where
    passed : ℕ
    passed = within words count ((tiles k + 63) / 64 * 64)

    go : (b : Bool) {v : Said} → kind (cond b (said_before passed words t) (Said.Stored (in_base 0))) ≡ v
        → kind (cond b (said_before (cond b passed 0) words t) (Said.Stored (in_base 0))) ≡ v
    go true e = e
    go false e = e
