-- The words of a list in reading order are its bits, and each form gives the other back. Assumes nothing.
use mathlib.Core.Path.{◌≡◌, refl, sym, ap, ap₂, ◌∙◌}
use mathlib.Core.Bool.{Bool, true, false, cond, not}
use mathlib.Core.List.{List}
use Prim.Native.Nat.{ℕ, suc, ◌+◌, ◌-◌, ◌*◌, ◌/◌, ◌%◌, ◌^◌, ◌≤◌, ◌<◌}
use native.Mathlib.Omega.{arith}
use native.Mathlib.Nat.{lt_of_not-le}
use native.Mathlib.Numerals.{add-one}
use native.Mathlib.Decide.{ℕ_discrete, dec_le}
use borrow.Author.Tests.{eqb-true, eq-eqb, not-false}
use lib.Dec.{eqb}
use lib.ListN.{length, get_or, get_or-eq_default}
use Rattle.std.specs.Prelude.{Result, Ok, Err}
use Rattle.arc.specs.declared.refusal.Refusal.{Refusal}
use Rattle.presence.specs.Presence.{present, counted, number_at, any_set_from}
use Rattle.presence.proofs.Counted.{present-past, number-none, number-some, some_number}
use Rattle.presence.proofs.Set.{set-none}
use Rattle.card_text.specs.declared.Fields.{Fields}
use Rattle.card_text.specs.Read.{Known}
use Rattle.tiles.specs.Index.{tiles, index_length}
use Rattle.tiles.specs.Bits.{words_length, stray_bit}
use Rattle.tiles.specs.AsList.{list_of, Forms}
use Rattle.tiles.specs.Entries.{neither}
use Rattle.tiles.proofs.Entry.{tiles_small}
use Rattle.tiles.proofs.Forms.{stray_is}
use Rattle.tiles.proofs.Listed.{listed-length, is-listed}
use Rattle.tiles.proofs.AsList.{bits-have-list}
use Rattle.convert.specs.Convert.{lengths_wrong, in_order, bit_of, word_from, bits_of, to_bits_of, bits_left, to_list_of, list_left}
use Rattle.convert.specs.Convert.{ToBitsForms, ToListForms, FormsInOrder, BitsAndBack, ListAndBack}
use Rattle.convert.proofs.Words.{bit-none, bit-some, present-of, word-is}
use Rattle.convert.proofs.Order.{same_count, order-ordered, ordered-order}

-- ---- lengths
pub lengths-right : (k : Fields) (m n : ℕ) → lengths_wrong k m n ≡ false → (m ≡ index_length k) × (n ≡ words_length k)
unfolding lengths_wrong
lengths-right k m n e =
    let w = neither (not (eqb m (index_length k))) (not (eqb n (words_length k))) e in
    (eqb-true m (index_length k) (not-false _ w.0), eqb-true n (words_length k) (not-false _ w.1))

-- whether a bit is set past the last tile, as its word tells
pub stray-told : (k : Fields) (words : List ℕ) (m : ℕ) (b : Bool) → lengths_wrong k m (length words) ≡ false
    → b ≡ any_set_from words (tiles k) (64 - tiles k % 64) → stray_bit k words ≡ b
stray-told k words m b r e = stray_is k words (lengths-right k m (length words) r).1 ∙ sym e

right-lengths : (k : Fields) (m n : ℕ) → m ≡ index_length k → n ≡ words_length k → lengths_wrong k m n ≡ false
unfolding lengths_wrong
right-lengths k m n p q = rw (eq-eqb m (index_length k) p, eq-eqb n (words_length k) q)

-- the list is short, and its tiles are in the words
pub index-few : (k : Fields) → Known k → index_length k ≤ 998001
index-few k w = go k.tif
  where
    go : (b : Bool) → cond b (tiles k) 0 ≤ 998001
    go true = tiles_small k w
    go false = omega arith

enough : (k : Fields) → (index_length k ≤ words_length k * 64) × (index_length k ≤ tiles k)
enough k = go k.tif
  where
    go : (b : Bool) → (cond b (tiles k) 0 ≤ cond b ((tiles k + 63) / 64) 0 * 64) × (cond b (tiles k) 0 ≤ tiles k)
    go true = (omega arith, omega arith)
    go false = (omega arith, omega arith)

-- ---- what was accepted
pub record ListTaken (k : Fields) (index words : List ℕ) : Type 0 where
  pub index_long : length index ≡ index_length k
  pub words_long : length words ≡ words_length k
  pub order : in_order 0 index ≡ true
  pub left : bits_left k index words ≡ bits_of index (length words)

to_bits : (k : Fields) (index words : List ℕ) → to_bits_of k index words ≡ Ok tt → ListTaken k index words
unfolding to_bits_of bits_left
to_bits k index words = go (lengths_wrong k (length index) (length words)) (in_order 0 index) refl refl
  where
    go : (a b : Bool) → lengths_wrong k (length index) (length words) ≡ a → in_order 0 index ≡ b
        → cond {A = Result Unit Refusal} a (Err Refusal.Length) (cond b (Ok tt) (Err Refusal.ReadingOrder)) ≡ Ok tt
        → ListTaken k index words
    go true b p q h = let z : ◌≡◌ {A = ℕ} 0 1 = cc in absurd (omega arith)
    go false false p q h = let z : ◌≡◌ {A = ℕ} 0 1 = cc in absurd (omega arith)
    go false true p q h =
        let w = lengths-right k (length index) (length words) p in
        record { index_long = w.0; words_long = w.1; order = q; left = rw (p, q) }

pub record WordsTaken (k : Fields) (words index : List ℕ) : Type 0 where
  pub index_long : length index ≡ index_length k
  pub words_long : length words ≡ words_length k
  pub none_stray : stray_bit k words ≡ false
  pub left : list_left k words index ≡ list_of k words

to-list : (k : Fields) (words index : List ℕ) → to_list_of k words index ≡ Ok tt → WordsTaken k words index
unfolding to_list_of list_left
to-list k words index = go (lengths_wrong k (length index) (length words)) (stray_bit k words) refl refl
  where
    go : (a b : Bool) → lengths_wrong k (length index) (length words) ≡ a → stray_bit k words ≡ b
        → cond {A = Result Unit Refusal} a (Err Refusal.Length) (cond b (Err Refusal.StrayBit) (Ok tt)) ≡ Ok tt
        → WordsTaken k words index
    go true b p q h = let z : ◌≡◌ {A = ℕ} 0 1 = cc in absurd (omega arith)
    go false true p q h = let z : ◌≡◌ {A = ℕ} 0 1 = cc in absurd (omega arith)
    go false false p q h =
        let w = lengths-right k (length index) (length words) p in
        record { index_long = w.0; words_long = w.1; none_stray = q; left = rw (p, q) }

-- ---- the bits of a list
module _ (k : Fields) (index : List ℕ) (n : ℕ) (l : length index ≡ index_length k) (m : n ≡ words_length k) where
  abbrev bits : List ℕ
  bits = bits_of index n

  bits-long : length bits ≡ n
  bits-long = listed-length (λ i. word_from index (i * 64) 64) n

  -- each bit is its entry's, past the words and the list too
  bits-agree : (t : ℕ) → present bits t ≡ bit_of (get_or index t 0)
  bits-agree t = go (dec_le n (t / 64))
    where
      go : Dec (n ≤ t / 64) → present bits t ≡ bit_of (get_or index t 0)
      go (yes h) =
          present-past bits t (omega (arith, bits-long))
          ∙ sym (bit-none (get_or index t 0) (get_or-eq_default index 0 {n = t} (omega (arith, (enough k).0))))
      go (no h) = present-of index n t (lt_of_not-le h)

  bits_forms : in_order 0 index ≡ true → Forms k index bits
  unfolding stray_bit
  bits_forms o =
      record {
        index_long = l;
        words_long = bits-long ∙ m;
        none_stray = set-none bits (tiles k) (length bits * 64 - tiles k) (λ j p q.
            bits-agree j ∙ bit-none (get_or index j 0) (get_or-eq_default index 0 {n = j} (omega (arith, (enough k).1))));
        entries = λ t. go t (ℕ_discrete (get_or index t 0) 0);
      }
    where
      inside : (t : ℕ) → (get_or index t 0 ≡ 0 → ⊥) → Dec (length index ≤ t) → t < length index
      inside t d (yes h) = absurd (d (get_or-eq_default index 0 {n = t} h))
      inside t d (no h) = lt_of_not-le h

      go : (t : ℕ) → Dec (get_or index t 0 ≡ 0) → number_at bits t ≡ get_or index t 0
      go t (yes z) = number-none bits t (bits-agree t ∙ bit-none (get_or index t 0) z) ∙ sym z
      go t (no d) =
          number-some bits t (λ z. let w : bit_of (get_or index t 0) ≡ 0 = sym (bits-agree t) ∙ z in omega (arith, w, bit-some (get_or index t 0) d))
          ∙ ap (counted bits) (add-one t) ∙ same_count bits index (suc t) (λ j q. bits-agree j)
          ∙ sym (order-ordered 0 index o t (inside t d (dec_le (length index) t)) d ∙ omega arith)

pub to-bits-forms : ToBitsForms
to-bits-forms k index words e =
    let a = to_bits k index words e in
    rw a.left (bits_forms k index (length words) a.index_long a.words_long a.order)

pub to-list-forms : ToListForms
to-list-forms k words index e =
    let a = to-list k words index e in
    rw a.left (bits-have-list k words a.words_long a.none_stray)

-- ---- there and back
pub bits-and-back : BitsAndBack
unfolding to_list_of list_left
bits-and-back k index words other e l =
    let f = to-bits-forms k index words e in
    let w : lengths_wrong k (length other) (length (bits_left k index words)) ≡ false = right-lengths k _ _ (l ∙ f.index_long) f.words_long in (
      rw (w, f.none_stray),
      rw (w, f.none_stray)
          (sym (is-listed (number_at (bits_left k index words)) (index_length k) index f.index_long (λ j q. sym (f.entries j)))),
    )

-- a tile's bit by its number
number_bit : (words : List ℕ) (t : ℕ) → present words t ≡ bit_of (number_at words t)
number_bit words t = go (ℕ_discrete (present words t) 0)
  where
    go : Dec (present words t ≡ 0) → present words t ≡ bit_of (number_at words t)
    go (yes z) = z ∙ sym (bit-none (number_at words t) (number-none words t z))
    go (no d) = let one : present words t ≡ 1 = omega (arith, d) in one ∙ sym (bit-some (number_at words t) (some_number words t d))

module _ (k : Fields) (index words : List ℕ) (f : Forms k index words) where
  forms-agree : (t : ℕ) → present words t ≡ bit_of (get_or index t 0)
  forms-agree t = number_bit words t ∙ ap bit_of (f.entries t)

  forms-order : in_order 0 index ≡ true
  forms-order = ordered-order 0 index (λ t l d.
      sym (f.entries t) ∙ number-some words t (λ z. d (sym (f.entries t) ∙ number-none words t z))
      ∙ ap (counted words) (add-one t) ∙ same_count words index (suc t) (λ j q. forms-agree j) ∙ omega arith)

  forms-words : ((i : ℕ) → get_or words i 0 < 2 ^ 64) → bits_of index (length words) ≡ words
  forms-words h =
      sym (is-listed (λ i. word_from index (i * 64) 64) (length words) words refl (λ i q.
      sym (word-is index 64 (i * 64) (get_or words i 0) (h i) (λ j l.
      let x : (i * 64 + j) / 64 ≡ i = omega arith in
      let y : (i * 64 + j) % 64 ≡ j = omega arith in
      sym (forms-agree (i * 64 + j)) ∙ ap₂ (λ (a b : ℕ). get_or words a 0 / 2 ^ b % 2) x y))))

pub forms-in-order : FormsInOrder
forms-in-order = forms-order

pub list-and-back : ListAndBack
unfolding to_bits_of bits_left
list-and-back k words index other h e l =
    let f = to-list-forms k words index e in
    let list = list_left k words index in
    let w : lengths_wrong k (length list) (length other) ≡ false = right-lengths k _ _ f.index_long (l ∙ f.words_long) in
    let o = forms-order k list words f in
    (rw (w, o), rw (w, o, l) (forms-words k list words f h))
