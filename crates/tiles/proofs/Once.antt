-- A number that occurs twice would be refused at its second place; and each number is named. Assumes nothing.
use mathlib.Core.Path.{◌≡◌, refl, sym, ap, ◌∙◌}
use mathlib.Core.Bool.{Bool, true, false, cond, not, ◌&&◌, ◌||◌, true≢false}
use mathlib.Core.List.{List}
use mathlib.Core.Option.{Option, some, none}
use Prim.Native.Nat.{ℕ, ◌+◌, ◌-◌, ◌<◌}
use native.Mathlib.Omega.{arith}
use native.Mathlib.Nat.{lt_of_not-le}
use native.Mathlib.Decide.{dec_lt}
use borrow.Author.Tests.{ltb-false}
use lib.Dec.{ltb, eqb}
use lib.ListN.{length, get_or, take}
use lib.Seq.{get_or-take, length-take-le}
use Rattle.arc.specs.declared.refusal.Refusal.{Refusal}
use Rattle.std.specs.Prelude.{Ok, Err}
use Rattle.card_text.specs.declared.Fields.{Fields}
use Rattle.tiles.specs.declared.Said.{Said}
use Rattle.tiles.specs.Index.{tiles, in_base, index_wrong, said_of}
use Rattle.whole.specs.Lists.{occurs}
use Rattle.tiles.specs.Check.{bad_at, first_bad, all_named, judged, check_of, EachPlaced, NoneAbove, EachOnce, UpToCount}
use Rattle.tiles.specs.Entries.{neither}
use Rattle.tiles.proofs.Entry.{index_long, count-all, said_all, entry_in, stored-in}
use Rattle.tiles.proofs.First.{none_of}
use Rattle.tiles.proofs.Counted.{occurs-at, place, named-each}
use Rattle.tiles.proofs.Pass.{bad-again}

-- ---- an index with no bad entry
module _ (index : List ℕ) (count : ℕ) (b : first_bad count index ≡ none) where
  -- the number at i is not met again at j
  not-again : (i j n : ℕ) → (n ≡ 0 → ⊥) → j < length index → i < j → get_or index i 0 ≡ n → get_or index j 0 ≡ n → ⊥
  not-again i j n d h p e f =
      let o : occurs (get_or index j 0) (take j index) ≡ true =
      occurs-at (take j index) i (get_or index j 0) (omega (arith, length-take-le j index (omega arith)))
      (get_or-take j index i 0 p ∙ e ∙ sym f) in
      let t : bad_at count index j ≡ true = bad-again count index j (λ z. d (sym f ∙ z)) o in
      let s : bad_at count index j ≡ false =
      none_of (bad_at count index) 0 (length index) b j (omega arith) (omega arith) in
      true≢false (sym t ∙ s)

  only-place : (i j n : ℕ) → (n ≡ 0 → ⊥) → i < length index → j < length index → get_or index i 0 ≡ n
      → get_or index j 0 ≡ n → i ≡ j
  only-place i j n d h g e f = go (dec_lt i j) (dec_lt j i)
    where
      go : Dec (i < j) → Dec (j < i) → i ≡ j
      go (yes p) q = absurd (not-again i j n d g p e f)
      go (no p) (yes q) = absurd (not-again j i n d h q f e)
      go (no p) (no q) = omega (arith, lt_of_not-le p, lt_of_not-le q)

-- ---- what an accepted check says
record Checked (k : Fields) (index : List ℕ) (count : ℕ) : Type 0 where
  right : index_wrong k index count ≡ false
  passes : k.tif ≡ true → (first_bad count index ≡ none) × (all_named count index ≡ true)

passed : (index : List ℕ) (count : ℕ) → judged count index (first_bad count index) ≡ Ok tt
    → (first_bad count index ≡ none) × (all_named count index ≡ true)
passed index count = go (first_bad count index) (all_named count index) refl refl
  where
    go : (o : Option ℕ) (b : Bool) → first_bad count index ≡ o → all_named count index ≡ b
        → judged count index o ≡ Ok tt → (first_bad count index ≡ none) × (all_named count index ≡ true)
    go (some i) b e f h = let z : ◌≡◌ {A = ℕ} 0 1 = cc in absurd (omega arith)
    go none false e f h = let g = rw f at h in let z : ◌≡◌ {A = ℕ} 0 1 = cc in absurd (omega arith)
    go none true e f h = (e, f)

checked : (k : Fields) (index marks : List ℕ) (count : ℕ) → check_of k index count marks ≡ Ok tt → Checked k index count
unfolding check_of
checked k index marks count = go (index_wrong k index count || ltb (length marks) count) refl
  where
    go : (x : Bool) → index_wrong k index count || ltb (length marks) count ≡ x
        → cond x (Err Refusal.Length) (cond k.tif (judged count index (first_bad count index)) (Ok tt))
        ≡ Ok tt → Checked k index count
    go true e h = let z : ◌≡◌ {A = ℕ} 0 1 = cc in absurd (omega arith)
    go false e h =
        record {
          right = (neither (index_wrong k index count) (ltb (length marks) count) e).0;
          passes = λ y. passed index count (rw y at h);
        }

number_in : Said → ℕ
number_in (Said.Stored s) = s.number
number_in Said.Missing = 0
number_in Said.Above = 0

-- ---- by TIF
module _ (k : Fields) (index : List ℕ) (count : ℕ) (w : Checked k index count) where
  one_place : (y : Bool) → k.tif ≡ y → EachPlaced k (said_of k index count) count
  unfolding number_in
  one_place true y n p q =
      let g = w.passes y in
      let r = place index n (named-each index count n g.1 p q) in
      let l : length index ≡ tiles k = index_long k index count w.right y in
      record {
        at = r.at;
        inside = omega (arith, r.inside);
        stores = stored-in k index count r.at n y r.holds p q;
        only = λ t h e. only-place index count g.0 t r.at n (λ z. omega arith) (omega arith) r.inside
            (entry_in k index count t (Said.Stored (in_base n)) y e).1 r.holds;
      }
  one_place false y n p q =
      record {
        at = n - 1;
        inside = omega (arith, count-all k index count w.right y);
        stores = let s : n - 1 + 1 ≡ n = omega arith in said_all k index count (n - 1) y ∙ ap (λ (x : ℕ). Said.Stored (in_base x)) s;
        only = λ t h e. let m : Said.Stored (in_base (t + 1)) ≡ Said.Stored (in_base n) = sym (said_all k index count t y) ∙ e in
            let s : t + 1 ≡ n = ap number_in m in omega arith;
      }

  none_above : (y : Bool) → k.tif ≡ y → NoneAbove k (said_of k index count)
  none_above true y t h a =
      let e = get_or index t 0 in
      let l : length index ≡ tiles k = index_long k index count w.right y in
      let g = none_of (bad_at count index) 0 (length index) (w.passes y).0 t (omega arith) (omega arith) in
      let b = ltb-false count e (neither (ltb count e) (not (eqb e 0) && occurs e (take t index)) g).0 in
      let c = entry_in k index count t Said.Above y a in
      omega arith
  none_above false y t h a =
      let m : Said.Stored (in_base (t + 1)) ≡ Said.Above = sym (said_all k index count t y) ∙ a in
      let z : ◌≡◌ {A = ℕ} 0 1 = cc in omega arith

pub each-once : EachOnce
each-once k index marks count a = one_place k index count (checked k index marks count a) k.tif refl

pub up-to-count : UpToCount
up-to-count k index marks count a = none_above k index count (checked k index marks count a) k.tif refl
