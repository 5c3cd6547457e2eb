-- Where each number has one place no entry repeats an earlier one, and each number is named. Assumes nothing.
use mathlib.Core.Path.{◌≡◌, refl, sym, ◌∙◌}
use mathlib.Core.Bool.{Bool, true, false, cond}
use mathlib.Core.List.{List}
use Prim.Native.Nat.{ℕ, ◌≤◌, ◌<◌}
use native.Mathlib.Omega.{arith}
use native.Mathlib.Nat.{lt_of_not-le}
use native.Mathlib.Decide.{ℕ_discrete, dec_lt}
use borrow.Author.Tests.{le-ltb}
use lib.ListN.{length, get_or, take}
use lib.Seq.{get_or-take, length-take-le}
use Rattle.std.specs.Prelude.{Ok}
use Rattle.card_text.specs.declared.Fields.{Fields}
use Rattle.tiles.specs.declared.Said.{Said}
use Rattle.tiles.specs.Index.{tiles, in_base, index_wrong, said_of}
use Rattle.whole.specs.Lists.{occurs}
use Rattle.tiles.specs.Check.{bad_at, first_bad, judged, check_of, EachPlaced, NoneAbove, OnceAccepted}
use Rattle.tiles.specs.declared.Source.{Source}
use Rattle.tiles.specs.Entries.{said-above}
use Rattle.tiles.proofs.Entry.{index_long, said_in, entry_in, stored-in}
use Rattle.tiles.proofs.First.{none_from}
use Rattle.tiles.proofs.Counted.{occurs-at, place, each-named}
use Rattle.tiles.proofs.Pass.{good_none, good_new}

-- ---- with TIF Y
module _ (k : Fields) (index : List ℕ) (count : ℕ) (w : index_wrong k index count ≡ false) (y : k.tif ≡ true)
    (a : NoneAbove k (said_of k index count)) (e : EachPlaced k (said_of k index count) count) where
  long : length index ≡ tiles k
  long = index_long k index count w y

  entry-most : (i : ℕ) → i < length index → get_or index i 0 ≤ count
  entry-most i h = go (ℕ_discrete (get_or index i 0) 0) (dec_lt count (get_or index i 0))
    where
      go : Dec (get_or index i 0 ≡ 0) → Dec (count < get_or index i 0) → get_or index i 0 ≤ count
      go (yes z) q = omega arith
      go (no d) (yes q) =
          absurd (a i (omega (arith, long)) (said_in k index count i y ∙ said-above Source.Base count (get_or index i 0) d q))
      go (no d) (no q) = omega (arith, lt_of_not-le q)

  -- the number at i is not met before it
  not-before : (i : ℕ) → i < length index → (get_or index i 0 ≡ 0 → ⊥) → occurs (get_or index i 0) (take i index) ≡ false
  not-before i h d = go (occurs (get_or index i 0) (take i index)) refl
    where
      go : (b : Bool) → occurs (get_or index i 0) (take i index) ≡ b → b ≡ false
      go false o = refl
      go true o =
          let n = get_or index i 0 in
          let m = entry-most i h in
          let r = place (take i index) n o in
          let l : r.at < i = omega (arith, r.inside, length-take-le i index (omega arith)) in
          let s : get_or index r.at 0 ≡ n = sym (get_or-take i index r.at 0 l) ∙ r.holds in
          let u = e n (omega arith) m in
          let f : i ≡ u.at = u.only i (omega (arith, long)) (stored-in k index count i n y refl (omega arith) m) in
          let g : r.at ≡ u.at = u.only r.at (omega (arith, long)) (stored-in k index count r.at n y s (omega arith) m) in
          absurd (omega arith)

  good : (i : ℕ) → i < length index → bad_at count index i ≡ false
  good i h = go (ℕ_discrete (get_or index i 0) 0)
    where
      go : Dec (get_or index i 0 ≡ 0) → bad_at count index i ≡ false
      go (yes z) = good_none count index i z
      go (no d) = good_new count index i (entry-most i h) d (not-before i h d)

  named : (n : ℕ) → 1 ≤ n → n ≤ count → occurs n index ≡ true
  named n p q =
      let u = e n p q in
      occurs-at index u.at n (omega (arith, u.inside, long)) (entry_in k index count u.at (Said.Stored (in_base n)) y u.stores).1

  pub passes : judged count index (first_bad count index) ≡ Ok tt
  passes =
      rw (
        none_from (bad_at count index) 0 (length index) (λ j p q. good j (omega arith)),
        each-named index count named,
      )

pub once-accepted : OnceAccepted
unfolding check_of
once-accepted k index marks count w l a e = rw (w, le-ltb (length marks) count l) (go k.tif refl)
  where
    go : (b : Bool) → k.tif ≡ b
        → cond b (judged count index (first_bad count index)) (Ok tt) ≡ Ok tt
    go true y = passes k index count w y a e
    go false y = refl
