-- The count grows by each bit, and is not above a number up to some tile. Assumes nothing.
use Prim.Native.Nat.{ℕ, zero, suc, ◌+◌, ◌-◌, ◌/◌, ◌%◌, ◌^◌, ◌≤◌, ◌<◌}
use native.Mathlib.Omega.{arith}
use native.Mathlib.Nat.{zero-div, lt_of_not-le}
use native.Mathlib.Numerals.{add-one}
use native.Mathlib.Decide.{dec_le, ℕ_discrete}
use mathlib.Core.Path.{◌≡◌, refl, sym, ap, subst}
use mathlib.Core.Bool.{Bool, true, false, cond}
use mathlib.Core.List.{List}
use borrow.Author.Tests.{eq-eqb, ne_eqb, ltb-true, ltb-false, lt-ltb, le-ltb}
use lib.Dec.{ltb}
use lib.ListN.{length, get_or-eq_default}
use Rattle.presence.specs.Presence.{present, counted, number_at, within}

module _ (words : List ℕ) where
  pub counted_none : counted words 0 ≡ 0
  unfolding counted
  counted_none = refl

  pub counted_step : (t : ℕ) → counted words (t + 1) ≡ present words t + counted words t
  unfolding counted
  counted_step t = ap (counted words) (add-one t)

  pub counted-le : (n : ℕ) → counted words n ≤ n
  unfolding counted
  counted-le zero = omega arith
  counted-le (suc n) = omega (arith, counted-le n)

  counted-more : (a d : ℕ) → counted words a ≤ counted words (a + d)
  counted-more a zero = let e : a + 0 ≡ a = omega arith in rw e (omega arith)
  counted-more a (suc d) =
      let e : a + suc d ≡ a + d + 1 = omega arith in
      rw e (omega (arith, counted-more a d, counted_step (a + d)))

  pub counted-mono : (a b : ℕ) → a ≤ b → counted words a ≤ counted words b
  counted-mono a b h =
      let e : a + (b - a) ≡ b = omega arith in
      subst (λ (x : ℕ). counted words a ≤ counted words x) e (counted-more a (b - a))

  -- no bit past the words
  pub present-past : (t : ℕ) → length words ≤ t / 64 → present words t ≡ 0
  present-past t h = rw (get_or-eq_default words 0 {n = t / 64} h, zero-div (2 ^ (t % 64)))

  pub present-in : (t : ℕ) → (present words t ≡ 0 → ⊥) → t / 64 < length words
  present-in t d = go (dec_le (length words) (t / 64))
    where
      go : Dec (length words ≤ t / 64) → t / 64 < length words
      go (yes h) = absurd (d (present-past t h))
      go (no h) = lt_of_not-le h

  -- ---- the stored number
  pub number-none : (t : ℕ) → present words t ≡ 0 → number_at words t ≡ 0
  unfolding number_at
  number-none t e = rw (eq-eqb (present words t) 0 e)

  pub number-some : (t : ℕ) → (present words t ≡ 0 → ⊥) → number_at words t ≡ counted words (t + 1)
  unfolding number_at
  number-some t d = rw (ne_eqb (present words t) 0 d)

  pub some_number : (t : ℕ) → (present words t ≡ 0 → ⊥) → number_at words t ≡ 0 → ⊥
  some_number t d e = d (omega (arith, counted_step t, number-some t d))

  -- ---- how far the count is not above a number
  module _ (count : ℕ) where
    -- the count passes the number nowhere, or at a tile
    pub never_stops : (n : ℕ) → counted words n ≤ count → within words count n ≡ n
    unfolding within
    never_stops zero l = refl
    never_stops (suc n) l = rw (le-ltb count (counted words (suc n)) l)

    pub stops_at : (n m : ℕ) → m ≤ n → counted words m ≤ count → count < counted words (m + 1) → within words count n ≡ m
    unfolding within
    stops_at zero m h l g = omega arith
    stops_at (suc n) m h l g = go (ℕ_discrete m (suc n)) (λ d. stops_at n m (omega arith) l g)
      where
        go : Dec (m ≡ suc n) → ((m ≡ suc n → ⊥) → within words count n ≡ m) → cond (ltb count (counted words (suc n))) (within words count n) (suc n) ≡ m
        go (yes e) f = rw (le-ltb count (counted words (suc n)) (subst (λ (x : ℕ). counted words x ≤ count) e l)) (sym e)
        go (no d) f = rw (lt-ltb count (counted words (suc n)) (omega (arith, g, counted-mono (m + 1) (suc n) (omega arith)))) (f d)

    within-few : (n : ℕ) → counted words (within words count n) ≤ count
    unfolding within
    within-few zero = omega (arith, counted_none)
    within-few (suc n) = go (ltb count (counted words (suc n))) refl (within-few n)
      where
        go : (b : Bool) → ltb count (counted words (suc n)) ≡ b → counted words (within words count n) ≤ count
            → counted words (cond b (within words count n) (suc n)) ≤ count
        go true e f = f
        go false e f = ltb-false count (counted words (suc n)) e

    pub near : (n t : ℕ) → t < within words count n → counted words (t + 1) ≤ count
    near n t h = omega (arith, counted-mono (t + 1) (within words count n) (omega arith), within-few n)

    pub far : (n t : ℕ) → t < n → within words count n ≤ t → count < counted words (t + 1)
    unfolding within
    far zero t h l = absurd (omega arith)
    far (suc n) t h l = go (ltb count (counted words (suc n))) refl (ℕ_discrete t n) l (λ d. far n t (omega arith))
      where
        go : (b : Bool) → ltb count (counted words (suc n)) ≡ b → Dec (t ≡ n) → cond b (within words count n) (suc n) ≤ t
            → ((t ≡ n → ⊥) → within words count n ≤ t → count < counted words (t + 1)) → count < counted words (t + 1)
        go false e d l f = absurd (omega arith)
        go true e (no d) l f = f d l
        go true e (yes i) l f =
            let z : suc n ≡ t + 1 = omega arith in
            subst (λ (x : ℕ). count < counted words x) z (ltb-true count (counted words (suc n)) e)

pub ruleset numbering = (number-none, number-some, present-in)
