-- Laws of the lists of specs/Lists.antt: members, and a list of slots that is filled from the front. Assumes nothing.
use mathlib.Core.Path.{◌≡◌, refl, sym, ap, ap₂, ◌∙◌}
use mathlib.Core.Bool.{Bool, true, false, cond, ◌&&◌, ◌||◌, and-false, or-true}
use mathlib.Core.List.{List, [], ◌∷◌, ◌++◌, append-nil, map}
use Prim.Native.Nat.{ℕ, zero, suc, ◌+◌, ◌-◌, ◌<◌}
use native.Mathlib.Omega.{arith}
use borrow.Author.Tests.{eqb-true, eqb-false, eq-eqb}
use lib.Dec.{eqb}
use lib.ListN.{length, get_or, set, replicate, length-append}
use lib.Seq.{set-append_seam, append_snoc}
use Rattle.whole.specs.Lists.{occurs, those, down_from, up_from, padded}

-- two lists that are alike when mapped are alike at each place
pub agree : {A B C : Type 0} (f : A → C) (g : B → C) (k : List A) (l : List B) (d : A) (e : B) → map f k ≡ map g l
    → (i : ℕ) → i < length k → f (get_or k i d) ≡ g (get_or l i e)
agree f g [] l d e p i h = absurd (omega arith)
agree f g (a ∷ k) [] d e p i h = absurd (omega (arith, ap length p))
agree f g (a ∷ k) (b ∷ l) d e p zero h = cc
agree f g (a ∷ k) (b ∷ l) d e p (suc i) h = agree f g k l d e (cc) i (omega arith)

pub up_from-at : (a n i d : ℕ) → i < n → get_or (up_from a n) i d ≡ a + i
up_from-at a zero i d h = absurd (omega arith)
up_from-at a (suc n) zero d h = omega arith
up_from-at a (suc n) (suc i) d h = let e = up_from-at (a + 1) n i d (omega arith) in omega arith

-- ---- members

pub occurs-those : (f : ℕ → Bool) (z : ℕ) (l : List ℕ) → occurs z (those f l) ≡ f z && occurs z l
occurs-those f z [] = sym (and-false (f z))
occurs-those f z (x ∷ l) = go (f x) (eqb x z) refl refl (occurs-those f z l)
  where
    go : (t u : Bool) → f x ≡ t → eqb x z ≡ u → occurs z (those f l) ≡ f z && occurs z l
        → occurs z (cond t (x ∷ those f l) (those f l)) ≡ f z && (u || occurs z l)
    go true true p q r = rw (q, sym (ap f (eqb-true x z q)) ∙ p)
    go false true p q r = r ∙ rw (sym (ap f (eqb-true x z q)) ∙ p)
    go true false p q r = rw q r
    go false false p q r = r

pub occurs-down : (a n k : ℕ) → k < n → occurs (a + k) (down_from a n) ≡ true
occurs-down a zero k h = absurd (omega arith)
occurs-down a (suc n) k h = go (eqb n k) refl (λ l. occurs-down a n k l)
  where
    go : (t : Bool) → eqb n k ≡ t → (k < n → occurs (a + k) (down_from a n) ≡ true) → eqb (a + n) (a + k) || occurs (a + k) (down_from a n) ≡ true
    go true e f = rw (eq-eqb (a + n) (a + k) (omega (arith, eqb-true n k e)))
    go false e f = rw (f (omega (arith, eqb-false n k e))) (or-true (eqb (a + n) (a + k)))

pub occurs-up : (a n k : ℕ) → k < n → occurs (a + k) (up_from a n) ≡ true
occurs-up a zero k h = absurd (omega arith)
occurs-up a (suc n) zero h = rw (eq-eqb a (a + 0) (omega arith))
occurs-up a (suc n) (suc k) h =
    let e : a + suc k ≡ a + 1 + k = omega arith in
    rw (ap (λ (z : ℕ). occurs z (up_from (a + 1) n)) e ∙ occurs-up (a + 1) n k (omega arith)) (or-true (eqb a (a + suc k)))

-- ---- slots: what has been taken so far, and what those of the rest will add

-- the slots hold `so`, n of them, and `so` with those of the rest is the whole
pub record Sofar (f : ℕ → Bool) (k : ℕ) (whole rest slots : List ℕ) (n : ℕ) : Type 0 where
  pub so : List ℕ
  pub joined : so ++ those f rest ≡ whole
  pub filled : slots ≡ padded k so
  pub count : n ≡ length so

-- one more slot
pub padded-set : (k : ℕ) (l : List ℕ) (z : ℕ) → length l < k → set (padded k l) (length l) z ≡ padded k (l ++ (z ∷ []))
padded-set k l z h =
    let e : k - length l ≡ suc (k - suc (length l)) = omega arith in
    let g : k - length (l ++ (z ∷ [])) ≡ k - suc (length l) = omega (arith, length-append l (z ∷ [])) in
    rw (e, g) (set-append_seam l 0 (replicate (k - suc (length l)) 0) z ∙ sym (append_snoc l z (replicate (k - suc (length l)) 0)))

module _ (f : ℕ → Bool) (k : ℕ) (whole rest slots : List ℕ) (n z : ℕ) (w : Sofar f k whole (z ∷ rest) slots n) where
  pub taken : f z ≡ true → n < k → Sofar f k whole rest (set slots n z) (n + 1)
  taken t h =
      record {
        so = w.so ++ (z ∷ []);
        joined = append_snoc w.so z (those f rest) ∙ ap (λ (b : Bool). w.so ++ cond b (z ∷ those f rest) (those f rest)) (sym t) ∙ w.joined;
        filled = rw (w.filled, w.count) (padded-set k w.so z (omega (arith, w.count)));
        count = omega (arith, length-append w.so (z ∷ []), w.count);
      }

  pub passed : f z ≡ false → Sofar f k whole rest slots n
  passed t =
      record {
        so = w.so;
        joined = ap (λ (b : Bool). w.so ++ cond b (z ∷ those f rest) (those f rest)) (sym t) ∙ w.joined;
        filled = w.filled;
        count = w.count;
      }

-- nothing more to come: the answer made of count and slots
pub finished : {A : Type 0} (made : ℕ → List ℕ → A) (f : ℕ → Bool) (k : ℕ) (whole rest slots : List ℕ) (n : ℕ)
    → Sofar f k whole rest slots n → those f rest ≡ [] → made n slots ≡ made (length whole) (padded k whole)
finished made f k whole rest slots n w e =
    let s : w.so ≡ whole = sym (append-nil w.so) ∙ ap (λ (l : List ℕ). w.so ++ l) (sym e) ∙ w.joined in
    ap₂ made (w.count ∙ ap length s) (w.filled ∙ ap (padded k) s)
