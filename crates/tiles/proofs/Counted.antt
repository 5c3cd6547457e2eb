-- Where a number occurs, and how many of 1 .. n do: each is counted once, so all occur where n are counted. Assumes nothing.
use mathlib.Core.Path.{◌≡◌, refl, sym, ap, ◌∙◌}
use mathlib.Core.Bool.{Bool, true, false, cond, ◌&&◌, ◌||◌, or-true, or-false, or_assoc, false≢true}
use mathlib.Core.List.{List, [], ◌∷◌, ◌++◌}
use Prim.Native.Nat.{ℕ, zero, suc, ◌+◌, ◌<◌, ◌≤◌}
use native.Mathlib.Omega.{arith}
use native.Mathlib.Decide.{ℕ_discrete}
use borrow.Author.Tests.{eq-eqb, eqb-true, ne_eqb, lt-leb}
use lib.Dec.{leb, eqb, leb-suc-suc}
use lib.ListN.{length, get_or}
use Rattle.whole.specs.Lists.{occurs}
use Rattle.tiles.specs.Check.{all_named}

-- ---- one entry more
pub occurs-more : (e x : ℕ) (l : List ℕ) → occurs e (l ++ (x ∷ [])) ≡ occurs e l || eqb x e
occurs-more e x [] = or-false (eqb x e)
occurs-more e x (y ∷ l) = ap (λ (b : Bool). eqb y e || b) (occurs-more e x l)
    ∙ sym (or_assoc (eqb y e) (occurs e l) (eqb x e))

pub occurs-other : (e x : ℕ) (l : List ℕ) → (x ≡ e → ⊥) → occurs e (l ++ (x ∷ [])) ≡ occurs e l
occurs-other e x l d = occurs-more e x l ∙ ap (λ (b : Bool). occurs e l || b) (ne_eqb x e d) ∙ or-false (occurs e l)

pub occurs-last : (e x : ℕ) (l : List ℕ) → x ≡ e → occurs e (l ++ (x ∷ [])) ≡ true
occurs-last e x l d = occurs-more e x l ∙ ap (λ (b : Bool). occurs e l || b) (eq-eqb x e d) ∙ or-true (occurs e l)

-- ---- where a number occurs
pub occurs-at : (l : List ℕ) (i n : ℕ) → i < length l → get_or l i 0 ≡ n → occurs n l ≡ true
occurs-at [] i n h e = absurd (omega arith)
occurs-at (x ∷ l) zero n h e = rw (eq-eqb x n e)
occurs-at (x ∷ l) (suc i) n h e = rw (occurs-at l i n (omega arith) e) (or-true (eqb x n))

pub record Place (l : List ℕ) (n : ℕ) : Type 0 where
  pub at : ℕ
  pub inside : at < length l
  pub holds : get_or l at 0 ≡ n

pub place : (l : List ℕ) (n : ℕ) → occurs n l ≡ true → Place l n
place [] n e = absurd (false≢true e)
place (x ∷ l) n e = go (eqb x n) refl e (place l n)
  where
    go : (b : Bool) → eqb x n ≡ b → b || occurs n l ≡ true → (occurs n l ≡ true → Place l n) → Place (x ∷ l) n
    go true p q w = record { at = 0; inside = omega arith; holds = eqb-true x n p }
    go false p q w = let r = w q in record { at = suc r.at; inside = omega (arith, r.inside); holds = r.holds }

-- ---- all of 1 .. n
pub named-each : (index : List ℕ) (count n : ℕ) → all_named count index ≡ true → 1 ≤ n → n ≤ count → occurs n index ≡ true
named-each index zero n e p q = absurd (omega arith)
named-each index (suc m) n e p q =
    go (occurs (suc m) index) refl e (λ w h. named-each index m n w p h) (ℕ_discrete n (suc m))
  where
    go : (b : Bool) → occurs (suc m) index ≡ b → b && all_named m index ≡ true
        → (all_named m index ≡ true → n ≤ m → occurs n index ≡ true) → Dec (n ≡ suc m) → occurs n index ≡ true
    go true o w f (yes d) = ap (λ (x : ℕ). occurs x index) d ∙ o
    go true o w f (no d) = f w (omega arith)
    go false o w f d = absurd (false≢true w)

pub each-named : (index : List ℕ) (count : ℕ) → ((n : ℕ) → 1 ≤ n → n ≤ count → occurs n index ≡ true)
    → all_named count index ≡ true
each-named index zero h = refl
each-named index (suc m) h =
    rw (h (suc m) (omega arith) (omega arith)) (each-named index m (λ n p q. h n p (omega arith)))

-- ---- how many of them
abbrev pub counted : List ℕ → ℕ → ℕ
counted l zero = 0
counted l (suc n) = cond (occurs (suc n) l) 1 0 + counted l n

pub counted_none : (n : ℕ) → counted [] n ≡ 0
counted_none zero = refl
counted_none (suc n) = omega (arith, counted_none n)

-- an entry that is none of 1 .. n
pub counted_same : (l : List ℕ) (x n : ℕ) → ((j : ℕ) → j < n → x ≡ suc j → ⊥) → counted (l ++ (x ∷ [])) n ≡ counted l n
counted_same l x zero d = refl
counted_same l x (suc n) d =
    rw (occurs-other (suc n) x l (d n (omega arith)), counted_same l x n (λ j q. d j (omega arith)))

-- an entry that is one of them, and new
pub counted-new : (l : List ℕ) (x n : ℕ) → 1 ≤ x → x ≤ n → occurs x l ≡ false
    → counted (l ++ (x ∷ [])) n ≡ counted l n + 1
counted-new l x zero p q o = absurd (omega arith)
counted-new l x (suc n) p q o = go (ℕ_discrete x (suc n)) (λ h. counted-new l x n p h o)
  where
    go : Dec (x ≡ suc n) → (x ≤ n → counted (l ++ (x ∷ [])) n ≡ counted l n + 1)
        → counted (l ++ (x ∷ [])) (suc n) ≡ counted l (suc n) + 1
    go (yes e) w =
        rw (
          occurs-last (suc n) x l e,
          sym (ap (λ (y : ℕ). occurs y l) e) ∙ o,
          counted_same l x n (λ j h d. omega arith),
        ) (omega arith)
    go (no d) w = rw (occurs-other (suc n) x l d, w (omega arith)) (omega arith)

pub counted-le : (l : List ℕ) (n : ℕ) → counted l n ≤ n
counted-le l zero = omega arith
counted-le l (suc n) = go (occurs (suc n) l) (counted-le l n)
  where
    go : (b : Bool) {m : ℕ} → m ≤ n → cond b 1 0 + m ≤ suc n
    go true h = omega arith
    go false h = omega arith

-- all of them, told by the count
pub named-told : (l : List ℕ) (n : ℕ) → all_named n l ≡ leb n (counted l n)
named-told l zero = refl
named-told l (suc n) = go (occurs (suc n) l) (named-told l n)
  where
    go : (b : Bool) → all_named n l ≡ leb n (counted l n) → b && all_named n l ≡ leb (suc n) (cond b 1 0 + counted l n)
    go true e = let s : 1 + counted l n ≡ suc (counted l n) = omega arith in rw s (e ∙ sym (leb-suc-suc n (counted l n)))
    go false e = sym (lt-leb (suc n) (0 + counted l n) (omega (arith, counted-le l n)))
