-- The first tile found is in range and stores the angle, by induction on the tiles left. Since a stored angle fixes its tile,
-- the tile that stores it is the one found. Assumes nothing.
use mathlib.Core.Path.{◌≡◌, refl, sym, ap, ◌∙◌, subst}
use mathlib.Core.Bool.{Bool, true, false, cond}
use mathlib.Core.Option.{some}
use Prim.Native.Nat.{ℕ, zero, suc, ◌+◌, ◌*◌, ◌<◌}
use native.Mathlib.Omega.{arith}
use borrow.Author.Tests.{eqb-true, eq-eqb}
use lib.IntN.{ℤ, pos, negsuc, neg_ℤ, suc_ℤ}
use Rattle.whole.specs.Whole.{outside, raise}
use Rattle.whole.proofs.Signed.{Is, is_same, is-equal, is-nat, is-neg, is-raise, raise-high}
use Rattle.arc.specs.Pixels.{Grid}
use Rattle.origin.specs.Origin.{stored_angle}
use Rattle.origin.proofs.Line.{is-inside}
use Rattle.origin.proofs.Stored.{stored-unique}
use Rattle.card_text.specs.Read.{equal_ℤ, tile_storing}
use Rattle.whole.specs.Lists.{first_from}

is-suc : (z : ℤ) (p q : ℕ) → Is z p q → Is (suc_ℤ z) (suc p) q
is-suc (pos n) p q e = omega arith
is-suc (negsuc zero) p q e = omega arith
is-suc (negsuc (suc n)) p q e = omega arith

-- k is one of the n whole numbers from p − q, and f holds of it
pub record First (f : ℤ → Bool) (p q n : ℕ) (k : ℤ) : Type 0 where
  pub steps : ℕ
  pub few : steps < n
  pub at : Is k (p + steps) q
  pub holds : f k ≡ true

module _ (f : ℤ → Bool) where
  -- one step, the rest being known
  step-sound : (n : ℕ) (z k : ℤ) (p q : ℕ) (b : Bool) → Is z p q → f z ≡ b → (first_from suc_ℤ f (suc_ℤ z) n ≡ some k → First f (suc p) q n k)
      → cond b (some z) (first_from suc_ℤ f (suc_ℤ z) n) ≡ some k → First f p q (suc n) k
  step-sound n z k p q true e h rest t =
      let same : z ≡ k = cc in
      record {
        steps = 0;
        few = omega arith;
        at = subst (λ (y : ℤ). Is y (p + 0) q) same (is_same z p q (p + 0) q e (omega arith));
        holds = subst (λ (y : ℤ). f y ≡ true) same h;
      }
  step-sound n z k p q false e h rest t =
      let r = rest t in
      record {
        steps = suc r.steps;
        few = omega (arith, r.few);
        at = is_same k (suc p + r.steps) q (p + suc r.steps) q r.at (omega arith);
        holds = r.holds;
      }

  pub first-sound : (n : ℕ) (z k : ℤ) (p q : ℕ) → Is z p q → first_from suc_ℤ f z n ≡ some k → First f p q n k
  unfolding first_from
  first-sound zero z k p q e t = let x : ◌≡◌ {A = ℕ} 0 1 = cc in absurd (omega arith)
  first-sound (suc n) z k p q e t =
      step-sound n z k p q (f z) e refl (first-sound n (suc_ℤ z) k (suc p) q (is-suc z p q e)) t

  -- f holds of k alone
  module _ (k : ℤ) (q : ℕ) (h : f k ≡ true) (only : (i : ℤ) → f i ≡ true → i ≡ k) where
    step-complete : (n : ℕ) (z : ℤ) (p j : ℕ) (b : Bool) → Is z p q → Is k (p + j) q → j < suc n → f z ≡ b
        → ((i : ℕ) → Is k (suc p + i) q → i < n → first_from suc_ℤ f (suc_ℤ z) n ≡ some k) → cond b (some z) (first_from suc_ℤ f (suc_ℤ z) n) ≡ some k
    step-complete n z p j true e g l t rest = ap some (only z t)
    step-complete n z p zero false e g l t rest =
        let same : k ≡ z = is-equal k z (p + 0) q p q g e (omega arith) in
        let x : ◌≡◌ {A = ℕ} 0 1 = cc in absurd (omega arith)
    step-complete n z p (suc j) false e g l t rest = rest j (is_same k (p + suc j) q (suc p + j) q g (omega arith)) (omega arith)

    pub first-complete : (n : ℕ) (z : ℤ) (p j : ℕ) → Is z p q → Is k (p + j) q → j < n → first_from suc_ℤ f z n ≡ some k
    unfolding first_from
    first-complete zero z p j e g l = absurd (omega arith)
    first-complete (suc n) z p j e g l =
        step-complete n z p j (f z) e g l refl (λ i d m. first-complete n (suc_ℤ z) (suc p) i (is-suc z p q e) d m)

-- ---- equal whole numbers

equal-true : (x y : ℤ) → equal_ℤ x y ≡ true → x ≡ y
equal-true (pos m) (pos n) e = ap pos (eqb-true m n e)
equal-true (pos m) (negsuc n) e = let x : ◌≡◌ {A = ℕ} 0 1 = cc in absurd (omega arith)
equal-true (negsuc m) (pos n) e = let x : ◌≡◌ {A = ℕ} 0 1 = cc in absurd (omega arith)
equal-true (negsuc m) (negsuc n) e = ap negsuc (eqb-true m n e)

true-equal : (x : ℤ) → equal_ℤ x x ≡ true
true-equal (pos m) = eq-eqb m m refl
true-equal (negsuc m) = eq-eqb m m refl

-- ---- tiles

-- k is from −t to t, and stores the angle
pub record Stores (x t : ℕ) (angle k : ℤ) : Type 0 where
  pub on-grid : outside t k ≡ false
  pub same : stored_angle x k ≡ angle

lowest : (t : ℕ) → Is (neg_ℤ (pos t)) 0 t
lowest t = is-neg (pos t) t 0 (is-nat t)

module _ (x t : ℕ) (angle k : ℤ) where
  pub tile-stores : tile_storing x t angle ≡ some k → Stores x t angle k
  tile-stores e =
      let r = first-sound (λ j. equal_ℤ (stored_angle x j) angle) (2 * t + 1) (neg_ℤ (pos t)) k 0 t (lowest t) e in
      record {
        on-grid = is-inside k (0 + r.steps) t r.at (omega (arith, r.few));
        same = equal-true (stored_angle x k) angle r.holds;
      }

  pub stores-tile : Grid x → Stores x t angle k → tile_storing x t angle ≡ some k
  stores-tile g s =
      first-complete (λ j. equal_ℤ (stored_angle x j) angle) k t (ap (λ (z : ℤ). equal_ℤ z angle) s.same ∙ true-equal angle)
      (λ i h. stored-unique x g i k (equal-true (stored_angle x i) angle h ∙ sym s.same))
      (2 * t + 1) (neg_ℤ (pos t)) 0 (raise t k) (lowest t)
      (is_same k (raise t k) t (0 + raise t k) t (is-raise t k s.on-grid) (omega arith)) (omega (arith, raise-high t k s.on-grid))
