-- The tile of a stored angle: division finds it, and no other tile of the axis has that angle, so the search of the
-- definition ends there. Assumes nothing.
use mathlib.Core.Path.{◌≡◌, refl, sym, ap, ◌∙◌}
use mathlib.Core.Bool.{Bool, true, false, ◌&&◌}
use mathlib.Core.Option.{Option as Search, some, none}
use Rattle.std.specs.Prelude.{if◌then◌else◌, Option, Some, None}
use Prim.Native.Nat.{ℕ, ◌+◌, ◌*◌, ◌≤◌, ◌<◌}
use native.Mathlib.Nat.{mul_assoc, mul-le-mul, mul-le-mul_right}
use native.Mathlib.Omega.{arith}
use borrow.Author.Tests.{eqb-true, eqb-false, eq-eqb, ne_eqb, leb-true, leb-false, ltb-true, ltb-false}
use lib.Dec.{eqb, leb, ltb}
use lib.IntN.{ℤ, pos, ◌-ℤ◌}
use Rattle.whole.specs.Whole.{near, raise}
use Rattle.whole.proofs.Signed.{Is, is-unique, equal_is, is-difference, is-raise}
use Rattle.whole.proofs.Near.{near-low, near-high, near-is, near_le, round_trip}
use Rattle.arc.specs.Pixels.{Grid}
use Rattle.origin.specs.Origin.{stored_angle}
use Rattle.origin.proofs.Line.{is-inside}
use Rattle.origin.specs.Steps.{stored_from}
use Rattle.origin.proofs.Axis.{Axis, stored_is, from-near}
use Rattle.card_text.specs.Read.{tile_storing}
use Rattle.card_text.proofs.Found.{tile-stores, stores-tile}
use Rattle.card_text.specs.StepsRead.{tile_angle, found_at, tile_at}

-- ---- one axis: z is an angle, counted from −l
module _ {x t l : ℕ} (axis : Axis x t l) (g : Grid x) (z : ℤ) (angle : ℕ) (e : Is z angle l) where
  -- a tile that has the angle
  has : (y : ℤ) (j : ℕ) → Is y j t → stored_angle x y ≡ z → near (j * tile_angle) x ≡ angle
  has y j p s = let q = equal_is (stored_angle x y) z (near (j * tile_angle) x) l angle l (stored_is axis y j p) e s in omega arith

  -- is the one that division finds
  only : (j : ℕ) → near (j * tile_angle) x ≡ angle → j ≡ near (angle * x) tile_angle
  only j p = sym (ap (λ (v : ℕ). near (v * x) tile_angle) (sym p) ∙ round_trip x tile_angle axis.some (omega (arith, g.most)) j)

  high : angle ≤ 2 * l → near (angle * x) tile_angle ≤ 2 * t
  high h =
      near_le tile_angle (omega arith) (angle * x) (2 * t)
      (omega (arith, mul-le-mul_right x h, mul_assoc 2 l x, axis.exact))

  pub found-high : angle ≤ 2 * l → {r : Option ℕ} {n : ℕ} → r ≡ found_at x angle → r ≡ Some n → n ≤ 2 * t
  unfolding found_at
  found-high h {r} {n} p q = go (eqb (near (near (angle * x) tile_angle * tile_angle) x) angle) (sym p ∙ q)
    where
      go : (b : Bool) → (if b then Some (near (angle * x) tile_angle) else None) ≡ Some n → n ≤ 2 * t
      go true c = let k : near (angle * x) tile_angle ≡ n = cc in omega (arith, high h)
      go false c = let k : ◌≡◌ {A = ℕ} 0 1 = cc in absurd (omega arith)

  pub found-is : angle ≤ 2 * l → tile_storing x t z ≡ tile_at t (found_at x angle)
  unfolding found_at
  found-is h = go (eqb (near (near (angle * x) tile_angle * tile_angle) x) angle) refl
    where
      go : (b : Bool) → eqb (near (near (angle * x) tile_angle * tile_angle) x) angle ≡ b
          → tile_storing x t z ≡ tile_at t ((if b then Some (near (angle * x) tile_angle) else None))
      go true b =
          let n : ℕ = near (angle * x) tile_angle in
          let y : ℤ = pos n -ℤ pos t in
          let p : Is y n t = is-difference n t in
          let q : Is (stored_angle x y) angle l = rw (eqb-true (near (n * tile_angle) x) angle b) at (stored_is axis y n p) in
          stores-tile x t z y g (record { on-grid = is-inside y n t p (high h); same = is-unique (stored_angle x y) z angle l q e })
      go false b = none_of (tile_storing x t z) refl
        where
          none_of : (o : Search ℤ) → tile_storing x t z ≡ o → o ≡ none
          none_of none w = refl
          none_of (some k) w =
              let r = tile-stores x t z k w in
              let s = has k (raise t k) (is-raise t k r.on-grid) r.same in
              absurd (eqb-false _ _ b (ap (λ (i : ℕ). near (i * tile_angle) x) (sym (only (raise t k) s)) ∙ s))

-- ---- what the code divides: x is A or B
module _ {x : ℕ} (g : Grid x) where
  -- the tile found is at most one past the circle
  pub found-back : (angle k : ℕ) → angle ≤ 129600000 → k ≡ near (angle * x) tile_angle → k * tile_angle ≤ 129600000 * 80076800 + tile_angle
  found-back angle k h e =
      omega (
        arith,
        mul-le-mul h g.most,
        ap (λ (i : ℕ). i * tile_angle) e,
        near-low tile_angle (omega arith) (angle * x),
      )

  -- the two bounds are those of the nearest hundredth
  near-test : (y k : ℕ) → (leb (2 * (k * x)) (2 * y + x) && ltb (2 * y) (2 * (k * x) + x)) ≡ eqb (near y x) k
  near-test y k = go (leb (2 * (k * x)) (2 * y + x)) (ltb (2 * y) (2 * (k * x) + x)) refl refl
    where
      some : 0 < x
      some = omega (arith, g.some)

      no : (near y x ≡ k → ⊥) → false ≡ eqb (near y x) k
      no n = sym (ne_eqb (near y x) k n)

      go : (s t : Bool) → leb (2 * (k * x)) (2 * y + x) ≡ s → ltb (2 * y) (2 * (k * x) + x) ≡ t → (s && t) ≡ eqb (near y x) k
      go true true p q = sym (eq-eqb (near y x) k (near-is x some y k (leb-true (2 * (k * x)) (2 * y + x) p) (ltb-true (2 * y) (2 * (k * x) + x) q)))
      go true false p q = no (λ e. omega (arith, ltb-false (2 * y) (2 * (k * x) + x) q, near-high x some y, ap (λ (i : ℕ). i * x) e))
      go false t p q = no (λ e. omega (arith, leb-false (2 * (k * x)) (2 * y + x) p, near-low x some y, ap (λ (i : ℕ). i * x) e))

  pub found-test : (angle k : ℕ) {t : Bool} → k ≡ near (angle * x) tile_angle
      → (leb (2 * (angle * x)) (2 * (k * tile_angle) + x) && ltb (2 * (k * tile_angle)) (2 * (angle * x) + x)) ≡ t
      → (if t then Some k else None) ≡ found_at x angle
  unfolding found_at
  found-test angle k e f = rw (← e, ← near-test (k * tile_angle) angle, f)

  -- a tile of the circle is stored within it
  pub stored-near : (tiles : ℕ) {v : ℕ} → 128 * tiles ≤ x → v ≡ stored_from x tiles → v ≡ near (tiles * tile_angle) x
  stored-near tiles h e = from-near x tiles e (omega (arith, g.most))

  pub stored-few : (tiles : ℕ) {v : ℕ} → 128 * tiles ≤ x → v ≡ stored_from x tiles → v ≤ 129600000
  stored-few tiles h e =
      omega (arith, stored-near tiles h e, near_le x (omega (arith, g.some)) (tiles * tile_angle) 129600000 (omega (arith, g.some)))
