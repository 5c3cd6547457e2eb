-- Laws of the spacing constants (DIGEST, "The ARC System", 3.4.6), for every unit and every scale: the smallest whole number not below n / s is q
-- with n ≤ q s < n + s. Assumes nothing.
use mathlib.Core.Path.{◌≡◌, ap, sym, subst, ◌∙◌}
use mathlib.Core.Bool.{true}
use Prim.Native.Nat.{ℕ, ◌+◌, ◌-◌, ◌*◌, ◌/◌, ◌≤◌, ◌<◌}
use native.Mathlib.Nat.{div-add-mod', mod-lt, mul_assoc, lt_of_mul-lt-mul_right, add-mul, mul-le-mul_left, zero-mul, div-zero, add-div_right}
use native.Mathlib.Omega.{arith}
use lib.IntN.{pos, nat_abs}
use Rattle.whole.specs.Whole.{floor_div, ceil_div}
use Rattle.whole.proofs.Signed.{Is, is-nat, is_same, is-ceil, is-size}
use Rattle.std.specs.Int.{div_ceil}
use Rattle.std.proofs.lemmas.Grind.{div_ceil_times}
use Rattle.arc.specs.Scales.{is_scale, Served}
use Rattle.arc.specs.Pixels.{spacing_at, SpacingUnit, Spaced, Grid, SpacingIs, SpacingFalls, ColumnsAtLeast, RowsAtLeast}
use Rattle.arc.proofs.ScaleLaws.{scale-least, scale-most, served-is}

-- the constant as a quotient of naturals
pub divides : (u s : ℕ) → 0 < s → spacing_at u s ≡ 512 * ((u * 1000000 + (s - 1)) / s)
unfolding spacing_at
divides u s h =
    let x : ℕ = u * 1000000 in
    let e : Is (ceil_div (pos x) s) ((x + (s - 1)) / s) 0 =
    is-ceil (pos x) s x 0 h (is_same (pos x) x 0 x (0 * s) (is-nat x) (omega (arith, zero-mul s))) in
    let f : nat_abs (ceil_div (pos x) s) ≡ (x + (s - 1)) / s - 0 + (0 - (x + (s - 1)) / s) = is-size (ceil_div (pos x) s) ((x + (s - 1)) / s) 0 e in
    ap (λ (n : ℕ). 512 * n) (omega arith)

-- without a sum in the division
pub divides-less : (u s : ℕ) → 1 ≤ u → 0 < s → spacing_at u s ≡ 512 * ((u * 1000000 - 1) / s + 1)
divides-less u s k h =
    divides u s h ∙ ap (λ (n : ℕ). 512 * n) (ap (λ (n : ℕ). n / s) (omega arith) ∙ add-div_right (u * 1000000 - 1) h)

pub divides-none : (u : ℕ) → spacing_at u 0 ≡ 0
unfolding spacing_at ceil_div floor_div
divides-none u = ap (λ (n : ℕ). 512 * n) (div-zero (u * 1000000 + 0))

module _ (u s : ℕ) (g : is_scale s ≡ true) where
  q : ℕ
  q = (u * 1000000 + (s - 1)) / s

  is-q : spacing_at u s ≡ 512 * q
  unfolding q
  is-q = divides u s (omega (arith, scale-least s g))

  enough : u * 1000000 ≤ q * s
  unfolding q
  enough =
      let n : ℕ = u * 1000000 + (s - 1) in
      omega (arith, div-add-mod' n s, mod-lt n {m = s} (omega (arith, scale-least s g)), scale-least s g)

  close : q * s < u * 1000000 + s
  unfolding q
  close = omega (arith, div-add-mod' (u * 1000000 + (s - 1)) s, scale-least s g)

  -- a product with s carries over
  carried : spacing_at u s * s ≡ 512 * (q * s)
  unfolding q
  carried = ap (λ (n : ℕ). n * s) is-q ∙ mul_assoc 512 q s

  -- q is below what its product with s is below
  below : (k : ℕ) → u * 1000000 + s ≤ k * s → q < k
  below k h = lt_of_mul-lt-mul_right s (omega (arith, close))

  at_least : (k : ℕ) → k * s < u * 1000000 + s → k ≤ q
  at_least k h =
      let t : k < q + 1 = lt_of_mul-lt-mul_right s (omega (arith, enough, add-mul q 1 s)) in omega arith

  pub spaced : SpacingUnit u → Spaced u s (spacing_at u s)
  unfolding q
  spaced w =
      let e = is-q in
      let h : q < 156401 = below 156401 (omega (arith, w.most, scale-least s g)) in
      let l : 1 ≤ q = at_least 1 (omega (arith, w.least)) in
      record {
        whole = omega arith;
        some = omega arith;
        below = omega arith;
        enough = omega (arith, enough, carried);
        close = omega (arith, close, carried);
      }

  pub grid : SpacingUnit u → Grid (spacing_at u s)
  unfolding q
  grid w =
      let e = is-q in
      let h : q < 156401 = below 156401 (omega (arith, w.most, scale-least s g)) in
      let p = spaced w in
      record { whole = p.whole; some = p.some; most = omega arith }

pub spacings : SpacingIs
spacings u s w g = spaced u s g w

-- the quotient falls as the divisor grows
pub falls : SpacingFalls
unfolding q
falls u s t w g k h =
    let a : ℕ = q u s g in
    let b : ℕ = q u t k in
    let r : b < a + 1 = lt_of_mul-lt-mul_right t (omega (arith, close u t k, enough u s g, mul-le-mul_left a h, add-mul a 1 t)) in
    let es = is-q u s g in
    let et = is-q u t k in
    omega arith

pub columns-least : ColumnsAtLeast
unfolding q
columns-least u s w g =
    let l : 9 ≤ q u s g = at_least u s g 9 (omega (arith, w, scale-most s g)) in
    let e = is-q u s g in
    omega arith

pub rows-least : RowsAtLeast
unfolding q
rows-least s g =
    let l : 40 ≤ q 782 s g = at_least 782 s g 40 (omega (arith, scale-most s g)) in
    let e = is-q 782 s g in
    omega arith

-- two quotients with the same bounds are one
one_quotient : (x s p q : ℕ) → x ≤ p * s → p * s < x + s → x ≤ q * s → q * s < x + s → p ≡ q
one_quotient x s p q a b c d =
    let h : p < q + 1 = lt_of_mul-lt-mul_right s (omega (arith, add-mul q 1 s)) in
    let k : q < p + 1 = lt_of_mul-lt-mul_right s (omega (arith, add-mul p 1 s)) in
    omega arith

-- what `Pixels::at` makes, and that it lies on the grid
pub spacing_is : (u s : ℕ) → Served s → 512 * div_ceil (u * 1000000) s ≡ spacing_at u s
unfolding q
spacing_is u s h =
    let g = served-is s h in
    let t = div_ceil_times (u * 1000000) s (omega arith) in
    let e : div_ceil (u * 1000000) s ≡ q u s g = one_quotient (u * 1000000) s _ _ t.0 t.1 (enough u s g) (close u s g) in
    omega (arith, is-q u s g)

pub spacing_on_grid : (u s : ℕ) → SpacingUnit u → Served s → Grid (512 * div_ceil (u * 1000000) s)
spacing_on_grid u s w h = subst Grid (sym (spacing_is u s h)) (grid u s (served-is s h) w)

pub ruleset makes = (spacing_is, spacing_on_grid)

pub ruleset claims = (spacings, falls, columns-least, rows-least)
