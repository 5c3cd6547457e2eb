-- The test of a zone and a rectangle is true exactly when there are two different points that lie in both with all between them: from the larger south
-- end w, the points w + 1/3 and w + 2/3, over B; and back, since a stretch that has two points has its ends apart. Assumes nothing.
use mathlib.Core.Path.{◌≡◌, refl, sym, ap, ◌∙◌}
use mathlib.Core.Bool.{true, and-eq-true_iff, false≢true}
use mathlib.Core.Logic.{◌↔◌, ⊎_elim}
use Rattle.std.specs.Prelude.{Option, Some, None}
use Prim.Native.Nat.{ℕ, ◌+◌, ◌*◌, ◌≤◌, ◌<◌}
use native.Mathlib.Nat.{add-mul, mul_assoc, mul_left_comm, mul_right_comm, mul-le-mul_right, mul-lt-mul_of_pos_right, lt_of_mul-lt-mul_right}
use native.Mathlib.Omega.{arith}
use lib.IntN.{ℤ, pos, ◌+ℤ◌, ◌*ℤ◌}
use lib.Signed.{◌≤ℤ◌, ◌<ℤ◌, ≤ℤ_refl}
use Rattle.whole.specs.Lists.{occurs, up_from}
use Rattle.whole.proofs.Signed.{Is, over, under, is-parts, is-nat, is-add, is_mul, is-lmul, is_le, le_is, is_lt, lt-is, is-times}
use Rattle.whole.proofs.Signed.{le_parts, lt-parts, parts-lt, below-at-most}
use Rattle.whole.proofs.Fractions.{lt-products, le-lt, lt-le}
use Rattle.whole.proofs.Lists.{occurs-those, occurs-up}
use Rattle.arc.specs.Zones.{table_row}
use Rattle.arc.specs.declared.zone_table.Row.{Row}
use Rattle.arc.specs.Pixels.{row_unit, spacing_at}
use Rattle.arc.proofs.Table.{zone-at}
use Rattle.zones.proofs.Covering.{scale-rows}
use Rattle.rectangle.specs.Stretch.{Stretch, zone_stretch, rectangle_stretch, shares_height, shares_in, shares}
use Rattle.rectangle.specs.Rectangle.{rectangle_zones}
use Rattle.rectangle.specs.Points.{Point, AtMost, Below, InRectangle, CoversPoint, Between, Shared, SharesIs, RectangleListed}
use Rattle.rectangle.proofs.Ends.{shared, common}
use Rattle.rectangle.proofs.Stretch.{stretches}

-- the two points themselves lie in both
module _ {b zone : ℕ} {south north : ℤ} (w : Shared b south north zone) where
  not-above : AtMost w.low w.high
  not-above = below-at-most _ _ w.different

  at_low : InRectangle south north w.low × CoversPoint b zone w.low
  at_low = w.all_between w.low (≤ℤ_refl _) not-above

  at_high : InRectangle south north w.high × CoversPoint b zone w.high
  at_high = w.all_between w.high not-above (≤ℤ_refl _)

module _ (b : ℕ) (i : 0 < b) where
  -- (3 w + t) / 3 B
  third : ℤ → ℕ → Point
  third w t = record { numerator = pos 3 *ℤ w +ℤ pos t; denominator = 3 * b; positive = omega arith }

  third-is : (w : ℤ) (t k : ℕ) → Is ((pos 3 *ℤ w +ℤ pos t) *ℤ pos k) ((3 * over w + t) * k) ((3 * under w + 0) * k)
  third-is w t k =
      is_mul (pos 3 *ℤ w +ℤ pos t) k (3 * over w + t) (3 * under w + 0)
      (is-add (pos 3 *ℤ w) (pos t) (3 * over w) (3 * under w) t 0 (is-lmul w 3 (over w) (under w) (is-parts w)) (is-nat t))

  -- times 3 B, and three times, times B
  three : (n : ℕ) → n * (3 * b) ≡ 3 * n * b
  three n = mul_left_comm n 3 b ∙ sym (mul_assoc 3 n b)

  thirds-apart : (w : ℤ) → Below (third w 1) (third w 2)
  unfolding third
  thirds-apart w =
      is_lt ((pos 3 *ℤ w +ℤ pos 1) *ℤ pos (3 * b)) ((pos 3 *ℤ w +ℤ pos 2) *ℤ pos (3 * b)) ((3 * over w + 1) * (3 * b)) ((3 * under w + 0) * (3 * b))
      ((3 * over w + 2) * (3 * b)) ((3 * under w + 0) * (3 * b)) (third-is w 1 (3 * b)) (third-is w 2 (3 * b))
      (let m : (3 * over w + 1) * (3 * b) < (3 * over w + 2) * (3 * b) = mul-lt-mul_of_pos_right (omega arith) (omega arith) in omega arith)

  -- an end not above w is below w + 1/3, and one above w is above w + 2/3
  above-end : (x w : ℤ) → x ≤ℤ w → (x *ℤ pos (3 * b)) <ℤ ((pos 3 *ℤ w +ℤ pos 1) *ℤ pos b)
  above-end x w l =
      let k = le_parts x w l in
      let m : (3 * over x + (3 * under w + 0)) * b < (3 * over w + 1 + 3 * under x) * b = mul-lt-mul_of_pos_right (omega arith) i in
      is_lt (x *ℤ pos (3 * b)) ((pos 3 *ℤ w +ℤ pos 1) *ℤ pos b) (over x * (3 * b)) (under x * (3 * b)) ((3 * over w + 1) * b) ((3 * under w + 0) * b)
      (is-times x (3 * b)) (third-is w 1 b)
      (omega (arith, three (over x), three (under x), add-mul (3 * over x) (3 * under w + 0) b, add-mul (3 * over w + 1) (3 * under x) b))

  below_end : (w u : ℤ) → w <ℤ u → ((pos 3 *ℤ w +ℤ pos 2) *ℤ pos b) <ℤ (u *ℤ pos (3 * b))
  below_end w u l =
      let k = lt-parts w u l in
      let m : (3 * over w + 2 + 3 * under u) * b < (3 * over u + (3 * under w + 0)) * b = mul-lt-mul_of_pos_right (omega arith) i in
      is_lt ((pos 3 *ℤ w +ℤ pos 2) *ℤ pos b) (u *ℤ pos (3 * b)) ((3 * over w + 2) * b) ((3 * under w + 0) * b) (over u * (3 * b)) (under u * (3 * b))
      (third-is w 2 b) (is-times u (3 * b))
      (omega (arith, three (over u), three (under u), add-mul (3 * over w + 2) (3 * under u) b, add-mul (3 * over u) (3 * under w + 0) b))

  -- the ends x and u have all between the two thirds strictly between them
  thirds-between : (x u w : ℤ) → x ≤ℤ w → w <ℤ u → (p : Point) → AtMost (third w 1) p → AtMost p (third w 2)
      → Between b (record { south_end = x; north_end = u }) p
  unfolding third
  thirds-between x u w k l p f g = (
    lt-le x (pos 3 *ℤ w +ℤ pos 1) p.numerator b (3 * b) p.denominator p.positive (above-end x w k) f,
    le-lt p.numerator (pos 3 *ℤ w +ℤ pos 2) u p.denominator (3 * b) b p.positive g (below_end w u l),
  )

  -- a south end not beyond a point is below a north end not beyond a point farther north
  ends-apart : (x u : ℤ) (low high : Point) → (x *ℤ pos low.denominator) ≤ℤ (low.numerator *ℤ pos b) → Below low high
      → (high.numerator *ℤ pos b) ≤ℤ (u *ℤ pos high.denominator) → x <ℤ u
  ends-apart x u low high k l m =
      let f = le-lt x low.numerator high.numerator b low.denominator high.denominator i k l in
      let g = lt-le x high.numerator u b high.denominator b i f m in
      parts-lt x u
      (lt_of_mul-lt-mul_right b (omega (arith, lt-products x u b b g, add-mul (over x) (under u) b, add-mul (over u) (under x) b)))

  -- a point of the rectangle against its stretch: y d against z, times B; y = y₁ − y₂, z = z₁ − z₂
  up : (y₁ y₂ z₁ z₂ d : ℕ) → y₁ * d + z₂ ≤ z₁ + y₂ * d → y₁ * b * d + z₂ * b ≤ z₁ * b + y₂ * b * d
  up y₁ y₂ z₁ z₂ d k =
      omega (arith, mul-le-mul_right b k, add-mul (y₁ * d) z₂ b, add-mul z₁ (y₂ * d) b, mul_right_comm y₁ d b, mul_right_comm y₂ d b)

  down : (y₁ y₂ z₁ z₂ d : ℕ) → y₁ * b * d + z₂ * b < z₁ * b + y₂ * b * d → y₁ * d + z₂ < z₁ + y₂ * d
  down y₁ y₂ z₁ z₂ d k =
      lt_of_mul-lt-mul_right b (omega (arith, add-mul (y₁ * d) z₂ b, add-mul z₁ (y₂ * d) b, mul_right_comm y₁ d b, mul_right_comm y₂ d b))

  module _ (y : ℤ) (p : Point) where
    abbrev z : ℤ
    z = p.numerator

    abbrev d : ℕ
    d = p.denominator

    -- an edge y of the rectangle, times B
    edge : Is (y *ℤ pos b *ℤ pos d) (over y * b * d) (under y * b * d)
    edge = is_mul (y *ℤ pos b) d (over y * b) (under y * b) (is-times y b)

    south-in : (y *ℤ pos b *ℤ pos d) <ℤ (z *ℤ pos b) → (y *ℤ pos d) ≤ℤ z
    south-in k =
        let l = lt-is (y *ℤ pos b *ℤ pos d) (z *ℤ pos b) (over y * b * d) (under y * b * d) (over z * b) (under z * b) edge (is-times z b) k in
        is_le (y *ℤ pos d) z (over y * d) (under y * d) (over z) (under z) (is-times y d) (is-parts z)
        (omega (arith, down (over y) (under y) (over z) (under z) d (omega arith)))

    north-in : (z *ℤ pos b) <ℤ (y *ℤ pos b *ℤ pos d) → z ≤ℤ (y *ℤ pos d)
    north-in k =
        let l = lt-is (z *ℤ pos b) (y *ℤ pos b *ℤ pos d) (over z * b) (under z * b) (over y * b * d) (under y * b * d) (is-times z b) edge k in
        is_le z (y *ℤ pos d) (over z) (under z) (over y * d) (under y * d) (is-parts z) (is-times y d)
        (omega (arith, down (under y) (over y) (under z) (over z) d (omega arith)))

    south-out : (y *ℤ pos d) ≤ℤ z → (y *ℤ pos b *ℤ pos d) ≤ℤ (z *ℤ pos b)
    south-out k =
        let l = le_is (y *ℤ pos d) z (over y * d) (under y * d) (over z) (under z) (is-times y d) (is-parts z) k in
        is_le (y *ℤ pos b *ℤ pos d) (z *ℤ pos b) (over y * b * d) (under y * b * d) (over z * b) (under z * b) edge (is-times z b)
        (up (over y) (under y) (over z) (under z) d l)

    north-out : z ≤ℤ (y *ℤ pos d) → (z *ℤ pos b) ≤ℤ (y *ℤ pos b *ℤ pos d)
    north-out k =
        let l = le_is z (y *ℤ pos d) (over z) (under z) (over y * d) (under y * d) (is-parts z) (is-times y d) k in
        is_le (z *ℤ pos b) (y *ℤ pos b *ℤ pos d) (over z * b) (under z * b) (over y * b * d) (under y * b * d) (is-times z b) edge
        (omega (arith, up (under y) (over y) (under z) (over z) d (omega arith)))

  -- the zone's stretch against the rectangle's
  module _ (south north : ℤ) (zone : ℕ) (r : Row) (t : table_row zone ≡ Some r) where
    abbrev zone-ends : Stretch
    zone-ends = zone_stretch b zone r

    abbrev edges : Stretch
    edges = rectangle_stretch b south north

    points : shares_height zone-ends edges ≡ true → Shared b south north zone
    points e =
        let c = common zone-ends edges e in
        record {
          low = third c.0 1;
          high = third c.0 2;
          different = thirds-apart c.0;
          all_between = λ p f g. (
            let k = thirds-between edges.south_end edges.north_end c.0 c.2 c.4 p f g in (south-in south p k.0, north-in north p k.1),
            (stretches b i zone r t p).0 (thirds-between zone-ends.south_end zone-ends.north_end c.0 c.1 c.3 p f g),
          );
        }

    apart : Shared b south north zone → shares_height zone-ends edges ≡ true
    apart w =
        let m = (stretches b i zone r t w.low).1 (at_low w).1 in
        let n = (stretches b i zone r t w.high).1 (at_high w).1 in
        let k = south-out south w.low (at_low w).0.0 in
        let l = north-out north w.high (at_high w).0.1 in
        shared zone-ends edges
        (record {
          first = ends-apart zone-ends.south_end zone-ends.north_end w.low w.high m.0 w.different n.1;
          across = ends-apart zone-ends.south_end edges.north_end w.low w.high m.0 w.different l;
          back = ends-apart edges.south_end zone-ends.north_end w.low w.high k w.different n.1;
          second = ends-apart edges.south_end edges.north_end w.low w.high k w.different l;
        })

pub sharing : SharesIs
unfolding shares
sharing b i south north zone = go (table_row zone) refl
  where
    go : (o : Option Row) → table_row zone ≡ o → (shares_in b south north zone o ≡ true) ↔ Shared b south north zone
    go (Some r) t = (points b i south north zone r t, apart b i south north zone r t)
    go None t = (
      (λ e. absurd (false≢true e)),
      (λ w. let e = (at_low w).1.of_zone in let z : ◌≡◌ {A = ℕ} 0 1 = cc in absurd (omega arith)),
    )

-- a zone of the table is one of the eighteen that the list goes through
pub listed : (b : ℕ) (south north : ℤ) (zone : ℕ) (r : Row) → table_row zone ≡ Some r → shares b south north zone ≡ true
    → occurs zone (rectangle_zones b south north) ≡ true
unfolding rectangle_zones
listed b south north zone r t e =
    let w = zone-at zone r t in
    occurs-those (shares b south north) zone (up_from 1 18)
    ∙ rw e (⊎_elim
    (λ f. ap (λ (z : ℕ). occurs z (up_from 1 18)) f ∙ occurs-up 1 18 w.at (omega (arith, w.in_table)))
    (λ f. let g : zone ≡ 1 + (9 + w.at) = omega arith in ap (λ (z : ℕ). occurs z (up_from 1 18)) g ∙ occurs-up 1 18 (9 + w.at) (omega (arith, w.in_table)))
    w.is-zone)

pub rectangle-listed : RectangleListed
unfolding rectangle_zones
rectangle-listed s g south north zone =
    let b : ℕ = spacing_at row_unit s in
    let i : 0 < b = omega (arith, (scale-rows s g).least) in (
      (λ e. (sharing b i south north zone).0
          ((and-eq-true_iff (shares b south north zone) (occurs zone (up_from 1 18))).0 (sym (occurs-those (shares b south north) zone (up_from 1 18)) ∙ e)).0),
      (λ w. let c = (at_low w).1 in listed b south north zone c.row c.of_zone ((sharing b i south north zone).1 w)),
    )
