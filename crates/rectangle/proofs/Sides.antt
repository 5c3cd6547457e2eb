-- A zone and a rectangle by sizes of latitude: on the zone's side of the Equator the rectangle is a stretch of sizes, low to high, both 0 where it lies
-- on the other side, and the two share a stretch where the zone's row starts before high and reaches low. Assumes nothing.
use mathlib.Core.Path.{◌≡◌, refl, sym, ap, ◌∙◌}
use mathlib.Core.Bool.{Bool, true, false, cond, ◌||◌, and-eq-true_iff}
use Prim.Native.Nat.{ℕ, ◌+◌, ◌-◌, ◌*◌, ◌≤◌, ◌<◌}
use native.Mathlib.Nat.{add-mul, mul-le-mul_right, mul-lt-mul_of_pos_right, lt_of_mul-lt-mul_right}
use native.Mathlib.Omega.{arith}
use borrow.Author.Tests.{ltb-true, ltb-false, lt-ltb, eq-eqb, ne_eqb}
use lib.Dec.{ltb}
use lib.IntN.{ℤ, pos, neg_ℤ, ◌-ℤ◌, ◌*ℤ◌}
use Rattle.whole.proofs.Signed.{Is, is-nat, is-neg, is_mul, is_lt, lt-is, is-difference}
use mir.Syntax.{w64}
use mir.Val.{Fits}
use Rattle.whole.proofs.Machine.{fits-mul}
use Rattle.arc.specs.Zones.{circle, half, quarter, is_polar, row_at}
use Rattle.arc.specs.declared.zone_table.Row.{Row}
use Rattle.arc.proofs.Table.{southern-at, row-north, row-south, from-to, to-most}
use Rattle.zones.specs.Steps.{reaches, Rows}
use Rattle.rectangle.specs.Stretch.{poleward_end, Stretch, northern_stretch, southern_stretch, zone_stretch, rectangle_stretch, shares_height}
use Rattle.rectangle.specs.Stretch.{shares_in, shares}
use Rattle.rectangle.specs.Steps.{shares_row, Sides}
use Rattle.rectangle.proofs.Ends.{Crossed, crossed, shared}

same : (x y : Bool) → (x ≡ true → y ≡ true) → (y ≡ true → x ≡ true) → x ≡ y
same true y f g = sym (f refl)
same false true f g = g refl
same false false f g = refl

-- where a row's stretch ends, times B
pub end-polar : (b : ℕ) (r : Row) → is_polar r.northern ≡ true → poleward_end b r ≡ quarter * b
end-polar b r e = rw e

pub end-other : (b : ℕ) (r : Row) → is_polar r.northern ≡ false → poleward_end b r ≡ r.poleward * b + 1024 * circle
end-other b r e = rw e

module _ (b j : ℕ) (h : j < 9) where
  pub stretch-north : zone_stretch b (1 + j) (row_at j) ≡ northern_stretch b (row_at j)
  stretch-north =
      ap (λ (t : Bool). cond t (southern_stretch b (row_at j)) (northern_stretch b (row_at j)))
      (ne_eqb (1 + j) (row_at j).southern (λ e. omega (arith, southern-at j h)))

  pub stretch-south : zone_stretch b (10 + j) (row_at j) ≡ southern_stretch b (row_at j)
  stretch-south =
      ap (λ (t : Bool). cond t (southern_stretch b (row_at j)) (northern_stretch b (row_at j))) (eq-eqb (10 + j) (row_at j).southern (sym (southern-at j h)))

  -- a rectangle from a − c to d − e, counted poleward on the zone's side: either may be negative; of some height, not beyond the pole
  module _ (g : Rows b) (a c d e : ℕ) (o : a + e < d + c) (m : d ≤ e + quarter) where
    -- the row starts before the rectangle ends, and ends after it starts
    pub record Meets : Type 0 where
      pub starts : (row_at j).equatorward * b + e * b < d * b
      pub reach : a * b < poleward_end b (row_at j) + c * b

    abbrev start : ℕ
    start = (row_at j).equatorward * b

    abbrev end : ℕ
    end = poleward_end b (row_at j)

    positive : 0 < b
    positive = omega (arith, g.least)

    meets-shares : Meets → shares_row b (row_at j) (a - c) (d - e) ≡ true
    meets-shares w =
        let f : (row_at j).equatorward + e < d = lt_of_mul-lt-mul_right b (omega (arith, add-mul (row_at j).equatorward e b)) in
        rw (lt-ltb (row_at j).equatorward (d - e) (omega arith))
        (go (ltb (a - c) (row_at j).poleward) (is_polar (row_at j).northern) refl refl w.reach)
      where
        go : (t p : Bool) → ltb (a - c) (row_at j).poleward ≡ t → is_polar (row_at j).northern ≡ p → a * b < end + c * b
            → (t || p) || ltb ((a - c - (row_at j).poleward) * b) (1024 * circle) ≡ true
        go true p q k l = refl
        go false true q k l = refl
        go false false q k l =
            let f : (row_at j).poleward ≤ a - c = ltb-false (a - c) (row_at j).poleward q in
            let s : a * b ≡ (c + (row_at j).poleward) * b + (a - c - (row_at j).poleward) * b =
            ap (λ (n : ℕ). n * b) (omega (arith, from-to j h)) ∙ add-mul (c + (row_at j).poleward) (a - c - (row_at j).poleward) b in
            lt-ltb ((a - c - (row_at j).poleward) * b) (1024 * circle) (omega (arith, add-mul c (row_at j).poleward b, end-other b (row_at j) k))

    shares-meets : shares_row b (row_at j) (a - c) (d - e) ≡ true → Meets
    shares-meets t =
        let w = (and-eq-true_iff (ltb (row_at j).equatorward (d - e)) (reaches b (row_at j) (a - c))).0 t in
        let f : (row_at j).equatorward + e < d = omega (arith, ltb-true (row_at j).equatorward (d - e) w.0) in
        record {
          starts = omega (arith, mul-lt-mul_of_pos_right f positive, add-mul (row_at j).equatorward e b);
          reach = go (ltb (a - c) (row_at j).poleward) (is_polar (row_at j).northern) refl refl w.1;
        }
      where
        -- a is below c and the limit
        sooner : (k : ℕ) → a < k + c → a * b < k * b + c * b
        sooner k l = omega (arith, mul-lt-mul_of_pos_right l positive, add-mul k c b)

        go : (t p : Bool) → ltb (a - c) (row_at j).poleward ≡ t → is_polar (row_at j).northern ≡ p
            → (t || p) || ltb ((a - c - (row_at j).poleward) * b) (1024 * circle) ≡ true
            → a * b < end + c * b
        go t true q k l = omega (arith, sooner quarter (omega arith), end-polar b (row_at j) k)
        go true false q k l = omega (arith, sooner (row_at j).poleward (omega (arith, ltb-true (a - c) (row_at j).poleward q)), end-other b (row_at j) k)
        go false false q k l =
            let s : a * b ≤ (c + (row_at j).poleward + (a - c - (row_at j).poleward)) * b = mul-le-mul_right b (omega arith) in
            omega (
              arith,
              add-mul (c + (row_at j).poleward) (a - c - (row_at j).poleward) b,
              add-mul c (row_at j).poleward b,
              ltb-true ((a - c - (row_at j).poleward) * b) (1024 * circle) l,
              end-other b (row_at j) k,
            )

    -- what is always so: the row ends after it starts, and the rectangle does
    row-height : start < end
    row-height = go (is_polar (row_at j).northern) refl
      where
        most : start < quarter * b
        most = mul-lt-mul_of_pos_right (omega (arith, from-to j h, to-most j h)) positive

        go : (p : Bool) → is_polar (row_at j).northern ≡ p → start < end
        go true k = omega (arith, most, end-polar b (row_at j) k)
        go false k = omega (arith, mul-lt-mul_of_pos_right (from-to j h) positive, end-other b (row_at j) k)

    height : a * b + e * b < d * b + c * b
    height = omega (arith, mul-lt-mul_of_pos_right o positive, add-mul a e b, add-mul d c b)

    -- two stretches that cross where the row and the rectangle do
    told : (p q : Stretch) → (Crossed p q → Meets) → (Meets → Crossed p q) → shares_height p q ≡ shares_row b (row_at j) (a - c) (d - e)
    told p q f k =
        same (shares_height p q) (shares_row b (row_at j) (a - c) (d - e)) (λ t. meets-shares (f (crossed p q t)))
        (λ t. shared p q (k (shares-meets t)))

    module _ (south north : ℤ) where
      abbrev y : ℤ
      y = south *ℤ pos b

      abbrev v : ℤ
      v = north *ℤ pos b

      pub on-north : Is south a c → Is north d e → shares b south north (1 + j) ≡ shares_row b (row_at j) (a - c) (d - e)
      unfolding shares
      on-north p q =
          let f = is-nat start in
          let t = is-nat end in
          let i = is_mul south b a c p in
          let k = is_mul north b d e q in
          ap (shares_in b south north (1 + j)) (row-north j h)
          ∙ ap (λ (z : Stretch). shares_height z (rectangle_stretch b south north)) stretch-north
          ∙ told (northern_stretch b (row_at j)) (rectangle_stretch b south north)
          (λ w.
          record {
            starts = omega (arith, lt-is (pos start) v start 0 (d * b) (e * b) f k w.across);
            reach = omega (arith, lt-is y (pos end) (a * b) (c * b) end 0 i t w.back);
          })
          (λ w.
          record {
            first = is_lt (pos start) (pos end) start 0 end 0 f t (omega (arith, row-height));
            across = is_lt (pos start) v start 0 (d * b) (e * b) f k (omega (arith, w.starts));
            back = is_lt y (pos end) (a * b) (c * b) end 0 i t (omega (arith, w.reach));
            second = is_lt y v (a * b) (c * b) (d * b) (e * b) i k (omega (arith, height));
          })

      pub on-south : Is south e d → Is north c a → shares b south north (10 + j) ≡ shares_row b (row_at j) (a - c) (d - e)
      unfolding shares
      on-south p q =
          let f = is-neg (pos start) start 0 (is-nat start) in
          let t = is-neg (pos end) end 0 (is-nat end) in
          let i = is_mul south b e d p in
          let k = is_mul north b c a q in
          ap (shares_in b south north (10 + j)) (row-south j h)
          ∙ ap (λ (z : Stretch). shares_height z (rectangle_stretch b south north)) stretch-south
          ∙ told (southern_stretch b (row_at j)) (rectangle_stretch b south north)
          (λ w.
          record {
            starts = omega (arith, lt-is y (neg_ℤ (pos start)) (e * b) (d * b) 0 start i f w.back);
            reach = omega (arith, lt-is (neg_ℤ (pos end)) v 0 end (c * b) (a * b) t k w.across);
          })
          (λ w.
          record {
            first = is_lt (neg_ℤ (pos end)) (neg_ℤ (pos start)) 0 end 0 start t f (omega (arith, row-height));
            across = is_lt (neg_ℤ (pos end)) v 0 end (c * b) (a * b) t k (omega (arith, w.reach));
            back = is_lt y (neg_ℤ (pos start)) (e * b) (d * b) 0 start i f (omega (arith, w.starts));
            second = is_lt y v (e * b) (d * b) (c * b) (a * b) i k (omega (arith, height));
          })

-- by the zone's number, the rectangle's edges counted from the South Pole, as `zone_shares` is asked
module _ (b zone S N : ℕ) (g : Sides b zone S N) where
  abbrev asked : ℕ → Bool
  asked = shares b (pos S -ℤ pos quarter) (pos N -ℤ pos quarter)

  pub in-north : zone ≤ 9 → asked zone ≡ shares_row b (row_at (zone - 1)) (S - quarter) (N - quarter)
  in-north h =
      let e : zone ≡ 1 + (zone - 1) = omega (arith, g.some_zone) in
      ap asked e
      ∙ on-north b (zone - 1) (omega arith) g.rows S quarter N quarter (omega (arith, g.order)) (omega (arith, g.pole))
      (pos S -ℤ pos quarter) (pos N -ℤ pos quarter) (is-difference S quarter) (is-difference N quarter)

  pub in-south : 9 < zone → asked zone ≡ shares_row b (row_at (zone - 10)) (quarter - N) (quarter - S)
  in-south h =
      let e : zone ≡ 10 + (zone - 10) = omega arith in
      ap asked e
      ∙ on-south b (zone - 10) (omega (arith, g.last_zone)) g.rows quarter N quarter S (omega (arith, g.order)) (omega arith)
      (pos S -ℤ pos quarter) (pos N -ℤ pos quarter) (is-difference S quarter) (is-difference N quarter)

-- the code's product fits
pub past_fits : (b low limit : ℕ) → Rows b → low ≤ half → Fits w64 ((low - limit) * b)
past_fits b low limit g h = fits-mul half 80076800 tt (omega arith) g.most
