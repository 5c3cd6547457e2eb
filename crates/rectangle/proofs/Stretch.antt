-- A zone's stretch is what it covers: of a size of latitude as a fraction, once over the row; then the zones of a hemisphere by the sign. Assumes nothing.
use mathlib.Core.Path.{◌≡◌, refl, sym, ap, ◌∙◌}
use mathlib.Core.Bool.{Bool, true, false}
use mathlib.Core.Logic.{◌⊎◌, inl, inr, ⊎_elim}
use Rattle.std.specs.Prelude.{Some}
use Prim.Native.Nat.{ℕ, suc, ◌+◌, ◌-◌, ◌*◌, ◌≤◌, ◌<◌}
use native.Mathlib.Nat.{add-mul, mul_right_comm, mul-le-mul_right, lt_of_mul-lt-mul_right}
use native.Mathlib.Omega.{arith}
use borrow.Author.Tests.{ltb-true, ltb-false, le-ltb, eqb-true}
use lib.Dec.{ltb}
use lib.IntN.{ℤ, pos, negsuc, neg_ℤ, nat_abs, ◌*ℤ◌}
use Rattle.whole.proofs.Signed.{Is, is-nat, is-neg, is_mul, lt-is, is_le}
use Rattle.arc.specs.Zones.{circle, quarter, is_polar, table_row, row_at}
use Rattle.arc.specs.declared.zone_table.Row.{Row}
use Rattle.arc.proofs.Table.{northern-at, southern-at, row-north, row-south, polar-at, last-at, from-to, to-most, zone-at}
use Rattle.rectangle.specs.Stretch.{poleward_end, northern_stretch, southern_stretch, zone_stretch}
use Rattle.rectangle.specs.Points.{Point, HoldsPoint, OverlapsPoint, CoversPoint, Between, NotBeyond, StretchIs}
use Rattle.rectangle.proofs.Sides.{end-polar, end-other, stretch-north, stretch-south}

module _ (b j : ℕ) (i : 0 < b) (h : j < 9) where
  abbrev r : Row
  r = row_at j

  -- a size of latitude, at some denominator
  module _ (p : Point) where
    abbrev size : ℕ
    size = nat_abs p.numerator

    abbrev d : ℕ
    d = p.denominator

    -- the end of the row's stretch, times the denominator
    at-pole : is_polar r.northern ≡ true → poleward_end b r * d ≡ quarter * d * b
    at-pole f = ap (λ (k : ℕ). k * d) (end-polar b r f) ∙ mul_right_comm quarter b d

    past-limit : is_polar r.northern ≡ false → poleward_end b r * d ≡ r.poleward * d * b + 1024 * circle * d
    past-limit f =
        ap (λ (k : ℕ). k * d) (end-other b r f) ∙ add-mul (r.poleward * b) (1024 * circle) d
        ∙ ap (λ (k : ℕ). k + 1024 * circle * d) (mul_right_comm r.poleward b d)

    -- a size past the limit, times B
    farther : r.poleward * d ≤ size → size * b ≡ (size - r.poleward * d) * b + r.poleward * d * b
    farther n = ap (λ (k : ℕ). k * b) (omega arith) ∙ add-mul (size - r.poleward * d) (r.poleward * d) b

    lies : r.equatorward * b * d < size * b → size * b < poleward_end b r * d → HoldsPoint r p ⊎ OverlapsPoint b r p
    lies k l = go (ltb size (r.poleward * d)) (is_polar r.northern) refl refl
      where
        starts : r.equatorward * d ≤ size
        starts = let m : r.equatorward * d < size = lt_of_mul-lt-mul_right b (omega (arith, mul_right_comm r.equatorward d b)) in omega arith

        go : (t q : Bool) → ltb size (r.poleward * d) ≡ t → is_polar r.northern ≡ q → HoldsPoint r p ⊎ OverlapsPoint b r p
        go true q e f = inl (starts, inl (ltb-true size (r.poleward * d) e))
        go false true e f =
            let n : size < quarter * d = lt_of_mul-lt-mul_right b (omega (arith, l, at-pole f)) in
            let s : r.poleward ≡ quarter = eqb-true r.poleward quarter (last-at j h ∙ sym (polar-at j h) ∙ f) in
            absurd (omega (arith, ltb-false size (r.poleward * d) e, ap (λ (k : ℕ). k * d) s))
        go false false e f =
            let n : r.poleward * d ≤ size = ltb-false size (r.poleward * d) e in
            inr (f, n, omega (arith, l, farther n, past-limit f))

    within : HoldsPoint r p ⊎ OverlapsPoint b r p → (r.equatorward * b * d ≤ size * b) × (size * b ≤ poleward_end b r * d)
    within w = (starts (⊎_elim (λ k. k.0) (λ k. omega (arith, k.1, limits)) w), ends w)
      where
        limits : r.equatorward * d ≤ r.poleward * d
        limits = mul-le-mul_right d (omega (arith, from-to j h))

        starts : r.equatorward * d ≤ size → r.equatorward * b * d ≤ size * b
        starts k = omega (arith, mul-le-mul_right b k, mul_right_comm r.equatorward d b)

        before : size ≤ r.poleward * d → size * b ≤ poleward_end b r * d
        before k = go (is_polar r.northern) refl
          where
            go : (q : Bool) → is_polar r.northern ≡ q → size * b ≤ poleward_end b r * d
            go true f = omega (arith, mul-le-mul_right b k, mul-le-mul_right b (mul-le-mul_right d (to-most j h)), at-pole f)
            go false f = omega (arith, mul-le-mul_right b k, past-limit f)

        ends : HoldsPoint r p ⊎ OverlapsPoint b r p → size * b ≤ poleward_end b r * d
        ends (inl (_, inl k)) = before (omega arith)
        ends (inl (_, inr k)) = before (omega (arith, k.1, ap (λ (n : ℕ). n * 360000 * d) k.0))
        ends (inr (f, n, k)) = omega (arith, farther n, past-limit f)

  -- a row of the zone is this row
  own_row : (zone : ℕ) → table_row zone ≡ Some r → (p : Point) (w : CoversPoint b zone p) → w.row ≡ r
  own_row zone e p w = let f = w.of_zone in cc

  -- a point north of the Equator or on it, and one south of it
  module _ (n d : ℕ) (s : 0 < d) where
    abbrev up : Point
    up = record { numerator = pos n; denominator = d; positive = s }

    abbrev down : Point
    down = record { numerator = negsuc n; denominator = d; positive = s }

    up_is : Is (pos n *ℤ pos b) (n * b) (0 * b)
    up_is = is_mul (pos n) b n 0 (is-nat n)

    down_is : Is (negsuc n *ℤ pos b) (0 * b) (suc n * b)
    down_is = is_mul (negsuc n) b 0 (suc n) (omega arith)

    end_is : (k : ℕ) → Is (pos k *ℤ pos d) (k * d) (0 * d)
    end_is k = is_mul (pos k) d k 0 (is-nat k)

    mirror-is : (k : ℕ) → Is (neg_ℤ (pos k) *ℤ pos d) (0 * d) (k * d)
    mirror-is k = is_mul (neg_ℤ (pos k)) d 0 k (is-neg (pos k) k 0 (is-nat k))

    abbrev S : ℕ
    S = r.equatorward * b

    abbrev E : ℕ
    E = poleward_end b r

    up-north : Between b (northern_stretch b r) up → CoversPoint b (1 + j) up
    up-north w =
        record {
          row = r;
          of_zone = row-north j h;
          hemisphere = sym (rw (le-ltb n 0 (omega arith)) (northern-at j h));
          lies =
              lies up (omega (arith, lt-is (pos S *ℤ pos d) (pos n *ℤ pos b) (S * d) (0 * d) (n * b) (0 * b) (end_is S) up_is w.0))
              (omega (arith, lt-is (pos n *ℤ pos b) (pos E *ℤ pos d) (n * b) (0 * b) (E * d) (0 * d) up_is (end_is E) w.1));
        }

    down-north : Between b (northern_stretch b r) down → CoversPoint b (1 + j) down
    down-north w =
        absurd (omega (arith, lt-is (pos S *ℤ pos d) (negsuc n *ℤ pos b) (S * d) (0 * d) (0 * b) (suc n * b) (end_is S) down_is w.0))

    up-south : Between b (southern_stretch b r) up → CoversPoint b (10 + j) up
    up-south w =
        absurd (omega (arith, lt-is (pos n *ℤ pos b) (neg_ℤ (pos S) *ℤ pos d) (n * b) (0 * b) (0 * d) (S * d) up_is (mirror-is S) w.1))

    down-south : Between b (southern_stretch b r) down → CoversPoint b (10 + j) down
    down-south w =
        record {
          row = r;
          of_zone = row-south j h;
          hemisphere = sym (southern-at j h);
          lies =
              lies down (omega (arith, lt-is (negsuc n *ℤ pos b) (neg_ℤ (pos S) *ℤ pos d) (0 * b) (suc n * b) (0 * d) (S * d) down_is (mirror-is S) w.1))
              (omega (arith, lt-is (neg_ℤ (pos E) *ℤ pos d) (negsuc n *ℤ pos b) (0 * d) (E * d) (0 * b) (suc n * b) (mirror-is E) down_is w.0));
        }

    north-up : CoversPoint b (1 + j) up → NotBeyond b (northern_stretch b r) up
    north-up w =
        let k = within up (rw (own_row (1 + j) (row-north j h) up w) at w.lies) in (
          is_le (pos S *ℤ pos d) (pos n *ℤ pos b) (S * d) (0 * d) (n * b) (0 * b) (end_is S) up_is (omega arith),
          is_le (pos n *ℤ pos b) (pos E *ℤ pos d) (n * b) (0 * b) (E * d) (0 * d) up_is (end_is E) (omega arith),
        )

    north-down : CoversPoint b (1 + j) down → NotBeyond b (northern_stretch b r) down
    north-down w =
        absurd (omega (arith, w.hemisphere, ap (λ (q : Row). q.southern) (own_row (1 + j) (row-north j h) down w), southern-at j h))

    south-up : CoversPoint b (10 + j) up → NotBeyond b (southern_stretch b r) up
    south-up w =
        let e : 10 + j ≡ w.row.northern = rw (le-ltb n 0 (omega arith)) at w.hemisphere in
        absurd (omega (arith, ap (λ (q : Row). q.northern) (own_row (10 + j) (row-south j h) up w), northern-at j h))

    south-down : CoversPoint b (10 + j) down → NotBeyond b (southern_stretch b r) down
    south-down w =
        let k = within down (rw (own_row (10 + j) (row-south j h) down w) at w.lies) in (
          is_le (neg_ℤ (pos E) *ℤ pos d) (negsuc n *ℤ pos b) (0 * d) (E * d) (0 * b) (suc n * b) (mirror-is E) down_is (omega arith),
          is_le (negsuc n *ℤ pos b) (neg_ℤ (pos S) *ℤ pos d) (0 * b) (suc n * b) (0 * d) (S * d) down_is (mirror-is S) (omega arith),
        )

  covers-north : (z : ℤ) (d : ℕ) (s : 0 < d) → let p : Point = record { numerator = z; denominator = d; positive = s } in
      (Between b (northern_stretch b r) p → CoversPoint b (1 + j) p) × (CoversPoint b (1 + j) p → NotBeyond b (northern_stretch b r) p)
  covers-north (pos n) d s = (up-north n d s, north-up n d s)
  covers-north (negsuc n) d s = (down-north n d s, north-down n d s)

  covers-south : (z : ℤ) (d : ℕ) (s : 0 < d) → let p : Point = record { numerator = z; denominator = d; positive = s } in
      (Between b (southern_stretch b r) p → CoversPoint b (10 + j) p) × (CoversPoint b (10 + j) p → NotBeyond b (southern_stretch b r) p)
  covers-south (pos n) d s = (up-south n d s, south-up n d s)
  covers-south (negsuc n) d s = (down-south n d s, south-down n d s)

pub stretches : StretchIs
stretches b i zone r t p = let w = zone-at zone r t in go w.at w.in_table w.is_row w.is-zone
  where
    go : (j : ℕ) → j < 9 → row_at j ≡ r → (zone ≡ 1 + j) ⊎ (zone ≡ 10 + j)
        → (Between b (zone_stretch b zone r) p → CoversPoint b zone p) × (CoversPoint b zone p → NotBeyond b (zone_stretch b zone r) p)
    go j h e (inl f) = rw (f, sym e, stretch-north b j h) (covers-north b j i h p.numerator p.denominator p.positive)
    go j h e (inr f) = rw (f, sym e, stretch-south b j h) (covers-south b j i h p.numerator p.denominator p.positive)
