-- A point at a whole hundredth: what covers it is what covers the latitude, both sides of each sentence being multiplied by the denominator. Assumes nothing.
use mathlib.Core.Path.{◌≡◌, refl, sym, ap, ◌∙◌}
use mathlib.Core.Bool.{Bool, true, false, cond, not, ◌&&◌, ◌||◌, and-eq-true_iff, or-true, false≢true}
use mathlib.Core.Logic.{◌⊎◌, inl, inr, ⊎_elim}
use Rattle.std.specs.Prelude.{Option, Some, None}
use Prim.Native.Nat.{ℕ, suc, ◌+◌, ◌-◌, ◌*◌, ◌≤◌, ◌<◌}
use native.Mathlib.Nat.{add-mul, mul_right_comm, mul-le-mul_right, mul-lt-mul_of_pos_right, le_of_mul-le-mul_right, lt_of_mul-lt-mul_right}
use native.Mathlib.Omega.{arith}
use borrow.Author.Tests.{ltb-true, ltb-false, lt-ltb, le-ltb, leb-true, le-leb, eqb-true, eq-eqb, not-true}
use lib.Dec.{leb, ltb, eqb}
use lib.IntN.{ℤ, pos, negsuc, nat_abs, ◌*ℤ◌}
use lib.Signed.{lt_z}
use Rattle.whole.proofs.Held.{outsides}
use Rattle.whole.proofs.Signed.{is-nat, is_mul, is-size, is-lt_z}
use Rattle.arc.specs.Zones.{circle, quarter, is_polar, table_row}
use Rattle.arc.specs.declared.zone_table.Row.{Row}
use Rattle.zones.specs.Basic.{holds_size, zone_on}
use Rattle.zones.specs.Cover.{overlaps, covers_in, covers}
use Rattle.rectangle.specs.Points.{Point, HoldsPoint, OverlapsPoint, CoversPoint, WholeIs}

-- times d, a latitude has d times its size and keeps its side of the Equator
size-times : (lat : ℤ) (d : ℕ) → nat_abs (lat *ℤ pos d) ≡ nat_abs lat * d
size-times (pos n) d = omega (arith, is-size (pos n *ℤ pos d) (n * d) (0 * d) (is_mul (pos n) d n 0 (is-nat n)))
size-times (negsuc n) d = omega (arith, is-size (negsuc n *ℤ pos d) (0 * d) (suc n * d) (is_mul (negsuc n) d 0 (suc n) (omega arith)))

side-times : (lat : ℤ) (d : ℕ) → 0 < d → lt_z (lat *ℤ pos d) (pos 0) ≡ lt_z lat (pos 0)
side-times (pos n) d i =
    is-lt_z (pos n *ℤ pos d) (pos 0) (n * d) (0 * d) 0 0 (is_mul (pos n) d n 0 (is-nat n)) (is-nat 0)
    ∙ le-ltb (n * d + 0) (0 + 0 * d) (omega arith) ∙ sym (le-ltb n 0 (omega arith))
side-times (negsuc n) d i =
    is-lt_z (negsuc n *ℤ pos d) (pos 0) (0 * d) (suc n * d) 0 0 (is_mul (negsuc n) d 0 (suc n) (omega arith)) (is-nat 0)
    ∙ lt-ltb (0 * d + 0) (0 + suc n * d) (more (mul-lt-mul_of_pos_right (omega arith) i))
  where
    more : 0 * d < suc n * d → 0 * d + 0 < 0 + suc n * d
    more k = omega arith

module _ (b zone : ℕ) (lat : ℤ) (p : Point) (e : p.numerator ≡ lat *ℤ pos p.denominator) where
  abbrev d : ℕ
  d = p.denominator

  size : nat_abs p.numerator ≡ nat_abs lat * d
  size = ap nat_abs e ∙ size-times lat d

  side : (r : Row) → zone_on p.numerator r ≡ zone_on lat r
  side r = ap (λ (t : Bool). cond t r.southern r.northern) (ap (λ (z : ℤ). lt_z z (pos 0)) e ∙ side-times lat d p.positive)

  -- how far it is past a limit
  past : (k : ℕ) → k ≤ nat_abs lat → (nat_abs lat * d - k * d) * b ≡ (nat_abs lat - k) * b * d
  past k h =
      let s : nat_abs lat * d ≡ (nat_abs lat - k) * d + k * d = ap (λ (n : ℕ). n * d) (omega arith) ∙ add-mul (nat_abs lat - k) k d in
      ap (λ (n : ℕ). n * b) (omega arith) ∙ mul_right_comm (nat_abs lat - k) d b

  module _ (r : Row) where
    holds : HoldsPoint r p → holds_size r (nat_abs lat) ≡ true
    holds w =
        rw (le-leb r.equatorward (nat_abs lat) (le_of_mul-le-mul_right (omega (arith, w.0, size)) p.positive))
        (⊎_elim (λ k. rw (lt-ltb (nat_abs lat) r.poleward (lt_of_mul-lt-mul_right d (omega (arith, size)))))
        (λ k. rw (eq-eqb r.poleward quarter k.0) (or-true (ltb (nat_abs lat) r.poleward))) w.1)

    overlapped : OverlapsPoint b r p → overlaps b r (nat_abs lat) ≡ true
    overlapped (f, k, l) =
        let m : r.poleward ≤ nat_abs lat = le_of_mul-le-mul_right (omega (arith, size)) p.positive in
        rw (f, le-leb r.poleward (nat_abs lat) m)
        (lt-ltb ((nat_abs lat - r.poleward) * b) (1024 * circle)
        (lt_of_mul-lt-mul_right d (omega (arith, past r.poleward m, ap (λ (n : ℕ). (n - r.poleward * d) * b) size))))

    held : nat_abs lat ≤ quarter → holds_size r (nat_abs lat) ≡ true → HoldsPoint r p
    held q t =
        let w = (and-eq-true_iff (leb r.equatorward (nat_abs lat)) (ltb (nat_abs lat) r.poleward || eqb r.poleward quarter)).0 t in (
          omega (arith, size, mul-le-mul_right d (leb-true r.equatorward (nat_abs lat) w.0)),
          go (ltb (nat_abs lat) r.poleward) refl w.1,
        )
      where
        go : (t : Bool) → ltb (nat_abs lat) r.poleward ≡ t → t || eqb r.poleward quarter ≡ true
            → (nat_abs p.numerator < r.poleward * d) ⊎ ((r.poleward ≡ quarter) × (nat_abs p.numerator ≡ quarter * d))
        go true k l = inl (omega (arith, size, mul-lt-mul_of_pos_right (ltb-true (nat_abs lat) r.poleward k) p.positive))
        go false k l =
            let f : r.poleward ≡ quarter = eqb-true r.poleward quarter l in
            inr (f, size ∙ ap (λ (n : ℕ). n * d) (omega (arith, ltb-false (nat_abs lat) r.poleward k)))

    over-it : overlaps b r (nat_abs lat) ≡ true → OverlapsPoint b r p
    over-it t =
        let w = (and-eq-true_iff (not (is_polar r.northern)) (leb r.poleward (nat_abs lat) && ltb ((nat_abs lat - r.poleward) * b) (1024 * circle))).0 t in
        let v = (and-eq-true_iff (leb r.poleward (nat_abs lat)) (ltb ((nat_abs lat - r.poleward) * b) (1024 * circle))).0 w.1 in
        let m : r.poleward ≤ nat_abs lat = leb-true r.poleward (nat_abs lat) v.0 in
        let l : (nat_abs lat - r.poleward) * b * d < 1024 * circle * d =
        mul-lt-mul_of_pos_right (ltb-true ((nat_abs lat - r.poleward) * b) (1024 * circle) v.1) p.positive in (
          not-true (is_polar r.northern) w.0,
          omega (arith, size, mul-le-mul_right d m),
          omega (arith, past r.poleward m, ap (λ (n : ℕ). (n - r.poleward * d) * b) size),
        )

  there : CoversPoint b zone p → covers b lat zone ≡ true
  unfolding covers
  there w =
      rw (w.of_zone, eq-eqb zone (zone_on lat w.row) (w.hemisphere ∙ side w.row))
      (⊎_elim (λ k. rw (holds w.row k)) (λ k. rw (overlapped w.row k) (or-true (holds_size w.row (nat_abs lat)))) w.lies)

  back : nat_abs lat ≤ quarter → covers b lat zone ≡ true → CoversPoint b zone p
  unfolding covers
  back q t = go (table_row zone) refl t
    where
      go : (o : Option Row) → table_row zone ≡ o → covers_in b lat zone o ≡ true → CoversPoint b zone p
      go None f k = absurd (false≢true k)
      go (Some r) f k =
          let w = (and-eq-true_iff (eqb zone (zone_on lat r)) (holds_size r (nat_abs lat) || overlaps b r (nat_abs lat))).0 k in
          record {
            row = r;
            of_zone = f;
            hemisphere = eqb-true zone (zone_on lat r) w.0 ∙ sym (side r);
            lies = either (holds_size r (nat_abs lat)) refl w.1;
          }
        where
          either : (x : Bool) → holds_size r (nat_abs lat) ≡ x → x || overlaps b r (nat_abs lat) ≡ true → HoldsPoint r p ⊎ OverlapsPoint b r p
          either true y z = inl (held r q y)
          either false y z = inr (over-it r z)

pub wholes : WholeIs
wholes b zone lat h p e = (there b zone lat p e, back b zone lat p e ((outsides quarter lat).0 h))
