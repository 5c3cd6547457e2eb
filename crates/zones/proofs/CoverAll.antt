-- The cover list and the zones that cover a latitude are the same: the basic zone covers it, a row farther poleward starts beyond it, and of the
-- rows equatorward those that cover it are listed. Assumes nothing.
use mathlib.Core.Path.{◌≡◌, refl, sym, ap, ◌∙◌}
use mathlib.Core.Bool.{Bool, true, false, ◌||◌, and-eq-true_iff, or-true}
use mathlib.Core.Logic.{⊎_elim}
use Prim.Native.Nat.{ℕ, ◌+◌, ◌-◌, ◌≤◌, ◌<◌}
use native.Mathlib.Omega.{arith}
use borrow.Author.Tests.{eqb-true, eqb-false, eq-eqb, le-leb, leb-true, lt-ltb, ltb-true, ltb-false}
use lib.Dec.{leb, ltb, eqb}
use lib.IntN.{ℤ, nat_abs}
use Rattle.whole.specs.Lists.{occurs, those}
use Rattle.whole.proofs.Lists.{occurs-those, occurs-down}
use Rattle.arc.specs.Zones.{row_at}
use Rattle.arc.specs.Pixels.{row_unit, spacing_at}
use Rattle.arc.proofs.Table.{polar-at}
use Rattle.zones.specs.Basic.{basic_zone}
use Rattle.zones.specs.Cover.{covers, first_zone, zones_equatorward, cover_zones}
use Rattle.zones.specs.CoverAll.{CoverListed}
use Rattle.zones.specs.Steps.{reaches}
use Rattle.zones.proofs.Rows.{place}
use Rattle.zones.proofs.Order.{to-from}
use Rattle.zones.proofs.Six.{six-at-most}
use Rattle.zones.proofs.Covering.{covers-is, own-side, basic-is}

module _ (b : ℕ) (lat : ℤ) where
  i : ℕ
  i = (place (nat_abs lat)).at

  in_table : i < 9
  unfolding i
  in_table = (place (nat_abs lat)).in_list

  -- the basic zone covers the latitude
  reached : reaches b (row_at i) (nat_abs lat) ≡ true
  unfolding i
  reached =
      ⊎_elim (λ h. rw (lt-ltb (nat_abs lat) (row_at i).poleward h))
      (λ h. rw (polar-at i in_table, eq-eqb i 8 (omega arith), or-true (ltb (nat_abs lat) (row_at i).poleward)))
      (place (nat_abs lat)).high

  basic-covers : covers b lat (first_zone lat + i) ≡ true
  unfolding i
  basic-covers = covers-is b i in_table lat ∙ rw (le-leb (row_at i).equatorward (nat_abs lat) (place (nat_abs lat)).low, reached)

  -- no row poleward of its row does
  not_beyond : (j : ℕ) → j < 9 → covers b lat (first_zone lat + j) ≡ true → j ≤ i
  unfolding i
  not_beyond j h e = go (ltb i j) refl
    where
      starts : (row_at j).equatorward ≤ nat_abs lat
      starts =
          leb-true (row_at j).equatorward (nat_abs lat)
          ((and-eq-true_iff (leb (row_at j).equatorward (nat_abs lat)) (reaches b (row_at j) (nat_abs lat))).0 (sym (covers-is b j h lat) ∙ e)).0

      go : (t : Bool) → ltb i j ≡ t → j ≤ i
      go true k =
          ⊎_elim (λ x. absurd (omega (arith, starts, to-from i j (ltb-true i j k) h))) (λ x. absurd (omega (arith, ltb-true i j k)))
          (place (nat_abs lat)).high
      go false k = ltb-false i j k

  -- from the list
  listed-covers : (zone : ℕ) → occurs zone (cover_zones b lat) ≡ true → covers b lat zone ≡ true
  unfolding i
  listed-covers zone e = go (eqb (basic_zone lat) zone) refl e
    where
      go : (t : Bool) → eqb (basic_zone lat) zone ≡ t → t || occurs zone (those (covers b lat) (zones_equatorward lat)) ≡ true → covers b lat zone ≡ true
      go true p q = ap (covers b lat) (sym (eqb-true (basic_zone lat) zone p) ∙ basic-is lat) ∙ basic-covers
      go false p q =
          ((and-eq-true_iff (covers b lat zone) (occurs zone (zones_equatorward lat))).0
          (sym (occurs-those (covers b lat) zone (zones_equatorward lat)) ∙ q)).0

  -- and into it
  covers-listed : (zone : ℕ) → covers b lat zone ≡ true → occurs zone (cover_zones b lat) ≡ true
  unfolding i
  covers-listed zone e = go (eqb (basic_zone lat) zone) refl
    where
      go : (t : Bool) → eqb (basic_zone lat) zone ≡ t → t || occurs zone (those (covers b lat) (zones_equatorward lat)) ≡ true
      go true p = refl
      go false p =
          let w = own-side b lat zone e in
          let j : ℕ = w.0 in
          let n : ℕ = basic_zone lat - first_zone lat in
          let k : j ≤ i = not_beyond j w.1 (ap (covers b lat) (sym w.2) ∙ e) in
          let d : j < n = omega (arith, basic-is lat, w.2, eqb-false (basic_zone lat) zone p) in
          occurs-those (covers b lat) zone (zones_equatorward lat)
          ∙ rw e (ap (λ (z : ℕ). occurs z (zones_equatorward lat)) w.2 ∙ occurs-down (first_zone lat) n j d)

pub cover-listed : CoverListed
cover-listed s g lat e zone = (listed-covers (spacing_at row_unit s) lat zone, covers-listed (spacing_at row_unit s) lat zone)

pub ruleset claims = (cover-listed, six-at-most)
