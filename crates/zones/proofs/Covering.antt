-- The cover of specs/Cover by a row's place: on its own side of the Equator a zone covers a latitude where its row starts no farther than
-- the latitude's size and reaches it; on the other side it covers none. Assumes nothing.
use mathlib.Core.Path.{◌≡◌, refl, sym, ap, ap₂, ◌∙◌}
use mathlib.Core.Bool.{Bool, true, false, cond, not, ◌&&◌, ◌||◌, and-eq-true_iff, false≢true}
use mathlib.Core.List.{List, ◌∷◌}
use Rattle.std.specs.Prelude.{Option, Some, None, Ok}
use Prim.Native.Nat.{ℕ, zero, suc, ◌+◌, ◌-◌, ◌*◌, ◌≤◌, ◌<◌}
use native.Mathlib.Omega.{arith}
use borrow.Author.Tests.{ltb-true, ltb-false, le-leb, lt-leb, eq-eqb, eqb-true}
use lib.Dec.{leb, ltb, eqb}
use lib.IntN.{ℤ, pos, nat_abs}
use lib.Signed.{lt_z}
use Rattle.whole.specs.Whole.{outside}
use Rattle.whole.proofs.Held.{outsides}
use Rattle.arc.specs.Zones.{circle, quarter, table, table_row, row_at}
use Rattle.arc.specs.declared.zone_table.Row.{Row}
use Rattle.arc.specs.Scales.{is_scale}
use Rattle.arc.specs.Pixels.{row_unit, spacing_at}
use Rattle.arc.specs.Spacing.{rows_of}
use Rattle.arc.proofs.PixelLaws.{grid, rows-least}
use Rattle.arc.proofs.Answered.{rows-from}
use Rattle.whole.specs.Lists.{those, down_from}
use Rattle.zones.specs.Basic.{holds_size, zone_on, basic_zone}
use Rattle.zones.specs.Cover.{overlaps, covers_in, covers, first_zone, cover_zones}
use Rattle.zones.specs.Steps.{reaches, cover_from, Rows, Rowed}
use Rattle.arc.proofs.Table.{northern-at, southern-at, row-north, row-south, polar-at, last-at, from-to, found_at}
use Rattle.zones.proofs.Rows.{place, row-is}
use Rattle.zones.proofs.Order.{within, to-from}

pub leb-ltb : (m n : ℕ) → leb m n ≡ not (ltb n m)
leb-ltb m n = go (ltb n m) refl
  where
    go : (t : Bool) → ltb n m ≡ t → leb m n ≡ not t
    go true e = lt-leb m n (ltb-true n m e)
    go false e = le-leb m n (ltb-false n m e)

-- "also when": F the row starts before, L the size lies before its poleward limit, p polar, X within 1024 rows
also : (f l p x : Bool) → (l ≡ false → f ≡ true) → (f && (l || p)) || (not p && (not l && x)) ≡ f && ((l || p) || x)
also true true true x h = refl
also true true false x h = refl
also true false true x h = refl
also true false false x h = refl
also false true true x h = refl
also false true false x h = refl
also false false p x h = let z : ◌≡◌ {A = ℕ} 0 1 = let b : false ≡ true = h refl in cc in absurd (omega arith)

module _ (b j : ℕ) (h : j < 9) where
  -- a row and a size
  pub row-covers : (size : ℕ) → holds_size (row_at j) size || overlaps b (row_at j) size ≡ leb (row_at j).equatorward size && reaches b (row_at j) size
  row-covers size =
      let r = row_at j in
      rw (last-at j h, polar-at j h, leb-ltb r.poleward size)
      (also (leb r.equatorward size) (ltb size r.poleward) (eqb j 8) (ltb ((size - r.poleward) * b) (1024 * circle))
      (λ e. le-leb r.equatorward size (omega (arith, ltb-false size r.poleward e, from-to j h))))

  -- on the zone's side
  module _ (lat : ℤ) where
    pub zone-on : zone_on lat (row_at j) ≡ first_zone lat + j
    zone-on = go (lt_z lat (pos 0))
      where
        go : (t : Bool) → cond t (row_at j).southern (row_at j).northern ≡ cond t 10 1 + j
        go true = southern-at j h
        go false = northern-at j h

    pub row_of : table_row (first_zone lat + j) ≡ Some (row_at j)
    row_of = go (lt_z lat (pos 0))
      where
        go : (t : Bool) → table_row (cond t 10 1 + j) ≡ Some (row_at j)
        go true = row-south j h
        go false = row-north j h

    pub covers-is : covers b lat (first_zone lat + j) ≡ leb (row_at j).equatorward (nat_abs lat) && reaches b (row_at j) (nat_abs lat)
    unfolding covers
    covers-is =
        ap (covers_in b lat (first_zone lat + j)) row_of
        ∙ ap (λ (t : Bool). t && (holds_size (row_at j) (nat_abs lat) || overlaps b (row_at j) (nat_abs lat)))
        (eq-eqb (first_zone lat + j) (zone_on lat (row_at j)) (sym zone-on))
        ∙ row-covers (nat_abs lat)

-- what covers a latitude is a zone of its hemisphere
pub own-side : (b : ℕ) (lat : ℤ) (zone : ℕ) → covers b lat zone ≡ true → (j : ℕ) × (j < 9) × (zone ≡ first_zone lat + j)
unfolding covers
own-side b lat zone e = go (table_row zone) refl e
  where
    go : (o : Option Row) → table_row zone ≡ o → covers_in b lat zone o ≡ true → (j : ℕ) × (j < 9) × (zone ≡ first_zone lat + j)
    go (Some r) p t =
        let w = found_at table zone r p in
        let q = (and-eq-true_iff (eqb zone (zone_on lat r)) (holds_size r (nat_abs lat) || overlaps b r (nat_abs lat))).0 t in
        (w.0, w.1, eqb-true zone (zone_on lat r) q.0 ∙ ap (zone_on lat) (sym w.2) ∙ zone-on b w.0 w.1 lat)
    go None p t = absurd (false≢true t)

-- the basic zone by its row's place
pub basic-is : (lat : ℤ) → basic_zone lat ≡ first_zone lat + (place (nat_abs lat)).at
basic-is lat = ap (zone_on lat) (row-is (nat_abs lat)) ∙ zone-on 0 (place (nat_abs lat)).at (place (nat_abs lat)).in_list lat

those-same : (f g : ℕ → Bool) (a n : ℕ) → ((k : ℕ) → k < n → f (a + k) ≡ g (a + k)) → those f (down_from a n) ≡ those g (down_from a n)
those-same f g a zero e = refl
those-same f g a (suc n) e =
    ap₂ (λ (t : Bool) (l : List ℕ). cond t ((a + n) ∷ l) l) (e n (omega arith)) (those-same f g a n (λ k h. e k (omega arith)))

-- the cover list as the code goes through it
pub cover-is : (b : ℕ) (lat : ℤ) → cover_zones b lat ≡ cover_from b (first_zone lat) (place (nat_abs lat)).at (nat_abs lat)
unfolding cover_from
cover-is b lat =
    let p = place (nat_abs lat) in
    let i : ℕ = p.at in
    let first : ℕ = first_zone lat in
    let e : basic_zone lat - first ≡ i = omega (arith, basic-is lat) in
    ap₂ (λ (z n : ℕ). z ∷ those (covers b lat) (down_from first n)) (basic-is lat) e
    ∙ ap (λ (l : List ℕ). (first + i) ∷ l)
    (those-same (covers b lat) (within b first (nat_abs lat)) first i
    (λ k h.
    let r : first + k - first ≡ k = omega arith in
    let s : (row_at k).equatorward ≤ nat_abs lat = omega (arith, to-from k i h p.in_list, from-to k (omega (arith, p.in_list)), p.low) in
    covers-is b k (omega (arith, p.in_list)) lat
    ∙ ap (λ (t : Bool). t && reaches b (row_at k) (nat_abs lat)) (le-leb (row_at k).equatorward (nat_abs lat) s)
    ∙ ap (λ (m : ℕ). reaches b (row_at m) (nat_abs lat)) (sym r)))

pub first_small : (lat : ℤ) → first_zone lat ≤ 10
first_small lat = go (lt_z lat (pos 0))
  where
    go : (t : Bool) → cond t 10 1 ≤ 10
    go true = omega arith
    go false = omega arith

-- what `cover_from` is handed for a latitude in range
pub rowed : (b : ℕ) (lat : ℤ) → Rows b → outside quarter lat ≡ false → Rowed b (first_zone lat) (place (nat_abs lat)).at (nat_abs lat)
rowed b lat g e =
    let p = place (nat_abs lat) in
    record { rows = g; zone = first_small lat; in_table = p.in_list; low = p.low; high = (outsides quarter lat).0 e }

-- B of a served scale, and of an answered one
pub scale-rows : (s : ℕ) → is_scale s ≡ true → Rows (spacing_at row_unit s)
scale-rows s g = record { least = rows-least s g; most = (grid row_unit s g (record { least = omega arith; most = omega arith })).most }

pub rows-of : (s factor b : ℕ) → rows_of s factor ≡ Ok b → Rows b
rows-of s factor b e = let f = rows-from s factor b e in rw f.2 (scale-rows f.0 f.1.served)
