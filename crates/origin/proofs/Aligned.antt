-- What an origin is held to: n and m are the ceiling and the floor that are defined, and neither leaves the axis; at a town scale no point
-- is aligned. Assumes nothing.
use mathlib.Core.Path.{◌≡◌, refl, ap₂}
use mathlib.Core.Bool.{Bool, not, ◌&&◌}
use Prim.Native.Nat.{ℕ, ◌*◌, ◌/◌, ◌≤◌}
use native.Mathlib.Omega.{arith}
use lib.IntN.{ℤ, pos, ◌*ℤ◌}
use Rattle.whole.specs.Whole.{raise}
use Rattle.whole.proofs.Signed.{is-equal, is-parts, over, under, is_mul, is-raise, raise-high}
use Rattle.whole.proofs.Held.{floors, ceils}
use Rattle.arc.specs.Zones.{circle, half, quarter, tile}
use Rattle.std.specs.Prelude.{Result, Ok, Err}
use Rattle.whole.specs.Results.{◌>>=◌}
use Rattle.arc.specs.declared.refusal.Refusal.{Refusal}
use Rattle.arc.specs.declared.series.Spacing.{Spacing}
use Rattle.arc.specs.TownScales.{spacing_for_writing}
use Rattle.arc.proofs.TownScales.{town-refused, written_from, only-from}
use Rattle.origin.specs.Origin.{row_tiles, column_tiles, origin_of, align_in, AlignedIs, AlignedOnGrid, AlignedFrom, AlignedScale, TownNotAligned}
use Rattle.origin.proofs.Line.{is-inside}
use Rattle.origin.proofs.Axis.{tile_angle, is-tiles, latitudes, longitudes, row_is, row-high, column-is, column-high}

-- 128 × k × H as the quotients' laws write it
tiles-angle : (k : ℤ) → pos tile *ℤ k *ℤ pos circle ≡ k *ℤ pos tile_angle
tiles-angle k =
    is-equal (pos tile *ℤ k *ℤ pos circle) (k *ℤ pos tile_angle) (over k * tile_angle) (under k * tile_angle) (over k * tile_angle) (under k * tile_angle)
    (is-tiles k (over k) (under k) (is-parts k)) (is_mul k tile_angle (over k) (under k) (is-parts k)) refl

pub aligned : AlignedIs
unfolding origin_of
aligned a b lat lon =
    let n = ceils (lat *ℤ pos b) tile_angle (omega arith) in
    let m = floors (lon *ℤ pos a) tile_angle (omega arith) in
    record {
      n_smallest = record { holds = rw tiles-angle n.holds; least = λ k h. n.least k (rw tiles-angle at h) };
      m_greatest = record { holds = rw tiles-angle m.holds; most = λ k h. m.most k (rw tiles-angle at h) };
      pso_stored = refl;
      lso_stored = refl;
    }

pub aligned-on-grid : AlignedOnGrid
unfolding origin_of
aligned-on-grid a b ga gb lat lon p q =
    let north : ℕ = raise quarter lat in
    let east : ℕ = raise half lon in
    let rows = latitudes b gb in
    let columns = longitudes a ga in
    ap₂ (λ (x y : Bool). not x && not y)
    (is-inside (row_tiles b lat) _ (b / 512) (row_is rows lat north (is-raise quarter lat p)) (row-high rows north (raise-high quarter lat p)))
    (is-inside (column_tiles a lon) _ (a / 256) (column-is columns lon east (is-raise half lon q)) (column-high columns east (raise-high half lon q)))

pub aligned-from : AlignedFrom
aligned-from series lat lon h = rw (written_from series h)

pub aligned-scale : AlignedScale
aligned-scale series lat lon o e = go (spacing_for_writing series) refl e
  where
    go : (x : Result Spacing Refusal) → spacing_for_writing series ≡ x → x >>= (λ y. align_in series.zone y lat lon) ≡ Ok o
        → 10000 ≤ series.scale
    go (Ok x) p q = only-from series x.a x.b p
    go (Err r) p q = let z : ◌≡◌ {A = ℕ} 0 1 = cc in absurd (omega arith)

pub town-not-aligned : TownNotAligned
town-not-aligned series lat lon p q = rw (town-refused series p q)
