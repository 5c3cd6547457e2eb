-- At most six zones cover a latitude: the basic zone, and equatorward of it only rows fewer than six away reach it. Assumes nothing.
use mathlib.Core.Path.{◌≡◌, refl, sym, ap, ◌∙◌, subst⁻¹}
use mathlib.Core.Bool.{Bool, true, false, cond}
use mathlib.Core.List.{List, ◌∷◌}
use Prim.Native.Nat.{ℕ, zero, suc, ◌+◌, ◌-◌, ◌≤◌}
use native.Mathlib.Omega.{arith}
use lib.ListN.{length}
use lib.IntN.{nat_abs}
use Rattle.arc.specs.Zones.{row_at}
use Rattle.arc.specs.Pixels.{row_unit, spacing_at}
use Rattle.whole.specs.Lists.{those, down_from}
use Rattle.zones.specs.Cover.{first_zone, AtMostSix}
use Rattle.zones.specs.Steps.{reaches, cover_from, Rowed}
use Rattle.zones.proofs.Rows.{place}
use Rattle.zones.proofs.Order.{within, near-enough}
use Rattle.zones.proofs.Covering.{cover-is, rowed, scale-rows}

-- of the n rows from the Equator on, those that reach the size are no more than n less the rows six or more below i
module _ (b first i size : ℕ) (g : Rowed b first i size) where
  few : (n : ℕ) → n ≤ i → length (those (within b first size) (down_from first n)) ≤ n - (i - 5)
  few zero h = omega arith
  few (suc n) h = go (within b first size (first + n)) refl (few n (omega arith))
    where
      go : (t : Bool) → within b first size (first + n) ≡ t → length (those (within b first size) (down_from first n)) ≤ n - (i - 5)
          → length (cond t ((first + n) ∷ those (within b first size) (down_from first n)) (those (within b first size) (down_from first n)))
          ≤ suc n - (i - 5)
      go true e r =
          let k : first + n - first ≡ n = omega arith in
          omega (arith, near-enough b first i size g n h (ap (λ (m : ℕ). reaches b (row_at m) size) (sym k) ∙ e))
      go false e r = omega arith

  pub at-most-six : length (cover_from b first i size) ≤ 6
  unfolding cover_from
  at-most-six = omega (arith, few i (omega arith))

pub six-at-most : AtMostSix
six-at-most s g lat e =
    let b : ℕ = spacing_at row_unit s in
    subst⁻¹ (λ (l : List ℕ). length l ≤ 6) (cover-is b lat)
    (at-most-six b (first_zone lat) (place (nat_abs lat)).at (nat_abs lat) (rowed b lat (scale-rows s g) e))
