-- The table's rows are the printed ones; one alone holds a size up to 90°, and a row's two zones differ. Assumes nothing.
use mathlib.Core.Path.{◌≡◌, refl, sym, ap, ◌∙◌, subst, subst⁻¹}
use mathlib.Core.Bool.{Bool, true, false, cond}
use mathlib.Core.Logic.{◌⊎◌, ◌↔◌, inl, inr, ⊎_elim, ⊎_map}
use Prim.Native.Nat.{ℕ, ◌<◌, ◌≤◌, ◌*◌}
use native.Mathlib.Omega.{arith}
use borrow.Author.Tests.{ltb-true, ltb-false, eq-eqb, eqb-true}
use lib.Dec.{T, ltb}
use lib.IntN.{ℤ, pos, nat_abs}
use Rattle.std.specs.Prelude.{Ok}
use lib.Signed.{lt_z, ◌<ℤ◌, lt_z_yes}
use Rattle.whole.proofs.Held.{outsides}
use Rattle.whole.proofs.Lists.{agree}
use Rattle.arc.specs.AsPrinted.{in_hundredths, printed_row, printed_rows}
use Rattle.arc.specs.declared.zone_table.Row.{Row}
use Rattle.arc.specs.Zones.{quarter, table, no_row, row_at}
use Rattle.arc.proofs.Table.{northern-at, southern-at, last-at}
use Rattle.zones.specs.Basic.{zone_on}
use Rattle.zones.specs.ZoneRule.{printed_at, Holds, ZoneRule}
use Rattle.zones.proofs.Rows.{place, row-is}
use Rattle.zones.proofs.Order.{only}

-- a row is the printed one
module _ (j : ℕ) (h : j < 9) where
  is : row_at j ≡ in_hundredths (printed_at j)
  is = agree (λ (r : Row). r) in_hundredths table printed_rows no_row (printed_row 0 0 0 0 0) refl j h

  starts : (row_at j).equatorward ≡ (printed_at j).equatorward * 360000
  starts = ap (λ (r : Row). r.equatorward) is

  ends : (row_at j).poleward ≡ (printed_at j).poleward * 360000
  ends = ap (λ (r : Row). r.poleward) is

  north : (row_at j).northern ≡ (printed_at j).northern
  north = ap (λ (r : Row). r.northern) is

  south : (row_at j).southern ≡ (printed_at j).southern
  south = ap (λ (r : Row). r.southern) is

module _ (size : ℕ) where
  there : size ≤ quarter → Holds (printed_at (place size).at) size
  there h =
      let p = place size in (
        omega (arith, p.low, starts p.at p.in_list),
        ⊎_elim (λ k. inl (omega (arith, ends p.at p.in_list))) (λ e. last (omega arith) (ltb size quarter) refl) p.high,
      )
    where
      -- the last row ends at 90°
      last : (place size).at ≡ 8 → (t : Bool) → ltb size quarter ≡ t
          → (size < (printed_at (place size).at).poleward * 360000) ⊎ (((printed_at (place size).at).poleward ≡ 90) × (size ≡ quarter))
      last e t k =
          let n : (printed_at (place size).at).poleward ≡ 90 = ap (λ (i : ℕ). (printed_at i).poleward) e in
          go t k n
        where
          go : (t : Bool) → ltb size quarter ≡ t → (printed_at (place size).at).poleward ≡ 90
              → (size < (printed_at (place size).at).poleward * 360000) ⊎ (((printed_at (place size).at).poleward ≡ 90) × (size ≡ quarter))
          go true k n = inl (omega (arith, ltb-true size quarter k))
          go false k n = inr (n, omega (arith, ltb-false size quarter k))

  alone : (j : ℕ) → j < 9 → Holds (printed_at j) size → j ≡ (place size).at
  alone j h w =
      only size j h (omega (arith, w.0, starts j h))
      (⊎_elim (λ k. inl (omega (arith, ends j h)))
      (λ k. inr (eqb-true j 8 (sym (last-at j h) ∙ eq-eqb (row_at j).poleward quarter (omega (arith, ends j h, k.0))))) w.1)

-- the southern zone on one side alone
sides : (lat : ℤ) (t : Bool) → lt_z lat (pos 0) ≡ t → (n s : ℕ) → (n ≡ s → ⊥)
    → let z = cond t s n in ((z ≡ n) ⊎ (z ≡ s)) × ((z ≡ s) ↔ (lat <ℤ pos 0))
sides lat true k n s d = (inr refl, ((λ e. lt_z_yes (subst⁻¹ T k tt)), λ h. refl))
sides lat false k n s d = (inl refl, ((λ e. absurd (d e)), λ h. absurd (subst T k h.lt)))

pub zone-rule : ZoneRule
zone-rule lat h =
    let p = place (nat_abs lat) in
    let r = row_at p.at in
    let w =
    sides lat (lt_z lat (pos 0)) refl r.northern r.southern
    (λ k. omega (arith, northern-at p.at p.in_list, southern-at p.at p.in_list)) in (
      zone_on lat r,
      rw ((outsides quarter lat).1 h) (ap Ok (ap (zone_on lat) (row-is (nat_abs lat)))),
      record {
        at = p.at;
        of_nine = p.in_list;
        holds = there (nat_abs lat) h;
        alone = alone (nat_abs lat);
        of_row = ⊎_map (λ e. e ∙ north p.at p.in_list) (λ e. e ∙ south p.at p.in_list) w.0;
        southern_below = (λ e. w.1.0 (e ∙ sym (south p.at p.in_list)), λ k. w.1.1 k ∙ south p.at p.in_list);
      },
    )

pub ruleset claims = (zone-rule)
