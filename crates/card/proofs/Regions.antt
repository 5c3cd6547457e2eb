-- The tests of `in_tiles` and `in_chart` as facts: a pixel that passes is one of naturals, and the chart lies in the tiles. Assumes nothing.
use mathlib.Core.Path.{◌≡◌, refl, ap₂}
use mathlib.Core.Bool.{true, ◌&&◌, and-eq-true_iff}
use Prim.Native.Nat.{ℕ, ◌*◌, ◌≤◌, ◌<◌}
use native.Mathlib.Omega.{arith}
use borrow.Author.Tests.{le-leb, lt-ltb}
use lib.IntN.{ℤ, pos, negsuc}
use lib.Signed.{le_z, lt_z}
use Rattle.card_text.specs.declared.Fields.{Fields}
use Rattle.card.specs.Grid.{in_tiles, in_chart}
use Rattle.card_text.proofs.Walked.{between, within}
use Rattle.card_text.proofs.Laid.{Laid}

-- z is a natural from low up to but not including n
pub record Within (low n : ℕ) (z : ℤ) : Type 0 where
  pub at : ℕ
  pub same : z ≡ pos at
  pub above : low ≤ at
  pub below : at < n

below : (low n : ℕ) (z : ℤ) → le_z (pos low) z && lt_z z (pos n) ≡ true → Within low n z
below low n (pos m) e =
    let t = within low m n e in record { at = m; same = refl; above = t.0; below = t.1 }
below low n (negsuc m) e = let x : ◌≡◌ {A = ℕ} 0 1 = cc in absurd (omega arith)

upto : (low high n : ℕ) (z : ℤ) → high < n → le_z (pos low) z && le_z z (pos high) ≡ true → Within low n z
upto low high n (pos m) h e =
    let t = between low m high e in record { at = m; same = refl; above = t.0; below = omega arith }
upto low high n (negsuc m) h e = let x : ◌≡◌ {A = ℕ} 0 1 = cc in absurd (omega arith)

within-test : (low n : ℕ) (z : ℤ) → Within low n z → le_z (pos 0) z && lt_z z (pos n) ≡ true
within-test low n z w = rw (w.same, le-leb 0 w.at (omega arith), lt-ltb w.at n w.below)

pub record PixelInside (k : Fields) (r c : ℤ) : Type 0 where
  pub row : Within 0 (128 * k.nfl) r
  pub column : Within 0 (128 * k.nfc) c

module _ (k : Fields) (r c : ℤ) where
  pub tiles-inside : in_tiles k r c ≡ true → PixelInside k r c
  tiles-inside e =
      let t = (and-eq-true_iff (le_z (pos 0) r && lt_z r (pos (128 * k.nfl))) (le_z (pos 0) c && lt_z c (pos (128 * k.nfc)))).0 e in
      record { row = below 0 (128 * k.nfl) r t.0; column = below 0 (128 * k.nfc) c t.1 }

  pub chart-tiles : Laid k → in_chart k r c ≡ true → in_tiles k r c ≡ true
  chart-tiles l e =
      let t = (and-eq-true_iff (le_z (pos k.nul) r && le_z r (pos k.nll)) (le_z (pos k.nls) c && le_z c (pos k.nus))).0 e in
      ap₂ ◌&&◌
      (within-test k.nul (128 * k.nfl) r (upto k.nul k.nll (128 * k.nfl) r l.bottom t.0))
      (within-test k.nls (128 * k.nfc) c (upto k.nls k.nus (128 * k.nfc) c l.right t.1))
