-- The extents as facts, where `extents_hold` holds. Assumes nothing.
use mathlib.Core.Path.{◌≡◌, sym, subst}
use mathlib.Core.Bool.{true, ◌&&◌, and-eq-true_iff}
use Prim.Native.Nat.{ℕ, ◌*◌, ◌/◌, ◌≤◌, ◌<◌}
use borrow.Author.Tests.{leb-true}
use lib.Dec.{leb, ltb, T}
use lib.IntN.{ℤ, pos, neg_ℤ, ◌-ℤ◌}
use lib.Signed.{le_z, ◌≤ℤ◌}
use Rattle.card_text.specs.Extents.{extents_hold}
use Rattle.card_text.proofs.Walked.{within}

pub record Extends (a b : ℕ) (n : ℤ) (nul nus nll nls nfl nfc : ℕ) : Type 0 where
  pub across : nfc ≤ a / 128
  pub down : neg_ℤ (pos (b / 512)) ≤ℤ (n -ℤ pos nfl)
  pub rows : (nul ≤ nll) × (nll < 128 * nfl)
  pub columns : (nls ≤ nus) × (nus < 128 * nfc)

pub extends : (a b : ℕ) (n : ℤ) (nul nus nll nls nfl nfc : ℕ) → extents_hold a b n nul nus nll nls nfl nfc ≡ true
    → Extends a b n nul nus nll nls nfl nfc
unfolding extents_hold
extends a b n nul nus nll nls nfl nfc e =
    let tiles = leb nfc (a / 128) && le_z (neg_ℤ (pos (b / 512))) (n -ℤ pos nfl) in
    let rows = leb nul nll && ltb nll (128 * nfl) in
    let x = (and-eq-true_iff (tiles && rows) (leb nls nus && ltb nus (128 * nfc))).0 e in
    let y = (and-eq-true_iff tiles rows).0 x.0 in
    let z = (and-eq-true_iff (leb nfc (a / 128)) (le_z (neg_ℤ (pos (b / 512))) (n -ℤ pos nfl))).0 y.0 in
    record {
      across = leb-true nfc (a / 128) z.0;
      down = record { le = subst T (sym z.1) tt };
      rows = within nul nll (128 * nfl) y.1;
      columns = within nls nus (128 * nfc) x.1;
    }
