-- Presence bits: their lengths. Assumes nothing.
use mathlib.Core.Path.{◌≡◌, sym, ap, ◌∙◌}
use mathlib.Core.Bool.{Bool, true, false, cond, not}
use mathlib.Core.List.{List}
use Prim.Native.Nat.{ℕ, ◌+◌, ◌-◌, ◌*◌, ◌/◌, ◌%◌, ◌≤◌}
use native.Mathlib.Omega.{arith}
use native.Mathlib.Decide.{ℕ_discrete}
use borrow.Author.Tests.{eqb-true, not-false}
use lib.Dec.{eqb}
use lib.ListN.{length}
use Rattle.presence.specs.Presence.{any_set_from}
use Rattle.presence.proofs.Set.{set_past}
use Rattle.card_text.specs.declared.Fields.{Fields}
use Rattle.card_text.specs.Read.{Known}
use Rattle.tiles.specs.Index.{tiles, count_wrong}
use Rattle.tiles.specs.Bits.{words_length, words_wrong, stray_bit}
use Rattle.tiles.specs.Entries.{neither, count-few}
use Rattle.tiles.proofs.Entry.{tiles_small}

-- ---- lengths
module _ (k : Fields) (words : List ℕ) where
  pub words_right : (count : ℕ) → words_wrong k words count ≡ false → length words ≡ words_length k
  unfolding words_wrong
  words_right count e = eqb-true (length words) (words_length k) (not-false _ (neither (not (eqb (length words) (words_length k))) (count_wrong k count) e).0)

  pub words_count : (count : ℕ) → words_wrong k words count ≡ false → count ≤ tiles k
  unfolding words_wrong
  words_count count e = count-few k count (neither (not (eqb (length words) (words_length k))) (count_wrong k count) e).1

  module _ (e : length words ≡ words_length k) where
    pub words-few : Known k → length words ≤ 15594
    words-few w = go k.tif e
      where
        go : (b : Bool) → length words ≡ cond b ((tiles k + 63) / 64) 0 → length words ≤ 15594
        go true f = omega (arith, tiles_small k w)
        go false f = omega arith

    -- the bits past the last tile are those of its word
    pub stray_is : stray_bit k words ≡ any_set_from words (tiles k) (64 - tiles k % 64)
    unfolding stray_bit
    stray_is = go (ℕ_discrete (length words * 64 - tiles k) (64 - tiles k % 64))
      where
        past : (length words * 64 - tiles k ≡ 64 - tiles k % 64 → ⊥) → (b : Bool) → length words ≡ cond b ((tiles k + 63) / 64) 0
            → length words ≤ tiles k / 64
        past d true f = omega (arith, d)
        past d false f = omega arith

        go : Dec (length words * 64 - tiles k ≡ 64 - tiles k % 64)
            → any_set_from words (tiles k) (length words * 64 - tiles k) ≡ any_set_from words (tiles k) (64 - tiles k % 64)
        go (yes f) = ap (any_set_from words (tiles k)) f
        go (no d) =
            let h = past d k.tif e in
            set_past words (tiles k) (length words * 64 - tiles k) h ∙ sym (set_past words (tiles k) (64 - tiles k % 64) h)
