-- By a list with corrections beside it: which store what is stored is in. Assumes nothing.
use mathlib.Core.Path.{◌≡◌, sym, ◌∙◌}
use mathlib.Core.Bool.{false, not}
use mathlib.Core.List.{List}
use Prim.Native.Nat.{ℕ, ◌*◌, ◌≤◌, ◌<◌}
use native.Mathlib.Omega.{arith}
use native.Mathlib.Decide.{ℕ_discrete}
use borrow.Author.Tests.{eqb-true, ltb-false, not-false}
use lib.Dec.{ltb, eqb}
use lib.ListN.{length, get_or}
use lib.IntN.{ℤ, nat_abs}
use Rattle.std.specs.Prelude.{Ok}
use Rattle.card_text.specs.declared.Fields.{Fields}
use Rattle.tiles.specs.declared.Said.{Said}
use Rattle.tiles.specs.declared.Source.{Source}
use Rattle.tiles.specs.Index.{tiles, in_base, in_second, tile_bytes, index_wrong, said_of, tile_of}
use Rattle.tiles.specs.Corrections.{list_wrong, corrections_wrong, said_with, source_of}
use Rattle.tiles.specs.Entries.{neither, not-wrong, entry-is}
use Rattle.tiles.specs.Laws.{with_none, with-some}
use Rattle.tiles.proofs.Entry.{stored-most}
use Rattle.tiles.proofs.PixelTile.{InStore, in-store, found, past}

-- ---- lengths
module _ (k : Fields) (corrections : List ℕ) (corrected : ℕ) (e : list_wrong k corrections corrected ≡ false) where
  parted : (not (eqb (length corrections) (tiles k)) ≡ false) × (ltb (tiles k) corrected ≡ false)
  unfolding list_wrong
  parted = neither (not (eqb (length corrections) (tiles k))) (ltb (tiles k) corrected) e

  pub list-long : length corrections ≡ tiles k
  list-long = eqb-true (length corrections) (tiles k) (not-false _ parted.0)

  pub corrected_most : corrected ≤ tiles k
  corrected_most = ltb-false (tiles k) corrected parted.1

-- ---- the number is in the store that is named
module _ (k : Fields) (index : List ℕ) (count : ℕ) (store corrections : List ℕ) (corrected : ℕ) (second : List ℕ) (r c : ℤ) where
  abbrev tile : ℕ
  tile = tile_of k (nat_abs r) (nat_abs c)

  pub base-held : (n : ℕ) → source_of k index count store corrections corrected second r c ≡ Ok (in_base n) → InStore n count store
  base-held n e =
      let p = past k _ store second r c (in_base n) e in
      let w = neither (index_wrong k index count) (not (eqb (length store) (count * tile_bytes))) (not-wrong _ _ (not-wrong _ _ p.0).1).0 in
      let o = found k _ r c (in_base n) p.1 in
      go o.inside w.0 w.1 (ℕ_discrete (get_or corrections tile 0) 0) o.said-is
    where
      go : tile < tiles k → index_wrong k index count ≡ false → not (eqb (length store) (count * tile_bytes)) ≡ false → Dec (get_or corrections tile 0 ≡ 0)
          → said_with corrections corrected (said_of k index count) tile ≡ Said.Stored (in_base n) → InStore n count store
      go h w l (yes z) s =
          let m = stored-most k index count tile (in_base n) w h (sym (with_none corrections tile corrected (said_of k index count) z) ∙ s) in
          in-store n count store m.1 m.2 l
      go h w l (no d) s =
          let m = entry-is Source.Corrections corrected (get_or corrections tile 0) (Said.Stored (in_base n))
          (sym (with-some corrections tile corrected (said_of k index count) d) ∙ s) in
          let x : Source.Base ≡ Source.Corrections = m.0 in
          let z : ◌≡◌ {A = ℕ} 0 1 = cc in absurd (omega arith)

  pub second-held : (n : ℕ) → source_of k index count store corrections corrected second r c ≡ Ok (in_second n)
      → InStore n corrected second
  unfolding corrections_wrong
  second-held n e =
      let p = past k _ store second r c (in_second n) e in
      let x = not-wrong (corrections_wrong k corrections corrected second) _ p.0 in
      let b = neither (index_wrong k index count) (not (eqb (length store) (count * tile_bytes))) (not-wrong _ _ x.1).0 in
      let w = neither (list_wrong k corrections corrected) (not (eqb (length second) (corrected * tile_bytes))) x.0 in
      let o = found k _ r c (in_second n) p.1 in
      go o.inside b.0 w.1 (ℕ_discrete (get_or corrections tile 0) 0) o.said-is
    where
      go : tile < tiles k → index_wrong k index count ≡ false → not (eqb (length second) (corrected * tile_bytes)) ≡ false → Dec (get_or corrections tile 0 ≡ 0)
          → said_with corrections corrected (said_of k index count) tile ≡ Said.Stored (in_second n) → InStore n corrected second
      go h w l (yes z) s =
          let m = stored-most k index count tile (in_second n) w h (sym (with_none corrections tile corrected (said_of k index count) z) ∙ s) in
          let x : Source.Corrections ≡ Source.Base = m.0 in
          let z : ◌≡◌ {A = ℕ} 0 1 = cc in absurd (omega arith)
      go h w l (no d) s =
          let m = entry-is Source.Corrections corrected (get_or corrections tile 0) (Said.Stored (in_second n))
          (sym (with-some corrections tile corrected (said_of k index count) d) ∙ s) in
          in-store n corrected second m.2 m.3 l
