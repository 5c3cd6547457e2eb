-- One turn of a window's scan, by what a glance tells of its tile. Assumes nothing.
use mathlib.Core.Path.{◌≡◌, ap, subst, ◌∙◌}
use mathlib.Core.List.{◌++◌}
use Prim.Native.Nat.{ℕ, ◌+◌, ◌-◌, ◌*◌, ◌≤◌, ◌<◌}
use native.Mathlib.Omega.{arith}
use Rattle.std.specs.Prelude.{Option, Result}
use Rattle.whole.specs.Lists.{up_from}
use Rattle.arc.specs.declared.refusal.Refusal.{Refusal}
use Rattle.card_text.specs.declared.Fields.{Fields}
use Rattle.card_text.specs.Read.{Known}
use Rattle.tiles.specs.declared.Said.{Said}
use Rattle.tiles.specs.Index.{tiles}
use Rattle.tiles.specs.Window.{window_tiles, scanned, scan}
use Rattle.tiles.specs.Steps.{WindowRows, kind, IsGlance}
use Rattle.tiles.proofs.Entry.{tile-inside, tile-most, row-most}
use Rattle.tiles.proofs.Ahead.{glanced}

pub known-as : {f k : Fields} → f ≡ k → Known f → Known k
known-as e w = subst Known e w

module _ (k : Fields) (top left height width : ℕ) (known : Known k) (w : WindowRows k top left height width) (r : ℕ) (h : r < height) where
  abbrev start : ℕ
  start = (top + r) * k.nfc + left

  pub row_few : (top + r) * k.nfc + left ≤ 998001
  row_few = row-most k known (top + r) left (omega (arith, w.down)) (omega (arith, w.across))

  module _ (c : ℕ) (i : c < width) where
    pub tile_few : (top + r) * k.nfc + left + c < 998001
    tile_few = omega (arith, tile-most k known (top + r) (left + c) (omega (arith, w.down)) (omega (arith, w.across)))

    -- where the tiles before it are stored
    pub turn : (says glance : ℕ → Said) → IsGlance k glance says → (whole : Result (Option ℕ) Refusal)
        → whole ≡ scan says (up_from (start + c) (width - c) ++ window_tiles k (top + (r + 1)) left (height - (r + 1)) width)
        → (seen : Said) → seen ≡ glance (start + c) → (v : Said) → seen ≡ v
        → whole ≡ scanned (start + c) v
        (scan says (up_from (start + (c + 1)) (width - (c + 1)) ++ window_tiles k (top + (r + 1)) left (height - (r + 1)) width))
    turn says glance law whole e seen s v o =
        let inside : start + c < tiles k = omega (arith, tile-inside (top + r) (left + c) k.nfl k.nfc (omega (arith, w.down)) (omega (arith, w.across))) in
        glanced says start c width _ i seen (ap kind s ∙ law (start + c) inside) v o whole e
