-- The window's scan, one tile at a time: the answer of what is left. Assumes nothing.
use mathlib.Core.Path.{◌≡◌, refl, sym, ap, ◌∙◌}
use mathlib.Core.List.{List, ◌∷◌, ◌++◌}
use Prim.Native.Nat.{ℕ, suc, ◌+◌, ◌-◌, ◌*◌, ◌≤◌, ◌<◌}
use native.Mathlib.Omega.{arith}
use Rattle.card_text.specs.declared.Fields.{Fields}
use Rattle.std.specs.Prelude.{Option, None, Result, Ok}
use Rattle.tiles.specs.declared.Said.{Said}
use Rattle.whole.specs.Lists.{up_from}
use Rattle.arc.specs.declared.refusal.Refusal.{Refusal}
use Rattle.tiles.specs.Window.{window_tiles, scanned, scan}
use Rattle.tiles.specs.Steps.{kind}

-- ---- the tiles of a row and of a window
row_step : (t n m : ℕ) → n ≡ suc m → up_from t n ≡ t ∷ up_from (t + 1) m
row_step t n m e = rw e

-- the place in a store aside
by_kind : (t : ℕ) (v : Said) (rest : Result (Option ℕ) Refusal) → scanned t v rest ≡ scanned t (kind v) rest
by_kind t (Said.Stored s) rest = refl
by_kind t Said.Missing rest = refl
by_kind t Said.Above rest = refl

module _ (says : ℕ → Said) where
  -- a row begins, and ends
  pub enter : (k : Fields) (top left r height width : ℕ) → r < height
      → scan says (window_tiles k (top + r) left (height - r) width)
      ≡ scan says (up_from ((top + r) * k.nfc + left + 0) (width - 0) ++ window_tiles k (top + (r + 1)) left (height - (r + 1)) width)
  enter k top left r height width h =
      let e : height - r ≡ suc (height - (r + 1)) = omega arith in
      let f : (top + r) * k.nfc + left + 0 ≡ (top + r) * k.nfc + left = omega arith in
      let g : width - 0 ≡ width = omega arith in
      let i : top + (r + 1) ≡ top + r + 1 = omega arith in
      rw (e, f, g, i)

  pub leave : (s c width : ℕ) (rest : List ℕ) → width ≤ c
      → scan says (up_from (s + c) (width - c) ++ rest) ≡ scan says rest
  leave s c width rest h = let e : width - c ≡ 0 = omega arith in rw e

  pub done : (k : Fields) (top left r height width : ℕ) → height ≤ r
      → scan says (window_tiles k (top + r) left (height - r) width) ≡ Ok None
  done k top left r height width h = let e : height - r ≡ 0 = omega arith in rw e

  -- c columns into a row of `width` from s, with the tiles `rest` below it: by what is said of the tile
  pub next : (s c width : ℕ) (rest : List ℕ) → c < width → (v : Said) → says (s + c) ≡ v
      → scan says (up_from (s + c) (width - c) ++ rest)
      ≡ scanned (s + c) v (scan says (up_from (s + (c + 1)) (width - (c + 1)) ++ rest))
  next s c width rest h v e =
      let f : s + c + 1 ≡ s + (c + 1) = omega arith in
      rw (row_step (s + c) (width - c) (width - (c + 1)) (omega arith), f, e)

  -- and by what a glance tells of it, the tiles before being stored
  pub glanced : (s c width : ℕ) (rest : List ℕ) → c < width → (seen : Said) → kind seen ≡ kind (says (s + c)) → (v : Said) → seen ≡ v
      → (whole : Result (Option ℕ) Refusal) → whole ≡ scan says (up_from (s + c) (width - c) ++ rest)
      → whole ≡ scanned (s + c) v (scan says (up_from (s + (c + 1)) (width - (c + 1)) ++ rest))
  glanced s c width rest h seen e v o whole w =
      let left = scan says (up_from (s + (c + 1)) (width - (c + 1)) ++ rest) in
      w ∙ next s c width rest h (says (s + c)) refl
      ∙ by_kind (s + c) (says (s + c)) left
      ∙ ap (λ (x : Said). scanned (s + c) x left) (sym e ∙ ap kind o)
      ∙ sym (by_kind (s + c) v left)
