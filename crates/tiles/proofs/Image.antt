-- The window over the whole image is one long row, and its scan passes a tile only where it is stored. Assumes nothing.
use mathlib.Core.Path.{◌≡◌, refl, sym, ap, ◌∙◌}
use mathlib.Core.List.{◌++◌}
use Prim.Native.Nat.{ℕ, zero, suc, ◌+◌, ◌*◌, ◌≤◌, ◌<◌}
use native.Mathlib.Omega.{arith}
use native.Mathlib.Nat.{add-mul, one-mul}
use native.Mathlib.Numerals.{add-one}
use native.Mathlib.Decide.{ℕ_discrete}
use borrow.Author.Tests.{le-ltb}
use Rattle.card_text.specs.declared.Fields.{Fields}
use Rattle.tiles.specs.declared.Said.{Said}
use Rattle.tiles.specs.declared.Stored.{Stored}
use Rattle.std.specs.Prelude.{None, Ok}
use Rattle.tiles.specs.Index.{tiles, said_of}
use Rattle.whole.specs.Lists.{up_from}
use Rattle.tiles.specs.Window.{window_tiles, scanned, scan, view_of, window_by, WholeView, WholeImage}

row-join : (t a n : ℕ) → up_from t a ++ up_from (t + a) n ≡ up_from t (a + n)
row-join t zero n =
    let e : t + 0 ≡ t = omega arith in
    let f : 0 + n ≡ n = omega arith in
    rw (e, f)
row-join t (suc a) n =
    let e : suc a + n ≡ suc (a + n) = omega arith in
    let f : t + suc a ≡ t + 1 + a = omega arith in
    rw (e, f, row-join (t + 1) a n)

whole-rows : (k : Fields) (top height : ℕ)
    → window_tiles k top 0 height k.nfc ≡ up_from (top * k.nfc) (height * k.nfc)
whole-rows k top zero = let e : 0 * k.nfc ≡ 0 = omega arith in rw e
whole-rows k top (suc height) =
    let e : top * k.nfc + 0 ≡ top * k.nfc = omega arith in
    let f : (top + 1) * k.nfc ≡ top * k.nfc + k.nfc = omega (arith, add-mul top 1 k.nfc, one-mul k.nfc) in
    let g : suc height * k.nfc ≡ k.nfc + height * k.nfc =
    omega (arith, add-mul height 1 k.nfc, one-mul k.nfc, ap (λ (x : ℕ). x * k.nfc) (add-one height)) in
    rw (e, whole-rows k (top + 1) height, f, g, row-join (top * k.nfc) k.nfc (height * k.nfc))

module _ (says : ℕ → Said) where
  abbrev IsStored : ℕ → Type 0
  IsStored t = (s : Stored) × (says t ≡ Said.Stored s)

  scan-stored : (t n : ℕ) → scan says (up_from t n) ≡ Ok None → (j : ℕ) → t ≤ j → j < t + n → IsStored j
  scan-stored t zero e j p q = absurd (omega arith)
  scan-stored t (suc n) e j p q = go (says t) refl e (scan-stored (t + 1) n) (ℕ_discrete j t)
    where
      go : (v : Said) → says t ≡ v → scanned t v (scan says (up_from (t + 1) n)) ≡ Ok None
          → (scan says (up_from (t + 1) n) ≡ Ok None → (x : ℕ) → t + 1 ≤ x → x < t + 1 + n → IsStored x)
          → Dec (j ≡ t) → IsStored j
      go (Said.Stored m) o w f (yes d) = (m, ap says d ∙ o)
      go (Said.Stored m) o w f (no d) = f w j (omega arith) (omega arith)
      go Said.Missing o w f d = let z : ◌≡◌ {A = ℕ} 0 1 = cc in absurd (omega arith)
      go Said.Above o w f d = let z : ◌≡◌ {A = ℕ} 0 1 = cc in absurd (omega arith)

  stored-scan : (t n : ℕ) → ((j : ℕ) → t ≤ j → j < t + n → IsStored j) → scan says (up_from t n) ≡ Ok None
  stored-scan t zero f = refl
  stored-scan t (suc n) f =
      rw (f t (omega arith) (omega arith)).1 (stored-scan (t + 1) n (λ j p q. f j (omega arith) (omega arith)))

  view-is : (k : Fields) → view_of k says 0 0 k.nfl k.nfc ≡ scan says (up_from 0 (tiles k))
  unfolding view_of
  view-is k =
      let z : 0 * k.nfc ≡ 0 = omega arith in
      rw (
        le-ltb k.nfl (0 + k.nfl) (omega arith),
        le-ltb k.nfc (0 + k.nfc) (omega arith),
        whole-rows k 0 k.nfl,
        z,
      )

pub whole-view : WholeView
whole-view k says = (
  λ w t h. scan-stored says 0 (tiles k) (sym (view-is says k) ∙ w) t (omega arith) (omega arith),
  λ f. view-is says k ∙ stored-scan says 0 (tiles k) (λ j p q. f j (omega arith)),
)

pub whole-image : WholeImage
unfolding window_by
whole-image k index count e = rw e (whole-view k (said_of k index count))
