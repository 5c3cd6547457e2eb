-- The tests of a record to be written, in their order: the counts and the name first, then the origin, then the extents.
-- Assumes nothing.
use mathlib.Core.Path.{◌≡◌, refl, sym, ap, ◌∙◌}
use mathlib.Core.Bool.{Bool, true, false}
use mathlib.Core.List.{List, [], ◌∷◌, ◌++◌}
use Prim.Native.Nat.{ℕ, ◌/◌}
use Rattle.whole.specs.Whole.{outside}
use Rattle.whole.proofs.Counts.{Inside, inside_is}
use Rattle.arc.specs.declared.refusal.Refusal.{Refusal}
use Rattle.std.specs.Prelude.{Ok, Err}
use Rattle.card_text.specs.declared.Record.{Record}
use Rattle.card_text.specs.Layout.{Judged, or_else}
use Rattle.origin.specs.Origin.{on_grid}
use Rattle.card_text.specs.Extents.{extents_hold}
use Rattle.card_text.specs.Write.{test, first, record_tests}
use Rattle.card_text.specs.StepsRead.{extents_at}
use Rattle.card_text.specs.StepsWrite.{count_tests}
use Rattle.card_text.proofs.Walked.{or_else-assoc}
use Rattle.card_text.proofs.Tiled.{extents-at}

first-append : (xs ys : List Judged) → first (xs ++ ys) ≡ or_else (first xs) (first ys)
first-append [] ys = refl
first-append (v ∷ vs) ys = ap (or_else v) (first-append vs ys) ∙ sym (or_else-assoc v (first vs) (first ys))

module _ (a b : ℕ) (r : Record) where
  -- 10, 11
  grid_tests : List Judged
  grid_tests =
      test (on_grid a b r.n r.m) Refusal.Origin ∷
      test (extents_hold a b r.n r.nul r.nus r.nll r.nls r.nfl r.nfc) Refusal.Extent ∷
      []

  in_order : first (record_tests a b r) ≡ or_else (first (count_tests r)) (first grid_tests)
  unfolding record_tests grid_tests
  in_order = first-append (count_tests r) grid_tests

  pub counts-refused : {e : Refusal} → first (count_tests r) ≡ Err e → first (record_tests a b r) ≡ Err e
  counts-refused p = in_order ∙ rw p

  module _ (p : first (count_tests r) ≡ Ok tt) where
    pub rows-refused : outside (b / 512) r.n ≡ true → first (record_tests a b r) ≡ Err Refusal.Origin
    unfolding grid_tests
    rows-refused o = in_order ∙ rw (p, o)

    pub columns-refused : outside (b / 512) r.n ≡ false → outside (a / 256) r.m ≡ true
        → first (record_tests a b r) ≡ Err Refusal.Origin
    unfolding grid_tests
    columns-refused i o = in_order ∙ rw (p, i, o)

    pub extents-judged : {north east : ℕ} → Inside (b / 512) r.n north → Inside (a / 256) r.m east → (ok : Bool)
        → ok ≡ extents_at a north r.nul r.nus r.nll r.nls r.nfl r.nfc
        → first (record_tests a b r) ≡ test ok Refusal.Extent
    unfolding grid_tests
    extents-judged {north} i j ok e =
        in_order
        ∙ rw (
          p,
          i.test,
          j.test,
          extents-at a b r.n north r.nul r.nus r.nll r.nls r.nfl r.nfc (inside_is i),
          ← e,
        )
        (last ok)
      where
        last : (t : Bool) → or_else (test t Refusal.Extent) (Ok tt) ≡ test t Refusal.Extent
        last true = refl
        last false = refl
