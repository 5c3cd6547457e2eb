-- Cards that answer alike. The corners of one's tiles and chart are in the other's, so the extents are the same. And cards whose upper
-- left pixels have one place have one place for every pixel, so one position, and they find one column. Assumes nothing.
use Rattle.std.specs.Prelude.{if◌then◌else◌, Ok, Err}
use Rattle.card_text.specs.Layout.{Judged}
use Rattle.card.proofs.Same.{same-place}
use Rattle.arc.specs.declared.refusal.Refusal.{Refusal}
use Rattle.card.specs.Grid.{at_place}
use mathlib.Core.Path.{◌≡◌, refl, sym, ap, ap₂, ◌∙◌}
use mathlib.Core.Bool.{Bool, true, false, not, ◌&&◌, and-eq-true_iff}
use Prim.Native.Nat.{ℕ, ◌+◌, ◌-◌, ◌*◌, ◌/◌, ◌%◌, ◌≤◌, ◌<◌}
use native.Mathlib.Nat.{add-mul-mod_self_right}
use native.Mathlib.Omega.{arith}
use borrow.Author.Tests.{le-leb, lt-ltb}
use lib.Dec.{leb}
use lib.IntN.{ℤ, pos, ◌+ℤ◌, ◌-ℤ◌, ◌*ℤ◌}
use Rattle.whole.specs.Whole.{floor_div, nearest, modulo, outside, raise}
use Rattle.whole.proofs.Signed.{Is, is-equal, equal_is, is-raise}
use Rattle.arc.specs.declared.series.Series.{Series}
use Rattle.arc.specs.Zones.{circle, half}
use Rattle.card_text.specs.declared.Fields.{Fields}
use Rattle.card.specs.declared.Pair.{Pair}
use Rattle.card_text.specs.declared.Extents.{Extents}
use Rattle.card_text.specs.Read.{Accepted}
use Rattle.card.specs.Grid.{place_row, place_column, in_tiles, in_chart, extents_of, row_value, row_of, column_of, verdict_of, place_of, position_of, pixel_of}
use Rattle.card.specs.Steps.{inward}
use Rattle.card.specs.Copies.{Alike, AnswerAlike, AlikeExactly}
use Rattle.card_text.proofs.Walked.{between}
use Rattle.card_text.proofs.Laid.{Laid, accepted-laid, same-spacing}
use Rattle.card.proofs.Axes.{east-high, row_is, column-place, column-at}
use Rattle.card.proofs.Regions.{tiles-inside, chart-tiles}
use Rattle.card.proofs.Chain.{mod-add}
use Rattle.card.proofs.Copies.{placed, place-alike}

-- ---- the extents of cards that answer alike

module _ (pair : Pair) (j k : Fields) (l : Laid j) (h : Alike pair j k) where
  tiles-kept : (r c : ℤ) → in_tiles j r c ≡ true → in_tiles k r c ≡ true
  unfolding place_of
  tiles-kept r c t = go (in_tiles k r c) (sym (placed j r c t) ∙ h.place r c)
    where
      go : (b : Bool) → at_place (place_row j r) (place_column j c)
          ≡ (if not b then Err Refusal.OutsideTiles else at_place (place_row k r) (place_column k c)) → b ≡ true
      go true e = refl
      go false e = let x : ◌≡◌ {A = ℕ} 0 1 = cc in absurd (omega arith)

  chart-kept : (r c : ℤ) → in_chart j r c ≡ true → in_chart k r c ≡ true
  chart-kept r c t = go (in_tiles k r c) (in_chart k r c) (sym accepts ∙ h.verdict r c)
    where
      accepts : verdict_of j r c ≡ Ok tt
      accepts = rw (chart-tiles j r c l t, t)

      go : (a b : Bool) → ◌≡◌ {A = Judged} (Ok tt) (if not a then Err Refusal.OutsideTiles else (if not b then Err Refusal.Padding else Ok tt)) → b ≡ true
      go true true e = refl
      go true false e = let x : ◌≡◌ {A = ℕ} 0 1 = cc in absurd (omega arith)
      go false b e = let x : ◌≡◌ {A = ℕ} 0 1 = cc in absurd (omega arith)

  chart-fits : (r c : ℕ) → j.nul ≤ r → r ≤ j.nll → j.nls ≤ c → c ≤ j.nus → (k.nul ≤ r) × (r ≤ k.nll) × (k.nls ≤ c) × (c ≤ k.nus)
  chart-fits r c p q s t =
      let i : in_chart j (pos r) (pos c) ≡ true = rw (le-leb j.nul r p, le-leb r j.nll q, le-leb j.nls c s, le-leb c j.nus t) in
      let x = (and-eq-true_iff (leb k.nul r && leb r k.nll) (leb k.nls c && leb c k.nus)).0 (chart-kept (pos r) (pos c) i) in
      let y = between k.nul r k.nll x.0 in
      let z = between k.nls c k.nus x.1 in
      (y.0, y.1, z.0, z.1)

  tiles-fit : (r c : ℕ) → r < 128 * j.nfl → c < 128 * j.nfc → (r < 128 * k.nfl) × (c < 128 * k.nfc)
  tiles-fit r c p q =
      let i : in_tiles j (pos r) (pos c) ≡ true =
      rw (le-leb 0 r (omega arith), lt-ltb r (128 * j.nfl) p, le-leb 0 c (omega arith), lt-ltb c (128 * j.nfc) q) in
      let x = tiles-inside k (pos r) (pos c) (tiles-kept (pos r) (pos c) i) in
      let e = x.row.same in
      let f = x.column.same in
      let m : r ≡ x.row.at = cc in
      let n : c ≡ x.column.at = cc in
      (omega (arith, x.row.below), omega (arith, x.column.below))

-- as far as the upper left, lower right and last pixels tell
record Covers (j k : Fields) : Type 0 where
  pub top : k.nul ≤ j.nul
  pub left : k.nls ≤ j.nls
  pub bottom : j.nll ≤ k.nll
  pub right : j.nus ≤ k.nus
  pub down : j.nfl ≤ k.nfl
  pub across : j.nfc ≤ k.nfc

covers : (pair : Pair) (j k : Fields) → Laid j → Alike pair j k → Covers j k
covers pair j k l h =
    let x = chart-fits pair j k l h j.nul j.nls (omega arith) l.top-down (omega arith) l.left-right in
    let y = chart-fits pair j k l h j.nll j.nus l.top-down (omega arith) l.left-right (omega arith) in
    let z = tiles-fit pair j k l h (128 * j.nfl - 1) (128 * j.nfc - 1) (omega (arith, l.down-some)) (omega (arith, l.across-some)) in
    record {
      top = x.0;
      left = x.2;
      bottom = y.1;
      right = y.3;
      down = omega (arith, z.0);
      across = omega (arith, z.1);
    }

extents-alike : (pair : Pair) (j k : Fields) → Laid j → Laid k → Alike pair j k → extents_of j ≡ extents_of k
extents-alike pair j k l l' h =
    let x = covers pair j k l h in
    let y = covers pair k j l' (record {
      place = λ r c. sym (h.place r c);
      position = λ r c. sym (h.position r c);
      pixel = λ r c. sym (h.pixel r c);
      verdict = λ r c. sym (h.verdict r c);
    }) in
    let nul : j.nul ≡ k.nul = omega (arith, x.top, y.top) in
    let nus : j.nus ≡ k.nus = omega (arith, x.right, y.right) in
    let nll : j.nll ≡ k.nll = omega (arith, x.bottom, y.bottom) in
    let nls : j.nls ≡ k.nls = omega (arith, x.left, y.left) in
    let nfl : j.nfl ≡ k.nfl = omega (arith, x.down, y.down) in
    let nfc : j.nfc ≡ k.nfc = omega (arith, x.across, y.across) in
    rw (nul, nus, nll, nls, nfl, nfc)

-- ---- cards whose upper left pixels have one place

-- s and t columns from 180° west have one place: so do the columns found from them
turned : (a x s t : ℕ) → s ≤ a → t ≤ a → (s + 0 + a / 2) % a ≡ (t + 0 + a / 2) % a → (x + (a - s)) % a ≡ (x + (a - t)) % a
turned a x s t p q e =
    let d : ℕ = x + (a - s) + 2 * a - (t + a / 2) in
    sym (add-mul-mod_self_right (x + (a - s)) 2 a)
    ∙ ap (λ (n : ℕ). n % a) (omega arith)
    ∙ mod-add (t + 0 + a / 2) (s + 0 + a / 2) d a (sym e)
    ∙ ap (λ (n : ℕ). n % a) (omega arith)
    ∙ add-mul-mod_self_right (x + (a - t)) 2 a

module _ (series : Series) (j k : Fields) (p : Accepted series j) (q : Accepted series k) where
  l : Laid j
  l = accepted-laid series j p

  l' : Laid k
  l' = accepted-laid series k q

  same-a : k.a ≡ j.a
  same-a = (same-spacing series j k p q).0

  same-b : k.b ≡ j.b
  same-b = (same-spacing series j k p q).1

  -- k's columns, on j's constant
  column-place' : (c : ℕ) → place_column k (pos c) ≡ pos ((k.east + c + j.a / 2) % j.a)
  column-place' c = column-place k l' c ∙ ap (λ (a : ℕ). pos ((k.east + c + a / 2) % a)) same-a

  column-at' : (pair : Pair) (lon : ℤ) (n : ℕ) → Is lon n half
      → column_of pair k lon ≡ pos (((n * j.a + (half - inward pair)) / circle + (j.a - k.east)) % j.a)
  column-at' pair lon n h =
      column-at k l' pair lon n h ∙ ap (λ (a : ℕ). pos (((n * a + (half - inward pair)) / circle + (a - k.east)) % a)) same-a

  module _ (row : place_row j (pos 0) ≡ place_row k (pos 0)) (column : place_column j (pos 0) ≡ place_column k (pos 0))
      (extents : extents_of j ≡ extents_of k) where
    n-alike : j.n ≡ k.n
    n-alike =
        let e = equal_is (place_row j (pos 0)) (place_row k (pos 0)) (j.north - 0) (128 * (j.b / 512)) (k.north - 0) (128 * (k.b / 512))
        (row_is j l 0 (omega arith)) (row_is k l' 0 (omega arith)) row in
        is-equal j.n k.n l.N (j.b / 512) l'.N (k.b / 512) l.n-is l'.n-is (omega (arith, e, l.north-is, l'.north-is))

    turn-alike : (j.east + 0 + j.a / 2) % j.a ≡ (k.east + 0 + j.a / 2) % j.a
    turn-alike = pos-is (sym (column-place j l 0) ∙ column ∙ column-place' 0)
      where
        pos-is : {m n : ℕ} → pos m ≡ pos n → m ≡ n
        pos-is e = cc

    column-placed : (c : ℕ) → place_column j (pos c) ≡ place_column k (pos c)
    column-placed c =
        column-place j l c
        ∙ ap (λ (n : ℕ). pos (n % j.a)) (omega arith)
        ∙ ap pos (mod-add (j.east + 0 + j.a / 2) (k.east + 0 + j.a / 2) c j.a turn-alike)
        ∙ ap (λ (n : ℕ). pos (n % j.a)) (omega arith)
        ∙ sym (column-place' c)

    column-alike : (pair : Pair) (lon : ℤ) → outside half lon ≡ false → column_of pair j lon ≡ column_of pair k lon
    column-alike pair lon o =
        let n : ℕ = raise half lon in
        let i = is-raise half lon o in
        let x : ℕ = (n * j.a + (half - inward pair)) / circle in
        column-at j l pair lon n i
        ∙ ap pos (turned j.a x j.east k.east (east-high j l) (omega (arith, same-a, east-high k l')) turn-alike)
        ∙ sym (column-at' pair lon n i)

    value-alike : (lat : ℤ) → row_value j lat ≡ row_value k lat
    value-alike lat = ap₂ (λ (n : ℤ) (b : ℕ). pos 128 *ℤ n *ℤ pos circle -ℤ lat *ℤ pos b) n-alike (sym same-b)

    row-alike : (pair : Pair) (lat : ℤ) → row_of pair j lat ≡ row_of pair k lat
    unfolding row_of
    row-alike Pair.Corner lat = ap (λ (z : ℤ). nearest z circle) (value-alike lat)
    row-alike Pair.Centre lat = ap (λ (z : ℤ). floor_div z circle) (value-alike lat)

    tiles-alike : (r c : ℤ) → in_tiles j r c ≡ in_tiles k r c
    tiles-alike r c = rw (ap (λ (e : Extents). e.nfl) extents, ap (λ (e : Extents). e.nfc) extents)

    chart-alike : (r c : ℤ) → in_chart j r c ≡ in_chart k r c
    chart-alike r c =
        rw (
          ap (λ (e : Extents). e.nul) extents,
          ap (λ (e : Extents). e.nll) extents,
          ap (λ (e : Extents). e.nls) extents,
          ap (λ (e : Extents). e.nus) extents,
        )

    place-answers : (r c : ℤ) → place_of j r c ≡ place_of k r c
    unfolding place_of
    place-answers r c = go (in_tiles j r c) refl
      where
        go : (b : Bool) → in_tiles j r c ≡ b → place_of j r c ≡ place_of k r c
        go true t =
            let i = (tiles-inside j r c t).column in
            placed j r c t
            ∙ ap₂ at_place (ap (λ (n : ℤ). pos 128 *ℤ n -ℤ r) n-alike)
            (ap (place_column j) i.same ∙ column-placed i.at ∙ sym (ap (place_column k) i.same))
            ∙ sym (placed k r c (sym (tiles-alike r c) ∙ t))
        go false t = rw (t, sym (tiles-alike r c) ∙ t)

    position-answers : (pair : Pair) (r c : ℤ) → position_of pair j r c ≡ position_of pair k r c
    unfolding position_of
    position-answers pair r c = go (in_tiles j r c) (in_chart j r c) refl refl
      where
        go : (a b : Bool) → in_tiles j r c ≡ a → in_chart j r c ≡ b → position_of pair j r c ≡ position_of pair k r c
        go true true s t = (place-alike pair series j k p q r c t r c (sym (chart-alike r c) ∙ t)).0 (place-answers r c)
        go true false s t = rw (s, sym (tiles-alike r c) ∙ s, t, sym (chart-alike r c) ∙ t)
        go false b s t = rw (s, sym (tiles-alike r c) ∙ s)

    pixel-answers : (pair : Pair) (lat lon : ℤ) → pixel_of pair j lat lon ≡ pixel_of pair k lat lon
    unfolding pixel_of
    pixel-answers pair lat lon = go (outside half lon) refl
      where
        go : (b : Bool) → outside half lon ≡ b → pixel_of pair j lat lon ≡ pixel_of pair k lat lon
        go true o = rw o
        go false o =
            let r = row_of pair k lat in
            let c = column_of pair k lon in
            rw (o, row-alike pair lat, column-alike pair lon o, tiles-alike r c, chart-alike r c)

    answers : (pair : Pair) → Alike pair j k
    answers pair =
        record {
          place = place-answers;
          position = position-answers pair;
          pixel = pixel-answers pair;
          verdict = λ r c. rw (tiles-alike r c, chart-alike r c);
        }

corner : (k : Fields) → Laid k → in_tiles k (pos 0) (pos 0) ≡ true
corner k l = rw (lt-ltb 0 (128 * k.nfl) (omega (arith, l.down-some)), lt-ltb 0 (128 * k.nfc) (omega (arith, l.across-some)))

pub answer-alike : AnswerAlike
answer-alike pair series j k p q h =
    answers series j k p q (ap (λ (n : ℤ). pos 128 *ℤ n -ℤ pos 0) h.same_n)
    (ap₂ (λ (m : ℤ) (a : ℕ). modulo (pos 128 *ℤ m +ℤ pos 0) a) h.same_m (sym (same-spacing series j k p q).0)) h.same_extents pair

pub alike-exactly : AlikeExactly
alike-exactly pair series j k p q =
    let x = accepted-laid series j p in
    let y = accepted-laid series k q in (
      (λ h. (h.place (pos 0) (pos 0), extents-alike pair j k x y h)),
      (λ h.
          let e = sym (placed j (pos 0) (pos 0) (corner j x)) ∙ h.0 ∙ placed k (pos 0) (pos 0) (corner k y) in
          let same = same-place _ _ _ _ e in
          answers series j k p q same.0 same.1 h.1 pair),
    )
