-- Each later card, by demand 3's walk over it alone: it gives a pixel of its chart at the place, or the chart does not have the place and
-- the refusal is 12 or 13. Two pixels of the tiles with one place are one, since the tiles go round the circle once at most. Assumes nothing.
use Rattle.std.specs.Prelude.{Result, Ok, Err}
use Rattle.card.specs.Grid.{at_position, at_pixel}
use mathlib.Core.Path.{◌≡◌, refl, sym, ap, ap₂, ◌∙◌, subst₂}
use mathlib.Core.Bool.{true}
use mathlib.Core.List.{List, [], ◌∷◌, map}
use mathlib.Core.Logic.{◌⊎◌, inl, inr, ◌↔◌}
use Prim.Native.Nat.{ℕ, ◌+◌, ◌*◌, ◌/◌, ◌%◌}
use native.Mathlib.Omega.{arith}
use lib.IntN.{ℤ, pos, ◌*ℤ◌}
use Rattle.whole.proofs.Signed.{over, under, is-parts, is-equal, equal_is, is-minus}
use Rattle.arc.specs.declared.series.Series.{Series}
use Rattle.arc.specs.declared.refusal.Refusal.{Refusal}
use Rattle.card_text.specs.declared.Fields.{Fields}
use Rattle.card.specs.declared.Pair.{Pair}
use Rattle.card.specs.declared.Position.{Position}
use Rattle.card.specs.declared.Pixel.{Pixel}
use Rattle.card_text.specs.Read.{Accepted}
use Rattle.card.specs.Grid.{place_row, place_column, in_tiles, in_chart, position_of, pixel_of}
use Rattle.card.specs.NoDrift.{HasPlace, TilesHave, ChartHas, Visit, gave, refused, visit_with, visit, visits, latitude_after, longitude_after}
use Rattle.card.specs.NoDrift.{Right, Every}
use Rattle.card.specs.Places.{OnlyAt, GivesWhere, GivesOnly, RefusesWhere, EachLater, GivesExactly, OnlyPixel, RefusesExactly, AskedAlike}
use Rattle.card_text.proofs.Laid.{Laid, accepted-laid}
use Rattle.card.proofs.Axes.{north-is, east-high, column-place}
use Rattle.card.proofs.Regions.{Within, tiles-inside, chart-tiles}
use Rattle.arc.specs.Refusals.{refusal_number}
use Rattle.card.proofs.Same.{same-pixel, same-position}
use Rattle.card.proofs.Chain.{same-column, no-drift}

-- ---- a place has one pixel of the tiles

module _ (k : Fields) (l : Laid k) where
  one-row : (r i : ℤ) → place_row k r ≡ place_row k i → r ≡ i
  one-row r i e =
      let s : ℕ = 128 * (k.b / 512) in
      let q =
      equal_is (place_row k r) (place_row k i) (k.north + under r) (s + over r) (k.north + under i) (s + over i)
      (is-minus (pos 128 *ℤ k.n) r k.north s (over r) (under r) (north-is k l) (is-parts r))
      (is-minus (pos 128 *ℤ k.n) i k.north s (over i) (under i) (north-is k l) (is-parts i)) e in
      is-equal r i (over r) (under r) (over i) (under i) (is-parts r) (is-parts i) (omega (arith, q))

  one-column : (c j : ℤ) → Within 0 (128 * k.nfc) c → Within 0 (128 * k.nfc) j → place_column k c ≡ place_column k j → c ≡ j
  one-column c j x y e =
      let f : (k.east + x.at + k.a / 2) % k.a ≡ (k.east + y.at + k.a / 2) % k.a =
      pos-is
      (sym (column-place k l x.at) ∙ ap (place_column k) (sym x.same) ∙ e ∙ ap (place_column k) y.same ∙ column-place k l y.at) in
      let go = same-column k.a (k.east + y.at) k.east l.columns (east-high k l) in
      x.same
      ∙ ap pos (go x.at (omega (arith, x.below, l.across)) f ∙ sym (go y.at (omega (arith, y.below, l.across)) refl))
      ∙ sym y.same
    where
      pos-is : {m n : ℕ} → pos m ≡ pos n → m ≡ n
      pos-is e = cc

  pub one-pixel : (u v r c i j : ℤ) → in_tiles k r c ≡ true → HasPlace k u v r c → in_tiles k i j ≡ true → HasPlace k u v i j → (i ≡ r) × (j ≡ c)
  one-pixel u v r c i j t p s q = (
    one-row i r (q.row ∙ sym p.row),
    one-column j c (tiles-inside k i j s).column (tiles-inside k r c t).column (q.column ∙ sym p.column),
  )

-- ---- what one later card answers

pub record Told (p : Pair) (k : Fields) (u v lat lon : ℤ) : Type 0 where
  pub gives : GivesWhere p k u v lat lon
  pub only : GivesOnly p k u v lat lon
  pub back : (r c : ℤ) → pixel_of p k lat lon ≡ at_pixel r c → position_of p k r c ≡ at_position lat lon
  pub refuses : RefusesWhere p k u v lat lon

-- the answers differ
pub no-pixel : {A : Type 0} {x : Result Pixel Refusal} {r c : ℤ} {e : Refusal} → x ≡ Err e → x ≡ at_pixel r c → A
no-pixel p q = let z : ◌≡◌ {A = ℕ} 0 1 = cc in absurd (omega arith)

not-both : {A : Type 0} {x : Result Pixel Refusal} → x ≡ Err Refusal.OutsideTiles → x ≡ Err Refusal.Padding → A
not-both p q =
    let e : Refusal.OutsideTiles ≡ Refusal.Padding = cc in
    let z : ◌≡◌ {A = ℕ} 12 13 = ap refusal_number e in absurd (omega arith)

-- T being what a pixel of the tiles has, and C one of the chart
pub refuses : {T C : Type 0} {x : Result Pixel Refusal} (e : Refusal) → x ≡ Err e
    → (C → ⊥) × (((e ≡ Refusal.OutsideTiles) × (T → ⊥)) ⊎ ((e ≡ Refusal.Padding) × T))
    → (x ≡ Err Refusal.OutsideTiles ↔ (¬ T)) × (x ≡ Err Refusal.Padding ↔ (T × (¬ C)))
refuses e g (lacks, inl (is, bare)) =
    let q = g ∙ ap Err is in
    (((λ f. bare), (λ n. q)), ((λ f. not-both q f), (λ n. absurd (bare n.0))))
refuses e g (lacks, inr (is, tiled)) =
    let q = g ∙ ap Err is in
    (((λ f. not-both f q), (λ n. absurd (n tiled))), ((λ f. (tiled, lacks)), (λ n. q)))

module _ (p : Pair) (k : Fields) (l : Laid k) (u v lat lon : ℤ) where
  told : (x : Result Pixel Refusal) → pixel_of p k lat lon ≡ x → Right u v lat lon k (visit_with p k x) → Told p k u v lat lon
  told (Ok x) g h =
      let r = x.row in
      let c = x.column in
      let tiles = chart-tiles k r c l h.0 in
      let has : ChartHas k u v = record { r = r; c = c; within = h.0; at = h.1 } in
      let tiled : TilesHave k u v = record { r = r; c = c; within = tiles; at = h.1 } in
      record {
        gives = ((λ f. has), (λ f. record { r = r; c = c; given = g }));
        only = λ i j f.
            let e = same-pixel r c i j (sym g ∙ f) in
            subst₂ (OnlyAt k u v) e.0 e.1 (h.1, λ i j. one-pixel k l u v r c i j tiles h.1);
        back = λ i j f.
            let e = same-pixel i j r c (sym f ∙ g) in
            ap₂ (position_of p k) e.0 e.1 ∙ h.2;
        refuses = (((λ f. no-pixel f g), (λ n. absurd (n tiled))), ((λ f. no-pixel f g), (λ n. absurd (n.1 has))));
      }
  told (Err e) g h =
      record {
        gives = ((λ f. no-pixel g f.given), (λ f. absurd (h.0 f)));
        only = λ i j f. no-pixel g f;
        back = λ i j f. no-pixel g f;
        refuses = refuses e g h;
      }

-- the walk over one later card
module _ (p : Pair) (series : Series) (first : Fields) (h : Accepted series first) (r c : ℤ) (within : in_chart first r c ≡ true)
    (lat lon : ℤ) (answered : position_of p first r c ≡ at_position lat lon) where
  visit-right : (k : Fields) → Accepted series k → Right (place_row first r) (place_column first c) lat lon k (visit p k lat lon)
  visit-right k q =
      let w = no-drift p series first (k ∷ []) (h, (q, tt)) r c within in
      let e = same-position w.lat w.lon lat lon (sym w.answered ∙ answered) in
      subst₂ (λ (x y : ℤ). Right (place_row first r) (place_column first c) x y k (visit p k x y)) e.0 e.1 w.each.0

  pub told-by-place : (k : Fields) → Accepted series k → Told p k (place_row first r) (place_column first c) lat lon
  told-by-place k q = told p k (accepted-laid series k q) _ _ lat lon (pixel_of p k lat lon) refl (visit-right k q)

  -- the position that goes on is the same
  kept : (k : Fields) (x : Visit) → Right (place_row first r) (place_column first c) lat lon k x
      → (latitude_after lat x ≡ lat) × (longitude_after lon x ≡ lon)
  kept k (gave i j a) h = (
    ap (λ (a : Result Position Refusal). latitude_after lat (gave i j a)) h.2,
    ap (λ (a : Result Position Refusal). longitude_after lon (gave i j a)) h.2,
  )
  kept k (refused e) h = (refl, refl)

  alike : (rest : List Fields) → Every (Accepted series) rest → visits p lat lon rest ≡ map (λ k. visit p k lat lon) rest
  alike [] q = refl
  alike (k ∷ rest) q =
      let e = kept k (visit p k lat lon) (visit-right k q.0) in
      ap (λ (l : List Visit). visit p k lat lon ∷ l) (ap₂ (λ (x y : ℤ). visits p x y rest) e.0 e.1 ∙ alike rest q.1)

-- ---- the claims

every : {A B : Fields → Type 0} → ((k : Fields) → A k → B k) → (ks : List Fields) → Every A ks → Every B ks
every f [] h = tt
every f (k ∷ ks) h = (f k h.0, every f ks h.1)

each : {P : Pair → Fields → ℤ → ℤ → ℤ → ℤ → Type 0} → ((p : Pair) (k : Fields) (u v lat lon : ℤ) → Told p k u v lat lon → P p k u v lat lon)
    → EachLater P
each f p series first rest all r c i lat lon a =
    every (λ k q. f p k _ _ lat lon (told-by-place p series first all.0 r c i lat lon a k q)) rest all.1

pub gives-exactly : GivesExactly
gives-exactly = each (λ p k u v lat lon t. t.gives)

pub only-pixel : OnlyPixel
only-pixel = each (λ p k u v lat lon t. t.only)

pub refuses-exactly : RefusesExactly
refuses-exactly = each (λ p k u v lat lon t. t.refuses)

pub asked-alike : AskedAlike
asked-alike p series first rest all r c i lat lon a = alike p series first all.0 r c i lat lon a rest all.1
