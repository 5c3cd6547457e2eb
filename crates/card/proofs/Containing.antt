-- The pixel found contains the position; and a pixel of the tiles that contains the position is that one. A position asked back gives its pixel, by
-- demand 3 on the card itself. Assumes nothing.
use Rattle.std.specs.Prelude.{Ok, Err}
use Rattle.arc.specs.declared.refusal.Refusal.{Refusal}
use Rattle.card_text.specs.Layout.{Judged}
use Rattle.card.specs.Grid.{at_position, at_pixel}
use mathlib.Core.Path.{◌≡◌, refl, sym, ap₂, ◌∙◌, subst, subst₂, subst⁻¹}
use mathlib.Core.Bool.{Bool, true, false, false≢true}
use mathlib.Core.Logic.{inl, inr, ◌↔◌}
use Prim.Native.Nat.{ℕ, ◌≤◌}
use native.Mathlib.Omega.{arith}
use lib.IntN.{ℤ, sub_ℕ}
use Rattle.whole.specs.Whole.{outside, raise}
use Rattle.whole.proofs.Signed.{is-raise, raise-high}
use Rattle.whole.specs.Results.{◌>>=◌}
use Rattle.arc.specs.Zones.{half, quarter}
use Rattle.card_text.specs.declared.Fields.{Fields}
use Rattle.card.specs.declared.Pair.{Pair}
use Rattle.card.specs.Grid.{in_tiles, in_chart, verdict_of, row_of, column_of, position_of, pixel_of, latitude_of, longitude_of}
use Rattle.card.specs.Contained.{Contains, TilesContain, ChartContains, FoundContains, RefusedContains, CentreInside, AskedBack}
use Rattle.card_text.proofs.Laid.{Laid, known-laid}
use Rattle.card.proofs.Regions.{tiles-inside, chart-tiles}
use Rattle.card.proofs.Same.{same-pixel}
use Rattle.card.proofs.Answers.{accepted-in}
use Rattle.card.proofs.Answered.{position_at}
use Rattle.card.proofs.Places.{no-pixel, refuses, told-by-place}
use Rattle.card.proofs.Nearest.{found_at}
use Rattle.card.proofs.Edges.{north, south, one-row, found-column, j, west, east, one-column}

-- ---- any position in range
module _ (k : Fields) (l : Laid k) (lat lon : ℤ) (p : outside quarter lat ≡ false) (q : outside half lon ≡ false) where
  abbrev r₀ : ℤ
  r₀ = row_of Pair.Centre k lat

  abbrev c₀ : ℤ
  c₀ = column_of Pair.Centre k lon

  low : raise quarter lat ≤ 64800000
  low = omega (arith, raise-high quarter lat p)

  contained : Contains k r₀ c₀ lat lon
  contained =
      let m : ℕ = raise half lon in
      let f = is-raise half lon q in
      subst⁻¹ (λ (c : ℤ). Contains k r₀ c lat lon) (found-column k l lon m f)
      (record {
        north = north k l lat (raise quarter lat) (is-raise quarter lat p) low;
        south = south k l lat (raise quarter lat) (is-raise quarter lat p) low;
        circles = sub_ℕ 1 (j k l lon m f);
        west = west k l lon m f;
        east = east k l lon m f;
      })

  -- a pixel of the tiles that contains the position is the one found
  one : (r c : ℤ) → in_tiles k r c ≡ true → Contains k r c lat lon → (r ≡ r₀) × (c ≡ c₀)
  one r c t x =
      let i = (tiles-inside k r c t).column in
      let y = subst (λ (z : ℤ). Contains k r z lat lon) i.same x in (
        one-row k l lat (raise quarter lat) (is-raise quarter lat p) low r x.north x.south,
        i.same
            ∙ one-column k l lon (raise half lon) (is-raise half lon q) i.at y.circles (omega (arith, i.below, l.across)) y.west y.east,
      )

  -- what the tests at that pixel say
  asked : (v : Judged) → verdict_of k r₀ c₀ ≡ v → pixel_of Pair.Centre k lat lon ≡ v >>= (λ _. at_pixel r₀ c₀)
  unfolding pixel_of
  asked v e = rw (p, q, e)

  in-chart : (r c : ℤ) → in_chart k r c ≡ true → Contains k r c lat lon → in_chart k r₀ c₀ ≡ true
  in-chart r c i x = let o = one r c (chart-tiles k r c l i) x in ap₂ (in_chart k) (sym o.0) (sym o.1) ∙ i

  in-tiles : (r c : ℤ) → in_tiles k r c ≡ true → Contains k r c lat lon → in_tiles k r₀ c₀ ≡ true
  in-tiles r c i x = let o = one r c i x in ap₂ (in_tiles k) (sym o.0) (sym o.1) ∙ i

  refused : (i c : Bool) → in_tiles k r₀ c₀ ≡ i → in_chart k r₀ c₀ ≡ c
      → (pixel_of Pair.Centre k lat lon ≡ Err Refusal.OutsideTiles ↔ (¬ TilesContain k lat lon))
      × (pixel_of Pair.Centre k lat lon ≡ Err Refusal.Padding ↔ (TilesContain k lat lon × (¬ ChartContains k lat lon)))
  refused false c s t =
      refuses Refusal.OutsideTiles (asked (Err Refusal.OutsideTiles) (rw s)) (
        (λ h. false≢true (sym s ∙ chart-tiles k r₀ c₀ l (in-chart h.r h.c h.within h.inside))),
        inl (refl, λ h. false≢true (sym s ∙ in-tiles h.r h.c h.within h.inside)),
      )
  refused true false s t =
      refuses Refusal.Padding (asked (Err Refusal.Padding) (rw (s, t))) (
        (λ h. false≢true (sym t ∙ in-chart h.r h.c h.within h.inside)),
        inr (refl, record { r = r₀; c = c₀; within = s; inside = contained }),
      )
  refused true true s t =
      let g = asked (Ok tt) (rw (s, t)) in (
        ((λ f. no-pixel f g), (λ n. absurd (n (record { r = r₀; c = c₀; within = s; inside = contained })))),
        ((λ f. no-pixel f g), (λ n. absurd (n.1 (record { r = r₀; c = c₀; within = t; inside = contained })))),
      )

  given : (r c : ℤ) → pixel_of Pair.Centre k lat lon ≡ at_pixel r c → (in_chart k r c ≡ true) × Contains k r c lat lon
  given r c e = go (verdict_of k r₀ c₀) refl
    where
      go : (v : Judged) → verdict_of k r₀ c₀ ≡ v → (in_chart k r c ≡ true) × Contains k r c lat lon
      go (Ok u) t =
          let g = same-pixel r₀ c₀ r c (sym (asked (Ok tt) t) ∙ e) in
          let x : r₀ ≡ r = g.0 in
          let y : c₀ ≡ c = g.1 in
          (sym (ap₂ (in_chart k) x y) ∙ (accepted-in k r₀ c₀ t).1, subst₂ (λ (r c : ℤ). Contains k r c lat lon) x y contained)
      go (Err n) t = no-pixel (asked (Err n) t) e

-- ---- the claims

pub found-contains : FoundContains
found-contains k w lat lon p q r c =
    let l = known-laid k w in (
      given k l lat lon p q r c,
      (λ h.
          let o = one k l lat lon p q r c (chart-tiles k r c l h.0) h.1 in
          let i = in-chart k l lat lon p q r c h.0 h.1 in
          let v : verdict_of k (row_of Pair.Centre k lat) (column_of Pair.Centre k lon) ≡ Ok tt =
          rw (chart-tiles k (row_of Pair.Centre k lat) (column_of Pair.Centre k lon) l i, i) in
          asked k l lat lon p q (Ok tt) v ∙ ap₂ at_pixel (sym o.0) (sym o.1)),
    )

pub refused-contains : RefusedContains
refused-contains k w lat lon p q = refused k (known-laid k w) lat lon p q _ _ refl refl

pub asked-back : AskedBack
asked-back p k w r c lat lon e =
    let l = known-laid k w in
    let i = (position_at p k r c lat lon e).chart in
    let t = told-by-place p w.series k w.is_read r c i lat lon e k w.is_read in
    let n = t.gives.1 (record { r = r; c = c; within = i; at = record { row = refl; column = refl } }) in
    let o = (t.only n.r n.c n.given).1 r c (chart-tiles k r c l i) (record { row = refl; column = refl }) in
    n.given ∙ ap₂ at_pixel (sym o.0) (sym o.1)

pub centre-inside : CentreInside
unfolding position_of
centre-inside k w r c i =
    let lat = latitude_of Pair.Centre k r in
    let lon = longitude_of Pair.Centre k c in
    let l = known-laid k w in
    let a : position_of Pair.Centre k r c ≡ at_position lat lon = rw (chart-tiles k r c l i, i) in
    let b = asked-back Pair.Centre k w r c lat lon a in
    let f = found_at Pair.Centre k lat lon r c b in
    record { lat = lat; lon = lon; answered = a; inside = (given k l lat lon f.lat-in f.lon-in r c b).1; back = b }
