-- Demand 3, for both pairs at once. A pixel of a later card has the first pixel's place exactly when it is the one that the position gives (the round
-- trip of each axis), so that card's two tests decide what it answers, and the same place has the same two numbers again.
-- Then by induction down the list. Assumes nothing.
use Rattle.std.specs.Prelude.{Ok, Err}
use Rattle.arc.specs.declared.refusal.Refusal.{Refusal}
use Rattle.card_text.specs.Layout.{Judged}
use Rattle.card.specs.Grid.{at_position, at_pixel}
use mathlib.Core.Path.{◌≡◌, refl, sym, ap, ap₂, ◌∙◌, subst⁻¹, subst₂}
use mathlib.Core.Bool.{Bool, true, false, false≢true}
use mathlib.Core.List.{List, [], ◌∷◌}
use mathlib.Core.Logic.{inl, inr}
use Prim.Native.Nat.{ℕ, ◌+◌, ◌-◌, ◌*◌, ◌/◌, ◌%◌, ◌≤◌, ◌<◌}
use native.Mathlib.Nat.{add-mul, mul_right_comm, mod-add-mod, mod-mod, mod-eq_of_lt, add-mul-mod_self_right, div-add-mod'}
use native.Mathlib.Omega.{arith}
use lib.IntN.{ℤ, pos, sub_ℕ, ◌+ℤ◌, ◌*ℤ◌}
use Rattle.whole.specs.Whole.{near, nearest, outside}
use Rattle.whole.proofs.Signed.{Is, over, under, is-parts, is_same, is-equal, equal_is, is-sub, is-add, is-minus, is_mul}
use Rattle.whole.proofs.Near.{near_le, near-shift}
use Rattle.arc.specs.declared.series.Series.{Series}
use Rattle.whole.specs.Results.{◌>>=◌}
use Rattle.arc.specs.Zones.{circle, half, quarter}
use Rattle.arc.specs.Pixels.{Grid}
use Rattle.origin.proofs.Line.{is-inside, Line, angle-is, angle-close}
use Rattle.card_text.specs.declared.Fields.{Fields}
use Rattle.card.specs.declared.Pair.{Pair}
use Rattle.card_text.specs.Read.{Accepted}
use Rattle.card.specs.Grid.{place_row, place_column, exact_row, exact_column, in_tiles, in_chart, verdict_of}
use Rattle.card.specs.Grid.{latitude_of, longitude_of, row_of, column_of, position_of, pixel_of}
use Rattle.card.specs.Steps.{inward}
use Rattle.card.specs.NoDrift.{HasPlace, TilesHave, ChartHas, Close, Visit, gave, refused, visit_with, visit, latitude_after}
use Rattle.card.specs.NoDrift.{longitude_after, visits, Right, Each, Every, NoDriftFrom, NoDrift}
use Rattle.card_text.proofs.Laid.{Laid, accepted-laid, same-spacing}
use Rattle.card.proofs.Line.{rows-line}
use Rattle.card.proofs.Pairs.{exact-row, exact-column}
use Rattle.card.proofs.Axes.{north-is, north-high, east-high, down-high, row_is, column-place, latitude-is, longitude-is, row_back, column-back}
use Rattle.card.proofs.Regions.{Within, tiles-inside, chart-tiles}

-- ---- columns round the circle, in naturals: v and s columns from 180° west

pub mod-add : (x y t a : ℕ) → x % a ≡ y % a → (x + t) % a ≡ (y + t) % a
mod-add x y t a e = sym (mod-add-mod x a t) ∙ ap (λ (n : ℕ). (n + t) % a) e ∙ mod-add-mod y a t

module _ (a v s : ℕ) (g : Grid a) (h : s ≤ a) where
  -- column c of a card that starts at s has the place of v exactly when it is v − s, round the circle
  pub same-column : (c : ℕ) → c < a → (s + c + a / 2) % a ≡ (v + a / 2) % a → c ≡ (v + (a - s)) % a
  same-column c l e =
      sym (mod-eq_of_lt l)
      ∙ sym (add-mul-mod_self_right c 2 a)
      ∙ ap (λ (n : ℕ). n % a) (omega (arith, g.whole))
      ∙ mod-add (s + c + a / 2) (v + a / 2) (a / 2 + (a - s)) a e
      ∙ ap (λ (n : ℕ). n % a) (omega (arith, g.whole))
      ∙ add-mul-mod_self_right (v + (a - s)) 1 a

  pub same_place : (c : ℕ) → c ≡ (v + (a - s)) % a → (s + c + a / 2) % a ≡ (v + a / 2) % a
  same_place c e =
      ap (λ (n : ℕ). n % a) (omega arith)
      ∙ mod-add c (v + (a - s)) (s + a / 2) a (ap (λ (n : ℕ). n % a) e ∙ mod-mod (v + (a - s)) a)
      ∙ ap (λ (n : ℕ). n % a) (omega arith)
      ∙ add-mul-mod_self_right (v + a / 2) 1 a

  -- and then it has the same longitude, o past either
  same-longitude : (o c : ℕ) → c ≡ (v + (a - s)) % a → near ((s + c) * circle + o) a % circle ≡ near (v * circle + o) a % circle
  same-longitude o c e =
      let j : ℕ = (v + (a - s)) / a in
      let some : 0 < a = omega (arith, g.some) in
      let sum : (s + c) * circle + o + j * circle * a ≡ v * circle + o + circle * a =
      omega (arith, e, div-add-mod' (v + (a - s)) a, mul_right_comm j circle a) in
      sym (add-mul-mod_self_right (near ((s + c) * circle + o) a) j circle)
      ∙ ap (λ (n : ℕ). n % circle)
      (sym (near-shift a some ((s + c) * circle + o) (j * circle)) ∙ ap (λ (n : ℕ). near n a) sum ∙ near-shift a some (v * circle + o) circle)
      ∙ ap (λ (n : ℕ). n % circle) (omega arith)
      ∙ add-mul-mod_self_right (near (v * circle + o) a) 1 circle

-- ---- the place (u, w) and the position (lat, lon) of the first pixel, y rows from the South Pole and v columns from 180° west
record Thread (p : Pair) (a b : ℕ) (u w lat lon : ℤ) : Type 0 where
  pub columns : Grid a
  pub rows : Grid b
  pub y : ℕ
  pub v : ℕ
  pub y-some : 0 < y
  pub y-high : 2 * y ≤ b
  pub u-is : Is u y (128 * (b / 512))
  pub w-is : w ≡ pos ((v + a / 2) % a)
  pub lat-is : Is lat (near (y * circle - inward p) b) quarter
  pub lon-is : Is lon (near (v * circle + inward p) a % circle) half

module _ (p : Pair) (a b : ℕ) (u w lat lon : ℤ) (t : Thread p a b u w lat lon) where
  lat-inside : outside quarter lat ≡ false
  lat-inside =
      is-inside lat (near (t.y * circle - inward p) b) quarter t.lat-is
      (near_le b (omega (arith, t.rows.some)) (t.y * circle - inward p) 64800000 (omega (arith, t.y-high, t.rows.some)))

  lon-inside : outside half lon ≡ false
  lon-inside = is-inside lon (near (t.v * circle + inward p) a % circle) half t.lon-is (omega arith)

  -- the position is within half a hundredth of the exact place; w is v + A less i + 1/2 times A
  close : Close p a b u w lat lon
  close =
      let v : ℕ = t.v in
      let o : ℕ = inward p in
      let q : ℕ = near (v * circle + o) a in
      let i : ℕ = (v + a / 2) / a in
      let some : 0 < a = omega (arith, t.columns.some) in
      let turned : Line circle a (i * a + a / 2) (i * circle + half) =
      record {
        some = some;
        exact = omega (arith, add-mul (i * a) (a / 2) circle, add-mul (i * circle) half a, mul_right_comm i a circle, t.columns.whole);
      } in
      let w_at : Is w (v + a) (i * a + a / 2) =
      subst⁻¹ (λ (z : ℤ). Is z (v + a) (i * a + a / 2)) t.w-is (omega (arith, div-add-mod' (v + a / 2) a, t.columns.whole)) in
      let d : ℤ = sub_ℕ (q / circle + 1) i in
      let next : near ((v + a) * circle + o) a ≡ q + circle =
      ap (λ (n : ℕ). near n a) (omega arith) ∙ near-shift a some (v * circle + o) circle in
      let lon-at : Is (lon +ℤ d *ℤ pos circle) (near ((v + a) * circle + o) a) (i * circle + half) =
      is_same (lon +ℤ d *ℤ pos circle) (q % circle + (q / circle + 1) * circle) (half + i * circle) (near ((v + a) * circle + o) a) (i * circle + half)
      (is-add lon (d *ℤ pos circle) (q % circle) half ((q / circle + 1) * circle) (i * circle) t.lon-is
      (is_mul d circle (q / circle + 1) i (is-sub (q / circle + 1) i)))
      (omega arith) in
      record {
        latitude =
            angle-close (rows-line b t.rows) (exact_row p u) lat (t.y * circle - o)
            (exact-row p u t.y (128 * (b / 512)) t.y-some t.u-is) t.lat-is;
        circles = d;
        longitude =
            angle-close turned (exact_column p w) (lon +ℤ d *ℤ pos circle) ((v + a) * circle + o) (exact-column p w (v + a) (i * a + a / 2) w_at) lon-at;
      }

-- ---- one later card
record Step (p : Pair) (u w lat lon : ℤ) (k : Fields) : Type 0 where
  pub does : Visit
  pub visited : visit p k lat lon ≡ does
  pub right : Right u w lat lon k does
  pub latitude-kept : latitude_after lat does ≡ lat
  pub longitude-kept : longitude_after lon does ≡ lon

module _ (p : Pair) (u w lat lon : ℤ) (k : Fields) (l : Laid k) (t : Thread p k.a k.b u w lat lon) where
  -- the pixel at the position
  ρ : ℤ
  ρ = row_of p k lat

  γ : ℤ
  γ = column_of p k lon

  abbrev γ' : ℕ
  γ' = (t.v + (k.a - k.east)) % k.a

  ρ-is : Is ρ k.north t.y
  unfolding ρ
  ρ-is = row_back k l p t.y lat t.y-some t.lat-is

  γ-is : γ ≡ pos γ'
  unfolding γ
  γ-is = column-back k l p t.v lon t.lon-is

  -- it alone has the place
  row-of-place : (r : ℤ) → place_row k r ≡ u → r ≡ ρ
  row-of-place r e =
      let s : ℕ = 128 * (k.b / 512) in
      let q = equal_is (place_row k r) u (k.north + under r) (s + over r) t.y s
      (is-minus (pos 128 *ℤ k.n) r k.north s (over r) (under r) (north-is k l) (is-parts r)) t.u-is e in
      is-equal r ρ (over r) (under r) k.north t.y (is-parts r) ρ-is (omega (arith, q))

  place-of-row : place_row k ρ ≡ u
  place-of-row =
      let s : ℕ = 128 * (k.b / 512) in
      is-equal (place_row k ρ) u (k.north + t.y) (s + k.north) t.y s
      (is-minus (pos 128 *ℤ k.n) ρ k.north s k.north t.y (north-is k l) ρ-is) t.u-is (omega arith)

  column-of-place : (c : ℤ) → Within 0 (128 * k.nfc) c → place_column k c ≡ w → c ≡ γ
  column-of-place c i e =
      let f : (k.east + i.at + k.a / 2) % k.a ≡ (t.v + k.a / 2) % k.a =
      pos-is (sym (column-place k l i.at) ∙ ap (place_column k) (sym i.same) ∙ e ∙ t.w-is) in
      i.same ∙ ap pos (same-column k.a t.v k.east l.columns (east-high k l) i.at (omega (arith, i.below, l.across)) f) ∙ sym γ-is
    where
      pos-is : {m n : ℕ} → pos m ≡ pos n → m ≡ n
      pos-is e = cc

  place-of-column : place_column k γ ≡ w
  place-of-column =
      ap (place_column k) γ-is ∙ column-place k l γ'
      ∙ ap pos (same_place k.a t.v k.east l.columns (east-high k l) γ' refl) ∙ sym t.w-is

  at_place : HasPlace k u w ρ γ
  at_place = record { row = place-of-row; column = place-of-column }

  -- its position is the position last answered
  back : at_position (latitude_of p k ρ) (longitude_of p k γ) ≡ at_position lat lon
  unfolding latitude_of
  back =
      let o : ℕ = inward p in
      let x : ℕ = t.y * circle - o in
      ap₂ at_position
      (ap (λ (z : ℤ). nearest (exact_row p z) k.b) place-of-row
      ∙ is-equal (nearest (exact_row p u) k.b) lat (near x k.b) quarter (near x k.b) quarter
      (angle-is (rows-line k.b l.rows) (exact_row p u) x (exact-row p u t.y (128 * (k.b / 512)) t.y-some t.u-is)) t.lat-is refl)
      (ap (longitude_of p k) γ-is
      ∙ is-equal (longitude_of p k (pos γ')) lon (near ((k.east + γ') * circle + o) k.a % circle) half (near (t.v * circle + o) k.a % circle) half
      (longitude-is k l p γ') t.lon-is (ap (λ (n : ℕ). n + half) (same-longitude k.a t.v k.east l.columns (east-high k l) o γ' refl)))

  -- so the tests at (ρ, γ) decide
  tiles-decide : TilesHave k u w → in_tiles k ρ γ ≡ true
  tiles-decide h =
      let i = tiles-inside k h.r h.c h.within in
      ap₂ (in_tiles k) (sym (row-of-place h.r h.at.row)) (sym (column-of-place h.c i.column h.at.column)) ∙ h.within

  chart-decide : ChartHas k u w → in_chart k ρ γ ≡ true
  chart-decide h =
      let i = tiles-inside k h.r h.c (chart-tiles k h.r h.c l h.within) in
      ap₂ (in_chart k) (sym (row-of-place h.r h.at.row)) (sym (column-of-place h.c i.column h.at.column)) ∙ h.within

  -- what the card answers, by its verdict
  answers : (v : Judged) → verdict_of k ρ γ ≡ v → visit p k lat lon ≡ visit_with p k (v >>= (λ _. at_pixel ρ γ))
  unfolding pixel_of ρ γ
  answers v e = rw (lat-inside p k.a k.b u w lat lon t, lon-inside p k.a k.b u w lat lon t, e)

  go : (i c : Bool) → in_tiles k ρ γ ≡ i → in_chart k ρ γ ≡ c → Step p u w lat lon k
  unfolding position_of
  go false c ei ec =
      record {
        does = refused Refusal.OutsideTiles;
        visited = answers (Err Refusal.OutsideTiles) (rw ei);
        right = ((λ h. false≢true (sym ei ∙ chart-tiles k ρ γ l (chart-decide h))), inl (refl, λ h. false≢true (sym ei ∙ tiles-decide h)));
        latitude-kept = refl;
        longitude-kept = refl;
      }
  go true false ei ec =
      record {
        does = refused Refusal.Padding;
        visited = answers (Err Refusal.Padding) (rw (ei, ec));
        right = ((λ h. false≢true (sym ec ∙ chart-decide h)), inr (refl, record { r = ρ; c = γ; within = ei; at = at_place }));
        latitude-kept = refl;
        longitude-kept = refl;
      }
  go true true ei ec =
      record {
        does = gave ρ γ (at_position lat lon);
        visited = answers (Ok tt) (rw (ei, ec)) ∙ ap (gave ρ γ) (rw (ei, ec) back);
        right = (ec, at_place, refl);
        latitude-kept = refl;
        longitude-kept = refl;
      }

  step : Step p u w lat lon k
  step = go (in_tiles k ρ γ) (in_chart k ρ γ) refl refl

-- ---- down the list
module _ (p : Pair) (a b : ℕ) (u w lat lon : ℤ) (t : Thread p a b u w lat lon) where
  -- a card of the chain
  Of : Fields → Type 0
  Of k = Laid k × (k.a ≡ a) × (k.b ≡ b)

  down : (ks : List Fields) → Every Of ks → Each (Right u w lat lon) ks (visits p lat lon ks)
  unfolding Of
  down [] h = tt
  down (k ∷ ks) h =
      let s = step p u w lat lon k h.0.0 (subst₂ (λ (x y : ℕ). Thread p x y u w lat lon) (sym h.0.1) (sym h.0.2) t) in (
        subst⁻¹ (Right u w lat lon k) s.visited s.right,
        subst₂ (λ (x y : ℤ). Each (Right u w lat lon) ks (visits p x y ks))
            (sym (ap (latitude_after lat) s.visited ∙ s.latitude-kept)) (sym (ap (longitude_after lon) s.visited ∙ s.longitude-kept))
            (down ks h.1),
      )

  every_of : (series : Series) (first : Fields) → first.a ≡ a → first.b ≡ b → Accepted series first
      → (ks : List Fields) → Every (Accepted series) ks → Every Of ks
  unfolding Of
  every_of series first x y f [] h = tt
  every_of series first x y f (k ∷ ks) h =
      let e = same-spacing series first k f h.0 in
      ((accepted-laid series k h.0, e.0 ∙ x, e.1 ∙ y), every_of series first x y f ks h.1)

-- ---- the first card, and its pixel (r, c)
module _ (p : Pair) (k : Fields) (l : Laid k) (r c : ℕ) (h : r < k.north) where
  thread : Thread p k.a k.b (place_row k (pos r)) (place_column k (pos c)) (latitude_of p k (pos r)) (longitude_of p k (pos c))
  thread =
      record {
        columns = l.columns;
        rows = l.rows;
        y = k.north - r;
        v = k.east + c;
        y-some = omega arith;
        y-high = omega (arith, north-high k l);
        u-is = row_is k l r (omega arith);
        w-is = column-place k l c;
        lat-is = latitude-is k l p r h;
        lon-is = longitude-is k l p c;
      }

  walked : (rest : List Fields) → in_tiles k (pos r) (pos c) ≡ true → in_chart k (pos r) (pos c) ≡ true
      → Every (Of p k.a k.b _ _ _ _ thread) rest → NoDriftFrom p k rest (pos r) (pos c)
  unfolding position_of
  walked rest i e all =
      record {
        lat = latitude_of p k (pos r);
        lon = longitude_of p k (pos c);
        answered = rw (i, e);
        close = close p k.a k.b _ _ _ _ thread;
        each = down p k.a k.b _ _ _ _ thread rest all;
      }

pub no-drift : NoDrift
no-drift p series first rest all r c e =
    let l = accepted-laid series first all.0 in
    let i = chart-tiles first r c l e in
    let n = tiles-inside first r c i in
    let h : n.row.at < first.north = omega (arith, n.row.below, down-high first l) in
    subst₂ (NoDriftFrom p first rest) (sym n.row.same) (sym n.column.same)
    (walked p first l n.row.at n.column.at h rest
    (ap₂ (in_tiles first) (sym n.row.same) (sym n.column.same) ∙ i)
    (ap₂ (in_chart first) (sym n.row.same) (sym n.column.same) ∙ e)
    (every_of p first.a first.b _ _ _ _ (thread p first l n.row.at n.column.at h) series first refl refl all.0 rest all.1))
