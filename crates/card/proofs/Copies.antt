-- Two pixels of one position are the pixel that one of the cards gives for it, so demand 3's walk has both places the same; and two pixels
-- of one place are one pixel. A tile is at least 207 hundredths, and a stored angle is within half a hundredth. Assumes nothing.
use Rattle.std.specs.Prelude.{Ok, Err}
use Rattle.card.proofs.Same.{same-place, same-spaces}
use Rattle.arc.specs.declared.refusal.Refusal.{Refusal}
use Rattle.card.specs.Grid.{at_place, at_position}
use mathlib.Core.Path.{◌≡◌, refl, sym, ap, ap₂, ◌∙◌, subst⁻¹, subst₂}
use mathlib.Core.Bool.{true}
use mathlib.Core.List.{List, [], ◌∷◌}
use mathlib.Core.Logic.{◌⊎◌, inl, inr}
use mathlib.Core.Option.{Option, some, none}
use Prim.Native.Nat.{ℕ, ◌+◌, ◌-◌, ◌*◌, ◌/◌, ◌≤◌, ◌<◌}
use native.Mathlib.Nat.{add-mul, mul-le-mul_right}
use native.Mathlib.Omega.{arith}
use borrow.Author.Tests.{eq-eqb}
use lib.ListN.{length, drop}
use lib.IntN.{ℤ, nat_abs, ◌-ℤ◌}
use Rattle.whole.specs.Whole.{near}
use Rattle.whole.proofs.Signed.{under, is-minus, is-size}
use Rattle.whole.proofs.Near.{near-low, near-high}
use Rattle.arc.specs.declared.series.Series.{Series}
use Rattle.arc.specs.Pixels.{Grid}
use Rattle.arc.proofs.Answered.{answered-grids}
use Rattle.origin.specs.Origin.{stored_angle}
use Rattle.origin.proofs.Axis.{tile_angle, stored_is}
use Rattle.origin.proofs.Stored.{counted, counted_is, axis, stored-unique}
use Rattle.text.specs.Text.{number, angle_of}
use Rattle.card_text.specs.declared.Fields.{Fields}
use Rattle.card_text.specs.declared.Fill.{Fill}
use Rattle.card.specs.declared.Pair.{Pair}
use Rattle.card_text.specs.Layout.{Subfield, STR, ARV, BRV, LSO, PSO, layout, bytes_of, right_kind, right_value, judge, judge_field, or_else, walk}
use Rattle.card_text.specs.Read.{tile_storing, number_in, card_of, with_origin, with_values, read_in, Accepted}
use Rattle.card.specs.NoDrift.{HasPlace}
use Rattle.card.specs.Grid.{place_row, place_column, in_tiles, in_chart, place_of, position_of}
use Rattle.card.specs.Places.{GivesPixel}
use Rattle.card.specs.Copies.{Copies, PlaceAlike, BytesAlike, Moved, RoundedAgain}
use Rattle.card.specs.Copies.{SameIn, others, LSOMoved, PSOMoved, MovedRefused}
use Rattle.card_text.proofs.Walked.{or_else-both, or_else-accepted}
use Rattle.card_text.proofs.Found.{Stores, tile-stores}
use Rattle.card_text.proofs.Acceptance.{row_tile, column_tile, ReadTo, read-to}
use Rattle.card_text.proofs.Laid.{accepted-laid}
use Rattle.card.proofs.Regions.{chart-tiles}
use Rattle.card.proofs.Chain.{no-drift}
use Rattle.card.proofs.Places.{Told, told-by-place}

-- ---- places and positions

module _ (k : Fields) (r c : ℤ) where
  pub placed : in_tiles k r c ≡ true → place_of k r c ≡ at_place (place_row k r) (place_column k c)
  unfolding place_of
  placed t = rw t

module _ (pair : Pair) (series : Series) (j k : Fields) (p : Accepted series j) (q : Accepted series k) (r c : ℤ) (i : in_chart j r c ≡ true)
    (r' c' : ℤ) (i' : in_chart k r' c' ≡ true) where
  place_at : place_of j r c ≡ at_place (place_row j r) (place_column j c)
  place_at = placed j r c (chart-tiles j r c (accepted-laid series j p) i)

  tiles' : in_tiles k r' c' ≡ true
  tiles' = chart-tiles k r' c' (accepted-laid series k q) i'

  place-at' : place_of k r' c' ≡ at_place (place_row k r') (place_column k c')
  place-at' = placed k r' c' tiles'

  module _ (lat lon : ℤ) (e : position_of pair j r c ≡ at_position lat lon) where
    -- the pixel of k that has the place of j's is the one that k gives
    one-position : place_of j r c ≡ place_of k r' c' → position_of pair j r c ≡ position_of pair k r' c'
    one-position f =
        let g = sym place_at ∙ f ∙ place-at' in
        let same = same-place _ _ _ _ g in
        let at : HasPlace k (place_row j r) (place_column j c) r' c' = record { row = sym same.0; column = sym same.1 } in
        go (told-by-place pair series j p r c i lat lon e k q) at
      where
        go : Told pair k (place_row j r) (place_column j c) lat lon → HasPlace k (place_row j r) (place_column j c) r' c'
            → position_of pair j r c ≡ position_of pair k r' c'
        go t at = given (t.gives.1 (record { r = r'; c = c'; within = i'; at = at }))
          where
            given : GivesPixel pair k lat lon → position_of pair j r c ≡ position_of pair k r' c'
            given n =
                let one = (t.only n.r n.c n.given).1 r' c' tiles' at in
                e ∙ sym (ap₂ (position_of pair k) one.0 one.1 ∙ t.back n.r n.c n.given)

    -- k gives one pixel for the position, and it has the places of both
    one_place : position_of pair j r c ≡ position_of pair k r' c' → place_of j r c ≡ place_of k r' c'
    one_place f =
        let t = told-by-place pair series j p r c i lat lon e k q in
        let t' = told-by-place pair series k q r' c' i' lat lon (sym f ∙ e) k q in
        let n = t'.gives.1 (record { r = r'; c = c'; within = i'; at = record { row = refl; column = refl } }) in
        let at = (t.only n.r n.c n.given).0 in
        let at' = (t'.only n.r n.c n.given).0 in
        place_at ∙ ap₂ at_place (sym at.row ∙ at'.row) (sym at.column ∙ at'.column) ∙ sym place-at'

pub place-alike : PlaceAlike
place-alike pair series j k p q r c i r' c' i' =
    let w = no-drift pair series j [] (p, tt) r c i in (
      one-position pair series j k p q r c i r' c' i' w.lat w.lon w.answered,
      one_place pair series j k p q r c i r' c' i' w.lat w.lon w.answered,
    )

-- ---- bytes

pub bytes-alike : BytesAlike
unfolding card_of
bytes-alike series s t j k v w p q (lso, (pso, (nul, (nus, (nll, (nls, (nfl, (nfc, end)))))))) =
    let x = read-to Fill.Blanks series s j v p in
    let y = read-to Fill.Blanks series t k w q in
    let ab = same-spaces _ _ _ _ (sym x.spacing ∙ y.spacing) in
    let a : x.a ≡ y.a = ab.0 in
    let b : x.b ≡ y.b = ab.1 in
    let g = answered-grids series x.a x.b x.spacing in
    subst₂ Copies x.card y.card
    (record {
      same_n =
          stored-unique x.b g.rows x.n y.n
          (x.n-stored.same ∙ ap (angle_of 2) pso ∙ sym y.n-stored.same ∙ ap (λ (i : ℕ). stored_angle i y.n) (sym b));
      same_m =
          stored-unique x.a g.columns x.m y.m
          (x.m-stored.same ∙ ap (angle_of 3) lso ∙ sym y.m-stored.same ∙ ap (λ (i : ℕ). stored_angle i y.m) (sym a));
      same_extents = rw (nul, nus, nll, nls, nfl, nfc);
    })

-- ---- stored angles

module _ (x : ℕ) (g : Grid x) where
  -- two stored angles of different tiles are more than 200 hundredths apart
  near_same : (n m : ℕ) → near (n * tile_angle) x ≤ near (m * tile_angle) x + 200 → near (m * tile_angle) x ≤ near (n * tile_angle) x + 200 → n ≡ m
  near_same n m h l =
      let some : 0 < x = omega (arith, g.some) in
      let p : ℕ = near (n * tile_angle) x in
      let q : ℕ = near (m * tile_angle) x in
      omega (
        arith,
        near-low x some (n * tile_angle),
        near-high x some (n * tile_angle),
        near-low x some (m * tile_angle),
        near-high x some (m * tile_angle),
        mul-le-mul_right x h,
        mul-le-mul_right x l,
        add-mul p 200 x,
        add-mul q 200 x,
        g.most,
      )

  not-stored : (k j : ℤ) → Moved (stored_angle x k) (stored_angle x j) → ⊥
  not-stored k j h =
      let s : ℕ = under k + under j in
      let n : ℕ = counted x g s k in
      let m : ℕ = counted x g s j in
      let p : ℕ = near (n * tile_angle) x in
      let q : ℕ = near (m * tile_angle) x in
      let size : nat_abs (stored_angle x j -ℤ stored_angle x k) ≡ q + s * tile_angle - (s * tile_angle + p) + (s * tile_angle + p - (q + s * tile_angle)) =
      is-size (stored_angle x j -ℤ stored_angle x k) (q + s * tile_angle) (s * tile_angle + p)
      (is-minus (stored_angle x j) (stored_angle x k) q (s * tile_angle) p (s * tile_angle)
      (stored_is (axis x g s) j m (counted_is x g s j (omega arith))) (stored_is (axis x g s) k n (counted_is x g s k (omega arith)))) in
      let e : n ≡ m = near_same n m (omega (arith, h.little)) (omega (arith, h.little)) in
      let f : p ≡ q = ap (λ (i : ℕ). near (i * tile_angle) x) e in
      omega (arith, h.other)

pub rounded-again : RoundedAgain
rounded-again x g t k z h = go (tile_storing x t z) refl
  where
    go : (o : Option ℤ) → tile_storing x t z ≡ o → o ≡ none
    go none e = refl
    go (some j) e = absurd (not-stored x g k j (subst⁻¹ (Moved (stored_angle x k)) (tile-stores x t z j e).same h))

-- ---- a card whose origin is moved

module _ (s t : List ℕ) where
  judged-same : (f : Subfield) → bytes_of f s ≡ bytes_of f t → judge_field Fill.Blanks f s ≡ judge_field Fill.Blanks f t
  unfolding judge_field
  judged-same f e = ap (λ (u : List ℕ). judge (right_kind Fill.Blanks f.kind u) (right_value f.kind u) f.at) e

  walk_same : (fs : List Subfield) → SameIn fs s t → walk Fill.Blanks fs s ≡ walk Fill.Blanks fs t
  walk_same [] h = refl
  walk_same (f ∷ fs) h = ap₂ or_else (judged-same f h.0) (walk_same fs h.1)

  -- the other subfields accepted, the two of the origin decide
  walk-origin : walk Fill.Blanks layout s ≡ Ok tt → SameIn others s t
      → walk Fill.Blanks layout t ≡ or_else (judge_field Fill.Blanks LSO t) (judge_field Fill.Blanks PSO t)
  unfolding layout
  walk-origin e (str, (arv, (brv, rest))) =
      let first = or_else-both (judge_field Fill.Blanks STR s) _ e in
      let second = or_else-both (judge_field Fill.Blanks ARV s) _ first.1 in
      let third = or_else-both (judge_field Fill.Blanks BRV s) _ second.1 in
      let past = sym (walk_same (drop 3 others) rest)
      ∙ (or_else-both (judge_field Fill.Blanks PSO s) _ (or_else-both (judge_field Fill.Blanks LSO s) _ third.1).1).1 in
      ap₂ or_else (sym (judged-same STR str) ∙ first.0)
      (ap₂ or_else (sym (judged-same ARV arv) ∙ second.0)
      (ap₂ or_else (sym (judged-same BRV brv) ∙ third.0)
      (ap (or_else (judge_field Fill.Blanks LSO t)) (ap (or_else (judge_field Fill.Blanks PSO t)) past ∙ or_else-accepted (judge_field Fill.Blanks PSO t)))))

no-column : (series : Series) (a b : ℕ) (t : List ℕ) (n : Option ℤ) → with_origin series a b t n none ≡ Err Refusal.Origin
no-column series a b t none = refl
no-column series a b t (some n) = refl

-- the angle that stored a tile, moved, stores none
moved_none : (x : ℕ) → Grid x → (t : ℕ) (y z k : ℤ) → Stores x t y k → Moved y z → tile_storing x t z ≡ none
moved_none x g t y z k e h = rounded-again x g t k z (subst⁻¹ (λ (y : ℤ). Moved y z) e.same h)

module _ (series : Series) (s t : List ℕ) (k : Fields) (blanks : ℕ) (x : ReadTo Fill.Blanks series s k blanks) where
  no_origin : LSOMoved s t ⊎ PSOMoved s t
      → with_origin series x.a x.b t (row_tile x.b t) (column_tile x.a t) ≡ Err Refusal.Origin
  no_origin (inl h) =
      let g = answered-grids series x.a x.b x.spacing in
      rw (moved_none x.a g.columns (x.a / 256) _ (angle_of 3 (bytes_of LSO t)) x.m x.m-stored h)
      (no-column series x.a x.b t (row_tile x.b t))
  no_origin (inr h) =
      let g = answered-grids series x.a x.b x.spacing in
      rw (moved_none x.b g.rows (x.b / 512) _ (angle_of 2 (bytes_of PSO t)) x.n x.n-stored h)

pub moved-refused : MovedRefused
unfolding read_in with_values
moved-refused series s t k blanks p l h m =
    let x = read-to Fill.Blanks series s k blanks p in
    rw (
      x.spacing,
      x.not-polar,
      eq-eqb (length t) 98 (l ∙ x.long),
      walk-origin s t x.judged h,
      eq-eqb (number_in ARV t) x.a (ap number (sym h.1.0) ∙ x.arv),
      eq-eqb (number_in BRV t) x.b (ap number (sym h.1.1.0) ∙ x.brv),
      no_origin series s t k blanks x m,
    )
