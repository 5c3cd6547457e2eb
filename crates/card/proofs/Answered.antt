-- A position is answered only for a pixel of the tiles, whose latitude is counted from the South Pole and whose longitude is a remainder
-- of the circle. Assumes nothing.
use Rattle.std.specs.Prelude.{Ok, Err}
use Rattle.card_text.specs.Layout.{Judged}
use Rattle.card.specs.Grid.{at_position}
use mathlib.Core.Path.{◌≡◌, refl, sym, ap, ◌∙◌, subst₂}
use mathlib.Core.Bool.{true}
use Prim.Native.Nat.{ℕ, ◌+◌, ◌-◌, ◌*◌, ◌%◌, ◌<◌}
use native.Mathlib.Nat.{mod-lt}
use native.Mathlib.Omega.{arith}
use lib.IntN.{ℤ, pos, neg_ℤ}
use Rattle.whole.specs.Whole.{near}
use Rattle.whole.proofs.Signed.{is-nat, is-neg, is_le, is_lt}
use Rattle.whole.specs.Results.{◌>>=◌}
use Rattle.arc.specs.Zones.{circle, half, quarter}
use Rattle.origin.proofs.Line.{is-inside}
use Rattle.card_text.specs.declared.Fields.{Fields}
use Rattle.card.specs.declared.Pair.{Pair}
use Rattle.card.specs.Grid.{latitude_of, longitude_of, in_tiles, in_chart, verdict_of, position_of}
use Rattle.card.specs.Steps.{inward}
use Rattle.card.specs.Ranges.{InRange, AnsweredInRange}
use Rattle.card_text.proofs.Laid.{Laid, known-laid}
use Rattle.card.proofs.Axes.{north-high, down-high, latitude-is, longitude-is, latitude-high}
use Rattle.card.proofs.Regions.{tiles-inside}
use Rattle.card.proofs.Same.{same-position}
use Rattle.card.proofs.Answers.{accepted-in}

module _ (p : Pair) (k : Fields) (l : Laid k) where
  position_in : (r c : ℕ) → r < 128 * k.nfl → InRange (latitude_of p k (pos r)) (longitude_of p k (pos c))
  position_in r c h =
      let y : ℕ = near ((k.north - r) * circle - inward p) k.b in
      let x : ℕ = near ((k.east + c) * circle + inward p) k.a in
      let u = latitude-is k l p r (omega (arith, down-high k l)) in
      let v = longitude-is k l p c in
      record {
        latitude = is-inside (latitude_of p k (pos r)) y quarter u (latitude-high k l (k.north - r) (inward p) (omega (arith, north-high k l)));
        west = is_le (neg_ℤ (pos half)) (longitude_of p k (pos c)) 0 half (x % circle) half (is-neg (pos half) half 0 (is-nat half)) v (omega arith);
        east = is_lt (longitude_of p k (pos c)) (pos half) (x % circle) half half 0 v (is-nat half) (omega (arith, mod-lt x {m = circle} (omega arith)));
      }

-- a position is answered for an accepted pixel, and is that of its axes
pub record PositionAt (p : Pair) (k : Fields) (r c lat lon : ℤ) : Type 0 where
  pub tiles : in_tiles k r c ≡ true
  pub chart : in_chart k r c ≡ true
  pub same-lat : latitude_of p k r ≡ lat
  pub same-lon : longitude_of p k c ≡ lon

pub position_at : (p : Pair) (k : Fields) (r c lat lon : ℤ) → position_of p k r c ≡ at_position lat lon → PositionAt p k r c lat lon
unfolding position_of
position_at p k r c lat lon e = go (verdict_of k r c) refl e
  where
    go : (v : Judged) → verdict_of k r c ≡ v
        → v >>= (λ _. at_position (latitude_of p k r) (longitude_of p k c)) ≡ at_position lat lon
        → PositionAt p k r c lat lon
    go (Ok u) t f =
        let i = accepted-in k r c t in
        let e = same-position (latitude_of p k r) (longitude_of p k c) lat lon f in
        record { tiles = i.0; chart = i.1; same-lat = e.0; same-lon = e.1 }
    go (Err n) t f = let z : ◌≡◌ {A = ℕ} 0 1 = cc in absurd (omega arith)

pub answered-in-range : AnsweredInRange
answered-in-range p k w r c lat lon e =
    let x = position_at p k r c lat lon e in
    let i = tiles-inside k r c x.tiles in
    subst₂ InRange (sym (ap (latitude_of p k) i.row.same) ∙ x.same-lat) (sym (ap (longitude_of p k) i.column.same) ∙ x.same-lon)
    (position_in p k (known-laid k w) i.row.at i.column.at i.row.below)
