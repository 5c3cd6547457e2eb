-- The position is judged before the centre, and a difference of counts is that of the angles. Assumes nothing.
use Rattle.std.proofs.Common.{ap, ap₂, ◌∙◌, ℤ, Ok}
use Rattle.std.proofs.lemmas.Result.{err_from_is_err_and}
use lib.Ieee.{of_int, binary64}
use Rattle.card.specs.Grid.{into_range}
use Rattle.card.specs.Offset.{offset_of}
use Rattle.card.proofs.Ranges.{counts-apart, ranged-at, ranged-refused}
use Rattle.card.proofs.offsets.offset_from.Goals as goal

pub returns-in_err-position : goal.returns-in_err-position
unfolding offset_of
returns-in_err-position c =
    let p = err_from_is_err_and c.from_residual.result c.from_residual.ensures.1 in
    rw (p.1, p.2) (ranged-refused _ _ c.ranges.lat c.ranges.lon c.count_position.ensures _ c.in_err-position.was)

pub returns-in_err-centre : goal.returns-in_err-centre
unfolding offset_of
returns-in_err-centre c =
    let e = err_from_is_err_and c.from_residual-in_err-centre.result c.from_residual-in_err-centre.ensures.1 in
    let p = ranged-at _ _ c.ranges.lat c.ranges.lon c.count_position.ensures c.in_ok-position.was in
    rw (e.1, e.2, p.rows.test, p.columns.test)
    (ranged-refused _ _ c.ranges.clat c.ranges.clon c.count_position-2.ensures _ c.in_err-centre.was)

pub returns : goal.returns
unfolding offset_of
returns c =
    let p = ranged-at _ _ c.ranges.lat c.ranges.lon c.count_position.ensures c.in_ok-position.was in
    let q = ranged-at _ _ c.ranges.clat c.ranges.clon c.count_position-2.ensures c.in_ok-centre.was in
    rw (p.rows.test, p.columns.test, q.rows.test, q.columns.test)
    (ap Ok
    (c.offset_at.ensures
    ∙ ap₂ (λ (x y : ℤ). record { lat = of_int binary64 x; lon = of_int binary64 (into_range y) })
    (counts-apart p.rows q.rows) (counts-apart p.columns q.columns)))
