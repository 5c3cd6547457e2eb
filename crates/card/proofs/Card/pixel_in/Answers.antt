-- A position out of range is refused; else the row and the column are those of its axes, and the tests come last. Assumes nothing.
use Rattle.std.proofs.Common.{ap, ap₂, ◌∙◌}
use Rattle.std.proofs.lemmas.Result.{err_from_is_err_and}
use Rattle.whole.proofs.Machine.{result-is}
use Rattle.card.specs.Grid.{row_of, column_of, pixel_at, pixel_of}
use Rattle.card.proofs.Ranges.{ranged-at, ranged-refused}
use Rattle.card.proofs.Card.pixel_in.Goals as goal

pub returns-in_err-north : goal.returns-in_err-north
unfolding pixel_of
returns-in_err-north c =
    let p = err_from_is_err_and c.from_residual.result c.from_residual.ensures.1 in
    rw (p.1, p.2) (ranged-refused _ _ c.ranges.lat c.ranges.lon c.count_position.ensures _ c.in_err-north.was)

pub returns : goal.returns
unfolding pixel_of
returns c =
    let k = c.args.self in
    let pair = c.args.pair in
    let i = ranged-at _ _ c.ranges.lat c.ranges.lon c.count_position.ensures c.in_ok-north.was in
    rw (i.rows.test, i.columns.test)
    (c.pixel_at.ensures
    ∙ ap₂ (pixel_at k)
    (result-is c.row_at.type_inv (c.row_at.ensures ∙ ap (row_of pair k) i.rows.same))
    (result-is c.column_at.type_inv (c.column_at.ensures ∙ ap (column_of pair k) i.columns.same)))
