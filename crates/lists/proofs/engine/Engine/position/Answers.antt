use Rattle.std.proofs.Common.{ap, ap₂, sym, ◌∙◌, ℤ, [], ◌∷◌}
use Rattle.arc.specs.Refusals.{answered}
use Rattle.card.specs.Grid.{position_report}
use Rattle.whole.proofs.Machine.{result-is}
use Rattle.lists.proofs.Charting.{column_casts, row_within, rows_low, columns_low, more_low, two_circles, chart_position}
use Rattle.lists.proofs.engine.Engine.position.Goals as goal

pub overflow_cast-column : goal.overflow_cast-column
overflow_cast-column c = column_casts _ c.self.invariant _ _ c.ranges.row c.ranges.column c.in-Ok.ensures.value

pub latitude-requires-clause-within : goal.latitude-requires-clause-within
latitude-requires-clause-within c = row_within _ c.self.invariant _ _ c.ranges.row c.ranges.column c.in-Ok.ensures.value

pub latitude-requires-clause-from_low : goal.latitude-requires-clause-from_low
latitude-requires-clause-from_low c = rows_low _ c.self.invariant _ _ c.ranges.row c.ranges.column c.in-Ok.ensures.value

pub longitude-requires-clause-from_low : goal.longitude-requires-clause-from_low
longitude-requires-clause-from_low c = columns_low _ c.self.invariant _ _ c.ranges.row c.ranges.column c.in-Ok.ensures.value

pub longitude-requires-clause-more_low : goal.longitude-requires-clause-more_low
longitude-requires-clause-more_low c = more_low _ c.self.invariant _ _ c.ranges.row c.ranges.column c.in-Ok.ensures.value

pub longitude-requires-clause-two_circles : goal.longitude-requires-clause-two_circles
longitude-requires-clause-two_circles c = two_circles _ c.self.invariant _ _ c.ranges.row c.ranges.column c.in-Ok.ensures.value

pub returns-in-Ok : goal.returns-in-Ok
returns-in-Ok c =
    rw (← c.self.view_is)
    (ap position_report (chart_position _ c.self.invariant _ _ c.ranges.row c.ranges.column c.in-Ok.ensures.value)
    ∙ sym (ap₂ (λ (x y : ℤ). answered (x ∷ y ∷ [])) (result-is c.latitude.type_inv c.latitude.ensures)
    (result-is c.longitude.type_inv c.longitude.ensures)))
