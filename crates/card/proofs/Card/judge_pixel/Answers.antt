-- The two tests decide as `verdict_of` does: a pixel of the chart is one of the tiles. Assumes nothing.
use Rattle.card.specs.Grid.{in_tiles, in_chart}
use Rattle.card_text.proofs.Laid.{known-laid}
use Rattle.card.proofs.Regions.{chart-tiles}
use Rattle.card.proofs.Answers.{tested}
use Rattle.card.proofs.Card.judge_pixel.Goals as goal

pub returns-then-in_chart-clause-value : goal.returns-then-in_chart-clause-value
returns-then-in_chart-clause-value c =
    let a = c.args in
    let chart = tested (in_chart a.self) a.row a.column c.ranges.row c.ranges.column c.in_chart.ensures.value c.if-in_chart.true in
    rw (chart-tiles a.self a.row a.column (known-laid a.self c.in_chart.ensures.known) chart, chart)

pub returns-then-in_tiles-clause-value : goal.returns-then-in_tiles-clause-value
returns-then-in_tiles-clause-value c =
    let a = c.args in
    rw (
      tested (in_tiles a.self) a.row a.column c.ranges.row c.ranges.column c.in_tiles.ensures.value c.if-in_tiles.true,
      tested (in_chart a.self) a.row a.column c.ranges.row c.ranges.column c.in_chart.ensures.value c.if-in_chart.false,
    )

pub returns-clause-value : goal.returns-clause-value
returns-clause-value c =
    let a = c.args in
    rw (tested (in_tiles a.self) a.row a.column c.ranges.row c.ranges.column c.in_tiles.ensures.value c.if-in_tiles.false)
