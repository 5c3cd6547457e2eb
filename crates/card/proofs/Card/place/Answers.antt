-- The test decides as `place_of` does; a pixel that passes is one of naturals, and its place is that of its axes. Assumes nothing.
use Rattle.std.proofs.Common.{ap, ap₂, ◌∙◌, arith}
use Rattle.whole.proofs.Machine.{result-is}
use Rattle.card.specs.Grid.{at_place, in_tiles, place_row, place_column, place_of}
use Rattle.card_text.proofs.Laid.{known-laid}
use Rattle.card.proofs.Regions.{tiles-inside}
use Rattle.card.proofs.Answers.{tested, cast_fits, cast-below, cast_same}
use Rattle.card.proofs.Card.place.Goals as goal

pub returns-then-not-in_tiles : goal.returns-then-not-in_tiles
unfolding place_of
returns-then-not-in_tiles c =
    let a = c.args in
    rw (tested (in_tiles a.self) a.row a.column c.ranges.row c.ranges.column c.in_tiles.ensures.value c.if-not-in_tiles.true)

pub overflow_cast-row : goal.overflow_cast-row
overflow_cast-row c =
    let a = c.args in
    let i = tiles-inside a.self a.row a.column (tested (in_tiles a.self) a.row a.column c.ranges.row c.ranges.column
    c.in_tiles.ensures.value c.if-not-in_tiles.false) in
    cast_fits _ a.row c.ranges.row i.row (omega (arith, known-laid a.self c.in_tiles.ensures.known))

pub place_row-requires : goal.place_row-requires
place_row-requires c =
    let a = c.args in
    let i = tiles-inside a.self a.row a.column (tested (in_tiles a.self) a.row a.column c.ranges.row c.ranges.column
    c.in_tiles.ensures.value c.if-not-in_tiles.false) in
    record { in_tiles = cast-below _ a.row c.ranges.row i.row }

pub overflow_cast-column : goal.overflow_cast-column
overflow_cast-column c =
    let a = c.args in
    let i = tiles-inside a.self a.row a.column (tested (in_tiles a.self) a.row a.column c.ranges.row c.ranges.column
    c.in_tiles.ensures.value c.if-not-in_tiles.false) in
    cast_fits _ a.column c.ranges.column i.column (omega (arith, known-laid a.self c.in_tiles.ensures.known))

pub place_column-requires : goal.place_column-requires
place_column-requires c =
    let a = c.args in
    let i = tiles-inside a.self a.row a.column (tested (in_tiles a.self) a.row a.column c.ranges.row c.ranges.column
    c.in_tiles.ensures.value c.if-not-in_tiles.false) in
    record { in_tiles = cast-below _ a.column c.ranges.column i.column }

pub returns : goal.returns
unfolding place_of
returns c =
    let a = c.args in
    let k = a.self in
    let t = tested (in_tiles a.self) a.row a.column c.ranges.row c.ranges.column c.in_tiles.ensures.value c.if-not-in_tiles.false in
    let i = tiles-inside k a.row a.column t in
    rw t
    (ap₂ at_place
    (result-is c.place_row.type_inv (c.place_row.ensures ∙ ap (place_row k) (cast_same _ a.row c.ranges.row i.row)))
    (result-is c.place_column.type_inv (c.place_column.ensures ∙ ap (place_column k) (cast_same _ a.column c.ranges.column i.column))))
