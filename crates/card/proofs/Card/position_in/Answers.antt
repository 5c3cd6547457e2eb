-- The verdict decides as `position_of` does; an accepted pixel is one of naturals, and its angles are those of its axes. Assumes nothing.
use Rattle.std.proofs.Common.{ap, ap₂, ◌∙◌, arith}
use Rattle.std.proofs.lemmas.Result.{err_from_is_err_and}
use Rattle.whole.proofs.Machine.{result-is}
use Rattle.card.specs.Grid.{at_position, latitude_of, longitude_of, position_of}
use Rattle.card_text.proofs.Laid.{known-laid}
use Rattle.card.proofs.Answers.{judged-refused, judged-answered, judged-inside, cast_fits, cast-below, cast_same}
use Rattle.card.proofs.Card.position_in.Goals as goal

pub returns-in_err-judge_pixel : goal.returns-in_err-judge_pixel
unfolding position_of
returns-in_err-judge_pixel c =
    let a = c.args in
    let p = err_from_is_err_and c.from_residual.result c.from_residual.ensures.1 in
    rw (p.1, p.2) (judged-refused a.self _ _ c.ranges.row c.ranges.column c.judge_pixel.ensures.value _ c.in_err-judge_pixel.was)

pub overflow_cast-row : goal.overflow_cast-row
overflow_cast-row c =
    let a = c.args in
    let i = judged-inside a.self _ _ c.ranges.row c.ranges.column c.judge_pixel.ensures.value c.in_ok-judge_pixel.was in
    cast_fits _ a.row c.ranges.row i.row (omega (arith, known-laid a.self c.judge_pixel.ensures.known))

pub latitude-requires : goal.latitude-requires
latitude-requires c =
    let a = c.args in
    let i = judged-inside a.self _ _ c.ranges.row c.ranges.column c.judge_pixel.ensures.value c.in_ok-judge_pixel.was in
    record { in_tiles = cast-below _ a.row c.ranges.row i.row }

pub overflow_cast-column : goal.overflow_cast-column
overflow_cast-column c =
    let a = c.args in
    let i = judged-inside a.self _ _ c.ranges.row c.ranges.column c.judge_pixel.ensures.value c.in_ok-judge_pixel.was in
    cast_fits _ a.column c.ranges.column i.column (omega (arith, known-laid a.self c.judge_pixel.ensures.known))

pub longitude-requires : goal.longitude-requires
longitude-requires c =
    let a = c.args in
    let i = judged-inside a.self _ _ c.ranges.row c.ranges.column c.judge_pixel.ensures.value c.in_ok-judge_pixel.was in
    record { in_tiles = cast-below _ a.column c.ranges.column i.column }

pub returns : goal.returns
unfolding position_of
returns c =
    let a = c.args in
    let k = a.self in
    let i = judged-inside a.self _ _ c.ranges.row c.ranges.column c.judge_pixel.ensures.value c.in_ok-judge_pixel.was in
    ap₂ at_position
    (result-is c.latitude.type_inv (c.latitude.ensures ∙ ap (latitude_of a.pair k) (cast_same _ a.row c.ranges.row i.row)))
    (result-is c.longitude.type_inv (c.longitude.ensures ∙ ap (longitude_of a.pair k) (cast_same _ a.column c.ranges.column i.column)))
    ∙ judged-answered k _ _ c.ranges.row c.ranges.column c.judge_pixel.ensures.value _ c.in_ok-judge_pixel.was
