-- (128m + c) modulo A, counted from 180° west, which is half of A away. Assumes nothing.
use Rattle.std.proofs.Common.{◌+◌, ◌/◌, ◌%◌, sym, ◌∙◌, arith, w64}
use mir.ValLaws.{to_z_pos}
use Rattle.card.proofs.Known.{laid-as}
use Rattle.card.proofs.Axes.{column-place}
use Rattle.card.proofs.Card.place_column.Goals as goal

pub overflow_add-result : goal.overflow_add-result
overflow_add-result c = rw c.self.view_is (omega (arith, laid-as c.self.view_is c.self.invariant))

pub overflow_add-result-2 : goal.overflow_add-result-2
overflow_add-result-2 c = rw c.self.view_is (omega (arith, laid-as c.self.view_is c.self.invariant))

pub nonzero_rem-result : goal.nonzero_rem-result
nonzero_rem-result c = rw c.self.view_is (omega (arith, laid-as c.self.view_is c.self.invariant))

pub overflow_cast-result : goal.overflow_cast-result
overflow_cast-result c = rw c.self.view_is (omega (arith, laid-as c.self.view_is c.self.invariant))

pub returns : goal.returns
returns c =
    let k = c.args.self in
    let l = laid-as c.self.view_is c.self.invariant in
    rw c.self.view_is
    (to_z_pos w64 ((k.east + c.args.column + k.a / 2) % k.a) (omega (arith, l)) ∙ sym (column-place k l c.args.column))
