-- The two tests are those of `in_chart`: what the machine compares are the numbers themselves. Assumes nothing.
use Rattle.std.proofs.Common.{arith, w64}
use mir.ValLaws.{to_z-of_z, to_z_pos}
use Rattle.card.proofs.Known.{laid-as}
use Rattle.card.proofs.Card.in_chart.Goals as goal

pub overflow_cast-top : goal.overflow_cast-top
overflow_cast-top c = rw c.self.view_is (record { sfits = omega (arith, laid-as c.self.view_is c.self.invariant) })

pub overflow_cast-bottom : goal.overflow_cast-bottom
overflow_cast-bottom c = rw c.self.view_is (record { sfits = omega (arith, laid-as c.self.view_is c.self.invariant) })

pub overflow_cast-left : goal.overflow_cast-left
overflow_cast-left c = rw c.self.view_is (record { sfits = omega (arith, laid-as c.self.view_is c.self.invariant) })

pub overflow_cast-right : goal.overflow_cast-right
overflow_cast-right c = rw c.self.view_is (record { sfits = omega (arith, laid-as c.self.view_is c.self.invariant) })

pub returns-clause-value : goal.returns-clause-value
returns-clause-value c =
    let k = c.args.self in
    let l = laid-as c.self.view_is c.self.invariant in
    rw (
      c.self.view_is,
      to_z-of_z w64 c.args.row c.ranges.row,
      to_z-of_z w64 c.args.column c.ranges.column,
      to_z_pos w64 k.nul (omega (arith, l)),
      to_z_pos w64 k.nll (omega (arith, l)),
      to_z_pos w64 k.nls (omega (arith, l)),
      to_z_pos w64 k.nus (omega (arith, l)),
    )
