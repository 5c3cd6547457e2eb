-- The two tests are those of `in_tiles`: what the machine compares are the numbers themselves. Assumes nothing.
use Rattle.std.proofs.Common.{◌*◌, arith, w64}
use mir.ValLaws.{to_z-of_z, to_z_pos}
use Rattle.card.proofs.Known.{laid-as}
use Rattle.card.proofs.Card.in_tiles.Goals as goal

pub overflow_mul-rows : goal.overflow_mul-rows
overflow_mul-rows c = rw c.self.view_is (omega (arith, laid-as c.self.view_is c.self.invariant))

pub overflow_cast-rows : goal.overflow_cast-rows
overflow_cast-rows c = rw c.self.view_is (record { sfits = omega (arith, laid-as c.self.view_is c.self.invariant) })

pub overflow_mul-columns : goal.overflow_mul-columns
overflow_mul-columns c = rw c.self.view_is (omega (arith, laid-as c.self.view_is c.self.invariant))

pub overflow_cast-columns : goal.overflow_cast-columns
overflow_cast-columns c = rw c.self.view_is (record { sfits = omega (arith, laid-as c.self.view_is c.self.invariant) })

pub returns-clause-value : goal.returns-clause-value
returns-clause-value c =
    let k = c.args.self in
    let l = laid-as c.self.view_is c.self.invariant in
    rw (
      c.self.view_is,
      to_z-of_z w64 c.args.row c.ranges.row,
      to_z-of_z w64 c.args.column c.ranges.column,
      to_z_pos w64 (128 * k.nfl) (omega (arith, l)),
      to_z_pos w64 (128 * k.nfc) (omega (arith, l)),
    )
