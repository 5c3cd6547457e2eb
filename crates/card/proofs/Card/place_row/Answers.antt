-- 128n counted from the South Pole, less the row and half of B, which the count is. Assumes nothing.
use Rattle.std.proofs.Common.{◌-◌, ◌*◌, ◌/◌, arith, pos}
use Rattle.whole.proofs.Machine.{told}
use Rattle.whole.proofs.Signed.{is_same}
use Rattle.card.specs.Grid.{place_row}
use Rattle.card.proofs.Known.{laid-as}
use Rattle.card.proofs.Axes.{row_is}
use Rattle.card.proofs.Card.place_row.Goals as goal

pub overflow_sub-self-inside : goal.overflow_sub-self-inside
overflow_sub-self-inside c = rw c.self.view_is (omega (arith, laid-as c.self.view_is c.self.invariant, c.requires.in_tiles))

pub overflow_cast-self-inside : goal.overflow_cast-self-inside
overflow_cast-self-inside c = rw c.self.view_is (omega (arith, laid-as c.self.view_is c.self.invariant))

pub overflow_cast-self-inside-2 : goal.overflow_cast-self-inside-2
overflow_cast-self-inside-2 c = rw c.self.view_is (omega (arith, laid-as c.self.view_is c.self.invariant))

pub returns : goal.returns
returns c =
    let k = c.args.self in
    let r = c.args.row in
    let l = laid-as c.self.view_is c.self.invariant in
    told (k.north - r) (k.b / 4) c.difference.type_inv (rw c.self.view_is at c.difference.ensures)
    (is_same (place_row k (pos r)) (k.north - r) (128 * (k.b / 512)) (k.north - r) (k.b / 4)
    (row_is k l r (omega (arith, l, c.requires.in_tiles))) (omega (arith, l.rows.whole)))
