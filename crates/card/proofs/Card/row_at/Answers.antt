-- The row before it is made whole, half of B added so that nothing is negative; the floor moves along with it. Assumes nothing.
use Rattle.std.proofs.Common.{ℕ, ◌+◌, ◌-◌, ◌*◌, ◌/◌, ap, ◌∙◌, arith, pos, ◌-ℤ◌}
use Rattle.whole.proofs.Signed.{is-difference}
use Rattle.whole.proofs.Machine.{fits-mul, told}
use Rattle.arc.specs.Zones.{circle, half, quarter}
use Rattle.card.specs.Steps.{inward}
use Rattle.card.proofs.Known.{laid-as}
use Rattle.card.proofs.Axes.{row_at, row_fits}
use Rattle.card.proofs.Card.row_at.Goals as goal

pub overflow_add-rows : goal.overflow_add-rows
overflow_add-rows c = rw c.self.view_is (omega (arith, laid-as c.self.view_is c.self.invariant))

pub overflow_mul-rows : goal.overflow_mul-rows
overflow_mul-rows c = rw c.self.view_is (omega (arith, laid-as c.self.view_is c.self.invariant))

pub overflow_mul-rows-2 : goal.overflow_mul-rows-2
overflow_mul-rows-2 c = rw c.self.view_is (fits-mul 64800000 80076800 tt c.requires.in_range (laid-as c.self.view_is c.self.invariant).rows.most)

pub overflow_sub-rows : goal.overflow_sub-rows
overflow_sub-rows c = rw c.self.view_is (row_fits _ (laid-as c.self.view_is c.self.invariant) _ c.requires.in_range)

pub overflow_add-rows-2 : goal.overflow_add-rows-2
overflow_add-rows-2 c = rw c.self.view_is (omega (arith, laid-as c.self.view_is c.self.invariant))

pub overflow_cast-rows : goal.overflow_cast-rows
overflow_cast-rows c = rw c.self.view_is (omega (arith, laid-as c.self.view_is c.self.invariant))

pub overflow_cast-half : goal.overflow_cast-half
overflow_cast-half c = rw c.self.view_is (omega (arith, laid-as c.self.view_is c.self.invariant))

pub returns : goal.returns
returns c =
    let k = c.args.self in
    let north = c.args.north in
    let x : ℕ = (k.north + k.b / 2) * circle - north * k.b in
    told ((x + (half - inward c.args.pair)) / circle) (k.b / 2) c.difference.type_inv
    ((rw c.self.view_is at c.difference.ensures) ∙ ap (λ (o : ℕ). pos ((x + (half - o)) / circle) -ℤ pos (k.b / 2)) c.inward.ensures)
    (row_at k (laid-as c.self.view_is c.self.invariant) c.args.pair (pos north -ℤ pos quarter) north (is-difference north quarter) c.requires.in_range)
