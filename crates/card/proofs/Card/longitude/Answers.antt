-- The nearest hundredth, counted from 180° west and brought into range, is that of the column's exact place. Assumes nothing.
use Rattle.std.proofs.Common.{ℕ, ◌+◌, ◌*◌, ◌%◌, ap, ◌∙◌, arith, pos, ◌-ℤ◌}
use Rattle.whole.proofs.Machine.{told}
use Rattle.whole.specs.Whole.{near}
use Rattle.arc.specs.Zones.{circle, half}
use Rattle.card.specs.Steps.{inward}
use Rattle.card.proofs.Known.{laid-as}
use Rattle.card.proofs.Pairs.{inward-high}
use Rattle.card.proofs.Axes.{longitude-is}
use Rattle.card.proofs.Card.longitude.Goals as goal

pub overflow_add-exact : goal.overflow_add-exact
overflow_add-exact c = rw c.self.view_is (omega (arith, laid-as c.self.view_is c.self.invariant, c.requires.in_tiles))

pub overflow_mul-exact : goal.overflow_mul-exact
overflow_mul-exact c = rw c.self.view_is (omega (arith, laid-as c.self.view_is c.self.invariant, c.requires.in_tiles))

pub overflow_add-exact-2 : goal.overflow_add-exact-2
overflow_add-exact-2 c = rw c.self.view_is (omega (
  arith,
  laid-as c.self.view_is c.self.invariant,
  c.requires.in_tiles,
  c.inward.ensures,
  inward-high c.args.pair,
))

pub returns : goal.returns
returns c =
    let k = c.args.self in
    let v : ℕ = (k.east + c.args.column) * circle in
    told (near (v + inward c.args.pair) k.a % circle) half c.difference.type_inv
    (c.difference.ensures
    ∙ ap (λ (n : ℕ). pos (n % circle) -ℤ pos half)
    ((rw c.self.view_is at c.nearest-east.ensures) ∙ ap (λ (o : ℕ). near (v + o) k.a) c.inward.ensures))
    (longitude-is k (laid-as c.self.view_is c.self.invariant) c.args.pair c.args.column)
