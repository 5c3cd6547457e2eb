-- The nearest hundredth, counted from the South Pole, is that of the row's exact place. Assumes nothing.
use Rattle.std.proofs.Common.{ℕ, ◌-◌, ◌*◌, ap, ◌∙◌, arith, pos, ◌-ℤ◌}
use Rattle.whole.proofs.Machine.{told}
use Rattle.whole.specs.Whole.{near}
use Rattle.arc.specs.Zones.{circle, quarter}
use Rattle.card.specs.Steps.{inward}
use Rattle.card.proofs.Known.{laid-as}
use Rattle.card.proofs.Pairs.{inward-high}
use Rattle.card.proofs.Axes.{latitude-is, latitude-high}
use Rattle.card.proofs.Card.latitude.Goals as goal

pub overflow_sub-exact : goal.overflow_sub-exact
overflow_sub-exact c = rw c.self.view_is (omega (arith, laid-as c.self.view_is c.self.invariant, c.requires.in_tiles))

pub overflow_mul-exact : goal.overflow_mul-exact
overflow_mul-exact c = rw c.self.view_is (omega (arith, laid-as c.self.view_is c.self.invariant))

pub overflow_sub-exact-2 : goal.overflow_sub-exact-2
overflow_sub-exact-2 c = rw c.self.view_is (omega (
  arith,
  laid-as c.self.view_is c.self.invariant,
  c.requires.in_tiles,
  c.inward.ensures,
  inward-high c.args.pair,
))

pub overflow_cast-nearest : goal.overflow_cast-nearest
overflow_cast-nearest c =
    let k = c.args.self in
    let l = laid-as c.self.view_is c.self.invariant in
    omega (arith, latitude-high k l (k.north - c.args.row) c.inward.result (omega (arith, l)), rw c.self.view_is at c.nearest.ensures)

pub returns : goal.returns
returns c =
    let k = c.args.self in
    let l = laid-as c.self.view_is c.self.invariant in
    let y : ℕ = (k.north - c.args.row) * circle in
    told (near (y - inward c.args.pair) k.b) quarter c.difference.type_inv
    (c.difference.ensures
    ∙ ap (λ (n : ℕ). pos n -ℤ pos quarter) ((rw c.self.view_is at c.nearest.ensures) ∙ ap (λ (o : ℕ). near (y - o) k.b) c.inward.ensures))
    (latitude-is k l c.args.pair c.args.row (omega (arith, l, c.requires.in_tiles)))
