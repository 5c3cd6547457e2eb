-- The nearest tile is at most one past the circle, so no product is too large; the two bounds decide the case. Assumes nothing.
use Rattle.std.proofs.Common.{sym, ◌∙◌, arith}
use native.Mathlib.Nat.{mul-le-mul}
use Rattle.whole.proofs.Machine.{fits-mul}
use Rattle.card_text.proofs.Axes.{found-back, found-test}
use Rattle.card_text.proofs.stored.tile_of.Goals as goal

pub overflow_mul-asked : goal.overflow_mul-asked
overflow_mul-asked c = fits-mul 129600000 80076800 tt c.requires c.count-spacing.ensures.on_grid.most

pub overflow_mul-found : goal.overflow_mul-found
overflow_mul-found c = omega (arith, found-back c.count-spacing.ensures.on_grid c.args.angle c.nearest-k.result c.requires c.nearest-k.ensures)

pub is_nearest-requires-clause-asked_few : goal.is_nearest-requires-clause-asked_few
is_nearest-requires-clause-asked_few c = omega (arith, mul-le-mul c.requires c.count-spacing.ensures.on_grid.most)

pub is_nearest-requires-clause-found_few : goal.is_nearest-requires-clause-found_few
is_nearest-requires-clause-found_few c = omega (
  arith,
  found-back c.count-spacing.ensures.on_grid c.args.angle c.nearest-k.result
      c.requires c.nearest-k.ensures,
)

pub is_nearest-requires-clause-spacing_few : goal.is_nearest-requires-clause-spacing_few
is_nearest-requires-clause-spacing_few c = c.count-spacing.ensures.on_grid.most

pub returns-then-is_nearest : goal.returns-then-is_nearest
returns-then-is_nearest c =
    found-test c.count-spacing.ensures.on_grid c.args.angle c.nearest-k.result c.nearest-k.ensures (sym c.is_nearest.ensures ∙ c.if-is_nearest.true)
    ∙ rw c.count-spacing.ensures.value

pub returns : goal.returns
returns c =
    found-test c.count-spacing.ensures.on_grid c.args.angle c.nearest-k.result c.nearest-k.ensures (sym c.is_nearest.ensures ∙ c.if-is_nearest.false)
    ∙ rw c.count-spacing.ensures.value
