-- The count is at most the tiles. Assumes nothing.
use Rattle.std.proofs.Common.{sym, ◌∙◌, arith}
use Rattle.tiles.proofs.Entry.{tiles_small, count_most}
use Rattle.tiles.proofs.list.ByList.is_wrong_with.Goals as goal

pub overflow_mul-result : goal.overflow_mul-result
overflow_mul-result c = omega (arith, tiles_small _ c.is_wrong.ensures.known, count_most _ _ _ (sym c.is_wrong.ensures.is ∙ c.if-is_wrong.false))
