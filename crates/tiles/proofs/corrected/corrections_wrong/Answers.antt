-- The count is at most the tiles. Assumes nothing.
use Rattle.std.proofs.Common.{sym, ◌∙◌, arith}
use Rattle.tiles.proofs.Entry.{tiles_small}
use Rattle.tiles.proofs.Sources.{corrected_most}
use Rattle.tiles.proofs.corrected.corrections_wrong.Goals as goal

pub overflow_mul-result : goal.overflow_mul-result
overflow_mul-result c = omega (arith, tiles_small _ c.list_wrong.ensures.known, corrected_most _ _ _ (sym c.list_wrong.ensures.is ∙ c.if-list_wrong.false))
