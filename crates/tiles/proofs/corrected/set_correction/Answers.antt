-- The list is as long as the tiles, and the number at most their count. Assumes nothing.
use Rattle.std.proofs.Common.{sym, ◌∙◌, arith}
use Rattle.tiles.proofs.Sources.{list-long, corrected_most}
use Rattle.tiles.proofs.corrected.set_correction.Goals as goal

pub overflow_cast-corrections : goal.overflow_cast-corrections
overflow_cast-corrections c =
    omega (arith, c.tiles_of.ensures.is, c.tiles_of.ensures.few, corrected_most _ _ _ (sym c.list_wrong.ensures.is ∙ c.if-list_wrong.false))

pub bounds-corrections-tile : goal.bounds-corrections-tile
bounds-corrections-tile c = omega (arith, c.tiles_of.ensures.is, list-long _ _ _ (sym c.list_wrong.ensures.is ∙ c.if-list_wrong.false))
