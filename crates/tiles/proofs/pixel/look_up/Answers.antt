-- An index that is accepted says what lies in the stores. Assumes nothing.
use Rattle.std.proofs.Common.{sym, ◌∙◌}
use Rattle.card.proofs.Answers.{pair-asked}
use Rattle.tiles.specs.LookUp.{found_of}
use Rattle.tiles.proofs.PixelTile.{lies_told}
use Rattle.tiles.proofs.pixel.look_up.Goals as goal

pub returns-clause-lies : goal.returns-clause-lies
returns-clause-lies g c =
    let a = c.args in
    let v = g.I.TileIndex.view a.index.now a.card in
    lies_told a.card v a.stores.base.now a.stores.corrections.now a.row a.column (g.met.I.TileIndex.held a.index.now a.card)
    (sym c.check_with.ensures ∙ c.in_ok-check_with.was) c.found.result
    (c.found.ensures ∙ pair-asked (found_of a.card v.says) c.ranges.row c.ranges.column)
