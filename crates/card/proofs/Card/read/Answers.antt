-- What is read is known. Assumes nothing.
use Rattle.std.proofs.Common.{sym, ◌∙◌}
use Rattle.card.proofs.Known.{read-known}
use Rattle.card.proofs.Card.read.Goals as goal

pub invariant_of-result : goal.invariant_of-result
invariant_of-result c =
    read-known c.args.series c.args.bytes.now _ c.in_ok-reading.reading.blanks (sym c.read_card.ensures ∙ c.in_ok-reading.was)
