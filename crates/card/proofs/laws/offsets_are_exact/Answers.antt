use Rattle.card.proofs.Doubles.{exact}
use Rattle.card.proofs.laws.offsets_are_exact.Goals as goal

pub returns : goal.returns
returns c = exact
