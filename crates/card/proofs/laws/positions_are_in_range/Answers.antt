use Rattle.card.proofs.Answered.{answered-in-range}
use Rattle.card.proofs.laws.positions_are_in_range.Goals as goal

pub returns : goal.returns
returns c = answered-in-range
