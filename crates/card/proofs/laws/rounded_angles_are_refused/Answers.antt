use Rattle.card.proofs.Copies.{rounded-again, moved-refused}
use Rattle.card.proofs.laws.rounded_angles_are_refused.Goals as goal

pub returns-clause-tile : goal.returns-clause-tile
returns-clause-tile c = rounded-again

pub returns-clause-card : goal.returns-clause-card
returns-clause-card c = moved-refused
