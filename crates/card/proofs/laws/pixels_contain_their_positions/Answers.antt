use Rattle.card.proofs.Containing.{found-contains, refused-contains, centre-inside, asked-back}
use Rattle.card.proofs.laws.pixels_contain_their_positions.Goals as goal

pub returns-clause-found : goal.returns-clause-found
returns-clause-found c = found-contains

pub returns-clause-refused : goal.returns-clause-refused
returns-clause-refused c = refused-contains

pub returns-clause-centre : goal.returns-clause-centre
returns-clause-centre c = centre-inside

pub returns-clause-back : goal.returns-clause-back
returns-clause-back c = asked-back
