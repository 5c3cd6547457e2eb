use Rattle.arc.proofs.Answered.{answered-grids}
use Rattle.arc.proofs.laws.answers_lie_on_the_grid.Goals as goal

pub returns : goal.returns
returns c = answered-grids
