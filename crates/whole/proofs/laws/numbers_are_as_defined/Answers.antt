use Rattle.whole.proofs.Held.{floors, ceils, nearests}
use Rattle.whole.proofs.laws.numbers_are_as_defined.Goals as goal

pub returns-clause-floor : goal.returns-clause-floor
returns-clause-floor c = floors

pub returns-clause-ceil : goal.returns-clause-ceil
returns-clause-ceil c = ceils

pub returns-clause-nearest : goal.returns-clause-nearest
returns-clause-nearest c = nearests
