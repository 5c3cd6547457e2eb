-- A buffer with room holds the whole of it. Assumes nothing.
use Rattle.std.proofs.Common.{arith}
use Rattle.printing.proofs.Openings.{whole-opened, whole-left}
use Rattle.printing.proofs.opening.Goals as goal

pub returns-clause-answer : goal.returns-clause-answer
returns-clause-answer c = whole-opened _ _ (omega arith) c.opening_of.ensures

pub returns-clause-left : goal.returns-clause-left
returns-clause-left c = whole-left _ _ (omega arith) c.opening_of.ensures
