use Rattle.card.proofs.Chain.{no-drift}
use Rattle.card.proofs.Places.{gives-exactly, only-pixel, refuses-exactly, asked-alike}
use Rattle.card.proofs.laws.positions_do_not_drift.Goals as goal

pub returns-clause-walk : goal.returns-clause-walk
returns-clause-walk c = no-drift

pub returns-clause-gives : goal.returns-clause-gives
returns-clause-gives c = gives-exactly

pub returns-clause-only : goal.returns-clause-only
returns-clause-only c = only-pixel

pub returns-clause-refuses : goal.returns-clause-refuses
returns-clause-refuses c = refuses-exactly

pub returns-clause-asked : goal.returns-clause-asked
returns-clause-asked c = asked-alike
