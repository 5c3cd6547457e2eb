use Rattle.card_text.proofs.Strict.{same-without, strict-accepts, tolerant-accepts}
use Rattle.card_text.proofs.laws.strict_reading_is_reading_without_blanks.Goals as goal

pub returns-clause-same : goal.returns-clause-same
returns-clause-same c = same-without

pub returns-clause-accepts : goal.returns-clause-accepts
returns-clause-accepts c = strict-accepts

pub returns-clause-tolerant : goal.returns-clause-tolerant
returns-clause-tolerant c = tolerant-accepts
