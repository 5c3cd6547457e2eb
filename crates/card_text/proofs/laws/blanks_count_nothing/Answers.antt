use Rattle.card_text.proofs.Strict.{digits-alone, one-digit}
use Rattle.card_text.proofs.laws.blanks_count_nothing.Goals as goal

pub returns-clause-alone : goal.returns-clause-alone
returns-clause-alone c = digits-alone

pub returns-clause-one : goal.returns-clause-one
returns-clause-one c = one-digit
