use Rattle.card_text.proofs.Strict.{at-most-37, refused_none}
use Rattle.card_text.proofs.laws.at_most_37_blanks.Goals as goal

pub returns-clause-most : goal.returns-clause-most
returns-clause-most c = at-most-37

pub returns-clause-refused : goal.returns-clause-refused
returns-clause-refused c = refused_none
