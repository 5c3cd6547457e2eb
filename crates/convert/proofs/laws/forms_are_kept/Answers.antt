-- The lemmas of the claims. Assumes nothing.
use Rattle.convert.proofs.RoundTrip.{to-bits-forms, to-list-forms, forms-in-order, bits-and-back, list-and-back}
use Rattle.convert.proofs.laws.forms_are_kept.Goals as goal

pub returns-clause-bits : goal.returns-clause-bits
returns-clause-bits c = to-bits-forms

pub returns-clause-list : goal.returns-clause-list
returns-clause-list c = to-list-forms

pub returns-clause-order : goal.returns-clause-order
returns-clause-order c = forms-in-order

pub returns-clause-bits_and_back : goal.returns-clause-bits_and_back
returns-clause-bits_and_back c = bits-and-back

pub returns-clause-list_and_back : goal.returns-clause-list_and_back
returns-clause-list_and_back c = list-and-back
