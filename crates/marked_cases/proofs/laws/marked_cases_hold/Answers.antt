use Rattle.marked_cases.proofs.AllHold.{all_hold}
use Rattle.marked_cases.proofs.laws.marked_cases_hold.Goals as goal

pub returns : goal.returns
returns c = all_hold
