use Rattle.card.proofs.Alike.{answer-alike, alike-exactly}
use Rattle.card.proofs.Copies.{place-alike, bytes-alike}
use Rattle.card.proofs.laws.copies_answer_alike.Goals as goal

pub returns-clause-alike : goal.returns-clause-alike
returns-clause-alike c = answer-alike

pub returns-clause-exactly : goal.returns-clause-exactly
returns-clause-exactly c = alike-exactly

pub returns-clause-place : goal.returns-clause-place
returns-clause-place c = place-alike

pub returns-clause-bytes : goal.returns-clause-bytes
returns-clause-bytes c = bytes-alike
