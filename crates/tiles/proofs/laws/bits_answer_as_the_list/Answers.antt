-- What `search` leaves: claims that answer with records. Assumes nothing.
use Rattle.tiles.proofs.AsList.{bits-have-list}
use Rattle.tiles.proofs.laws.bits_answer_as_the_list.Goals as goal

pub returns-clause-list : goal.returns-clause-list
returns-clause-list c = bits-have-list
