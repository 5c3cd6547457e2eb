-- What `search` leaves: claims that answer with records. Assumes nothing.
use Rattle.tiles.proofs.PartOf.{part-is}
use Rattle.tiles.proofs.laws.look_ups_ask_one_tile.Goals as goal

pub returns-clause-part : goal.returns-clause-part
returns-clause-part c = part-is
