-- What `search` leaves: claims that answer with records. Assumes nothing.
use Rattle.tiles.proofs.Setting.{other-pixels, from-new-entry}
use Rattle.tiles.proofs.laws.setting_touches_one_tile.Goals as goal

pub returns-clause-pixels : goal.returns-clause-pixels
returns-clause-pixels c = other-pixels

pub returns-clause-from_entry : goal.returns-clause-from_entry
returns-clause-from_entry c = from-new-entry
