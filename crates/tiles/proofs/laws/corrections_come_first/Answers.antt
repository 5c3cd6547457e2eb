-- What `search` leaves: claims that answer with records. Assumes nothing.
use Rattle.tiles.proofs.Corrections.{standby-alike, zero-as-base, base-not-consulted, either-part-is, missing-in-both}
use Rattle.tiles.proofs.laws.corrections_come_first.Goals as goal

pub returns-clause-standby : goal.returns-clause-standby
returns-clause-standby c = standby-alike

pub returns-clause-zero : goal.returns-clause-zero
returns-clause-zero c = zero-as-base

pub returns-clause-base : goal.returns-clause-base
returns-clause-base c = base-not-consulted

pub returns-clause-part : goal.returns-clause-part
returns-clause-part c = either-part-is

pub returns-clause-missing : goal.returns-clause-missing
returns-clause-missing c = missing-in-both
