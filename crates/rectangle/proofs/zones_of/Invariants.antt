-- The list so far with what the rest adds is the whole. Assumes nothing.
use Rattle.std.proofs.Common.{◌<◌, length}
use Rattle.rectangle.proofs.Turn.{Sofar}
use Rattle.rectangle.proofs.zones_of.Given as goal

abbrev pub invariant-loop-zone : goal.invariant-loop-zone
invariant-loop-zone l = record { few : length l.zones.items < l.zone; sofar : Sofar l.b l.south l.north l.zones.items l.zone }
