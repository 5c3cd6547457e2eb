use Rattle.round_trip.proofs.Town.{written-scale, town-not-written, held-not-written}
use Rattle.round_trip.proofs.laws.town_scales_are_not_written.Goals as goal

pub returns-clause-scale : goal.returns-clause-scale
returns-clause-scale c = written-scale

pub returns-clause-town : goal.returns-clause-town
returns-clause-town c = town-not-written

pub returns-clause-held : goal.returns-clause-held
returns-clause-held c = held-not-written
