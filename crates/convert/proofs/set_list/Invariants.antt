-- The entries passed are the tiles' numbers, and the count so far is that of the ones. Assumes nothing.
use Rattle.std.proofs.Common.{◌≡◌, ◌++◌, drop}
use Rattle.presence.specs.Presence.{counted, number_at}
use Rattle.tiles.proofs.Listed.{listed}
use Rattle.convert.proofs.set_list.Given as goal

abbrev pub invariant-loop-tile : goal.invariant-loop-tile
invariant-loop-tile l = (l.stored ≡ counted l.words l.tile) × (l.index ≡ listed (number_at l.words) l.tile ++ drop l.tile l.fn.index)
