-- The ones of the tiles passed are counted, and they are not above the number.
use Rattle.std.proofs.Common.{◌≡◌, ◌*◌, ◌≤◌}
use Rattle.presence.specs.Presence.{counted}
use Rattle.presence.proofs.within.Given as goal

abbrev pub invariant-loop-word : goal.invariant-loop-word
invariant-loop-word l = record {
  passed : l.passed ≡ l.word-index * 64;
  inside : l.passed ≤ l.tiles;
  number : l.ones ≡ counted l.words l.passed;
  few : l.ones ≤ l.count;
}

abbrev pub invariant-loop-tile : goal.invariant-loop-tile
invariant-loop-tile l = record { number : l.ones ≡ counted l.words l.tile; few : l.ones ≤ l.count }
