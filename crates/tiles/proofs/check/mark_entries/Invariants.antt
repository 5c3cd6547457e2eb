-- The entries before the place are good and marked. Assumes nothing.
use Rattle.tiles.proofs.Pass.{Sofar}
use Rattle.tiles.proofs.check.mark_entries.Given as goal

abbrev pub invariant-loop-i : goal.invariant-loop-i
invariant-loop-i l = Sofar l.fn.count l.fn.index l.fn.marks l.marks l.named l.i
