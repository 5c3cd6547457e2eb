use Rattle.std.proofs.Common.{◌≤◌, length}
use Rattle.ask.proofs.words.read_list.Given as goal

abbrev pub invariant-loop-word : goal.invariant-loop-word
invariant-loop-word g l = l.n ≤ length l.out
