use Rattle.std.proofs.Common.{◌-◌, length, drop}
use Rattle.printing.specs.Lines.{lines_of}
use Rattle.printing.specs.Printed.{lines_for}
use Rattle.printing.proofs.Whole.{SoFar}
use Rattle.printing.proofs.print_lines.Given as goal

abbrev pub invariant-loop-at : goal.invariant-loop-at
invariant-loop-at g l = record {
  put : SoFar (g.W.Write.contents l.fn.out) (g.W.Write.contents l.out)
      (lines_for l.card (lines_of (drop l.start l.input))) (lines_for l.card (lines_of (drop l.at l.input)));
}

abbrev pub decreases-loop-at : goal.decreases-loop-at
decreases-loop-at g l = length l.input - l.at
