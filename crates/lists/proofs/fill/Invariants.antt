use Rattle.std.proofs.Common.{◌-◌, length}
use Rattle.lists.specs.Lists.{entries, report_at}
use Rattle.lists.proofs.Entries.{Filled}
use Rattle.lists.proofs.fill.Given as goal

-- the entries before i, and their numbers, are the reports of those handed in, and the numbers after them are zero
abbrev pub invariant-loop-i : goal.invariant-loop-i
invariant-loop-i l =
    Filled (report_at l.engine.pair l.asked l.engine.card l.list) (entries (length l.list)) l.fn.values l.fn.numbers l.i l.values l.numbers

abbrev pub decreases-loop-i : goal.decreases-loop-i
decreases-loop-i l = l.n - l.i
