use Rattle.std.proofs.Common.{length}
use Rattle.lists.specs.Entries.{AskedEntries}
use Rattle.lists.specs.Lists.{entries, report_at}
use Rattle.lists.proofs.fill_asked.Given as goal

-- what is ensured, as far as the entry
abbrev pub invariant-loop-i : goal.invariant-loop-i
invariant-loop-i l =
    AskedEntries (report_at l.engine.pair l.asked l.engine.card l.list) (entries (length l.list)) l.fn.from l.i l.fn.values l.values l.fn.numbers l.numbers
