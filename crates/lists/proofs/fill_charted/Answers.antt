use Rattle.std.proofs.Common.{arith}
use Rattle.lists.proofs.Entries.{charted_next}
use Rattle.lists.proofs.fill_charted.Goals as goal

pub loop-i-preserved : goal.loop-i-preserved
loop-i-preserved c =
    let told = rw c.entry_at.ensures at c.in-Some.ensures in
    charted_next _ _ _ _ c.loop-i.invariant (omega arith) _ _ told c.put_entry.ensures
