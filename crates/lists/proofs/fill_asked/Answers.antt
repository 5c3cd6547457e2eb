use Rattle.std.proofs.Common.{arith, ap, sym, ◌∙◌}
use Rattle.arc.specs.Refusals.{Report}
use Rattle.lists.proofs.Entries.{asked_next}
use Rattle.lists.proofs.fill_asked.Goals as goal

pub returns-in-Ok-clause-told : goal.returns-in-Ok-clause-told
returns-in-Ok-clause-told c =
    let told = sym (rw c.entry_at.ensures at c.in-Ok.ensures) in
    asked_next _ _ _ _ c.loop-i.invariant (omega arith) _ _ _ (ap (λ (r : Report). r.values) told) (ap (λ (r : Report). r.number) told)
    c.put_entry.ensures

pub loop-i-preserved : goal.loop-i-preserved
loop-i-preserved c =
    let told = sym (rw c.entry_at.ensures at c.in-Err.ensures) in
    asked_next _ _ _ _ c.loop-i.invariant (omega arith) _ _ _ (ap (λ (r : Report). r.values) told) (ap (λ (r : Report). r.number) told ∙ sym c.number.ensures)
    c.put_entry-in-Err.ensures
