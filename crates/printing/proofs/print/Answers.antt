-- The first text and the lines are the whole. Assumes nothing.
use Rattle.std.proofs.Common.{arith}
use Rattle.printing.proofs.Short.{opening_taken}
use Rattle.std.proofs.KnownBytes.{Appends-trans}
use Rattle.printing.proofs.Whole.{whole-some, whole-none, on-ok}
use Rattle.printing.proofs.print.Goals as goal

pub print_lines-requires : goal.print_lines-requires
print_lines-requires g c = opening_taken _ _ c.opening-first.ensures.answer c.in-Some.is

pub returns-in-Some : goal.returns-in-Some
returns-in-Some g c =
    let o = c.opening-first.ensures in
    let e = whole-some _ _ (omega arith) o.answer o.left c.in-Some.is in
    on-ok c.print_lines.result c.print_lines.ensures (λ p. rw (← e) (Appends-trans _ _ _ _ _ c.in_ok-write_all.ensures.bytes p))

pub returns-in-None : goal.returns-in-None
returns-in-None g c =
    let o = c.opening-first.ensures in
    rw (whole-none _ _ (omega arith) o.answer o.left c.in-None.is) at c.in_ok-write_all.ensures.bytes
