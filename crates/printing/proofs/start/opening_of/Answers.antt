-- The tests are the definition's, in its order. Assumes nothing.
use Rattle.std.proofs.Common.{arith}
use Rattle.printing.proofs.Openings.{opened-long, opened-bad, opened-two}
use Rattle.printing.proofs.start.opening_of.Goals as goal

pub returns-then-end-gt-LONGEST : goal.returns-then-end-gt-LONGEST
returns-then-end-gt-LONGEST c = rw (← opened-long c.args.input.now (omega arith)) c.stop_with.ensures

pub returns-then-end-from : goal.returns-then-end-from
returns-then-end-from c =
    rw (← opened-bad c.args.input.now _ c.line_at-first.ensures.line (omega arith) c.if-end-from.true) c.stop_with-then-end-from.ensures

pub returns-in_default : goal.returns-in_default
returns-in_default c =
    let e = opened-two c.args.input.now _ c.line_at-first.ensures.line (omega arith) _ (omega arith) c.line_at-second.ensures.line in
    rw (← e, ← c.in_default.ensures) c.stop_with-in_default.ensures

pub returns : goal.returns
returns c =
    let e = opened-two c.args.input.now _ c.line_at-first.ensures.line (omega arith) _ (omega arith) c.line_at-second.ensures.line in
    let r = rw (c.from.ensures, c.from-2.ensures) at c.read-answer.ensures in
    rw (← e, ← c.in-Some.ensures, ← r) c.opened.ensures
