-- Each turn passes an entry or stops at a bad one. Assumes nothing.
use Rattle.std.proofs.Common.{refl, arith}
use Rattle.tiles.proofs.Pass.{begun, number-le, stop-above, stop-again, pass-none, pass-new, done-short, done_all}
use Rattle.tiles.proofs.check.mark_entries.Goals as goal
use Rattle.tiles.proofs.check.mark_entries.Goals.{then-e-ne0+else-marks-e-ne0, else-e-ne0}

pub loop-i-init : goal.loop-i-init
loop-i-init c = begun c.args.count c.args.index.now c.args.marks.now c.requires.cleared

pub overflow_add-named : goal.overflow_add-named
overflow_add-named c = omega (arith, number-le _ _ _ _ _ _ c.loop-i.invariant)

pub loop-i-preserved : goal.loop-i-preserved
loop-i-preserved c =
    let i = c.loop-i.invariant in
    let h = c.loop-i-test.true in
    elim c.if-e-ne0.branch [
      | then-e-ne0+else-marks-e-ne0 w ↦ rw (w.marks-is, w.named-is) (pass-new _ _ _ _ _ _ i h c.if-count-e.false w.if-e-ne0.true w.if-marks-e-ne0.false)
      | else-e-ne0 w ↦ rw (w.marks-is, w.named-is) (pass-none _ _ _ _ _ _ i h w.if-e-ne0.false)
    ]

pub returns-then-count-e-clause-answer : goal.returns-then-count-e-clause-answer
returns-then-count-e-clause-answer c =
    (stop-above _ _ _ _ _ _ c.loop-i.invariant c.loop-i-test.true _ refl c.if-count-e.true).0

pub returns-then-count-e-clause-left : goal.returns-then-count-e-clause-left
returns-then-count-e-clause-left c =
    (stop-above _ _ _ _ _ _ c.loop-i.invariant c.loop-i-test.true _ refl c.if-count-e.true).1

pub returns-then-marks-e-ne0-clause-answer : goal.returns-then-marks-e-ne0-clause-answer
returns-then-marks-e-ne0-clause-answer c =
    (stop-again _ _ _ _ _ _ c.loop-i.invariant c.loop-i-test.true _ refl c.if-count-e.false c.if-e-ne0.true c.if-marks-e-ne0.true).0

pub returns-then-marks-e-ne0-clause-left : goal.returns-then-marks-e-ne0-clause-left
returns-then-marks-e-ne0-clause-left c =
    (stop-again _ _ _ _ _ _ c.loop-i.invariant c.loop-i-test.true _ refl c.if-count-e.false c.if-e-ne0.true c.if-marks-e-ne0.true).1

pub returns-then-named-count-clause-answer : goal.returns-then-named-count-clause-answer
returns-then-named-count-clause-answer c =
    (done-short _ _ _ _ _ _ c.loop-i.invariant c.loop-i-test.false _ refl c.if-named-count.true).0

pub returns-then-named-count-clause-left : goal.returns-then-named-count-clause-left
returns-then-named-count-clause-left c =
    (done-short _ _ _ _ _ _ c.loop-i.invariant c.loop-i-test.false _ refl c.if-named-count.true).1

pub returns-clause-answer : goal.returns-clause-answer
returns-clause-answer c =
    (done_all _ _ _ _ _ _ c.loop-i.invariant c.loop-i-test.false c.if-named-count.false).0

pub returns-clause-left : goal.returns-clause-left
returns-clause-left c =
    (done_all _ _ _ _ _ _ c.loop-i.invariant c.loop-i-test.false c.if-named-count.false).1
