-- The texts one after the other, of a refusal. Assumes nothing.
use Rattle.std.proofs.Common.{arith, Err}
use Rattle.text.proofs.Splices.{put_then}
use Rattle.printing.proofs.Short.{put, answer-short}
use Rattle.printing.proofs.line.put_answer.Goals as goal

pub returns-in-Err : goal.returns-in-Err
returns-in-Err c =
    let p1 = c.put_bytes-o1.ensures in
    let p2 = rw (c.from.ensures, c.number.ensures) at c.put_decimal-o2.ensures in
    let p3 = c.put_byte.ensures in
    let p = put_then (put_then (put p1.answer p1.left) (put p2.answer p2.left)) (put p3.answer p3.left) in
    rw c.in-Err.is (p (omega (arith, answer-short (Err c.in-Err.refusal))))
