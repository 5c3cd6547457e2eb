-- The texts one after the other. Assumes nothing.
use Rattle.std.proofs.Common.{arith}
use Rattle.text.proofs.Splices.{put_then}
use Rattle.printing.proofs.Short.{put, refusal-short}
use Rattle.printing.proofs.start.put_refusal.Goals as goal

pub returns : goal.returns
returns c =
    let p1 = c.put_bytes-o1.ensures in
    let p2 = rw (c.from.ensures, c.number.ensures) at c.put_decimal-o2.ensures in
    let p3 = c.put_byte-o3.ensures in
    let p4 = rw c.place.ensures at c.put_decimal-o4.ensures in
    let p5 = c.put_byte.ensures in
    let p = put_then (put_then (put p1.answer p1.left) (put p2.answer p2.left)) (put p3.answer p3.left) in
    put_then (put_then p (put p4.answer p4.left)) (put p5.answer p5.left) (omega (arith, refusal-short c.args.refusal))
