-- The texts one after the other; a row and a column take at most ten bytes each, so all of them fit. Assumes nothing.
use Rattle.std.proofs.Common.{◌++◌, arith, length-append}
use Rattle.text.specs.Text.{bytes, decimal}
use Rattle.text.proofs.Splices.{put_then, put-length}
use Rattle.printing.specs.Printed.{answer_text}
use Rattle.printing.proofs.Short.{put, answer-short, lead-short, lead-put}
use Rattle.printing.proofs.line.put_line.Goals as goal

pub put_answer-requires : goal.put_answer-requires
put_answer-requires c =
    let a = c.args in
    let row = c.ranges.row.fits in
    let column = c.ranges.column.fits in
    let p1 = rw c.from.ensures at c.put_decimal-o1.ensures in
    let p2 = c.put_byte-o2.ensures in
    let p3 = rw c.from-2.ensures at c.put_decimal-o3.ensures in
    let p4 = c.put_byte-o4.ensures in
    let l = lead-put a.row a.column (omega arith) (omega arith) (omega arith) (put p1.answer p1.left) (put p2.answer p2.left) in
    let p = l (put p3.answer p3.left) (put p4.answer p4.left) in
    rw (put-length p) (omega (arith, p.ends, lead-short a.row a.column (omega arith) (omega arith)))

pub returns : goal.returns
returns c =
    let a = c.args in
    let row = c.ranges.row.fits in
    let column = c.ranges.column.fits in
    let p1 = rw c.from.ensures at c.put_decimal-o1.ensures in
    let p2 = c.put_byte-o2.ensures in
    let p3 = rw c.from-2.ensures at c.put_decimal-o3.ensures in
    let p4 = c.put_byte-o4.ensures in
    let l = lead-put a.row a.column (omega arith) (omega arith) (omega arith) (put p1.answer p1.left) (put p2.answer p2.left) in
    let p = l (put p3.answer p3.left) (put p4.answer p4.left) in
    let n = length-append (decimal a.row ++ bytes " " ++ decimal a.column ++ bytes " ") (answer_text a.answer) in
    put_then (λ h. p) (λ h. c.put_answer.ensures)
    (omega (arith, n, lead-short a.row a.column (omega arith) (omega arith), answer-short a.answer))
