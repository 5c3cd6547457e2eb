-- Each line starts further on than the one before it, and its text fits the buffer. Assumes nothing.
use Rattle.std.proofs.Common.{sym, arith, length-take-le}
use Rattle.printing.proofs.Short.{line_fits}
use Rattle.printing.proofs.Served.{next_further}
use Rattle.printing.proofs.Whole.{line-turn, sofar-next, sofar-end, none-left}
use Rattle.printing.proofs.print_lines.Goals as goal

pub slice_bounds-buffer-end : goal.slice_bounds-buffer-end
slice_bounds-buffer-end g c = omega (arith, line_fits _ _ _ _ c.pixel_line-line.ensures.answer)

pub slice_bounds-write_all-end : goal.slice_bounds-write_all-end
slice_bounds-write_all-end g c = sym (length-take-le _ _ (omega (arith, line_fits _ _ _ _ c.pixel_line-line.ensures.answer)))

pub loop-at-smaller : goal.loop-at-smaller
loop-at-smaller g c = omega (arith, next_further _ _ _ _ c.pixel_line-line.ensures.answer (omega arith) (omega arith))

pub loop-at-preserved : goal.loop-at-preserved
loop-at-preserved g c =
    let p = c.pixel_line-line.ensures in
    let e = line-turn _ _ _ _ (omega arith) c.requires (omega arith) p.answer p.left in
    record { put = sofar-next _ _ _ _ _ _ _ c.loop-at.invariant.put c.in_ok-write_all.ensures.bytes e }

pub returns : goal.returns
returns g c = sofar-end _ _ _ _ c.loop-at.invariant.put (none-left c.args.card c.args.input.now c.loop-at.at (omega arith))
