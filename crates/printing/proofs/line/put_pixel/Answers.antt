-- The line's two numbers decide. Assumes nothing.
use Rattle.std.proofs.Common.{arith, w64}
use mir.ValLaws.{to_z-of_z}
use Rattle.printing.specs.Printed.{line_for}
use Rattle.printing.proofs.Short.{put}
use Rattle.printing.proofs.line.put_pixel.Goals as goal

pub returns-in_default : goal.returns-in_default
unfolding line_for
returns-in_default c = let p = c.put_bytes.ensures in rw (← c.in_default.ensures) (put p.answer p.left (omega arith))

pub returns : goal.returns
unfolding line_for
returns c =
    let row = to_z-of_z w64 c.from.result (record { sfits = c.from.type_inv }) in
    let column = to_z-of_z w64 c.from-2.result (record { sfits = c.from-2.type_inv }) in
    let p = rw (row, column, c.from.ensures, c.from-2.ensures) at c.position_in-answer.ensures in
    rw (← c.in-Some.ensures, ← p) c.put_line.ensures
