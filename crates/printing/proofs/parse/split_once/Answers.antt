-- The place of the byte parts the text. Assumes nothing.
use Rattle.std.proofs.Common.{take_all, ◌∙◌, ◌+◌, arith, length-drop}
use Rattle.printing.proofs.Scan.{cut-is}
use Rattle.printing.proofs.parse.split_once.Goals as goal

pub returns-in_err-at : goal.returns-in_err-at
returns-in_err-at c = rw c.from_residual.ensures (cut-is _ _ c.in_err-at.ensures)

pub returns : goal.returns
returns c =
    let h = cut-is c.args.byte c.args.s.now c.in_ok-at.ensures in
    (h.1, take_all _ _ (omega (arith, length-drop (c.in_ok-at.at + 1) c.args.s.now)) ∙ h.2)
