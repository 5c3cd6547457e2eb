-- A line is within the input. Assumes nothing.
use Rattle.std.proofs.Common.{◌≡◌, ◌-◌, take, drop, length, take_all, arith, length-drop}
use Rattle.printing.proofs.Scan.{up_to-within}
use Rattle.printing.proofs.parse.line_at.Goals as goal

pub returns-in-Some-clause-within : goal.returns-in-Some-clause-within
returns-in-Some-clause-within c =
    let s = c.args.input.now in
    let at = c.args.at in
    let t : take (length s - at) (drop at s) ≡ drop at s = take_all _ _ (omega (arith, length-drop at s)) in
    rw (c.in-Some.ensures.0, t) (up_to-within 10 s at c.requires)
