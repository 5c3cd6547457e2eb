-- What is left of the list decides, after the entries passed. Assumes nothing.
use Rattle.std.proofs.Common.{◌≡◌, ◌≤◌, drop}
use Rattle.convert.specs.Convert.{in_order}
use Rattle.convert.proofs.in_order.Given as goal

abbrev pub invariant-loop-entry : goal.invariant-loop-entry
invariant-loop-entry l = (l.named ≤ l.entry-index) × (in_order 0 l.index ≡ in_order l.named (drop l.entry-index l.index))
