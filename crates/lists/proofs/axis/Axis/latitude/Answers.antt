use Rattle.std.proofs.Common.{arith, ◌∙◌}
use Rattle.whole.proofs.Machine.{result-is}
use Rattle.lists.proofs.Floors.{latitude_floor}
use Rattle.lists.proofs.axis.Axis.latitude.Goals as goal

pub returns : goal.returns
returns c = result-is c.whole_parts.type_inv (c.whole_parts.ensures ∙ latitude_floor _ (omega arith))
