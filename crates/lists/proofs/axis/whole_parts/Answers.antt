use native.Mathlib.Nat.{lt_of_le_of_lt}
use lib.Signed.{mag_shr}
use mir.Syntax.{w64}
use mir.ValLaws.{to_z-of_z}
use Rattle.whole.proofs.Machine.{result-is}
use Rattle.lists.proofs.Floors.{shift-floor}
use Rattle.lists.proofs.axis.whole_parts.Goals as goal

pub returns : goal.returns
returns c =
    rw (to_z-of_z w64 c.args.x c.ranges.x)
    (result-is (lt_of_le_of_lt (mag_shr c.args.x 68719476736) c.ranges.x.sfits) (shift-floor c.args.x 68719476736))
