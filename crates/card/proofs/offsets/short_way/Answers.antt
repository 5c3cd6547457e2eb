-- A circle and a half more keeps the difference from being negative, and the circle goes again in the modulo. Assumes nothing.
use Rattle.std.proofs.Common.{◌+◌, ◌-◌, ◌%◌, pos, ◌-ℤ◌}
use Rattle.whole.proofs.Machine.{told}
use Rattle.whole.proofs.Signed.{is-difference}
use Rattle.arc.specs.Zones.{circle, half}
use Rattle.card.proofs.Doubles.{short-is}
use Rattle.card.proofs.offsets.short_way.Goals as goal

pub returns : goal.returns
returns c =
    let e = c.args.east in
    let m = c.args.centre in
    told ((e + 194400000 - m) % circle) half c.difference.type_inv c.difference.ensures
    (short-is (pos e -ℤ pos m) e m c.requires.centre_in_range (is-difference e m))
