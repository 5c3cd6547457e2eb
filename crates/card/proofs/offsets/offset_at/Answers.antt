-- A difference the short way is at most half a circle, so that the cast to a double loses nothing. Assumes nothing.
use Rattle.std.proofs.Common.{pos, ◌-ℤ◌, ℤ}
use Rattle.whole.proofs.Machine.{result-is}
use Rattle.whole.proofs.Signed.{is-difference}
use Rattle.card.specs.Grid.{into_range}
use Rattle.card.proofs.Doubles.{in-float, short-size}
use Rattle.card.proofs.offsets.offset_at.Goals as goal

pub int_to_float-result-2 : goal.int_to_float-result-2
int_to_float-result-2 c =
    let a = c.args in
    let z : ℤ = pos a.east -ℤ pos a.ceast in
    rw (result-is c.short_way-columns.type_inv c.short_way-columns.ensures)
    (in-float (into_range z) (short-size z a.east a.ceast c.requires.centre_east_in_range (is-difference a.east a.ceast)))
