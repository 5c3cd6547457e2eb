-- The literal 0.0 is the double nearest to 0. Assumes nothing.
use lib.Ieee.{of_int, of_bits}
use Rattle.fordcask.proofs.told_plain.OffsetPartsFromResultOffsetRefusal.from.Goals as goal

pub returns-in-Err : goal.returns-in-Err
unfolding of_int of_bits
returns-in-Err c = rw (c.in-Err.is, c.number.ensures, c.place.ensures)
