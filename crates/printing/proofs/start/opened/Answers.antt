-- A card that was read prints the header and lines follow it; a refused one prints the refusal and nothing follows. Assumes nothing.
use Rattle.std.proofs.Common.{arith}
use Rattle.printing.proofs.Short.{put}
use Rattle.printing.proofs.Openings.{stops, follows}
use Rattle.printing.proofs.start.opened.Goals as goal

pub returns-in-Ok : goal.returns-in-Ok
returns-in-Ok c = let p = c.put_bytes-length.ensures in rw c.in-Ok.is (follows (put p.answer p.left (omega arith)) _ c.args.next)

pub returns-in-Err : goal.returns-in-Err
returns-in-Err c = rw c.in-Err.is (stops c.put_refusal-length.ensures c.stop.result _ c.stop.ensures)
