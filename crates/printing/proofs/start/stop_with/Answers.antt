-- The text is put at the front, and its length answered. Assumes nothing.
use Rattle.printing.proofs.Openings.{stops-with}
use Rattle.printing.proofs.start.stop_with.Goals as goal

pub returns : goal.returns
returns c =
    let p = c.put_bytes-length.ensures in
    stops-with _ _ _ p.answer p.left c.requires c.stop.ensures
