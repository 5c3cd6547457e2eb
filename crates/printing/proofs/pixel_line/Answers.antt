-- A line that is served is put whole. Assumes nothing.
use Rattle.std.proofs.Common.{arith}
use Rattle.printing.proofs.Served.{served-text, served-left}
use Rattle.printing.proofs.pixel_line.Goals as goal

pub returns-clause-answer : goal.returns-clause-answer
returns-clause-answer c = served-text _ _ _ _ (omega arith) (omega arith) (omega arith) c.line_at-line.ensures.line c.put_pixel-length.ensures

pub returns-clause-left : goal.returns-clause-left
returns-clause-left c = served-left _ _ _ _ (omega arith) (omega arith) (omega arith) c.line_at-line.ensures.line c.put_pixel-length.ensures
