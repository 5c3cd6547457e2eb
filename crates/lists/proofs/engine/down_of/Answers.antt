use Rattle.std.proofs.Common.{arith}
use Rattle.lists.proofs.Spans.{first_part, first_rest}
use Rattle.lists.proofs.engine.down_of.Goals as goal

pub overflow_mul-unit : goal.overflow_mul-unit
overflow_mul-unit c =
    let first = first_part _ c.requires.bounds c.args.up c.requires.up_in_range in rw c.min-first.ensures (omega arith)

pub of-requires-clause-rest_in_range : goal.of-requires-clause-rest_in_range
of-requires-clause-rest_in_range c = rw c.min-first.ensures (first_rest _ c.requires.bounds c.args.up c.requires.up_in_range)
