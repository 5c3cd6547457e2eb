use Rattle.std.proofs.Common.{arith}
use Rattle.lists.specs.Steps.{engine_of}
use Rattle.lists.proofs.Bounds.{known_bounds}
use Rattle.lists.proofs.Engines.{shift_low}
use Rattle.lists.proofs.engine.Engine.of.Goals as goal

pub overflow_mul-fields : goal.overflow_mul-fields
overflow_mul-fields c = omega (arith, known_bounds _ c.fields-fields.ensures.known, shift_low c.args.pair c.inward-shift.ensures)

pub overflow_sub-fields : goal.overflow_sub-fields
overflow_sub-fields c = omega (arith, known_bounds _ c.fields-fields.ensures.known, shift_low c.args.pair c.inward-shift.ensures)

pub of-rows-requires-clause-on_grid : goal.of-rows-requires-clause-on_grid
of-rows-requires-clause-on_grid c = (known_bounds _ c.fields-fields.ensures.known).rows

pub of-rows-requires-clause-from_in_range : goal.of-rows-requires-clause-from_in_range
of-rows-requires-clause-from_in_range c = omega (arith, known_bounds _ c.fields-fields.ensures.known, shift_low c.args.pair c.inward-shift.ensures)

pub overflow_mul-fields-2 : goal.overflow_mul-fields-2
overflow_mul-fields-2 c = omega (arith, known_bounds _ c.fields-fields.ensures.known, shift_low c.args.pair c.inward-shift.ensures)

pub overflow_add-fields : goal.overflow_add-fields
overflow_add-fields c = omega (arith, known_bounds _ c.fields-fields.ensures.known, shift_low c.args.pair c.inward-shift.ensures)

pub of-columns-requires-clause-on_grid : goal.of-columns-requires-clause-on_grid
of-columns-requires-clause-on_grid c = (known_bounds _ c.fields-fields.ensures.known).columns

pub of-columns-requires-clause-from_in_range : goal.of-columns-requires-clause-from_in_range
of-columns-requires-clause-from_in_range c = omega (arith, known_bounds _ c.fields-fields.ensures.known, shift_low c.args.pair c.inward-shift.ensures)

pub down_of-down-requires-clause-bounds : goal.down_of-down-requires-clause-bounds
down_of-down-requires-clause-bounds c = known_bounds _ c.fields-fields.ensures.known

pub across_of-across-requires-clause-bounds : goal.across_of-across-requires-clause-bounds
across_of-across-requires-clause-bounds c = known_bounds _ c.fields-fields.ensures.known

pub invariant_of-result : goal.invariant_of-result
unfolding engine_of
invariant_of-result c = record {
  known = rw c.fields-fields.ensures.value at c.fields-fields.ensures.known;
  same =
      rw (c.across_of-across.ensures, c.down_of-down.ensures, c.of-columns.ensures, c.of-rows.ensures, c.fields-fields.ensures.value, c.inward-shift.ensures);
}
