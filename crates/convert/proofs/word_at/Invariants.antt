-- The bits passed make a number. Assumes nothing.
use Rattle.std.proofs.Common.{◌≡◌, ◌+◌, ◌*◌, ◌-◌}
use Rattle.convert.specs.Convert.{word_from}
use Rattle.convert.proofs.word_at.Given as goal

abbrev pub invariant-loop-place : goal.invariant-loop-place
invariant-loop-place l = l.bits ≡ word_from l.index (l.word * 64 + l.place) (64 - l.place)
