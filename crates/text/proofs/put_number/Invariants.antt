-- The digits from a place on are put, and the rest of the number has the others.
use Rattle.std.proofs.Common.{◌≡◌, ◌+◌, ◌-◌, ◌/◌, ◌^◌}
use Rattle.text.specs.Text.{digits}
use Rattle.text.specs.Buffer.{splice}
use Rattle.text.proofs.put_number.Given as goal

abbrev pub invariant-loop-place : goal.invariant-loop-place
invariant-loop-place l = record { put : l.out ≡ splice (l.o + l.place) (digits (l.w - l.place) l.v) l.initial.out; left : l.rest ≡ l.v / 10 ^ (l.w - l.place) }
