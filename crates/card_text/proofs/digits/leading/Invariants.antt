-- The blanks met so far and those of the rest are the blanks of all.
use Rattle.std.proofs.Common.{◌≡◌, ◌+◌, length, drop}
use Rattle.card_text.specs.StepsFields.{lead}
use Rattle.card_text.proofs.digits.leading.Given as goal

abbrev pub invariant-loop-i : goal.invariant-loop-i
invariant-loop-i l = record { met : l.i + lead (drop l.i l.s) ≡ lead l.s; end : l.last + 1 ≡ length l.s }
