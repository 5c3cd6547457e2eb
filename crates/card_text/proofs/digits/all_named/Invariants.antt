-- The test so far and the bytes that are left make the whole test.
use Rattle.std.proofs.Common.{◌≡◌, ◌&&◌, drop}
use Rattle.text.specs.Text.{all, is_name_byte}
use Rattle.card_text.proofs.digits.all_named.Given as goal

abbrev pub invariant-loop-b : goal.invariant-loop-b
invariant-loop-b l = (l.named && all is_name_byte (drop l.b-index l.s)) ≡ all is_name_byte l.s
