-- The sum so far and the bytes that are left make the whole sum, the test so far and theirs the whole test, and the sum is small, whatever the bytes are.
use Rattle.std.proofs.Common.{◌≡◌, ◌+◌, ◌*◌, ◌≤◌, ◌^◌, ◌&&◌, drop}
use Rattle.text.specs.Text.{all, is_digit}
use Rattle.text.specs.Buffer.{summed}
use Rattle.text.proofs.digits_of.Given as goal

abbrev pub invariant-loop-b : goal.invariant-loop-b
invariant-loop-b l =
    record {
      sofar : summed l.sum (drop l.b-index l.s) ≡ summed 0 l.s;
      tested : (l.digits && all is_digit (drop l.b-index l.s)) ≡ all is_digit l.s;
      small : l.sum + 29 ≤ 29 * 10 ^ l.b-index;
    }
