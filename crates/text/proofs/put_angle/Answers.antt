-- Six texts, one after the other: sign, degrees, minutes, seconds, dot, hundredths.
use Rattle.std.proofs.Common.{◌≡◌, ◌+◌, ◌≤◌, cond, int_lt, pos, nat_abs, length, arith, length-append}
use Rattle.std.proofs.lemmas.Grind.{common_steps}
use Rattle.text.specs.Text.{angle_text}
use Rattle.text.proofs.Numbers.{length_digits}
use Rattle.text.proofs.Splices.{put_is, put_if, put_then}
use Rattle.text.proofs.put_angle.Goals as goal

pub returns : goal.returns
unfolding angle_text
returns c =
    let a = c.args in
    let fits : a.o + (a.d + 8) ≤ length a.out.now = grind (arith, common_steps) in
    let sign = put_if (c.put_byte-o1.ensures.answer, c.put_byte-o1.ensures.left) in
    let degrees = put_if (c.put_number-o2.ensures.answer, c.put_number-o2.ensures.left) in
    let minutes = put_if (c.put_number-o3.ensures.answer, c.put_number-o3.ensures.left) in
    let seconds = put_if (c.put_number-o4.ensures.answer, c.put_number-o4.ensures.left) in
    let dot = put_if (c.put_byte-o5.ensures.answer, c.put_byte-o5.ensures.left) in
    let hundredths = put_if (c.put_number.ensures.answer, c.put_number.ensures.left) in
    let all = put_then (put_then (put_then (put_then (put_then sign degrees) minutes) seconds) dot) hundredths in
    let put = put_is (all (simp (length-append, length_digits) (omega arith))) in
    let first : c.sign.result ≡ cond (int_lt a.z (pos 0)) 45 43 = grind (arith, common_steps) in
    let size : c.unsigned_abs-size.result ≡ nat_abs a.z = grind (arith, common_steps) in
    let is = rw (first, size) at put in
    record { answer = is.0; left = is.1 }
