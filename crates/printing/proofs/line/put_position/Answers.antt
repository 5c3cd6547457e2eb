-- The texts one after the other. Assumes nothing.
use Rattle.std.proofs.Common.{◌≡◌, arith, rules, w64, Ok}
use mir.Val.{to_z, of_z}
use Rattle.text.proofs.Splices.{put_then}
use Rattle.printing.proofs.Short.{put, answer-short}
use Rattle.printing.proofs.line.put_position.Goals as goal

pub returns : goal.returns
returns c =
    let lat : to_z w64 (of_z w64 c.args.position.lat) ≡ c.args.position.lat = search rules in
    let lon : to_z w64 (of_z w64 c.args.position.lon) ≡ c.args.position.lon = search rules in
    let p1 = rw lat at c.put_angle-o1.ensures in
    let p2 = c.put_byte-o2.ensures in
    let p3 = rw lon at c.put_angle-o3.ensures in
    let p4 = c.put_byte.ensures in
    let p = put_then (put_then (put_then (put p1.answer p1.left) (put p2.answer p2.left)) (put p3.answer p3.left)) (put p4.answer p4.left) in
    p (omega (arith, answer-short (Ok c.args.position)))
