-- The column from 180° west less the origin's, round the circle: the first modulo changes nothing after the second. Assumes nothing.
use Rattle.std.proofs.Common.{ℕ, ◌+◌, ◌-◌, ◌*◌, ◌/◌, ◌%◌, sym, ap, ◌∙◌, arith, pos, ◌-ℤ◌, w64}
use native.Mathlib.Nat.{mod-lt, mul-le-mul}
use mir.ValLaws.{to_z_pos}
use Rattle.whole.proofs.Signed.{is-difference}
use Rattle.whole.proofs.Machine.{fits-mul}
use Rattle.arc.specs.Zones.{circle, half}
use Rattle.card.proofs.Known.{laid-as}
use Rattle.card.proofs.Axes.{column-at, east-high}
use Rattle.card.proofs.Card.column_at.Goals as goal

pub overflow_mul-east : goal.overflow_mul-east
overflow_mul-east c = rw c.self.view_is (fits-mul 129600000 80076800 tt c.requires.in_range (laid-as c.self.view_is c.self.invariant).columns.most)

pub overflow_add-east : goal.overflow_add-east
overflow_add-east c = rw c.self.view_is (omega (arith, mul-le-mul c.requires.in_range (laid-as c.self.view_is c.self.invariant).columns.most))

pub turned-requires-clause-s_in_range : goal.turned-requires-clause-s_in_range
turned-requires-clause-s_in_range c = rw c.self.view_is (east-high _ (laid-as c.self.view_is c.self.invariant))

pub turned-requires-clause-positive : goal.turned-requires-clause-positive
turned-requires-clause-positive c = rw c.self.view_is (omega (arith, laid-as c.self.view_is c.self.invariant))

pub turned-requires-clause-at_most : goal.turned-requires-clause-at_most
turned-requires-clause-at_most c = rw c.self.view_is (omega (arith, laid-as c.self.view_is c.self.invariant))

pub overflow_cast-result : goal.overflow_cast-result
overflow_cast-result c =
    let k = c.args.self in
    let l = laid-as c.self.view_is c.self.invariant in
    let n : ℕ = (c.args.east * k.a + (half - c.inward.result)) / circle + (k.a - k.east) in
    record { sfits = omega (arith, l, rw c.self.view_is at c.turned.ensures, mod-lt n {m = k.a} (omega (arith, l))) }

pub returns : goal.returns
returns c =
    let k = c.args.self in
    let l = laid-as c.self.view_is c.self.invariant in
    let n : ℕ = (c.args.east * k.a + (half - c.inward.result)) / circle + (k.a - k.east) in
    let e = rw c.self.view_is at c.turned.ensures in
    to_z_pos w64 c.turned.result (omega (arith, l, e, mod-lt n {m = k.a} (omega (arith, l))))
    ∙ ap pos
    (e
    ∙ ap (λ (o : ℕ). ((c.args.east * k.a + (half - o)) / circle + (k.a - k.east)) % k.a) c.inward.ensures)
    ∙ sym (column-at k l c.args.pair (pos c.args.east -ℤ pos half) c.args.east (is-difference c.args.east half))
