-- Past the kind of its bytes the value of an angle decides. Assumes nothing.
use Rattle.std.proofs.Common.{sym, ap, ◌+◌, ◌∙◌, Ok, true, false}
use Rattle.text.specs.Text.{part}
use Rattle.card_text.proofs.Angles.{parts_checked}
use Rattle.card_text.proofs.subfields.angle_at.Goals as goal

pub returns-then-not-in_range : goal.returns-then-not-in_range
returns-then-not-in_range c =
    let a = c.args in
    let e = rw c.bytes_at-p.ensures.value at (sym c.angle_in.ensures.value ∙ c.in-Some.is) in
    let v = rw c.bytes_at-p.ensures.value at (sym c.if-not-in_range.true ∙ c.in_range.ensures) in
    sym (parts_checked a.d (part a.o (a.d + 8) a.s.now) c.in-Some.angle e a.o a.limit false v)

pub returns : goal.returns
returns c =
    let a = c.args in
    let e = rw c.bytes_at-p.ensures.value at (sym c.angle_in.ensures.value ∙ c.in-Some.is) in
    let v = rw c.bytes_at-p.ensures.value at (sym c.if-not-in_range.false ∙ c.in_range.ensures) in
    ap Ok (rw c.bytes_at-p.ensures.value at c.shifted_by.ensures)
    ∙ sym (parts_checked a.d (part a.o (a.d + 8) a.s.now) c.in-Some.angle e a.o a.limit true v)
