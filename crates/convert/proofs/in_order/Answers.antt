-- Each turn passes an entry that is in order, or stops at one that is not. Assumes nothing.
use Rattle.std.proofs.Common.{◌≡◌, ℕ, ◌+◌, length, get_or, drop, ap, sym, ◌∙◌, arith, ne_eqb, add-zero}
use borrow.Author.Tests.{eq-eqb}
use lib.Seq.{drop-length}
use Rattle.convert.specs.Convert.{in_order}
use Rattle.convert.proofs.Order.{order-none, order-right, order-stop, order-next}
use Rattle.convert.proofs.in_order.Goals as goal
use Rattle.convert.proofs.in_order.Goals.{else-entry-ne0-via-then-entry-ne0+else-from-named, else-entry-ne0-via-else-entry-ne0}

pub returns-then-from-named : goal.returns-then-from-named
returns-then-from-named c =
    let l = c.loop-entry in
    let one : c.from-named.result ≡ 1 = rw (c.from-named.ensures, ne_eqb (get_or c.args.index.now l.entry-index 0) 0 c.if-entry-ne0.true) in
    sym (l.invariant.1 ∙ order-next l.named l.entry-index c.args.index.now c.loop-entry-test.true
    ∙ order-stop _ _ _ c.if-entry-ne0.true (λ z. c.if-from-named.true (c.from.ensures ∙ z ∙ ap (λ (n : ℕ). l.named + n) (sym one))))

pub loop-entry-preserved : goal.loop-entry-preserved
loop-entry-preserved c =
    let l = c.loop-entry in
    let e = get_or c.args.index.now l.entry-index 0 in
    let s = l.invariant.1 ∙ order-next l.named l.entry-index c.args.index.now c.loop-entry-test.true in
    elim c.else-entry-ne0.branch [
      | else-entry-ne0-via-then-entry-ne0+else-from-named w ↦
          let one : c.from-named.result ≡ 1 = rw (c.from-named.ensures, ne_eqb e 0 w.if-entry-ne0.true) in
          rw one (
            omega arith,
            s ∙ order-right _ _ _ w.if-entry-ne0.true (sym w.from.ensures ∙ w.if-from-named.false ∙ ap (λ (n : ℕ). l.named + n) one),
          )
      | else-entry-ne0-via-else-entry-ne0 w ↦
          let none : c.from-named.result ≡ 0 = rw (c.from-named.ensures, eq-eqb e 0 w.if-entry-ne0.false) in
          rw (none, add-zero) (omega arith, s ∙ order-none _ _ _ w.if-entry-ne0.false)
    ]

pub returns : goal.returns
unfolding in_order
returns c =
    let l = c.loop-entry in
    let s = c.args.index.now in
    let e : l.entry-index ≡ length s = omega arith in
    sym (l.invariant.1 ∙ ap (λ (i : ℕ). in_order l.named (drop i s)) e ∙ ap (in_order l.named) (drop-length s))
