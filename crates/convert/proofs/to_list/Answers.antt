-- The lengths are right, and the bits past the last tile are those of its word. Assumes nothing.
use Rattle.std.proofs.Common.{ap, sym, ◌∙◌, arith}
use Rattle.presence.specs.Presence.{numbers_to}
use Rattle.convert.specs.Convert.{to_list_of, list_left}
use Rattle.convert.proofs.RoundTrip.{lengths-right, index-few, stray-told}
use Rattle.convert.proofs.to_list.Goals as goal

pub returns-then-any_set-clause-answer : goal.returns-then-any_set-clause-answer
unfolding to_list_of
returns-then-any_set-clause-answer c =
    let r = sym c.lengths_wrong.ensures.is ∙ c.if-lengths_wrong.false in
    rw (r, stray-told c.args.card c.args.words.now _ _ r (rw c.tiles_of.ensures.is at c.any_set.ensures) ∙ c.if-any_set.true)

pub returns-then-any_set-clause-left : goal.returns-then-any_set-clause-left
unfolding to_list_of list_left
returns-then-any_set-clause-left c =
    let r = sym c.lengths_wrong.ensures.is ∙ c.if-lengths_wrong.false in
    rw (r, stray-told c.args.card c.args.words.now _ _ r (rw c.tiles_of.ensures.is at c.any_set.ensures) ∙ c.if-any_set.true)

pub set_list-requires : goal.set_list-requires
set_list-requires c =
    omega (
      arith,
      index-few c.args.card c.lengths_wrong.ensures.known,
      (lengths-right c.args.card _ _ (sym c.lengths_wrong.ensures.is ∙ c.if-lengths_wrong.false)).0,
    )

pub returns-clause-answer : goal.returns-clause-answer
unfolding to_list_of
returns-clause-answer c =
    let r = sym c.lengths_wrong.ensures.is ∙ c.if-lengths_wrong.false in
    rw (r, stray-told c.args.card c.args.words.now _ _ r (rw c.tiles_of.ensures.is at c.any_set.ensures) ∙ c.if-any_set.false)

pub returns-clause-left : goal.returns-clause-left
unfolding to_list_of list_left
returns-clause-left c =
    let r = sym c.lengths_wrong.ensures.is ∙ c.if-lengths_wrong.false in
    rw (r, stray-told c.args.card c.args.words.now _ _ r (rw c.tiles_of.ensures.is at c.any_set.ensures) ∙ c.if-any_set.false)
    (c.set_list.ensures ∙ ap (numbers_to c.args.words.now) (lengths-right c.args.card _ _ r).0)
