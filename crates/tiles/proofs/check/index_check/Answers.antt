-- The marks are cleared before the pass. Assumes nothing.
use Rattle.std.proofs.Common.{rules, ◌≡◌, ℕ, List, ◌++◌, length, drop, replicate, true, false, sym, ap, ◌∙◌}
use Rattle.tiles.proofs.Listed.{listed, filled-listed, filled-rest}
use borrow.Author.Tests.{le-ltb}
use Rattle.tiles.specs.Index.{index_wrong}
use Rattle.tiles.specs.Check.{before, first_bad, mark_at, marks_of}
use Rattle.tiles.proofs.check.index_check.Goals as goal

pub mark_entries-requires-clause-cleared : goal.mark_entries-requires-clause-cleared
mark_entries-requires-clause-cleared c =
    let a = c.args in
    let f : c.fill-2.new.self ≡ replicate a.count 0 = search rules in
    filled-listed 0 a.count a.marks.now _ c.if-marks-count.false (ap (λ (l : List ℕ). l ++ drop a.count a.marks.now) f)

pub returns-clause-left : goal.returns-clause-left
unfolding marks_of
returns-clause-left c =
    let a = c.args in
    let n = before a.index.now (first_bad a.count a.index.now) in
    let f : c.fill-2.new.self ≡ replicate a.count 0 = search rules in
    let r : index_wrong a.card a.index.now a.count ≡ false = sym c.is_wrong.ensures.is ∙ c.if-is_wrong.false in
    let t : a.card.tif ≡ true = search rules in
    rw (r, le-ltb (length a.marks.now) a.count c.if-marks-count.false, t)
    (c.mark_entries.ensures.left
    ∙ ap (λ (s : List ℕ). listed (mark_at n) a.count ++ s)
    (filled-rest 0 a.count a.marks.now _ c.if-marks-count.false (ap (λ (l : List ℕ). l ++ drop a.count a.marks.now) f)))
