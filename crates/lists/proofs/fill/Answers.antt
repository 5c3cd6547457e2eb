use Rattle.std.proofs.Common.{arith, ap, ◌≡◌, ◌∙◌, ◌/◌, ℕ, List, ◌++◌, length, drop, take, length-take}
use Rattle.std.specs.Prelude.{replicate}
use Rattle.lists.proofs.Filling.{room}
use Rattle.lists.proofs.Entries.{filled_first, filled_next, filled_numbers}
use Rattle.lists.proofs.fill.Goals as goal

-- the numbers are cleared
pub loop-i-init : goal.loop-i-init
loop-i-init c =
    let n : ℕ = length c.args.list.now / 2 in
    let nums : List ℕ = c.args.numbers.now in
    let long : length (take n nums) ≡ n =
    length-take n nums ∙ omega (arith, room (length c.args.list.now) (length c.args.values.now) (length nums) c.requires) in
    let cleared : c.fill.new.self ≡ replicate n 0 = c.fill.ensures.after (λ y e. e) ∙ ap (λ (k : ℕ). replicate k 0) long in
    filled_first _ _ _ _ c.requires c.fill_charted-i.ensures (ap (λ (s : List ℕ). s ++ drop n nums) cleared)

pub loop-i-preserved : goal.loop-i-preserved
loop-i-preserved c =
    filled_next _ _ _ _ c.requires c.loop-i.invariant c.fill_asked-i.ensures.told
    c.fill_charted-i-in-loop-i.ensures

pub returns-clause-numbers : goal.returns-clause-numbers
returns-clause-numbers c = rw c.requires (filled_numbers _ _ _ _ c.requires c.loop-i.invariant c.loop-i-test.false)
