use Rattle.std.proofs.Common.{◌∙◌}
use Rattle.lists.proofs.Floors.{sum-floor, up-held, down-held}
use Rattle.lists.proofs.axis.Axis.longitude.Goals as goal

pub returns-then-t-lt0 : goal.returns-then-t-lt0
returns-then-t-lt0 c =
    let r = c.requires in
    up-held _ _ (c.whole_parts-t.ensures ∙ sum-floor _ _ r.from_low r.more_low r.two_circles) r.two_circles c.if-t-lt0.true

pub returns-else-t-lt0 : goal.returns-else-t-lt0
returns-else-t-lt0 c =
    let r = c.requires in
    down-held _ _ (c.whole_parts-t.ensures ∙ sum-floor _ _ r.from_low r.more_low r.two_circles) r.two_circles c.if-t-lt0.false
