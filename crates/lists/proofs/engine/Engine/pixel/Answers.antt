use Rattle.std.proofs.Common.{ap, ap₂, sym, ◌∙◌, ℤ, [], ◌∷◌}
use Rattle.arc.specs.Refusals.{answered}
use Rattle.card.specs.Grid.{pixel_report}
use Rattle.whole.proofs.Machine.{result-is}
use Rattle.lists.proofs.Spans.{top-low, left-low}
use Rattle.lists.proofs.Charting.{rows_fit, columns_fit, chart_pixel}
use Rattle.lists.proofs.engine.Engine.pixel.Goals as goal

pub southward-requires : goal.southward-requires
southward-requires c = top-low _ c.self.invariant

pub eastward-requires : goal.eastward-requires
eastward-requires c = left-low _ c.self.invariant

pub pixel-requires : goal.pixel-requires
pixel-requires c =
    rows_fit _ c.self.invariant _ _ c.ranges.lat c.ranges.lon (sym c.southward.ensures ∙ c.in_ok-south.was) (sym c.eastward.ensures ∙ c.in_ok-east.was)
    c.if-self-south.false c.if-self-east.false

pub pixel-requires-2 : goal.pixel-requires-2
pixel-requires-2 c =
    columns_fit _ c.self.invariant _ _ c.ranges.lat c.ranges.lon (sym c.southward.ensures ∙ c.in_ok-south.was) (sym c.eastward.ensures ∙ c.in_ok-east.was)
    c.if-self-south.false c.if-self-east.false

pub returns : goal.returns
returns c =
    rw (← c.self.view_is)
    (ap pixel_report
    (chart_pixel _ c.self.invariant _ _ c.ranges.lat c.ranges.lon (sym c.southward.ensures ∙ c.in_ok-south.was) (sym c.eastward.ensures ∙ c.in_ok-east.was)
    c.if-self-south.false c.if-self-east.false)
    ∙ sym (ap₂ (λ (x y : ℤ). answered (x ∷ y ∷ [])) (result-is c.pixel.type_inv c.pixel.ensures) (result-is c.pixel-2.type_inv c.pixel-2.ensures)))
