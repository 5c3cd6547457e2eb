-- Past all its tests the runs of an angle are its numbers. Assumes nothing.
use Rattle.std.proofs.Common.{sym, ◌∙◌}
use Rattle.card_text.proofs.Angles.{all_parts}
use Rattle.card_text.proofs.subfields.angle_in.Goals as goal

pub returns-clause-value : goal.returns-clause-value
returns-clause-value c =
    sym
    (all_parts c.args.d c.args.p.now (sym c.is_sign.ensures ∙ c.if-not-is_sign.false) c.if-p-d-ne46.false
    (sym c.digits_at.ensures.value ∙ c.in_ok-degrees.was)
    (sym c.digits_at-2.ensures.value ∙ c.in_ok-minutes.was)
    (sym c.digits_at-3.ensures.value ∙ c.in_ok-seconds.was)
    (sym c.digits_at-4.ensures.value ∙ c.in_ok-hundredths.was))
