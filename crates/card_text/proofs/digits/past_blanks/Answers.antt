-- Past the blanks is the end of the run. Assumes nothing.
use Rattle.std.proofs.Common.{ap, ◌∙◌}
use Rattle.std.specs.Result.{result_ok}
use borrow.Author.Rules.{part_to_end}
use Rattle.text.specs.declared.NotDigits.{NotDigits}
use Rattle.text.specs.Buffer.{digits_in}
use Rattle.card_text.proofs.Blanks.{past_blanks}
use Rattle.card_text.proofs.digits.past_blanks.Goals as goal

pub returns : goal.returns
returns c =
    c.ok.ensures.value
    ∙ ap (result_ok {E = NotDigits}) (c.digits_of.ensures ∙ ap digits_in (part_to_end c.args.s.now c.skipped.result))
    ∙ rw c.skipped.ensures (past_blanks c.args.fill c.args.s.now c.requires.not_empty c.requires.width)
