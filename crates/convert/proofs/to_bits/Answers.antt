-- The words are few. Assumes nothing.
use Rattle.std.proofs.Common.{sym, ◌∙◌}
use Rattle.tiles.proofs.Forms.{words-few}
use Rattle.convert.proofs.RoundTrip.{lengths-right}
use Rattle.convert.proofs.to_bits.Goals as goal

pub set_words-requires : goal.set_words-requires
set_words-requires c =
    words-few c.args.card c.args.words.now (lengths-right c.args.card _ _ (sym c.lengths_wrong.ensures.is ∙ c.if-lengths_wrong.false)).1
    c.lengths_wrong.ensures.known
