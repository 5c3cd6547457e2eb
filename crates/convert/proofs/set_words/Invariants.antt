-- The words passed are those of the list. Assumes nothing.
use Rattle.std.proofs.Common.{◌≡◌, ◌++◌, ◌*◌, drop}
use Rattle.tiles.proofs.Listed.{listed}
use Rattle.convert.specs.Convert.{word_from}
use Rattle.convert.proofs.set_words.Given as goal

abbrev pub invariant-loop-i : goal.invariant-loop-i
invariant-loop-i l = l.words ≡ listed (λ i. word_from l.index (i * 64) 64) l.i ++ drop l.i l.fn.words
