-- The lemma of the claim. Assumes nothing.
use Rattle.fordcask.proofs.FactorOne.{factor-one}
use Rattle.fordcask.proofs.laws.factor_one_is_a_chart.Goals as goal

pub returns : goal.returns
returns c = factor-one
