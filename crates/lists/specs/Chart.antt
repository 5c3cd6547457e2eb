-- What an engine is seen as: a card in a pair, which give all else that it holds.
use Rattle.card_text.specs.declared.Fields.{Fields}
use Rattle.card.specs.declared.Pair.{Pair}

pub record Chart : Type 0 where
  pub card : Fields
  pub pair : Pair
