-- The block of a refusal has no blanks. Assumes nothing.
use Rattle.std.proofs.Common.{ap}
use Rattle.std.specs.Prelude.{Result}
use Rattle.arc.specs.declared.refusal.Refusal.{Refusal}
use Rattle.card.specs.declared.Reading.{Reading}
use Rattle.fordcask.specs.Entry.{card_block}
use Rattle.fordcask.specs.Totals.{RefusedCardTellsNone}

pub refused-card-tells-none : RefusedCardTellsNone
refused-card-tells-none series s e =
    let blanks = λ (x : Result Reading Refusal). (card_block x).blanks in (λ h. ap blanks h, λ h. ap blanks h)
