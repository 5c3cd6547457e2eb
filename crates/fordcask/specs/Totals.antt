-- A card that is refused tells no blanks, in either way of reading. A claim, proved in proofs/Totals.antt.
use Rattle.std.specs.Prelude.{◌≡◌, ℕ, List, Err}
use Rattle.arc.specs.declared.refusal.Refusal.{Refusal}
use Rattle.arc.specs.declared.series.Series.{Series}
use Rattle.card.specs.Read.{card_read, card_read_strict}
use Rattle.fordcask.specs.Entry.{card_block}

abbrev pub RefusedCardTellsNone : Type 0
RefusedCardTellsNone =
    (series : Series) (s : List ℕ) (e : Refusal)
    → (card_read series s ≡ Err e → (card_block (card_read series s)).blanks ≡ 0)
    × (card_read_strict series s ≡ Err e → (card_block (card_read_strict series s)).blanks ≡ 0)
