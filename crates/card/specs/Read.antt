-- A card as it was read. Definitions only: what reading means is crate card_text's.
--     card_read series s         what `Card::read` answers: blanks may stand before a number's digits, and the total of them is told
--     card_read_strict series s  what `Card::read_strict` answers: none may
use Rattle.std.specs.Prelude.{ℕ, List, Result, Ok}
use Rattle.whole.specs.Results.{◌>>=◌}
use Rattle.arc.specs.declared.refusal.Refusal.{Refusal}
use Rattle.arc.specs.declared.series.Series.{Series}
use Rattle.card_text.specs.Read.{read_of, read_strict}
use Rattle.card.specs.declared.Reading.{Reading}

abbrev pub card_read : Series → List ℕ → Result Reading Refusal
card_read series s = do
  x ← read_of series s
  Ok (record { card = x.fields; blanks = x.blanks })

abbrev pub card_read_strict : Series → List ℕ → Result Reading Refusal
card_read_strict series s = do
  x ← read_strict series s
  Ok (record { card = x.fields; blanks = x.blanks })
