-- What a card's invariant tells: its fields are those of bytes that were read. Assumes nothing.
use Rattle.std.proofs.Common.{◌≡◌, ℕ, List}
use Rattle.arc.specs.declared.series.Series.{Series}
use Rattle.card_text.specs.declared.Fields.{Fields}
use Rattle.card_text.specs.Read.{Known, read_of, read_strict, accepted_card}
use Rattle.card_text.proofs.Laid.{Laid, known-laid}
use Rattle.card_text.proofs.Strict.{strict-accepts}

-- of the fields as a method has them in its hands
pub laid-as : {f k : Fields} → f ≡ k → Known f → Laid k
laid-as e h = rw e at (known-laid _ h)

pub read-known : (series : Series) (s : List ℕ) (k : Fields) (n : ℕ) → read_of series s ≡ accepted_card k n → Known k
read-known series s k n e = record { series = series; is_read = record { bytes = s; blanks = n; read = e } }

-- what may have no blanks is read with blanks too
pub strict-known : (series : Series) (s : List ℕ) (k : Fields) (n : ℕ) → read_strict series s ≡ accepted_card k n → Known k
strict-known series s k n e = read-known series s k 0 (strict-accepts series s k n e).1
