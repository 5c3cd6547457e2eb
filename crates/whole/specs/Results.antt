-- Answers one after the other, as `?` chains them. Definitions only.
--     x >>= f            f of what x answers, or x's refusal: what `do` writes
use Rattle.std.specs.Prelude.{Result, Ok, Err}

infixl 10 ◌>>=◌
abbrev pub ◌>>=◌ : {A B E : Type 0} → Result A E → (A → Result B E) → Result B E
(Ok x) >>= f = f x
(Err e) >>= f = Err e
