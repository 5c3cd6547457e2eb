-- What only the code needs: a text that was put whole. Definitions only.
--     Put x o s t r      x was put at offset o of the buffer s, which is t then, and r is where x ends
use Rattle.std.specs.Prelude.{◌≡◌, ℕ, ◌+◌, ◌≤◌, List, length}
use Rattle.text.specs.Buffer.{splice}

pub record Put (x : List ℕ) (o : ℕ) (s t : List ℕ) (r : ℕ) : Type 0 where
  pub ends : r ≡ o + length x
  pub fits : r ≤ length s
  pub holds : t ≡ splice o x s
