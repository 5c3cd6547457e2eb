-- What only the code needs: how much of a buffer a word fills. Definitions only.
use Rattle.std.specs.Prelude.{◌≡◌, ℕ, ◌≤◌, List, length, take}

-- the first n of xs are filled; the second part follows from the first, and a part `&xs[..n]` asks for both
abbrev pub Fills : {A : Type 0} → ℕ → List A → Type 0
Fills n xs = (n ≤ length xs) × (n ≡ length (take n xs))
