-- A list of zones as it lies in its slots. Definitions only.
--     InSlots n slots count    the list is the first `count` of n slots, and each slot after it is 0
use Rattle.std.specs.Prelude.{◌≡◌, ℕ, ◌≤◌, List, length, take}
use Rattle.whole.specs.Lists.{padded}

pub record InSlots (n : ℕ) (slots : List ℕ) (count : ℕ) : Type 0 where
  pub fits : count ≤ n
  pub counted : length (take count slots) ≡ count
  pub rest : slots ≡ padded n (take count slots)
