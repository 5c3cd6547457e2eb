-- A count that is at most a buffer's length fills its first part. Assumes nothing.
use Rattle.std.proofs.Common.{ℕ, ◌≤◌, List, length, sym, length-take-le}
use Rattle.ask.specs.Steps.{Fills}

pub fills : {A : Type 0} (n : ℕ) (xs : List A) → n ≤ length xs → Fills n xs
fills n xs h = (h, sym (length-take-le n xs h))
