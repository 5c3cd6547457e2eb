-- What only the code needs: what it is held to on the way. Definitions only.
--     Numbered answer    a stored number that is answered is at least 1, and its tile's bytes end within 64 bits
use Rattle.std.specs.Prelude.{ℕ, ◌*◌, ◌^◌, ◌≤◌, ◌<◌, Result, Ok, Err}
use Rattle.arc.specs.declared.refusal.Refusal.{Refusal}
use Rattle.tiles.specs.declared.Stored.{Stored}
use Rattle.tiles.specs.Index.{tile_bytes}
use Rattle.fordcask.specs.declared.read.OnCard.{OnCard}

abbrev pub Small : ℕ → Type 0
Small n = (1 ≤ n) × (n * tile_bytes < 2 ^ 64)

abbrev pub Numbered : Result (OnCard Stored) Refusal → Type 0
Numbered (Ok x) = Small x.answer.number
Numbered (Err e) = Unit
