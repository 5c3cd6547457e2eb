-- Parts start at multiples of their length. Assumes nothing.
use native.Mathlib.Omega.{arith}
use Rattle.tiles.specs.LookUp.{PartsApart}

pub parts-apart : PartsApart
parts-apart m n i j p q d h g e = d (omega arith)
