-- The table against the printed rows, which computes. Assumes nothing.
use mathlib.Core.Path.{refl}
use Rattle.arc.specs.AsPrinted.{TableAsPrinted, CodeAsPrinted}

pub as-printed : TableAsPrinted
as-printed = refl

pub code-as-printed : CodeAsPrinted
code-as-printed = refl
