-- The zones of a rectangle, south to north. Definitions only; what they are held to is in Points.antt.
--     rectangle_zones b south north     every zone that shares a stretch of more than zero height with the rectangle, in ascending zone number
--     rectangle_of S factor south north what `rectangle` answers: the list, or the refusals Scale, Factor, Scale, Latitude, Latitude, CrossedEdges
use Rattle.std.specs.Prelude.{ℕ, if◌then◌else◌, not, List, ℤ, Result, Ok, Err}
use Rattle.std.specs.Int.Signed.{lt_z}
use Rattle.whole.specs.Whole.{outside}
use Rattle.whole.specs.Results.{◌>>=◌}
use Rattle.whole.specs.Lists.{those, up_from}
use Rattle.arc.specs.declared.refusal.Refusal.{Refusal}
use Rattle.arc.specs.Zones.{quarter}
use Rattle.arc.specs.Spacing.{rows_of}
use Rattle.rectangle.specs.Stretch.{shares}

unfoldable pub rectangle_zones : ℕ → ℤ → ℤ → List ℕ
rectangle_zones b south north = those (shares b south north) (up_from 1 18)

-- the edges are crossed where the south edge is not below the north edge: above it, and also equal to it
abbrev pub rectangle_at : ℕ → ℤ → ℤ → Result (List ℕ) Refusal
rectangle_at b south north =
    if outside quarter south then Err Refusal.Latitude
    else (if outside quarter north then Err Refusal.Latitude
    else (if not (lt_z south north) then Err Refusal.CrossedEdges
    else Ok (rectangle_zones b south north)))

abbrev pub rectangle_of : ℕ → ℕ → ℤ → ℤ → Result (List ℕ) Refusal
rectangle_of s factor south north = do
  b ← rows_of s factor
  rectangle_at b south north
