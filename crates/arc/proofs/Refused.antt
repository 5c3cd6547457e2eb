-- No refusal has the number 0, case by case; and number and place give the refusal back. Assumes nothing.
use Rattle.std.proofs.Common.{◌≡◌, refl, sym, ap₂, ◌∙◌, cond, ℕ, eqb, arith}
use Rattle.arc.specs.declared.refusal.Refusal.{Refusal}
use Rattle.arc.specs.Refusals.{refusal_number, refusal_place, NeverZero, TellsApart}

pub never-zero : NeverZero
never-zero Refusal.Scale e = absurd (omega arith)
never-zero Refusal.Zone e = absurd (omega arith)
never-zero Refusal.Polar e = absurd (omega arith)
never-zero Refusal.Latitude e = absurd (omega arith)
never-zero Refusal.Longitude e = absurd (omega arith)
never-zero Refusal.Length e = absurd (omega arith)
never-zero (Refusal.Kind at) e = absurd (omega arith)
never-zero (Refusal.Value at) e = absurd (omega arith)
never-zero Refusal.Spacing e = absurd (omega arith)
never-zero Refusal.Origin e = absurd (omega arith)
never-zero Refusal.Extent e = absurd (omega arith)
never-zero Refusal.OutsideTiles e = absurd (omega arith)
never-zero Refusal.Padding e = absurd (omega arith)
never-zero Refusal.NotStored e = absurd (omega arith)
never-zero (Refusal.Entry at) e = absurd (omega arith)
never-zero Refusal.CrossedEdges e = absurd (omega arith)
never-zero Refusal.Factor e = absurd (omega arith)
never-zero Refusal.ReadingOrder e = absurd (omega arith)
never-zero Refusal.StrayBit e = absurd (omega arith)
never-zero Refusal.TownScale e = absurd (omega arith)

-- the refusal of a number and a place
abbrev refusal_by : ℕ → ℕ → Refusal
refusal_by n at =
    cond (eqb n 1) Refusal.Scale (
    cond (eqb n 2) Refusal.Zone (
    cond (eqb n 3) Refusal.Polar (
    cond (eqb n 4) Refusal.Latitude (
    cond (eqb n 5) Refusal.Longitude (
    cond (eqb n 6) Refusal.Length (
    cond (eqb n 7) (Refusal.Kind at) (
    cond (eqb n 8) (Refusal.Value at) (
    cond (eqb n 9) Refusal.Spacing (
    cond (eqb n 10) Refusal.Origin (
    cond (eqb n 11) Refusal.Extent (
    cond (eqb n 12) Refusal.OutsideTiles (
    cond (eqb n 13) Refusal.Padding (
    cond (eqb n 14) Refusal.NotStored (
    cond (eqb n 15) (Refusal.Entry at) (
    cond (eqb n 16) Refusal.CrossedEdges (
    cond (eqb n 17) Refusal.Factor (
    cond (eqb n 20) Refusal.ReadingOrder (
    cond (eqb n 21) Refusal.StrayBit (
    Refusal.TownScale)))))))))))))))))))

given-back : (r : Refusal) → refusal_by (refusal_number r) (refusal_place r) ≡ r
given-back Refusal.Scale = refl
given-back Refusal.Zone = refl
given-back Refusal.Polar = refl
given-back Refusal.Latitude = refl
given-back Refusal.Longitude = refl
given-back Refusal.Length = refl
given-back (Refusal.Kind at) = refl
given-back (Refusal.Value at) = refl
given-back Refusal.Spacing = refl
given-back Refusal.Origin = refl
given-back Refusal.Extent = refl
given-back Refusal.OutsideTiles = refl
given-back Refusal.Padding = refl
given-back Refusal.NotStored = refl
given-back (Refusal.Entry at) = refl
given-back Refusal.CrossedEdges = refl
given-back Refusal.Factor = refl
given-back Refusal.ReadingOrder = refl
given-back Refusal.StrayBit = refl
given-back Refusal.TownScale = refl

pub tells-apart : TellsApart
tells-apart r s m p = sym (given-back r) ∙ ap₂ refusal_by m p ∙ given-back s

pub ruleset claims = (never-zero, tells-apart)
