-- The rectangle's list, point by point of latitude read as a continuous line. Claims: the proofs are proofs/Hundredths.antt, proofs/Stretch.antt,
-- proofs/Shared.antt and proofs/Poleward.antt. What is said of a fraction is multiplied by its denominator.
--     Point              a point of the line: numerator / denominator hundredths of an arc-second
--     AtMost, Below      two points in their order, multiplied out
--     InRectangle        a point of the rectangle, both edges belonging to it
--     HoldsPoint, OverlapsPoint    it lies between the row's limits, or in the row's overlap, by its size
--     CoversPoint        the zone covers the point: what is said of a latitude, of any point
--     Between, NotBeyond a point strictly between two ends that were multiplied by B, and one that is not beyond them
--     Shared             two different points that lie in both, with all between them
--     WholeIs            at a whole hundredth CoversPoint is `covers`
--     StretchIs          a zone's stretch is what it covers: each point between its ends is covered, and none beyond them
--     SharesIs           the test of a zone and a rectangle is true exactly when there are two such points
--     RectangleListed    a number is in the list exactly when it is a zone's for which there are two such points
--     CoverPoleward      a zone that covers a latitude is listed for every rectangle that starts there and goes poleward
use Rattle.std.specs.Prelude.{◌≡◌, true, false, ◌⊎◌, ◌↔◌, ℕ, ◌-◌, ◌*◌, ◌≤◌, ◌<◌, ℤ, pos, nat_abs, ◌*ℤ◌, ◌≤ℤ◌, ◌<ℤ◌, Some}
use Rattle.whole.specs.Whole.{outside}
use Rattle.whole.specs.Lists.{occurs}
use Rattle.arc.specs.Zones.{circle, quarter, table_row, is_polar}
use Rattle.arc.specs.declared.zone_table.Row.{Row}
use Rattle.arc.specs.Scales.{is_scale}
use Rattle.arc.specs.Pixels.{row_unit, spacing_at}
use Rattle.zones.specs.Basic.{zone_on}
use Rattle.zones.specs.Cover.{covers}
use Rattle.rectangle.specs.Stretch.{Stretch, zone_stretch, shares}
use Rattle.rectangle.specs.Rectangle.{rectangle_zones}

-- it may lie past a pole, where no rectangle reaches
pub record Point : Type 0 where
  pub numerator : ℤ
  pub denominator : ℕ
  pub positive : 0 < denominator

abbrev pub AtMost : Point → Point → Type 0
AtMost p q = (p.numerator *ℤ pos q.denominator) ≤ℤ (q.numerator *ℤ pos p.denominator)

abbrev pub Below : Point → Point → Type 0
Below p q = (p.numerator *ℤ pos q.denominator) <ℤ (q.numerator *ℤ pos p.denominator)

abbrev pub InRectangle : ℤ → ℤ → Point → Type 0
InRectangle south north p = ((south *ℤ pos p.denominator) ≤ℤ p.numerator) × (p.numerator ≤ℤ (north *ℤ pos p.denominator))

-- a limit belongs to the poleward zone, and 90° to the polar zones
abbrev pub HoldsPoint : Row → Point → Type 0
HoldsPoint r p =
    (r.equatorward * p.denominator ≤ nat_abs p.numerator)
    × ((nat_abs p.numerator < r.poleward * p.denominator) ⊎ ((r.poleward ≡ quarter) × (nat_abs p.numerator ≡ quarter * p.denominator)))

-- a non-polar zone with poleward limit P: |lat| at least P and (|lat| − P) × B < 1024 × H
abbrev pub OverlapsPoint : ℕ → Row → Point → Type 0
OverlapsPoint b r p =
    (is_polar r.northern ≡ false)
    × (r.poleward * p.denominator ≤ nat_abs p.numerator)
    × ((nat_abs p.numerator - r.poleward * p.denominator) * b < 1024 * circle * p.denominator)

-- a point of its hemisphere, the numerator having its sign, that lies in it or in its overlap
pub record CoversPoint (b zone : ℕ) (p : Point) : Type 0 where
  pub row : Row
  pub of_zone : table_row zone ≡ Some row
  pub hemisphere : zone ≡ zone_on p.numerator row
  pub lies : HoldsPoint row p ⊎ OverlapsPoint b row p

abbrev pub Between : ℕ → Stretch → Point → Type 0
Between b q p =
    ((q.south_end *ℤ pos p.denominator) <ℤ (p.numerator *ℤ pos b)) × ((p.numerator *ℤ pos b) <ℤ (q.north_end *ℤ pos p.denominator))

abbrev pub NotBeyond : ℕ → Stretch → Point → Type 0
NotBeyond b q p =
    ((q.south_end *ℤ pos p.denominator) ≤ℤ (p.numerator *ℤ pos b)) × ((p.numerator *ℤ pos b) ≤ℤ (q.north_end *ℤ pos p.denominator))

-- two different points, each of them and every point between them in the rectangle and in the zone
pub record Shared (b : ℕ) (south north : ℤ) (zone : ℕ) : Type 0 where
  pub low : Point
  pub high : Point
  pub different : Below low high
  pub all_between : (p : Point) → AtMost low p → AtMost p high → InRectangle south north p × CoversPoint b zone p

-- ---- the claims

abbrev pub WholeIs : Type 0
WholeIs =
    (b zone : ℕ) (lat : ℤ) → outside quarter lat ≡ false → (p : Point) → p.numerator ≡ lat *ℤ pos p.denominator
    → CoversPoint b zone p ↔ (covers b lat zone ≡ true)

abbrev pub StretchIs : Type 0
StretchIs =
    (b : ℕ) → 0 < b → (zone : ℕ) (r : Row) → table_row zone ≡ Some r → (p : Point)
    → (Between b (zone_stretch b zone r) p → CoversPoint b zone p) × (CoversPoint b zone p → NotBeyond b (zone_stretch b zone r) p)

abbrev pub SharesIs : Type 0
SharesIs = (b : ℕ) → 0 < b → (south north : ℤ) (zone : ℕ) → (shares b south north zone ≡ true) ↔ Shared b south north zone

abbrev pub RectangleListed : Type 0
RectangleListed =
    (s : ℕ) → is_scale s ≡ true → (south north : ℤ) (zone : ℕ)
    → (occurs zone (rectangle_zones (spacing_at row_unit s) south north) ≡ true) ↔ Shared (spacing_at row_unit s) south north zone

-- north of the Equator, and on it, a rectangle from the latitude north; south of it one from the latitude south: at a pole there is none
abbrev pub CoverPoleward : Type 0
CoverPoleward =
    (s : ℕ) → is_scale s ≡ true → (lat edge : ℤ) → outside quarter edge ≡ false → (zone : ℕ) → covers (spacing_at row_unit s) lat zone ≡ true
    → (pos 0 ≤ℤ lat → lat <ℤ edge → occurs zone (rectangle_zones (spacing_at row_unit s) lat edge) ≡ true)
    × (lat <ℤ pos 0 → edge <ℤ lat → occurs zone (rectangle_zones (spacing_at row_unit s) edge lat) ≡ true)
