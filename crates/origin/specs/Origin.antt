-- Origins on the tile grid (DIGEST, "The ARC System", 3.4.5). Definitions, and what they are held to.
--     (φUL, λUL) | lat, lon    an upper left point
--     (φ0, λ0)   | pso, lso    the origin's two angles, as a card stores them (MIL-A-89007: PSO, LSO)
--     row_tiles b lat     n, the smallest whole number with 128 × n × H ≥ lat × B
--     column_tiles a lon  m, the greatest whole number with 128 × m × H ≤ lon × A
--     stored_angle x k    the nearest hundredth to 128 × k × H / x, x being A or B
--     origin_of a b lat lon    the origin of an upper left point
--     align_of series lat lon  what `align` answers, or the refusals Scale, TownScale, Factor, Scale, Zone, Polar, Latitude, Longitude
--     on_grid a b n m     −B/512 ≤ n ≤ B/512 and −A/256 ≤ m ≤ A/256
use Rattle.std.specs.Prelude.{◌≡◌, Bool, true, false, if◌then◌else◌, not, ◌&&◌, ℕ, ◌*◌, ◌/◌, ◌≤◌, ◌<◌, ℤ, pos, ◌*ℤ◌, ◌≤ℤ◌, Result, Ok, Err}
use Rattle.whole.specs.Results.{◌>>=◌}
use Rattle.whole.specs.Whole.{floor_div, nearest, ceil_div, outside, Greatest, Smallest}
use Rattle.arc.specs.declared.refusal.Refusal.{Refusal}
use Rattle.arc.specs.declared.series.Series.{Series}
use Rattle.arc.specs.declared.series.Spacing.{Spacing}
use Rattle.arc.specs.Zones.{circle, half, quarter, tile, is_polar}
use Rattle.arc.specs.Pixels.{Grid}
use Rattle.arc.specs.Spacing.{spacing_of}
use Rattle.arc.specs.TownScales.{spacing_for_writing}
use Rattle.origin.specs.declared.Origin.{Origin}

abbrev pub row_tiles : ℕ → ℤ → ℤ
row_tiles b lat = ceil_div (lat *ℤ pos b) (tile * circle)

abbrev pub column_tiles : ℕ → ℤ → ℤ
column_tiles a lon = floor_div (lon *ℤ pos a) (tile * circle)

unfoldable pub stored_angle : ℕ → ℤ → ℤ
stored_angle x k = nearest (pos tile *ℤ k *ℤ pos circle) x

unfoldable pub origin_of : ℕ → ℕ → ℤ → ℤ → Origin
origin_of a b lat lon =
    record {
      n = row_tiles b lat;
      m = column_tiles a lon;
      pso = stored_angle b (row_tiles b lat);
      lso = stored_angle a (column_tiles a lon);
    }

-- the zone, the latitude, the longitude
abbrev pub align_in : ℕ → Spacing → ℤ → ℤ → Result Origin Refusal
align_in zone x lat lon =
    if is_polar zone then Err Refusal.Polar
    else (if outside quarter lat then Err Refusal.Latitude
    else (if outside half lon then Err Refusal.Longitude
    else Ok (origin_of x.a x.b lat lon)))

-- the refusals of the spacing, then these
abbrev pub align_of : Series → ℤ → ℤ → Result Origin Refusal
align_of series lat lon = do
  x ← spacing_for_writing series
  align_in series.zone x lat lon

-- accepted: −B/512 ≤ n ≤ B/512 and −A/256 ≤ m ≤ A/256
abbrev pub on_grid : ℕ → ℕ → ℤ → ℤ → Bool
on_grid a b n m = not (outside (b / 512) n) && not (outside (a / 256) m)

-- ---- what an origin is held to: proved in proofs/Aligned.antt and proofs/Stored.antt

-- n and m as they are defined
pub record Aligned (a b : ℕ) (lat lon : ℤ) (o : Origin) : Type 0 where
  pub n_smallest : Smallest (λ k. (lat *ℤ pos b) ≤ℤ (pos tile *ℤ k *ℤ pos circle)) o.n
  pub m_greatest : Greatest (λ k. (pos tile *ℤ k *ℤ pos circle) ≤ℤ (lon *ℤ pos a)) o.m
  pub pso_stored : o.pso ≡ stored_angle b o.n
  pub lso_stored : o.lso ≡ stored_angle a o.m

abbrev pub AlignedIs : Type 0
AlignedIs = (a b : ℕ) (lat lon : ℤ) → Aligned a b lat lon (origin_of a b lat lon)

-- alignment never leaves the range
abbrev pub AlignedOnGrid : Type 0
AlignedOnGrid =
    (a b : ℕ) → Grid a → Grid b → (lat lon : ℤ) → outside quarter lat ≡ false → outside half lon ≡ false
    → on_grid a b (origin_of a b lat lon).n (origin_of a b lat lon).m ≡ true

-- from 10,000 up alignment goes by the spacing alone
abbrev pub AlignedFrom : Type 0
AlignedFrom =
    (series : Series) (lat lon : ℤ) → 10000 ≤ series.scale → align_of series lat lon ≡ spacing_of series >>= (λ x. align_in series.zone x lat lon)

-- what was aligned has a scale from 10,000 up
abbrev pub AlignedScale : Type 0
AlignedScale = (series : Series) (lat lon : ℤ) (o : Origin) → align_of series lat lon ≡ Ok o → 10000 ≤ series.scale

-- at a town scale no point is aligned, whatever the factor and the zone
abbrev pub TownNotAligned : Type 0
TownNotAligned =
    (series : Series) (lat lon : ℤ) → 5000 ≤ series.scale → series.scale < 10000 → align_of series lat lon ≡ Err Refusal.TownScale

-- a stored angle fixes its tile
abbrev pub StoredFixes : Type 0
StoredFixes = (x : ℕ) → Grid x → (k j : ℤ) → stored_angle x k ≡ stored_angle x j → k ≡ j

-- alignment keeps +180° for m = A/256
abbrev pub DateLineKept : Type 0
DateLineKept = (a : ℕ) → Grid a → stored_angle a (pos (a / 256)) ≡ pos half
