-- Pixels round the circle (DIGEST, "The ARC System", 3.4.6). Definitions, and what they are held to.
--     spacing_at u S     A or B at 1:S, where A / 512 or B / 512 at 1:1,000,000 is u; of an overview it is asked at 1:(S × k)
--     row_unit           B / 512, everywhere
use Rattle.std.specs.Prelude.{◌≡◌, true, ℕ, ◌+◌, ◌*◌, ◌/◌, ◌≤◌, ◌<◌, pos, nat_abs}
use Rattle.whole.specs.Whole.{ceil_div}
use Rattle.arc.specs.Zones.{circle}
use Rattle.arc.specs.Scales.{is_scale}

-- 512 times the smallest whole number not below u × 1,000,000 / S
unfoldable pub spacing_at : ℕ → ℕ → ℕ
spacing_at u s = 512 * nat_abs (ceil_div (pos (u * 1000000)) s)

abbrev pub row_unit : ℕ
row_unit = 782

-- ---- what a spacing is held to, for every unit and scale: proved in proofs/PixelLaws.antt

pub record SpacingUnit (u : ℕ) : Type 0 where
  pub least : 1 ≤ u
  pub most : u ≤ 782

-- a multiple of 512, below H, not below the exact value u × 512 × 1,000,000 / S and less than 512 above it
pub record Spaced (u s x : ℕ) : Type 0 where
  pub whole : x ≡ 512 * (x / 512)
  pub some : 512 ≤ x
  pub below : x < circle
  pub enough : 512 * (u * 1000000) ≤ x * s
  pub close : x * s < 512 * (u * 1000000) + 512 * s

-- what the grid's arithmetic leans on: a multiple of 512, none above B at 1:5,000
pub record Grid (x : ℕ) : Type 0 where
  pub whole : x ≡ 512 * (x / 512)
  pub some : 512 ≤ x
  pub most : x ≤ 80076800

abbrev pub SpacingIs : Type 0
SpacingIs = (u s : ℕ) → SpacingUnit u → is_scale s ≡ true → Spaced u s (spacing_at u s)

-- a larger S never has more pixels
abbrev pub SpacingFalls : Type 0
SpacingFalls = (u s t : ℕ) → SpacingUnit u → is_scale s ≡ true → is_scale t ≡ true → s ≤ t → spacing_at u t ≤ spacing_at u s

-- A is at least 4,608: no unit of the table is below 161
abbrev pub ColumnsAtLeast : Type 0
ColumnsAtLeast = (u s : ℕ) → 161 ≤ u → is_scale s ≡ true → 4608 ≤ spacing_at u s

-- B is at least 20,480
abbrev pub RowsAtLeast : Type 0
RowsAtLeast = (s : ℕ) → is_scale s ≡ true → 20480 ≤ spacing_at row_unit s
