-- The cover list, whole (DIGEST, "The ARC System", 3.3.3). A claim: the proof is proofs/CoverAll.antt.
--     CoverListed        a number is in the cover list exactly when it is the number of a zone that covers the latitude
use Rattle.std.specs.Prelude.{◌≡◌, true, false, ℕ, ℤ}
use Rattle.whole.specs.Whole.{outside}
use Rattle.whole.specs.Lists.{occurs}
use Rattle.arc.specs.Zones.{quarter}
use Rattle.arc.specs.Scales.{is_scale}
use Rattle.arc.specs.Pixels.{row_unit, spacing_at}
use Rattle.zones.specs.Cover.{covers, cover_zones}

-- at every scale, for every latitude in range and every number: the list leaves out no zone of the eighteen that covers the latitude, and has no other
abbrev pub CoverListed : Type 0
CoverListed =
    (s : ℕ) → is_scale s ≡ true → (lat : ℤ) → outside quarter lat ≡ false → (zone : ℕ)
    → (occurs zone (cover_zones (spacing_at row_unit s) lat) ≡ true → covers (spacing_at row_unit s) lat zone ≡ true)
    × (covers (spacing_at row_unit s) lat zone ≡ true → occurs zone (cover_zones (spacing_at row_unit s) lat) ≡ true)
