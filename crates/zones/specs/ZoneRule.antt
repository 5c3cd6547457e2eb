-- How the basic zone is found (DIGEST, "The ARC System", 3.3.3). A claim: the proof is proofs/ZoneRule.antt.
--     printed_at i       the row at place i, 0 to 8, of the nine that are printed
--     Holds r size       the row holds a latitude of that size
--     Found lat zone     exactly one row of the nine holds the latitude's size, the zone is that row's, and it is the southern one exactly below 0
--     ZoneRule           this holds of the zone answered, for every latitude in range
use Rattle.std.specs.Prelude.{◌≡◌, ◌⊎◌, ◌↔◌, ℕ, ◌*◌, ◌≤◌, ◌<◌, get_or, ℤ, pos, nat_abs, ◌<ℤ◌, Ok}
use Rattle.arc.specs.AsPrinted.{Printed, printed_row, printed_rows}
use Rattle.zones.specs.Basic.{basic_zone_of}

abbrev pub printed_at : ℕ → Printed
printed_at i = get_or printed_rows i (printed_row 0 0 0 0 0)

-- a degree is 360,000 hundredths of an arc-second; a limit belongs to the poleward row, and 90° to the last
abbrev pub Holds : Printed → ℕ → Type 0
Holds r size = (r.equatorward * 360000 ≤ size) × ((size < r.poleward * 360000) ⊎ ((r.poleward ≡ 90) × (size ≡ 32400000)))

pub record Found (lat : ℤ) (zone : ℕ) : Type 0 where
  pub at : ℕ
  pub of_nine : at < 9
  pub holds : Holds (printed_at at) (nat_abs lat)
  pub alone : (j : ℕ) → j < 9 → Holds (printed_at j) (nat_abs lat) → j ≡ at
  pub of_row : (zone ≡ (printed_at at).northern) ⊎ (zone ≡ (printed_at at).southern)
  pub southern_below : (zone ≡ (printed_at at).southern) ↔ (lat <ℤ pos 0)

abbrev pub ZoneRule : Type 0
ZoneRule = (lat : ℤ) → nat_abs lat ≤ 32400000 → (zone : ℕ) × (basic_zone_of lat ≡ Ok zone) × Found lat zone
