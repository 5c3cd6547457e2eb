-- What a refusal is called where numbers are handed out, and what is handed out of any answer. Definitions, and what they are held to.
--     refusal_number r        the refusal's number
--     refusal_place r         the subfield or the entry that is refused, and else 0
--     answered vs        a report that refuses nothing, with the value parts vs
--     refused_with r k   the report of a refusal, its k value parts 0
use Rattle.std.specs.Prelude.{◌≡◌, ◌≢◌, ℕ, List, replicate, ℤ, pos}
use Rattle.arc.specs.declared.refusal.Refusal.{Refusal}

abbrev pub refusal_number : Refusal → ℕ
refusal_number Refusal.Scale = 1
refusal_number Refusal.Zone = 2
refusal_number Refusal.Polar = 3
refusal_number Refusal.Latitude = 4
refusal_number Refusal.Longitude = 5
refusal_number Refusal.Length = 6
refusal_number (Refusal.Kind at) = 7
refusal_number (Refusal.Value at) = 8
refusal_number Refusal.Spacing = 9
refusal_number Refusal.Origin = 10
refusal_number Refusal.Extent = 11
refusal_number Refusal.OutsideTiles = 12
refusal_number Refusal.Padding = 13
refusal_number Refusal.NotStored = 14
refusal_number (Refusal.Entry at) = 15
refusal_number Refusal.CrossedEdges = 16
refusal_number Refusal.Factor = 17
refusal_number Refusal.ReadingOrder = 20
refusal_number Refusal.StrayBit = 21
refusal_number Refusal.TownScale = 24

abbrev pub refusal_place : Refusal → ℕ
refusal_place (Refusal.Kind at) = at
refusal_place (Refusal.Value at) = at
refusal_place (Refusal.Entry at) = at
refusal_place _ = 0

-- number of the refusal (0 where there is none), place and value parts
pub record Report : Type 0 where
  pub number : ℕ
  pub place : ℕ
  pub values : List ℤ

abbrev pub answered : List ℤ → Report
answered vs = record { number = 0; place = 0; values = vs }

-- value parts are 0 in a refusal
abbrev pub refused_with : Refusal → ℕ → Report
refused_with r k = record { number = refusal_number r; place = refusal_place r; values = replicate k (pos 0) }

-- ---- what the numbers are held to: proved in proofs/Refused.antt

-- no refusal looks like an answer
abbrev pub NeverZero : Type 0
NeverZero = (r : Refusal) → refusal_number r ≢ 0

-- number and place tell one refusal from every other
abbrev pub TellsApart : Type 0
TellsApart = (r s : Refusal) → refusal_number r ≡ refusal_number s → refusal_place r ≡ refusal_place s → r ≡ s
