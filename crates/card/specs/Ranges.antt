-- Answered positions are in range (01, "Units and the zone table"). A claim: the proof is proofs/Answered.antt.
--     InRange lat lon        a latitude within ±90°, a longitude from −180° up to but not including 180°
--     AnsweredInRange        every position that a card answers, in either pair, is such
use Rattle.card.specs.Grid.{at_position}
use Rattle.std.specs.Prelude.{◌≡◌, false, ℤ, pos, neg_ℤ, ◌≤ℤ◌, ◌<ℤ◌}
use Rattle.whole.specs.Whole.{outside}
use Rattle.arc.specs.Zones.{half, quarter}
use Rattle.card_text.specs.declared.Fields.{Fields}
use Rattle.card.specs.declared.Pair.{Pair}
use Rattle.card_text.specs.Read.{Known}
use Rattle.card.specs.Grid.{position_of}

pub record InRange (lat lon : ℤ) : Type 0 where
  pub latitude : outside quarter lat ≡ false
  pub west : neg_ℤ (pos half) ≤ℤ lon
  pub east : lon <ℤ pos half

abbrev pub AnsweredInRange : Type 0
AnsweredInRange = (p : Pair) (k : Fields) → Known k → (r c lat lon : ℤ) → position_of p k r c ≡ at_position lat lon → InRange lat lon
