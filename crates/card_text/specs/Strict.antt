-- Blanks before the digits of a card's numbers (02, E2), and 01's reading, which has none: what is claimed, proved in proofs/Strict.antt.
--     OneDigit           one-digit subfields don't change
--     DigitsAlone        a number's blanks count nothing: it is that of the digits after them
--     SameWithout        a card none of whose numbers starts with a blank is read as 01 reads it, with total 0, accepted or refused
--     StrictAccepts      what 01's reading accepts has no blanks, and is read to the same card
--     TolerantAccepts    what is read with no blanks 01's reading accepts, to the same card
--     RefusedNone        in a refusal the total is 0
--     AtMost37           the total is at most 37
use Rattle.std.specs.Prelude.{◌≡◌, List, ℕ, ◌≤◌, length, drop, Err}
use Rattle.arc.specs.declared.series.Series.{Series}
use Rattle.arc.specs.declared.refusal.Refusal.{Refusal}
use Rattle.text.specs.Text.{number, blanks}
use Rattle.card_text.specs.declared.Fields.{Fields}
use Rattle.card_text.specs.declared.Fill.{Fill}
use Rattle.card_text.specs.Layout.{layout, number_laid}
use Rattle.card_text.specs.Blanks.{total_blanks}
use Rattle.card_text.specs.Read.{accepted_card, blanks_told, read_as, read_of, read_strict}

abbrev pub OneDigit : Type 0
OneDigit = (s : List ℕ) → length s ≡ 1 → number_laid Fill.Blanks s ≡ number_laid Fill.Zeros s

abbrev pub DigitsAlone : Type 0
DigitsAlone = (s : List ℕ) → number s ≡ number (drop (blanks s) s)

-- no number, of one digit or more, starts with a blank; a blank elsewhere is refused by both
abbrev pub SameWithout : Type 0
SameWithout = (series : Series) (s : List ℕ) → total_blanks layout s ≡ 0 → (read_of series s ≡ read_strict series s) × (blanks_told (read_of series s) ≡ 0)

abbrev pub StrictAccepts : Type 0
StrictAccepts =
    (series : Series) (s : List ℕ) (k : Fields) (total : ℕ) → read_strict series s ≡ accepted_card k total
    → (total ≡ 0) × (read_of series s ≡ accepted_card k 0)

abbrev pub TolerantAccepts : Type 0
TolerantAccepts = (series : Series) (s : List ℕ) (k : Fields) → read_of series s ≡ accepted_card k 0 → read_strict series s ≡ accepted_card k 0

abbrev pub RefusedNone : Type 0
RefusedNone = (fill : Fill) (series : Series) (s : List ℕ) (e : Refusal) → read_as fill series s ≡ Err e
    → blanks_told (read_as fill series s) ≡ 0

-- ARV and BRV have 4 digits and 5 at least, PNC and PNL 3, the others 1: 4 + 3 + 2 × 3 + 4 × 5 + 2 × 2
abbrev pub AtMost37 : Type 0
AtMost37 = (series : Series) (s : List ℕ) (k : Fields) (total : ℕ) → read_of series s ≡ accepted_card k total → total ≤ 37
