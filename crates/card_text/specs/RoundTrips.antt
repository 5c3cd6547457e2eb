-- Both round trips (01, "The image card, 98 bytes"), and how far they go (02, E2, E13): what is claimed, proved in round_trip/proofs/ReadBack.antt,
-- WriteBack.antt and Town.antt.
--     record_of k        the record that a card's value holds
--     ReadsBack          reading what was written gives the record back, and meets no blanks
--     WritesBack         writing what was read gives the bytes back exactly where no blanks were met, and what was written is read to the same card
--                        with total 0; from 10,000 up
--     WrittenScale       what was written has a scale from 10,000 up
--     TownNotWritten     from 5,000 to 9,999 writing is refused with 24
--     HeldNotWritten     so it is for what was read there
--     TextReadBack       at every scale that is read, a card's text is read back to its record
--     ReadIsText         at every scale that is read, what was read is the text of its record exactly where no blanks were met
--     TextIsRead         at every scale that is read, the text of what was read is read to the same card, with no blanks
use Rattle.std.specs.Prelude.{◌≡◌, false, List, ◌↔◌, ℕ, ◌≤◌, ◌<◌, length, take, Ok, Err}
use Rattle.arc.specs.declared.series.Series.{Series}
use Rattle.arc.specs.declared.refusal.Refusal.{Refusal}
use Rattle.arc.specs.Zones.{is_polar}
use Rattle.arc.specs.Spacing.{spacing_of}
use Rattle.card_text.specs.declared.Fields.{Fields}
use Rattle.card_text.specs.declared.Record.{Record}
use Rattle.card_text.specs.Read.{read_of, accepted_card}
use Rattle.card_text.specs.Write.{card_text, first, record_tests, write_of, out_of}

abbrev pub record_of : Fields → Record
record_of k =
    record {
      n = k.n;
      m = k.m;
      nul = k.nul;
      nus = k.nus;
      nll = k.nll;
      nls = k.nls;
      nfl = k.nfl;
      nfc = k.nfc;
      bad = k.bad;
      tif = k.tif;
    }

-- the card read from what was written: accepted, of this scale, factor and zone, and with this record; no blanks are met
pub record ReadBack (series : Series) (r : Record) (s : List ℕ) : Type 0 where
  pub fields : Fields
  pub read : read_of series s ≡ accepted_card fields 0
  pub of_series : fields.series ≡ series
  pub same : record_of fields ≡ r

-- BAD has twelve bytes, as the record's array holds it
abbrev pub ReadsBack : Type 0
ReadsBack =
    (series : Series) (r : Record) (out : List ℕ) → length r.bad ≡ 12 → write_of series r out ≡ Ok tt
    → ReadBack series r (take 98 (out_of series r out))

-- written into any output of 98 bytes or more, the total of blanks being 0 or not (02, E2)
pub record WrittenBack (series : Series) (k : Fields) (total : ℕ) (s out : List ℕ) : Type 0 where
  pub written : write_of series (record_of k) out ≡ Ok tt
  pub same : take 98 (out_of series (record_of k) out) ≡ s ↔ total ≡ 0
  pub again : read_of series (take 98 (out_of series (record_of k) out)) ≡ accepted_card k 0

-- from 10,000 up (02, E13)
abbrev pub WritesBack : Type 0
WritesBack =
    (series : Series) (s : List ℕ) (k : Fields) (total : ℕ) (out : List ℕ) → read_of series s ≡ accepted_card k total → 10000 ≤ series.scale
    → 98 ≤ length out → WrittenBack series k total s out

-- ---- the scales that are written (02, E13)

abbrev pub WrittenScale : Type 0
WrittenScale = (series : Series) (r : Record) (out : List ℕ) → write_of series r out ≡ Ok tt → 10000 ≤ series.scale

-- writing is refused with 24, and the output stays
pub record NotWritten (series : Series) (r : Record) (out : List ℕ) : Type 0 where
  pub refused : write_of series r out ≡ Err Refusal.TownScale
  pub left : out_of series r out ≡ out

-- any record, factor, zone and output
abbrev pub TownNotWritten : Type 0
TownNotWritten = (series : Series) (r : Record) (out : List ℕ) → 5000 ≤ series.scale → series.scale < 10000 → NotWritten series r out

-- what was read
abbrev pub HeldNotWritten : Type 0
HeldNotWritten =
    (series : Series) (s : List ℕ) (k : Fields) (total : ℕ) (out : List ℕ) → read_of series s ≡ accepted_card k total → series.scale < 10000
    → NotWritten series (record_of k) out

-- ---- at every scale that is read, the town scales too: a card's text and its record (02, E13)

abbrev pub TextReadBack : Type 0
TextReadBack =
    (series : Series) (a b : ℕ) (r : Record) → length r.bad ≡ 12 → spacing_of series ≡ Ok (record { a = a; b = b }) → is_polar series.zone ≡ false
    → first (record_tests a b r) ≡ Ok tt → ReadBack series r (card_text a b r)

abbrev pub ReadIsText : Type 0
ReadIsText =
    (series : Series) (s : List ℕ) (k : Fields) (total : ℕ) → read_of series s ≡ accepted_card k total
    → card_text k.a k.b (record_of k) ≡ s ↔ total ≡ 0

abbrev pub TextIsRead : Type 0
TextIsRead =
    (series : Series) (s : List ℕ) (k : Fields) (total : ℕ) → read_of series s ≡ accepted_card k total
    → read_of series (card_text k.a k.b (record_of k)) ≡ accepted_card k 0
