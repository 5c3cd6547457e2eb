-- The library for C: what is asked of a card as it was read, and the block of each answer. A block has the number and the place of a refusal, both 0 in an
-- answer, the values of an answer, all 0 in a refusal, and the total of blanks of the card, 0 in a refusal. Definitions, and what they are held to.
--     told total x            an answer with the total of the card's blanks
--     asked x f               the question f of a card as it was read: reading's refusal first, then the question's own answer
--     asked_over x y row column   an overview's pixel for a chart's, each card as it was read
--     on_reading x same f     what a buffer holds then: as it was where reading refused
--     card_block              what a card tells
--     record_from             the record to be written; TIF is Y where its number is not 0
--     refusal_block, verdict_block   whether a card was written; whether a question is answered whose answer is left in buffers
--     place_block .. window_block    the block of each question
--     tile_block              the stored number, and where its bytes stand in the store
--     corrected_tile_block    the same with the store that holds the tile, 0 for the base store or 1 for the corrections store
use Rattle.std.specs.Prelude.{ℕ, cond, not, eqb, replicate, ℤ, pos, Result, Ok, Err}
use Rattle.whole.specs.Results.{◌>>=◌}
use Rattle.arc.specs.declared.refusal.Refusal.{Refusal}
use Rattle.arc.specs.Refusals.{refusal_number, refusal_place}
use Rattle.card_text.specs.declared.Fields.{Fields}
use Rattle.card_text.specs.declared.Record.{Record}
use Rattle.card.specs.declared.Reading.{Reading}
use Rattle.card.specs.declared.Place.{Place}
use Rattle.card.specs.declared.Position.{Position}
use Rattle.card.specs.declared.Pixel.{Pixel}
use Rattle.card.specs.Overview.{overview_pixel_of}
use Rattle.fordcask.specs.declared.read.OnCard.{OnCard}
use Rattle.fordcask.specs.declared.read.OnCards.{OnCards}
use Rattle.fordcask.specs.declared.parts.CardParts.{CardParts}
use Rattle.fordcask.specs.declared.parts.RecordParts.{RecordParts}
use Rattle.fordcask.specs.declared.parts.RefusalParts.{RefusalParts}
use Rattle.fordcask.specs.declared.parts.VerdictParts.{VerdictParts}
use Rattle.fordcask.specs.declared.parts.PlaceOnCard.{PlaceOnCard}
use Rattle.fordcask.specs.declared.parts.PositionOnCard.{PositionOnCard}
use Rattle.fordcask.specs.declared.parts.PixelOnCard.{PixelOnCard}
use Rattle.fordcask.specs.declared.parts.OverviewOnCards.{OverviewOnCards}

abbrev pub told : {A : Type 0} → ℕ → Result A Refusal → Result (OnCard A) Refusal
told total x = do
  v ← x
  Ok (record { answer = v; blanks = total })

abbrev pub asked : {A : Type 0} → Result Reading Refusal → (Fields → Result A Refusal) → Result (OnCard A) Refusal
asked x f = do
  r ← x
  told r.blanks (f r.card)

abbrev pub asked_over : Result Reading Refusal → Result Reading Refusal → ℤ → ℤ → Result (OnCards Pixel) Refusal
asked_over x y row column = do
  chart ← x
  overview ← y
  p ← overview_pixel_of chart.card overview.card row column
  Ok (record { answer = p; blanks = chart.blanks; overview_blanks = overview.blanks })

abbrev pub on_reading : {A : Type 0} → Result Reading Refusal → A → (Fields → A) → A
on_reading (Ok r) same f = f r.card
on_reading (Err e) same f = same

-- ---- blocks

abbrev pub card_block : Result Reading Refusal → CardParts
card_block (Ok x) =
    record {
      number = 0;
      at = 0;
      a = x.card.a;
      b = x.card.b;
      n = x.card.n;
      m = x.card.m;
      nul = x.card.nul;
      nus = x.card.nus;
      nll = x.card.nll;
      nls = x.card.nls;
      nfl = x.card.nfl;
      nfc = x.card.nfc;
      bad = x.card.bad;
      tif = cond x.card.tif 1 0;
      blanks = x.blanks;
    }
card_block (Err e) =
    record {
      number = refusal_number e;
      at = refusal_place e;
      a = 0;
      b = 0;
      n = pos 0;
      m = pos 0;
      nul = 0;
      nus = 0;
      nll = 0;
      nls = 0;
      nfl = 0;
      nfc = 0;
      bad = replicate 12 0;
      tif = 0;
      blanks = 0;
    }

abbrev pub record_from : RecordParts → Record
record_from r =
    record {
      n = r.n;
      m = r.m;
      nul = r.nul;
      nus = r.nus;
      nll = r.nll;
      nls = r.nls;
      nfl = r.nfl;
      nfc = r.nfc;
      bad = r.bad;
      tif = not (eqb r.tif 0);
    }

abbrev pub refusal_block : Result Unit Refusal → RefusalParts
refusal_block (Ok x) = record { number = 0; at = 0 }
refusal_block (Err e) = record { number = refusal_number e; at = refusal_place e }

abbrev pub verdict_block : Result (OnCard Unit) Refusal → VerdictParts
verdict_block (Ok x) = record { number = 0; at = 0; blanks = x.blanks }
verdict_block (Err e) = record { number = refusal_number e; at = refusal_place e; blanks = 0 }

abbrev pub place_block : Result (OnCard Place) Refusal → PlaceOnCard
place_block (Ok x) = record { number = 0; at = 0; row = x.answer.row; column = x.answer.column; blanks = x.blanks }
place_block (Err e) = record { number = refusal_number e; at = refusal_place e; row = pos 0; column = pos 0; blanks = 0 }

abbrev pub position_block : Result (OnCard Position) Refusal → PositionOnCard
position_block (Ok x) = record { number = 0; at = 0; lat = x.answer.lat; lon = x.answer.lon; blanks = x.blanks }
position_block (Err e) = record { number = refusal_number e; at = refusal_place e; lat = pos 0; lon = pos 0; blanks = 0 }

abbrev pub pixel_block : Result (OnCard Pixel) Refusal → PixelOnCard
pixel_block (Ok x) = record { number = 0; at = 0; row = x.answer.row; column = x.answer.column; blanks = x.blanks }
pixel_block (Err e) = record { number = refusal_number e; at = refusal_place e; row = pos 0; column = pos 0; blanks = 0 }

-- the chart's card and the overview's are read: two totals
abbrev pub overview_block : Result (OnCards Pixel) Refusal → OverviewOnCards
overview_block (Ok x) =
    record {
      number = 0;
      at = 0;
      row = x.answer.row;
      column = x.answer.column;
      blanks = x.blanks;
      overview_blanks = x.overview_blanks;
    }
overview_block (Err e) = record { number = refusal_number e; at = refusal_place e; row = pos 0; column = pos 0; blanks = 0; overview_blanks = 0 }
