-- The library for C: the blocks of questions on a tile index. Definitions only.
--     bands_block, window_block    the three band values; 1 and the first missing tile, 0 and 0 where none is
--     tile_block                   the stored number, and where its bytes stand in the store
--     corrected_tile_block         the same with the store that holds the tile, 0 for the base store or 1 for the corrections store
use Rattle.std.specs.Prelude.{ℕ, ◌-◌, ◌*◌, Result, Ok, Err, Option, Some, None}
use Rattle.arc.specs.declared.refusal.Refusal.{Refusal}
use Rattle.arc.specs.Refusals.{refusal_number, refusal_place}
use Rattle.tiles.specs.declared.Bands.{Bands}
use Rattle.tiles.specs.declared.Stored.{Stored}
use Rattle.tiles.specs.Index.{tile_bytes}
use Rattle.tiles.specs.Corrections.{source_number}
use Rattle.fordcask.specs.declared.read.OnCard.{OnCard}
use Rattle.fordcask.specs.declared.parts.BandsOnCard.{BandsOnCard}
use Rattle.fordcask.specs.declared.parts.WindowOnCard.{WindowOnCard}
use Rattle.fordcask.specs.declared.parts.TileParts.{TileParts}
use Rattle.fordcask.specs.declared.parts.CorrectedTile.{CorrectedTile}

abbrev pub bands_block : Result (OnCard Bands) Refusal → BandsOnCard
bands_block (Ok x) = record { number = 0; at = 0; red = x.answer.red; green = x.answer.green; blue = x.answer.blue; blanks = x.blanks }
bands_block (Err e) = record { number = refusal_number e; at = refusal_place e; red = 0; green = 0; blue = 0; blanks = 0 }

-- 1 and the tile where one is missing, 0 and 0 where none is
abbrev pub missing_flag : Option ℕ → ℕ
missing_flag (Some t) = 1
missing_flag None = 0

abbrev pub missing_tile : Option ℕ → ℕ
missing_tile (Some t) = t
missing_tile None = 0

abbrev pub window_block : Result (OnCard (Option ℕ)) Refusal → WindowOnCard
window_block (Ok x) = record { number = 0; at = 0; missing = missing_flag x.answer; tile = missing_tile x.answer; blanks = x.blanks }
window_block (Err e) = record { number = refusal_number e; at = refusal_place e; missing = 0; tile = 0; blanks = 0 }

abbrev pub tile_block : Result (OnCard Stored) Refusal → TileParts
tile_block (Ok x) =
    record {
      number = 0;
      at = 0;
      stored = x.answer.number;
      offset = (x.answer.number - 1) * tile_bytes;
      length = tile_bytes;
      blanks = x.blanks;
    }
tile_block (Err e) = record { number = refusal_number e; at = refusal_place e; stored = 0; offset = 0; length = 0; blanks = 0 }

abbrev pub corrected_tile_block : Result (OnCard Stored) Refusal → CorrectedTile
corrected_tile_block (Ok x) =
    record {
      number = 0;
      at = 0;
      source = source_number x.answer.source;
      stored = x.answer.number;
      offset = (x.answer.number - 1) * tile_bytes;
      length = tile_bytes;
      blanks = x.blanks;
    }
corrected_tile_block (Err e) = record { number = refusal_number e; at = refusal_place e; source = 0; stored = 0; offset = 0; length = 0; blanks = 0 }
