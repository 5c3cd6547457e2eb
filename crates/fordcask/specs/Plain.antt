-- The library for C: the blocks of questions on numbers alone. A block has the number and the place of a refusal, both 0 in an answer, and the values of
-- an answer, all 0 in a refusal. Definitions only.
--     constant_block .. offset_block    the block of each answer
use Rattle.std.specs.Prelude.{ℕ, List, length, replicate, pos, Result, Ok, Err}
use Rattle.std.specs.Float.Ieee.{of_int}
use Rattle.std.specs.Float.{binary64}
use Rattle.whole.specs.Lists.{padded}
use Rattle.arc.specs.declared.refusal.Refusal.{Refusal}
use Rattle.arc.specs.declared.series.Spacing.{Spacing}
use Rattle.arc.specs.Refusals.{refusal_number, refusal_place}
use Rattle.origin.specs.declared.Origin.{Origin}
use Rattle.card.specs.declared.Offset.{Offset}
use Rattle.fordcask.specs.declared.parts.ConstantParts.{ConstantParts}
use Rattle.fordcask.specs.declared.parts.SpacingParts.{SpacingParts}
use Rattle.fordcask.specs.declared.parts.ZoneParts.{ZoneParts}
use Rattle.fordcask.specs.declared.parts.CoverParts.{CoverParts}
use Rattle.fordcask.specs.declared.parts.RectangleParts.{RectangleParts}
use Rattle.fordcask.specs.declared.parts.OriginParts.{OriginParts}
use Rattle.fordcask.specs.declared.parts.OffsetParts.{OffsetParts}

abbrev pub constant_block : Result ℕ Refusal → ConstantParts
constant_block (Ok pixels) = record { number = 0; at = 0; pixels = pixels }
constant_block (Err e) = record { number = refusal_number e; at = refusal_place e; pixels = 0 }

abbrev pub spacing_block : Result Spacing Refusal → SpacingParts
spacing_block (Ok x) = record { number = 0; at = 0; a = x.a; b = x.b }
spacing_block (Err e) = record { number = refusal_number e; at = refusal_place e; a = 0; b = 0 }

abbrev pub zone_block : Result ℕ Refusal → ZoneParts
zone_block (Ok zone) = record { number = 0; at = 0; zone = zone }
zone_block (Err e) = record { number = refusal_number e; at = refusal_place e; zone = 0 }

abbrev pub cover_block : Result (List ℕ) Refusal → CoverParts
cover_block (Ok zs) = record { number = 0; at = 0; length = length zs; zones = padded 6 zs }
cover_block (Err e) = record { number = refusal_number e; at = refusal_place e; length = 0; zones = replicate 6 0 }

abbrev pub rectangle_block : Result (List ℕ) Refusal → RectangleParts
rectangle_block (Ok zs) = record { number = 0; at = 0; length = length zs; zones = padded 18 zs }
rectangle_block (Err e) = record { number = refusal_number e; at = refusal_place e; length = 0; zones = replicate 18 0 }

abbrev pub origin_block : Result Origin Refusal → OriginParts
origin_block (Ok o) = record { number = 0; at = 0; n = o.n; m = o.m; pso = o.pso; lso = o.lso }
origin_block (Err e) = record { number = refusal_number e; at = refusal_place e; n = pos 0; m = pos 0; pso = pos 0; lso = pos 0 }

abbrev pub offset_block : Result Offset Refusal → OffsetParts
offset_block (Ok o) = record { number = 0; at = 0; lat = o.lat; lon = o.lon }
offset_block (Err e) = record { number = refusal_number e; at = refusal_place e; lat = of_int binary64 (pos 0); lon = of_int binary64 (pos 0) }
