-- What only the code needs: what it makes of the values, the origin counted in tiles, the record and the card (01, "The image card, 98 bytes").
-- Definitions only; proofs/ tie them to reading.
--     found_at x angle   the tile whose stored angle this is, both counted from the axis' low end
--     tile_at t r        that tile, as a whole number from −t to t
--     extents_at ..      the extents, n being counted from −B/512
--     record_with n m v  the record of a card's values
--     fields_from ..     the fields of a card, of its record
--     Walked s values    the layout refuses nothing, for some fill of its numbers, and these are its values
use Rattle.std.specs.Prelude.{◌≡◌, ℕ, ◌*◌, ◌/◌, List, Bool, if◌then◌else◌, ◌&&◌, leb, ltb, eqb, length, ℤ, pos, ◌-ℤ◌, Option, Some, None, Ok}
use Rattle.std.proofs.Math.Option.{Option as Search, some, none}
use Rattle.whole.specs.Whole.{near}
use Rattle.arc.specs.declared.series.Series.{Series}
use Rattle.arc.specs.Zones.{circle, tile}
use Rattle.card_text.specs.declared.Fields.{Fields}
use Rattle.card_text.specs.declared.Fill.{Fill}
use Rattle.card_text.specs.declared.Record.{Record}
use Rattle.card_text.specs.declared.subfields.Values.{Values}
use Rattle.card_text.specs.Layout.{layout, walk}
use Rattle.card_text.specs.StepsFields.{all_values}

-- 128 × H
abbrev pub tile_angle : ℕ
tile_angle = tile * circle

-- the nearest tile, if its stored angle is this one
unfoldable pub found_at : ℕ → ℕ → Option ℕ
found_at x angle =
    if eqb (near (near (angle * x) tile_angle * tile_angle) x) angle then Some (near (angle * x) tile_angle) else None

abbrev pub tile_at : ℕ → Option ℕ → Search ℤ
tile_at t (Some k) = some (pos k -ℤ pos t)
tile_at t None = none

unfoldable pub extents_at : ℕ → ℕ → ℕ → ℕ → ℕ → ℕ → ℕ → ℕ → Bool
extents_at a north nul nus nll nls nfl nfc =
    leb nfc (a / 128) && leb nfl north && (leb nul nll && ltb nll (128 * nfl)) && (leb nls nus && ltb nus (128 * nfc))

abbrev pub record_with : ℤ → ℤ → Values → Record
record_with n m v =
    record {
      n = n;
      m = m;
      nul = v.extents.nul;
      nus = v.extents.nus;
      nll = v.extents.nll;
      nls = v.extents.nls;
      nfl = v.extents.nfl;
      nfc = v.extents.nfc;
      bad = v.bad;
      tif = v.tif;
    }

abbrev pub fields_from : Series → ℕ → ℕ → ℕ → ℕ → Record → Fields
fields_from series a b north east r =
    record {
      series = series;
      a = a;
      b = b;
      n = r.n;
      m = r.m;
      nul = r.nul;
      nus = r.nus;
      nll = r.nll;
      nls = r.nls;
      nfl = r.nfl;
      nfc = r.nfc;
      bad = r.bad;
      tif = r.tif;
      north = 128 * north;
      east = 128 * east;
    }

pub record Walked (s : List ℕ) (values : Values) : Type 0 where
  pub fill : Fill
  pub long : length s ≡ 98
  pub walks : walk fill layout s ≡ Ok tt
  pub kept : values ≡ all_values s
