-- The tile index (MIL-A-89007, 3.8.5), and what is asked of it in either form. Definitions only.
--     tiles k                how many tiles an image has
--     IndexView              an index by what it answers: its lengths alone, its lengths and the stores', and what it says of each tile
--     index_wrong k index count     the index or the count is of the wrong length
--     said_of k index count t       what the index says of tile t, by its number from 0 in reading order
--     by_list k index count  the list, as an index
--     tile_of k r c          the tile of a pixel
use Rattle.std.specs.Prelude.{ℕ, ◌+◌, ◌*◌, ◌/◌, List, Bool, cond, not, ◌||◌, ltb, eqb, length, get_or, Result, Ok, Err}
use Rattle.arc.specs.declared.refusal.Refusal.{Refusal}
use Rattle.card_text.specs.declared.Fields.{Fields}
use Rattle.tiles.specs.declared.Source.{Source}
use Rattle.tiles.specs.declared.Stored.{Stored}
use Rattle.tiles.specs.declared.Said.{Said}

abbrev pub tiles : Fields → ℕ
tiles k = k.nfl * k.nfc

abbrev pub in_base : ℕ → Stored
in_base n = record { source = Source.Base; number = n }

abbrev pub in_second : ℕ → Stored
in_second n = record { source = Source.Corrections; number = n }

-- `check` is what a window is refused with before 12, `check_with base second` what a look-up is, beside these two stores
pub record IndexView : Type 0 where
  pub check : Result Unit Refusal
  pub check_with : List ℕ → List ℕ → Result Unit Refusal
  pub says : ℕ → Said

-- Length where the lengths are wrong, else what comes after
abbrev pub unless_wrong : Bool → Result Unit Refusal → Result Unit Refusal
unless_wrong wrong then = cond wrong (Err Refusal.Length) then

-- a tile's bytes: red, green, blue, each 128 rows of 128 (POR 0)
abbrev pub tile_bytes : ℕ
tile_bytes = 49152

-- with TIF Y the index lists NFL × NFC whole numbers; with N it is empty
abbrev pub index_length : Fields → ℕ
index_length k = cond k.tif (tiles k) 0

-- the stored count is at most NFL × NFC, and equals it with N
abbrev pub count_wrong : Fields → ℕ → Bool
count_wrong k count = cond k.tif (ltb (tiles k) count) (not (eqb count (tiles k)))

-- Length
unfoldable pub index_wrong : Fields → List ℕ → ℕ → Bool
index_wrong k index count = not (eqb (length index) (index_length k)) || count_wrong k count

-- Length, beside a store
abbrev pub store_wrong : Fields → List ℕ → ℕ → List ℕ → Bool
store_wrong k index count store = index_wrong k index count || not (eqb (length store) (count * tile_bytes))

-- 0 for a tile not stored, n for the n-th stored tile of its store
abbrev pub said : Source → ℕ → ℕ → Said
said source count e = cond (eqb e 0) Said.Missing (cond (ltb count e) Said.Above (Said.Stored (record { source = source; number = e })))

-- with N all are stored in reading order
unfoldable pub said_of : Fields → List ℕ → ℕ → ℕ → Said
said_of k index count t = cond k.tif (said Source.Base count (get_or index t 0)) (Said.Stored (in_base (t + 1)))

abbrev pub by_list : Fields → List ℕ → ℕ → IndexView
by_list k index count =
    record {
      check = unless_wrong (index_wrong k index count) (Ok tt);
      check_with = λ base second. unless_wrong (store_wrong k index count base) (Ok tt);
      says = said_of k index count;
    }

-- a tile is 128 by 128 pixels
abbrev pub tile_of : Fields → ℕ → ℕ → ℕ
tile_of k r c = r / 128 * k.nfc + c / 128
