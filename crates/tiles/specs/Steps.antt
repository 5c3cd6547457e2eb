-- What only the code needs: what it is held to on the way. Definitions only.
--     Lies n store           the n-th tile's bytes are in the store
--     IsHeld k v             what an index says is stored lies in the store that is named: a law of an index
--     kind v                 what is said of a tile, its place in a store aside
--     IsGlance k glance says    a glance tells of each tile what is said of it, that place aside: a law of an index
--     glance_bits            a glance by bits, the stored tiles being those before `end`
--     WindowRows k ..        what a window of an image is bounded by
use Rattle.std.specs.Prelude.{◌≡◌, ℕ, ◌+◌, ◌*◌, ◌/◌, ◌≤◌, ◌<◌, List, cond, leb, eqb, length, Ok}
use Rattle.presence.specs.Presence.{present, within}
use Rattle.card_text.specs.declared.Fields.{Fields}
use Rattle.tiles.specs.declared.Stored.{Stored}
use Rattle.tiles.specs.declared.Said.{Said}
use Rattle.tiles.specs.Index.{tiles, tile_bytes, in_base, IndexView}
use Rattle.tiles.specs.LookUp.{store_at}

abbrev pub Lies : ℕ → List ℕ → Type 0
Lies n store = (1 ≤ n) × (n * tile_bytes ≤ length store)

abbrev pub IsHeld : Fields → IndexView → Type 0
IsHeld k v =
    (base second : List ℕ) → v.check_with base second ≡ Ok tt → (t : ℕ) → t < tiles k → (s : Stored) → v.says t ≡ Said.Stored s
    → Lies s.number (store_at s.source base second)

abbrev pub kind : Said → Said
kind (Said.Stored s) = Said.Stored (in_base 0)
kind Said.Missing = Said.Missing
kind Said.Above = Said.Above

abbrev pub IsGlance : Fields → (ℕ → Said) → (ℕ → Said) → Type 0
IsGlance k glance says = (t : ℕ) → t < tiles k → kind (glance t) ≡ kind (says t)

-- the number is not told
abbrev pub said_before : ℕ → List ℕ → ℕ → Said
said_before end words t = cond (eqb (present words t) 0) Said.Missing (cond (leb end t) Said.Above (Said.Stored (in_base 0)))

unfoldable pub glance_bits : Fields → List ℕ → ℕ → ℕ → Said
glance_bits k words end t = cond k.tif (said_before end words t) (Said.Stored (in_base 0))

-- how far the bits of the words are not above the count; with TIF N there are none
abbrev pub bits_end : Fields → List ℕ → ℕ → ℕ
bits_end k words count = cond k.tif (within words count ((tiles k + 63) / 64 * 64)) 0

-- a window of an image
pub record WindowRows (k : Fields) (top left height width : ℕ) : Type 0 where
  pub down : top + height ≤ k.nfl
  pub across : left + width ≤ k.nfc
