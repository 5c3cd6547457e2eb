-- Where an entry lies, the lengths being right, and how few tiles there are. Assumes nothing.
use mathlib.Core.Path.{◌≡◌, sym, ap, subst, ◌∙◌}
use mathlib.Core.Bool.{true, false, not}
use mathlib.Core.List.{List}
use Prim.Native.Nat.{ℕ, ◌+◌, ◌*◌, ◌≤◌, ◌<◌}
use native.Mathlib.Omega.{arith}
use native.Mathlib.Nat.{add-mul, one-mul, mul-le-mul, mul-le-mul_right}
use borrow.Author.Tests.{eqb-true, not-false}
use lib.Dec.{eqb}
use lib.ListN.{length, get_or}
use Rattle.card_text.specs.declared.Fields.{Fields}
use Rattle.card_text.specs.Read.{Known}
use Rattle.card_text.proofs.Laid.{known-laid}
use Rattle.tiles.specs.declared.Source.{Source}
use Rattle.tiles.specs.declared.Stored.{Stored}
use Rattle.tiles.specs.declared.Said.{Said}
use Rattle.tiles.specs.Index.{tiles, in_base, index_length, count_wrong, index_wrong, said, said_of}
use Rattle.tiles.specs.Entries.{neither, count-few, said-stored, EntryIs, entry-is}
use Rattle.tiles.specs.Laws.{BaseIs, base-most}

-- ---- lengths
pub tiles_small : (k : Fields) → Known k → tiles k ≤ 998001
tiles_small k w = let l = known-laid k w in mul-le-mul {n₂ = 999} {m₂ = 999} l.down-most l.across-most

pub tile-inside : (q p down across : ℕ) → q < down → p < across → q * across + p < down * across
tile-inside q p down across h g =
    let m : (q + 1) * across ≤ down * across = mul-le-mul_right across (omega arith) in
    omega (arith, add-mul q 1 across, one-mul across)

-- a tile of the image, by its row and column
module _ (k : Fields) (w : Known k) (y x : ℕ) (h : y < k.nfl) (g : x < k.nfc) where
  pub tile-at : y * k.nfc + x < tiles k
  tile-at = tile-inside y x k.nfl k.nfc h g

  pub tile-most : y * k.nfc + x < 998001
  tile-most = omega (arith, tile-at, tiles_small k w)

-- the start of a row
pub row-most : (k : Fields) → Known k → (y x : ℕ) → y < k.nfl → x ≤ k.nfc → y * k.nfc + x ≤ 998001
row-most k w y x h g =
    let l = known-laid k w in
    let m : y * k.nfc ≤ 998 * 999 = mul-le-mul {n₂ = 998} {m₂ = 999} (omega (arith, h, l.down-most)) l.across-most in
    omega (arith, m, g, l.across-most)

module _ (k : Fields) (index : List ℕ) (count : ℕ) (e : index_wrong k index count ≡ false) where
  lengths : (not (eqb (length index) (index_length k)) ≡ false) × (count_wrong k count ≡ false)
  unfolding index_wrong
  lengths = neither (not (eqb (length index) (index_length k))) (count_wrong k count) e

  pub index_long : k.tif ≡ true → length index ≡ tiles k
  index_long y = eqb-true (length index) (tiles k) (not-false _ (rw y at lengths.0))

  pub count_most : count ≤ tiles k
  count_most = count-few k count lengths.1

  pub count-all : k.tif ≡ false → count ≡ tiles k
  count-all y = eqb-true count (tiles k) (not-false _ (rw y at lengths.1))

module _ (k : Fields) (index : List ℕ) (count t : ℕ) where
  pub said_in : k.tif ≡ true → said_of k index count t ≡ said Source.Base count (get_or index t 0)
  unfolding said_of
  said_in y = rw y

  -- an entry by what is said of its tile, and back
  pub entry_in : (v : Said) → k.tif ≡ true → said_of k index count t ≡ v → EntryIs Source.Base count (get_or index t 0) v
  entry_in v y e = entry-is Source.Base count (get_or index t 0) v (sym (said_in y) ∙ e)

  pub stored-in : (n : ℕ) → k.tif ≡ true → get_or index t 0 ≡ n → 1 ≤ n → n ≤ count → said_of k index count t ≡ Said.Stored (in_base n)
  stored-in n y e p q = said_in y ∙ ap (said Source.Base count) e ∙ said-stored Source.Base count n (λ z. omega arith) q

  pub said_all : k.tif ≡ false → said_of k index count t ≡ Said.Stored (in_base (t + 1))
  unfolding said_of
  said_all y = rw y

-- a stored number is 1 to count, of the base store
pub stored-most : (k : Fields) (index : List ℕ) (count t : ℕ) (s : Stored) → index_wrong k index count ≡ false → t < tiles k
    → said_of k index count t ≡ Said.Stored s → BaseIs count (Said.Stored s)
unfolding said_of
stored-most k index count t s e h w = subst (BaseIs count) w (base-most k count (get_or index t 0) t (lengths k index count e).1 h)
