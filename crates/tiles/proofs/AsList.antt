-- Each tile's number by the bits is its entry, so every answer is the list's. Assumes nothing.
use mathlib.Core.Path.{◌≡◌, sym, ap, fun_ext, ◌∙◌}
use mathlib.Core.Bool.{Bool, true, false, cond}
use mathlib.Core.List.{List, []}
use Prim.Native.Nat.{ℕ, ◌+◌, ◌-◌, ◌*◌, ◌/◌, ◌≤◌}
use native.Mathlib.Omega.{arith}
use native.Mathlib.Nat.{lt_of_not-le}
use native.Mathlib.Decide.{dec_le}
use borrow.Author.Tests.{eq-eqb}
use lib.ListN.{length, get_or, get_or-eq_default}
use Rattle.presence.specs.Presence.{present, number_at}
use Rattle.presence.proofs.Counted.{present-past, number-none}
use Rattle.presence.proofs.Set.{none-set}
use Rattle.card_text.specs.declared.Fields.{Fields}
use Rattle.tiles.specs.declared.Said.{Said}
use Rattle.tiles.specs.declared.Source.{Source}
use Rattle.tiles.specs.Index.{IndexView, tiles, in_base, index_length, index_wrong, said, said_of, by_list}
use Rattle.tiles.specs.LookUp.{stored_by, part_by, bands_by}
use Rattle.tiles.specs.Window.{window_by}
use Rattle.tiles.specs.Corrections.{corrected_by}
use Rattle.tiles.specs.Bits.{words_length, words_wrong, stray_bit, said_bits, by_bits}
use Rattle.tiles.specs.AsList.{list_of, Forms, BitsHaveList, NumberAsList, PartAsList, BandsAsList, WindowAsList}
use Rattle.tiles.specs.AsList.{SourceAsList, EitherPartAsList, EitherBandsAsList, CorrectedWindowAsList}
use Rattle.tiles.proofs.Listed.{listed-length, listed_at}

-- no bit is set past the last tile, nor past the words
none-past : (k : Fields) (words : List ℕ) → length words ≡ words_length k → stray_bit k words ≡ false → (t : ℕ) → index_length k ≤ t → present words t ≡ 0
unfolding stray_bit
none-past k words e o t h = go k.tif e h (dec_le (length words) (t / 64))
  where
    go : (b : Bool) → length words ≡ cond b ((tiles k + 63) / 64) 0 → cond b (tiles k) 0 ≤ t → Dec (length words ≤ t / 64) → present words t ≡ 0
    go b f l (yes p) = present-past words t p
    go true f l (no p) = let q = lt_of_not-le p in none-set words (tiles k) (length words * 64 - tiles k) o t l (omega arith)
    go false f l (no p) = present-past words t (omega arith)

pub bits-have-list : BitsHaveList
bits-have-list k words e o =
    record {
      index_long = listed-length (number_at words) (index_length k);
      words_long = e;
      none_stray = o;
      entries = λ t. go t (dec_le (index_length k) t);
    }
  where
    go : (t : ℕ) → Dec (index_length k ≤ t) → number_at words t ≡ get_or (list_of k words) t 0
    go t (yes h) =
        number-none words t (none-past k words e o t h)
        ∙ sym (get_or-eq_default (list_of k words) 0 {n = t} (omega (arith, listed-length (number_at words) (index_length k))))
    go t (no h) = sym (listed_at (number_at words) (index_length k) t (lt_of_not-le h))

-- ---- two forms of one index
module _ (k : Fields) (index words : List ℕ) (f : Forms k index words) where
  says_same : (count : ℕ) → said_bits k words count ≡ said_of k index count
  unfolding said_bits said_of
  says_same count = fun_ext (λ t. ap (λ (e : ℕ). cond k.tif (said Source.Base count e) (Said.Stored (in_base (t + 1)))) (f.entries t))

  wrong-same : (count : ℕ) → words_wrong k words count ≡ index_wrong k index count
  unfolding words_wrong index_wrong
  wrong-same count = rw (eq-eqb (length words) (words_length k) f.words_long, eq-eqb (length index) (index_length k) f.index_long)

  -- so they are one index
  view-same : (count : ℕ) → by_bits k words count ≡ by_list k index count
  view-same count = rw (wrong-same count, f.none_stray, says_same count)

pub number-as-list : NumberAsList
number-as-list k index words f count store r c = ap (λ (v : IndexView). stored_by k v store [] r c) (view-same k index words f count)

pub part-as-list : PartAsList
part-as-list k index words f count store r c = ap (λ (v : IndexView). part_by k v store [] r c) (view-same k index words f count)

pub bands-as-list : BandsAsList
bands-as-list k index words f count store r c = ap (λ (v : IndexView). bands_by k v store [] r c) (view-same k index words f count)

pub window-as-list : WindowAsList
window-as-list k index words f count top left height width = ap (λ (v : IndexView). window_by k v top left height width) (view-same k index words f count)

pub source-as-list : SourceAsList
source-as-list k index words f count store corrections corrected second r c =
    ap (λ (v : IndexView). stored_by k (corrected_by k v corrections corrected) store second r c) (view-same k index words f count)

pub either-part-as-list : EitherPartAsList
either-part-as-list k index words f count store corrections corrected second r c =
    ap (λ (v : IndexView). part_by k (corrected_by k v corrections corrected) store second r c) (view-same k index words f count)

pub either-bands-as-list : EitherBandsAsList
either-bands-as-list k index words f count store corrections corrected second r c =
    ap (λ (v : IndexView). bands_by k (corrected_by k v corrections corrected) store second r c) (view-same k index words f count)

pub corrected-window-as-list : CorrectedWindowAsList
corrected-window-as-list k index words f count corrections corrected top left height width =
    ap (λ (v : IndexView). window_by k (corrected_by k v corrections corrected) top left height width) (view-same k index words f count)
