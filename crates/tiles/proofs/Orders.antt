-- Each order of refusals, by the tests' answers. Assumes nothing.
use mathlib.Core.Path.{◌≡◌, refl}
use mathlib.Core.Bool.{Bool, true, false, cond}
use Rattle.std.specs.Prelude.{Result, Ok, Err}
use Rattle.whole.specs.Results.{◌>>=◌}
use Rattle.arc.specs.declared.refusal.Refusal.{Refusal}
use Rattle.tiles.specs.Index.{unless_wrong, index_wrong, store_wrong, said_of}
use Rattle.tiles.specs.LookUp.{found_of, stored_by}
use Rattle.tiles.specs.Window.{view_of, window_by}
use Rattle.tiles.specs.Corrections.{list_wrong, corrections_wrong, said_with}
use Rattle.tiles.specs.Bits.{words_wrong, bits_wrong, stray_bit, said_bits}
use Rattle.tiles.specs.Orders.{NumberOrder, BitsNumberOrder, SourceOrder, BitsSourceOrder}
use Rattle.tiles.specs.Orders.{WindowOrder, BitsWindowOrder, CorrectedWindowOrder, CorrectedBitsWindowOrder}

-- by these tests: the base's, the corrections' and that of stray bits
module _ {A : Type 0} (x : Result A Refusal) where
  one : (a : Bool) → unless_wrong a (Ok tt) >>= (λ u. x) ≡ cond a (Err Refusal.Length) x
  one true = refl
  one false = refl

  two : (a s : Bool) → unless_wrong a (cond s (Err Refusal.StrayBit) (Ok tt)) >>= (λ u. x) ≡ cond a (Err Refusal.Length) (cond s (Err Refusal.StrayBit) x)
  two true s = refl
  two false true = refl
  two false false = refl

  beside : (a b : Bool) → unless_wrong b (unless_wrong a (Ok tt)) >>= (λ u. x) ≡ cond a (Err Refusal.Length) (cond b (Err Refusal.Length) x)
  beside true true = refl
  beside true false = refl
  beside false true = refl
  beside false false = refl

  beside-two : (a b s : Bool) → unless_wrong b (unless_wrong a (cond s (Err Refusal.StrayBit) (Ok tt))) >>= (λ u. x)
      ≡ cond a (Err Refusal.Length) (cond b (Err Refusal.Length) (cond s (Err Refusal.StrayBit) x))
  beside-two true true s = refl
  beside-two true false s = refl
  beside-two false true s = refl
  beside-two false false true = refl
  beside-two false false false = refl

pub number-order : NumberOrder
unfolding stored_by
number-order k index count store r c = one (found_of k (said_of k index count) r c) (store_wrong k index count store)

pub bits-number-order : BitsNumberOrder
unfolding stored_by
bits-number-order k words count store r c = two (found_of k (said_bits k words count) r c) (bits_wrong k words count store) (stray_bit k words)

pub source-order : SourceOrder
unfolding stored_by
source-order k index count store corrections corrected second r c =
    beside (found_of k (said_with corrections corrected (said_of k index count)) r c) (store_wrong k index count store)
    (corrections_wrong k corrections corrected second)

pub bits-source-order : BitsSourceOrder
unfolding stored_by
bits-source-order k words count store corrections corrected second r c =
    beside-two (found_of k (said_with corrections corrected (said_bits k words count)) r c) (bits_wrong k words count store)
    (corrections_wrong k corrections corrected second) (stray_bit k words)

pub window-order : WindowOrder
unfolding window_by
window-order k index count top left height width =
    one (view_of k (said_of k index count) top left height width) (index_wrong k index count)

pub bits-window-order : BitsWindowOrder
unfolding window_by
bits-window-order k words count top left height width =
    two (view_of k (said_bits k words count) top left height width) (words_wrong k words count) (stray_bit k words)

pub corrected-window-order : CorrectedWindowOrder
unfolding window_by
corrected-window-order k index count corrections corrected top left height width =
    beside (view_of k (said_with corrections corrected (said_of k index count)) top left height width) (index_wrong k index count)
    (list_wrong k corrections corrected)

pub corrected-bits-window-order : CorrectedBitsWindowOrder
unfolding window_by
corrected-bits-window-order k words count corrections corrected top left height width =
    beside-two (view_of k (said_with corrections corrected (said_bits k words count)) top left height width) (words_wrong k words count)
    (list_wrong k corrections corrected) (stray_bit k words)
