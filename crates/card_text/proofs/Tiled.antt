-- Laws of the extents as the code has them: a pixel's row of tiles by division, and n counted from −B/512. Assumes nothing.
use mathlib.Core.Path.{◌≡◌, refl, sym, ap, ◌∙◌}
use mathlib.Core.Bool.{Bool, true, false, not}
use Prim.Native.Nat.{ℕ, ◌+◌, ◌*◌, ◌/◌}
use native.Mathlib.Omega.{arith}
use borrow.Author.Tests.{ltb-true, ltb-false, lt-ltb, le-ltb, leb-true, leb-false}
use lib.Dec.{leb, ltb}
use lib.IntN.{ℤ, pos, negsuc, neg_ℤ, ◌-ℤ◌}
use lib.Signed.{le_z, lt_z}
use Rattle.whole.proofs.Signed.{Is, is-nat, is-neg, is-minus, is-lt_z}
use Rattle.card_text.specs.Extents.{extents_hold}
use Rattle.card_text.specs.StepsRead.{extents_at}

-- a pixel edge is within k tiles
pub in_tiles : (x k : ℕ) → ltb (x / 128) k ≡ ltb x (128 * k)
in_tiles x k = go (ltb (x / 128) k) refl
  where
    go : (t : Bool) → ltb (x / 128) k ≡ t → t ≡ ltb x (128 * k)
    go true e = let h = ltb-true (x / 128) k e in sym (lt-ltb x (128 * k) (omega arith))
    go false e = let h = ltb-false (x / 128) k e in sym (le-ltb x (128 * k) (omega arith))

-- at most is not more
le_not : (m n : ℕ) → leb m n ≡ not (ltb n m)
le_not m n = go (leb m n) refl
  where
    go : (t : Bool) → leb m n ≡ t → t ≡ not (ltb n m)
    go true e = sym (ap not (le-ltb n m (leb-true m n e)))
    go false e = sym (ap not (lt-ltb n m (leb-false m n e)))

le_z-not : (x y : ℤ) → le_z x y ≡ not (lt_z y x)
le_z-not (pos m) (pos n) = le_not m n
le_z-not (pos m) (negsuc n) = refl
le_z-not (negsuc m) (pos n) = refl
le_z-not (negsuc m) (negsuc n) = le_not n m

-- n − NFL ≥ −t
rows-within : (n : ℤ) (north t nfl : ℕ) → Is n north t → le_z (neg_ℤ (pos t)) (n -ℤ pos nfl) ≡ leb nfl north
rows-within n north t nfl e =
    le_z-not (neg_ℤ (pos t)) (n -ℤ pos nfl)
    ∙ ap not
    (is-lt_z (n -ℤ pos nfl) (neg_ℤ (pos t)) (north + 0) (t + nfl) 0 t (is-minus n (pos nfl) north t nfl 0 e (is-nat nfl)) (is-neg (pos t) t 0 (is-nat t)))
    ∙ go (leb nfl north) refl
  where
    go : (b : Bool) → leb nfl north ≡ b → not (ltb (north + 0 + t) (0 + (t + nfl))) ≡ b
    go true h = ap not (le-ltb (north + 0 + t) (0 + (t + nfl)) (omega (arith, leb-true nfl north h)))
    go false h = ap not (lt-ltb (north + 0 + t) (0 + (t + nfl)) (omega (arith, leb-false nfl north h)))

pub extents-at : (a b : ℕ) (n : ℤ) (north nul nus nll nls nfl nfc : ℕ) → Is n north (b / 512)
    → extents_hold a b n nul nus nll nls nfl nfc ≡ extents_at a north nul nus nll nls nfl nfc
unfolding extents_hold extents_at
extents-at a b n north nul nus nll nls nfl nfc e = rw (rows-within n north (b / 512) nfl e)
