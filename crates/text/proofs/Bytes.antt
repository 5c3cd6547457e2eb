-- Laws of runs of bytes: the next byte of what is left, a run at its offset, a run of a run, a run in two parts, and a test of
-- all bytes. Assumes nothing.
use Rattle.std.proofs.Common.{◌≡◌, ℕ, zero, suc, ◌+◌, ◌<◌, ◌≤◌, Bool, ◌&&◌, List, [], ◌∷◌, ◌++◌, length, get_or, take, drop, set, sym}
use Rattle.std.proofs.Common.{refl, ap, ◌∙◌, add-one, arith, length-drop, take-append-drop, length-take}
use Rattle.std.proofs.Common.{get_or-drop, drop-cons, get_or-take, take-suc, take-take, drop-drop, take-suc-set, take_at, take-add, drop_at}
use mathlib.Core.Bool.{and_assoc}
use Rattle.text.specs.Text.{part, all}

-- ---- the next byte

pub drop-next : (s : List ℕ) (i : ℕ) → i < length s → drop i s ≡ get_or s i 0 ∷ drop (i + 1) s
drop-next s i h = rw add-one (drop-cons s i 0 h)

-- one byte more is tested
pub all-next : (f : ℕ → Bool) (ok : Bool) (s : List ℕ) (i : ℕ) → i < length s
    → ((ok && f (get_or s i 0)) && all f (drop (i + 1) s)) ≡ (ok && all f (drop i s))
all-next f ok s i h = rw (drop-next s i h) (and_assoc ok (f (get_or s i 0)) (all f (drop (i + 1) s)))

-- one byte more is copied
pub copy-next : (r q : List ℕ) (i : ℕ) → i < length r → i < length q → take i r ≡ take i q
    → take (i + 1) (set r i (get_or q i 0)) ≡ take (i + 1) q
copy-next r q i hr hq e = rw (add-one, take-suc-set r i (get_or q i 0) hr, take-suc q i 0 hq, e)

-- ---- a run at an offset

pub part_at : (p x r : List ℕ) (o w : ℕ) → length p ≡ o → length x ≡ w → part o w (p ++ (x ++ r)) ≡ x
part_at p x r o w hp hx = rw (drop_at p (x ++ r) o hp) (take_at x r w hx)

pub length_part : (o w : ℕ) (s : List ℕ) → o + w ≤ length s → length (part o w s) ≡ w
length_part o w s h = simp (length-take, length-drop) (omega arith)

-- a byte of a run
pub byte-in : (o k w : ℕ) (s : List ℕ) → k < w → get_or (part o w s) k 0 ≡ get_or s (o + k) 0
byte-in o k w s h = get_or-take w (drop o s) k 0 h ∙ get_or-drop o s k 0

-- a run of a run
pub part_in : (o k n w : ℕ) (s : List ℕ) → k + n ≤ w → part k n (part o w s) ≡ part (o + k) n s
part_in o k n w s h = nested k n w (drop o s) h ∙ ap (take n) (drop-drop k o s)
  where
    nested : (k n w : ℕ) (l : List ℕ) → k + n ≤ w → part k n (take w l) ≡ part k n l
    nested zero n w l h = take-take n w l (omega arith)
    nested (suc k) n zero l h = absurd (omega arith)
    nested (suc k) n (suc w) [] h = refl
    nested (suc k) n (suc w) (x ∷ l) h = nested k n w l (omega arith)

-- what is left from an offset is a run and the rest
pub cut : (o w n : ℕ) (s : List ℕ) → o + w ≡ n → drop o s ≡ part o w s ++ drop n s
cut o w n s e = sym (take-append-drop w (drop o s)) ∙ ap (λ (l : List ℕ). part o w s ++ l) (drop-drop w o s ∙ ap (λ (k : ℕ). drop k s) e)

-- ---- a test of all bytes

module _ (f : ℕ → Bool) where
  pub all_append : (s t : List ℕ) → all f (s ++ t) ≡ (all f s && all f t)
  all_append [] t = refl
  all_append (b ∷ s) t = ap (λ (x : Bool). f b && x) (all_append s t) ∙ sym (and_assoc (f b) (all f s) (all f t))

  all-parts : (o m n p : ℕ) (s : List ℕ) → p ≡ o + m → all f (part o (m + n) s) ≡ (all f (part o m s) && all f (part p n s))
  all-parts o m n p s e = rw (e, take-add m n (drop o s), drop-drop m o s) (all_append (take m (drop o s)) (take n (drop (o + m) s)))

  -- the degrees, the minutes and the seconds of an angle
  pub all-groups : (d : ℕ) (s : List ℕ)
      → ((all f (part 1 d s) && all f (part (d + 1) 2 s)) && all f (part (d + 3) 2 s)) ≡ all f (part 1 (d + 4) s)
  all-groups d s =
      let x = all f (part 1 d s) in
      and_assoc x (all f (part (d + 1) 2 s)) (all f (part (d + 3) 2 s))
      ∙ sym (all-parts 1 d 4 (d + 1) s (omega arith) ∙ ap (λ (y : Bool). x && y) (all-parts (d + 1) 2 2 (d + 3) s (omega arith)))
