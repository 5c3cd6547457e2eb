-- A text put into a buffer at an offset: texts put one after the other are one text, and a loop that stores a text from its last
-- byte to its first has put it. Assumes nothing.
use Rattle.std.proofs.Common.{◌≡◌, ℕ, suc, ◌+◌, ◌-◌, ◌/◌, div-one, ◌%◌, ◌^◌, ◌<◌, ◌≤◌, Bool, true, false, cond, List, [], ◌∷◌, ◌++◌, length, get_or, take, drop}
use Rattle.std.proofs.Common.{set, sym, refl, ap, ◌∙◌, append_assoc, add-zero, add_assoc, zero-add, add-one, arith, length-append, length-drop}
use Rattle.std.proofs.Common.{take-append-drop, length-take, length-take-le, take-suc, drop-drop, take_at, le-leb, leb-true}
use lib.Seq.{set_at, set_split, append_snoc, drop-append-add}
use borrow.Author.Tests.{lt-leb}
use borrow.Rule.Slice.PartMut.{put_mid}
use Rattle.whole.specs.Lists.{over}
use Rattle.text.specs.Text.{digits}
use Rattle.text.proofs.Numbers.{length_digits, place-next}
use Rattle.text.specs.Buffer.{splice, has_room, put_at, end_of}
use Rattle.text.specs.Steps.{Put}

pub splice-nil : (o : ℕ) (s : List ℕ) → splice o [] s ≡ s
unfolding splice
splice-nil o s = rw add-zero (take-append-drop o s)

-- at the start
pub splice-over : (x s : List ℕ) → splice 0 x s ≡ over x s
unfolding splice
splice-over x s = rw (zero-add (length x))

pub length-splice : (o : ℕ) (x s : List ℕ) → o + length x ≤ length s → length (splice o x s) ≡ length s
unfolding splice
length-splice o x s h = simp (length-append, length-take, length-drop) (omega arith)

-- a text put after a text is one text
pub splice-splice : (o : ℕ) (x y s : List ℕ) → o ≤ length s → splice (o + length x) y (splice o x s) ≡ splice o (x ++ y) s
unfolding splice
splice-splice o x y s h =
    let p = take o s ++ x in
    let r = drop (o + length x) s in
    let hp : length p ≡ o + length x = simp (length-append, length-take) (omega arith) in
    let e : take o s ++ (x ++ r) ≡ p ++ r = simp append_assoc in
    let t : take (o + length x) (p ++ r) ≡ p = take_at p r (o + length x) hp in
    let n : o + length x + length y ≡ length p + length y = omega arith in
    rw (e, t, n, drop-append-add p r (length y), drop-drop, length-append) (simp (append_assoc, add_assoc))

-- one byte more in front of a text
splice_front : (o b : ℕ) (y s : List ℕ) → o < length s → set (splice (suc o) y s) o b ≡ splice o (b ∷ y) s
unfolding splice
splice_front o b y s h =
    let r = y ++ drop (suc o + length y) s in
    let e : suc o + length y ≡ o + suc (length y) = omega arith in
    rw (take-suc s o 0 h, append_snoc (take o s) (get_or s o 0) r, set_at (take o s) (get_or s o 0) r b o (length-take-le o s (omega arith)), e)

-- ---- the buffer, and where the text ends

-- the buffer stays as long as it was
pub put-length : {x s t : List ℕ} {o r : ℕ} → Put x o s t r → length t ≡ length s
put-length {x} {s} {t} {o} {r} p = ap length p.holds ∙ length-splice o x s (omega (arith, p.ends, p.fits))

-- at the start
module _ {x s t : List ℕ} {r : ℕ} (p : Put x 0 s t r) where
  pub front_length : r ≡ length x
  front_length = p.ends ∙ zero-add (length x)

  pub front-left : t ≡ over x s
  front-left = p.holds ∙ splice-over x s

-- ---- what the functions answer: a text that fits was put, and else nothing was

module _ {x s t : List ℕ} {o r : ℕ} where
  pub put_is : Put x o s t r → (r ≡ end_of x o s) × (t ≡ put_at x o s)
  unfolding put_at end_of
  put_is p = rw (le-leb (o + length x) (length s) (omega (arith, p.ends, p.fits))) (p.ends, p.holds)

-- the buffer stays as long as it was, whether or not the text fits
pub length-put : (x : List ℕ) (o : ℕ) (s : List ℕ) → length (put_at x o s) ≡ length s
unfolding put_at
length-put x o s = go (has_room x o s) refl
  where
    go : (t : Bool) → has_room x o s ≡ t → length (cond t (splice o x s) s) ≡ length s
    go true e = length-splice o x s (leb-true (o + length x) (length s) e)
    go false e = refl

pub put-fits : (x : List ℕ) (o : ℕ) (s : List ℕ) → o + length x ≤ length s → put_at x o s ≡ splice o x s
unfolding put_at
put-fits x o s h = rw (le-leb (o + length x) (length s) h)

-- a text that was put if it fits
abbrev pub PutIf : List ℕ → ℕ → List ℕ → List ℕ → ℕ → Type 0
PutIf x o s t r = o + length x ≤ length s → Put x o s t r

module _ {x s t : List ℕ} {o r : ℕ} where
  pub put_if : (r ≡ end_of x o s) × (t ≡ put_at x o s) → PutIf x o s t r
  unfolding put_at end_of
  put_if e h =
      let b = le-leb (o + length x) (length s) h in
      let ends : r ≡ o + length x = rw b at e.0 in
      record { ends = ends; fits = omega arith; holds = rw b at e.1 }

  pub put_then : {y u : List ℕ} {q : ℕ} → PutIf x o s t r → PutIf y r t u q → PutIf (x ++ y) o s u q
  put_then {y} {u} {q} p w h =
      let n = length-append x y in
      let a = p (omega arith) in
      let l = put-length a in
      let b = w (omega (arith, a.ends)) in
      record {
        ends = omega (arith, a.ends, b.ends);
        fits = omega (arith, b.fits);
        holds = b.holds ∙ rw (a.holds, a.ends) (splice-splice o x y s (omega (arith, a.ends, a.fits)));
      }

-- ---- what the code does

pub none_left : (x : List ℕ) (o : ℕ) (s : List ℕ) → length s < o + length x → put_at x o s ≡ s
unfolding put_at
none_left x o s h = rw (lt-leb (o + length x) (length s) h)

pub none_ends : (x : List ℕ) (o : ℕ) (s : List ℕ) → length s < o + length x → end_of x o s ≡ o
unfolding end_of
none_ends x o s h = rw (lt-leb (o + length x) (length s) h)

pub put_ends : (x : List ℕ) (o : ℕ) (s : List ℕ) → o + length x ≤ length s → end_of x o s ≡ o + length x
unfolding end_of
put_ends x o s h = rw (le-leb (o + length x) (length s) h)

-- a part of the buffer is written
pub part_left : (x : List ℕ) (o k : ℕ) (s : List ℕ) → o + length x ≤ length s → k ≡ length x → put_mid o k s x ≡ put_at x o s
unfolding put_at splice
part_left x o k s h e = rw (le-leb (o + length x) (length s) h, e, drop-drop (length x) o s)

-- one byte is written
pub byte_left : (o b : ℕ) (s : List ℕ) → o < length s → set s o b ≡ put_at (b ∷ []) o s
unfolding put_at splice
byte_left o b s h = rw (le-leb (o + 1) (length s) (omega arith), set_split s o b h, add-one)

pub ruleset putting = (none_left, none_ends, put_ends, part_left, byte_left)

-- ---- the last digits stand at an offset, and one more is written before them

module _ (v w o : ℕ) (s : List ℕ) where
  pub digits_none_left : length s < o + w → put_at (digits w v) o s ≡ s
  digits_none_left h = none_left (digits w v) o s (omega (arith, length_digits w v))

  pub digits_none_end : length s < o + w → end_of (digits w v) o s ≡ o
  digits_none_end h = none_ends (digits w v) o s (omega (arith, length_digits w v))

  pub digits_end : o + w ≤ length s → end_of (digits w v) o s ≡ o + w
  digits_end h = put_ends (digits w v) o s (omega (arith, length_digits w v)) ∙ ap (λ (n : ℕ). o + n) (length_digits w v)

  pub digits_left : o + w ≤ length s → splice o (digits w v) s ≡ put_at (digits w v) o s
  unfolding put_at
  digits_left h = rw (le-leb (o + length (digits w v)) (length s) (omega (arith, length_digits w v)))

  pub digits_start : splice (o + w) (digits (w - w) v) s ≡ s
  digits_start = let e : w - w ≡ 0 = omega arith in rw e (splice-nil (o + w) s)

  pub digit_before : (j b : ℕ) → 0 < j → j ≤ w → o + w ≤ length s → b ≡ 48 + v / 10 ^ (w - j) % 10
      → set (splice (o + j) (digits (w - j) v) s) (o + (j - 1)) b ≡ splice (o + (j - 1)) (digits (w - (j - 1)) v) s
  digit_before j b h l f e =
      let n : o + j ≡ suc (o + (j - 1)) = omega arith in
      let m : w - (j - 1) ≡ suc (w - j) = omega arith in
      rw (e, n, m) (splice_front (o + (j - 1)) (48 + v / 10 ^ (w - j) % 10) (digits (w - j) v) s (omega arith))

pub place_before : (v w j : ℕ) → 0 < j → j ≤ w → v / 10 ^ (w - (j - 1)) ≡ v / 10 ^ (w - j) / 10
place_before v w j h l = let m : w - (j - 1) ≡ w - j + 1 = omega arith in rw m (sym (place-next v (w - j)))

pub place_first : (v w : ℕ) → v / 10 ^ (w - w) ≡ v
place_first v w = let e : w - w ≡ 0 = omega arith in rw e (div-one v)

pub ruleset writing = (digits_none_left, digits_none_end, digits_end, digits_left, digits_start, digit_before, place_before, place_first, length-put)
