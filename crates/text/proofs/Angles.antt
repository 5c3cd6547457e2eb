-- An angle's text is laid out and valid, and it is read as the angle; the text of an angle that was read is its bytes. Degrees,
-- minutes, seconds and hundredths are the quotients and remainders of the size, and they give it back. Assumes nothing.
use Rattle.std.proofs.Common.{◌≡◌, ℕ, zero, suc, ◌+◌, ◌*◌, ◌/◌, ◌%◌, ◌^◌, ◌<◌, ◌≤◌, Bool, true, false, cond, not, ◌&&◌, ◌||◌, eqb, List, length}
use Rattle.std.proofs.Common.{get_or, ℤ, pos, negsuc, neg_ℤ, nat_abs, sym, refl, ap, ◌∙◌, arith, length-append, ltb-true, le-ltb, lt-ltb, ne_eqb}
use Rattle.std.proofs.Common.{eqb-true, le-leb, leb-true}
use mathlib.Core.Bool.{false≢true, and-eq-true_iff}
use lib.Signed.{lt_z}
use Rattle.text.specs.Text.{is_sign, minus, number, angle_laid, minutes, seconds, angle_size, angle_of, angle_valid, digits, angle_text}
use Rattle.text.proofs.Numbers.{length_digits, number_digits, digits_number, number-below}
use Rattle.text.specs.Buffer.{put_at, end_of}
use Rattle.text.proofs.Splices.{none_left, none_ends}
use Rattle.text.proofs.Runs.{Run, Runs, joined, digits-run, laid, sign_at, minutes-is, seconds-is, size_is, runs}

abbrev sign_byte : ℤ → ℕ
sign_byte z = cond (lt_z z (pos 0)) 45 43

-- ---- the angle that was written

sign-sign : (z : ℤ) → is_sign (sign_byte z) ≡ true
sign-sign (pos n) = rw (le-ltb n 0 (omega arith))
sign-sign (negsuc n) = refl

sign-back : (z : ℤ) → cond (eqb (sign_byte z) 45) (neg_ℤ (pos (nat_abs z))) (pos (nat_abs z)) ≡ z
sign-back (pos n) = rw (le-ltb n 0 (omega arith))
sign-back (negsuc n) = refl

no-minus-zero : (z : ℤ) → not (eqb (sign_byte z) 45 && eqb (nat_abs z) 0) ≡ true
no-minus-zero (pos n) = rw (le-ltb n 0 (omega arith))
no-minus-zero (negsuc n) = rw (ne_eqb (suc n) 0 (λ e. let w : ⊥ = omega arith in w))

module _ (d : ℕ) (z : ℤ) where
  pub length-angle : length (angle_text d z) ≡ d + 8
  unfolding angle_text
  length-angle = simp (length-append, length_digits) (omega arith)

  pub angle_none_left : (o : ℕ) (s : List ℕ) → length s < o + (d + 8) → put_at (angle_text d z) o s ≡ s
  angle_none_left o s h = none_left (angle_text d z) o s (omega (arith, length-angle))

  pub angle_none_end : (o : ℕ) (s : List ℕ) → length s < o + (d + 8) → end_of (angle_text d z) o s ≡ o
  angle_none_end o s h = none_ends (angle_text d z) o s (omega (arith, length-angle))

  joins : angle_text d z
      ≡ joined (sign_byte z) (digits d (nat_abs z / 360000)) (digits 2 (nat_abs z / 6000 % 60))
      (digits 2 (nat_abs z / 100 % 60)) (digits 2 (nat_abs z % 100))
  unfolding angle_text
  joins = refl

  abbrev text-runs : Runs d (angle_text d z)
  text-runs =
      record {
        sign = sign_byte z;
        d = digits d (nat_abs z / 360000);
        m = digits 2 (nat_abs z / 6000 % 60);
        s = digits 2 (nat_abs z / 100 % 60);
        h = digits 2 (nat_abs z % 100);
        whole = joins;
        is-sign = sign-sign z;
        d-run = digits-run d (nat_abs z / 360000);
        m-run = digits-run 2 (nat_abs z / 6000 % 60);
        s-run = digits-run 2 (nat_abs z / 100 % 60);
        h-run = digits-run 2 (nat_abs z % 100);
      }

  pub text-laid : angle_laid d (angle_text d z) ≡ true
  text-laid = laid text-runs

  text-minutes : minutes d (angle_text d z) ≡ nat_abs z / 6000 % 60
  text-minutes = minutes-is text-runs ∙ number_digits 2 (nat_abs z / 6000 % 60) (omega arith)

  text-seconds : seconds d (angle_text d z) ≡ nat_abs z / 100 % 60
  text-seconds = seconds-is text-runs ∙ number_digits 2 (nat_abs z / 100 % 60) (omega arith)

  module _ (small : nat_abs z / 360000 < 10 ^ d) where
    text-size : angle_size d (angle_text d z) ≡ nat_abs z
    text-size =
        let a = nat_abs z in
        let ed = number_digits d (a / 360000) small in
        let em = number_digits 2 (a / 6000 % 60) (omega arith) in
        let es = number_digits 2 (a / 100 % 60) (omega arith) in
        let eh = number_digits 2 (a % 100) (omega arith) in
        size_is text-runs ∙ omega arith

    pub angle-of-text : angle_of d (angle_text d z) ≡ z
    unfolding angle_of
    angle-of-text = rw (sign_at text-runs, text-size) (sign-back z)

    pub text-valid : (limit : ℕ) → nat_abs z ≤ limit → angle_valid d limit (angle_text d z) ≡ true
    unfolding angle_valid
    text-valid limit h =
        let m = lt-ltb (nat_abs z / 6000 % 60) 60 (omega arith) in
        let s = lt-ltb (nat_abs z / 100 % 60) 60 (omega arith) in
        rw (text-minutes, text-seconds, text-size, sign_at text-runs, m, s, le-leb (nat_abs z) limit h) (no-minus-zero z)

-- ---- the text of an angle that was read

-- a sign that is no minus is a plus
plus : (b : ℕ) → is_sign b ≡ true → eqb b 45 ≡ false → b ≡ 43
plus b e n = eqb-true b 43 (go (eqb b 43) (rw n at e))
  where
    go : (t : Bool) → t || false ≡ true → t ≡ true
    go true q = refl
    go false q = q

-- the four tests
pub valid-tests : (d limit : ℕ) (s : List ℕ) → angle_valid d limit s ≡ true
    → (minutes d s < 60) × (seconds d s < 60) × (angle_size d s ≤ limit) × (not (minus s && eqb (angle_size d s) 0) ≡ true)
unfolding angle_valid
valid-tests d limit s valid =
    let abc = (and-eq-true_iff _ _).0 valid in
    let ab = (and-eq-true_iff _ _).0 abc.0 in
    let a = (and-eq-true_iff _ _).0 ab.0 in
    (ltb-true (minutes d s) 60 a.0, ltb-true (seconds d s) 60 a.1, leb-true (angle_size d s) limit ab.1, abc.1)

module _ (d limit : ℕ) (s : List ℕ) (long : length s ≡ d + 8) (is-laid : angle_laid d s ≡ true) (valid : angle_valid d limit s ≡ true) where
  abbrev r : Runs d s
  r = runs d s long is-laid

  -- the size and the sign of the angle
  parted : (nat_abs (angle_of d s) ≡ angle_size d s) × (sign_byte (angle_of d s) ≡ r.sign)
  unfolding angle_of
  parted = go (angle_size d s) (eqb (get_or s 0 0) 45) refl (valid-tests d limit s valid).3
    where
      go : (z : ℕ) (t : Bool) → eqb (get_or s 0 0) 45 ≡ t → not (t && eqb z 0) ≡ true
          → (nat_abs (cond t (neg_ℤ (pos z)) (pos z)) ≡ z) × (sign_byte (cond t (neg_ℤ (pos z)) (pos z)) ≡ r.sign)
      go zero true e n = absurd (false≢true n)
      go (suc z) true e n = (refl, sym (eqb-true (get_or s 0 0) 45 e) ∙ sign_at r)
      go z false e n = (refl, rw (le-ltb z 0 (omega arith)) (sym (plus (get_or s 0 0) (rw (sign_at r) r.is-sign) e) ∙ sign_at r))

  pub text-of-angle : angle_text d (angle_of d s) ≡ s
  text-of-angle =
      let a : ℕ = nat_abs (angle_of d s) in
      let e : a ≡ number r.d * 360000 + number r.m * 6000 + number r.s * 100 + number r.h = parted.0 ∙ size_is r in
      let m : number r.m < 60 = rw (minutes-is r) at (valid-tests d limit s valid).0 in
      let c : number r.s < 60 = rw (seconds-is r) at (valid-tests d limit s valid).1 in
      let h : number r.h < 100 = number-below 2 r.h (omega (arith, r.h-run.long)) r.h-run.digit in
      joins d (angle_of d s)
      ∙ alike parted.1 (again r.d-run (omega arith)) (again r.m-run (omega arith)) (again r.s-run (omega arith)) (again r.h-run (omega arith))
      ∙ sym r.whole
    where
      again : {w : ℕ} {x : List ℕ} → Run w x → {v : ℕ} → v ≡ number x → digits w v ≡ x
      again {w} {x} q e = ap (digits w) e ∙ digits_number w x q.long q.digit

      alike : {b b' : ℕ} {d d' m m' s s' h h' : List ℕ} → b ≡ b' → d ≡ d' → m ≡ m' → s ≡ s' → h ≡ h'
          → joined b d m s h ≡ joined b' d' m' s' h'
      alike p q r s t = cc

-- no room for an angle
pub ruleset angles = (angle_none_left, angle_none_end)
