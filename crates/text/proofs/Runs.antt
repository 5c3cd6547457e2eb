-- The bytes of an angle, taken apart: a sign, degrees, minutes and seconds, a dot and hundredths. Each run is found at its
-- offset, and bytes that are laid out are such runs. Assumes nothing.
use Rattle.std.proofs.Common.{◌≡◌, ℕ, ◌+◌, ◌*◌, true, List, [], ◌∷◌, ◌++◌, length, get_or, drop, refl, ap, ◌∙◌, append_assoc, append-nil, arith}
use Rattle.std.proofs.Common.{length-append, drop_of_length-le, eq-eqb, eqb-true}
use mathlib.Core.Bool.{and-eq-true_iff}
use lib.Seq.{get_or_at}
use Rattle.text.specs.Text.{all, part, is_digit, is_sign, number, angle_laid, degrees, minutes, seconds, hundredths, angle_size, digits}
use Rattle.text.proofs.Bytes.{part_at, length_part, cut, drop-next, all_append, all-groups}
use Rattle.text.proofs.Numbers.{length_digits, all_digits}

-- w digits
pub record Run (w : ℕ) (x : List ℕ) : Type 0 where
  pub long : length x ≡ w
  pub digit : all is_digit x ≡ true

pub digits-run : (w v : ℕ) → Run w (digits w v)
digits-run w v = record { long = length_digits w v; digit = all_digits w v }

abbrev pub joined : ℕ → List ℕ → List ℕ → List ℕ → List ℕ → List ℕ
joined b d m s h = b ∷ (d ++ m ++ s ++ (46 ∷ []) ++ h)

pub record Runs (n : ℕ) (t : List ℕ) : Type 0 where
  pub sign : ℕ
  pub d : List ℕ
  pub m : List ℕ
  pub s : List ℕ
  pub h : List ℕ
  pub whole : t ≡ joined sign d m s h
  pub is-sign : is_sign sign ≡ true
  pub d-run : Run n d
  pub m-run : Run 2 m
  pub s-run : Run 2 s
  pub h-run : Run 2 h

-- each run at its offset
module _ {n : ℕ} {t : List ℕ} (r : Runs n t) where
  run : (p x q : List ℕ) (o w : ℕ) → joined r.sign r.d r.m r.s r.h ≡ p ++ (x ++ q)
      → length p ≡ o → length x ≡ w → part o w t ≡ x
  run p x q o w e lp lx = rw (r.whole, e) (part_at p x q o w lp lx)

  degrees-at : part 1 n t ≡ r.d
  degrees-at = run (r.sign ∷ []) r.d (r.m ++ r.s ++ (46 ∷ []) ++ r.h) 1 n (simp append_assoc) refl r.d-run.long

  minutes-at : part (n + 1) 2 t ≡ r.m
  minutes-at = run (r.sign ∷ r.d) r.m (r.s ++ (46 ∷ []) ++ r.h) (n + 1) 2 (simp append_assoc) (omega (arith, r.d-run.long)) r.m-run.long

  seconds-at : part (n + 3) 2 t ≡ r.s
  seconds-at = run (r.sign ∷ r.d ++ r.m) r.s ((46 ∷ []) ++ r.h) (n + 3) 2 (simp append_assoc) (simp length-append (omega arith)) r.s-run.long

  hundredths-at : part (n + 6) 2 t ≡ r.h
  hundredths-at =
      run (r.sign ∷ r.d ++ r.m ++ r.s ++ (46 ∷ [])) r.h [] (n + 6) 2
      (rw (append-nil r.h)) (simp length-append (omega arith)) r.h-run.long

  whole-at : part 1 (n + 4) t ≡ r.d ++ r.m ++ r.s
  whole-at = run (r.sign ∷ []) (r.d ++ r.m ++ r.s) ((46 ∷ []) ++ r.h) 1 (n + 4) (simp append_assoc) refl (simp length-append (omega arith))

  dot_at : get_or t (n + 5) 0 ≡ 46
  dot_at =
      let p = r.sign ∷ r.d ++ r.m ++ r.s in
      let e : joined r.sign r.d r.m r.s r.h ≡ p ++ (46 ∷ r.h) = simp append_assoc in
      rw (r.whole, e) (get_or_at p 46 r.h 0 (n + 5) (simp length-append (omega arith)))

  pub sign_at : get_or t 0 0 ≡ r.sign
  sign_at = rw r.whole

  pub laid : angle_laid n t ≡ true
  unfolding angle_laid
  laid =
      let groups : all is_digit (r.d ++ r.m ++ r.s) ≡ true =
      rw (all_append is_digit (r.d ++ r.m) r.s, all_append is_digit r.d r.m, r.d-run.digit, r.m-run.digit) r.s-run.digit in
      rw (sign_at, r.is-sign, whole-at, groups, eq-eqb (get_or t (n + 5) 0) 46 dot_at, hundredths-at) r.h-run.digit

  pub minutes-is : minutes n t ≡ number r.m
  unfolding minutes
  minutes-is = rw minutes-at

  pub seconds-is : seconds n t ≡ number r.s
  unfolding seconds
  seconds-is = rw seconds-at

  pub size_is : angle_size n t ≡ number r.d * 360000 + number r.m * 6000 + number r.s * 100 + number r.h
  unfolding angle_size degrees minutes seconds hundredths
  size_is = rw (degrees-at, minutes-at, seconds-at, hundredths-at)

-- the tests of bytes that are laid out; degrees, minutes and seconds are tested together
pub record Laid (n : ℕ) (t : List ℕ) : Type 0 where
  pub sign : is_sign (get_or t 0 0) ≡ true
  pub d : all is_digit (part 1 n t) ≡ true
  pub m : all is_digit (part (n + 1) 2 t) ≡ true
  pub s : all is_digit (part (n + 3) 2 t) ≡ true
  pub dot : get_or t (n + 5) 0 ≡ 46
  pub h : all is_digit (part (n + 6) 2 t) ≡ true

pub laid-tests : (n : ℕ) (t : List ℕ) → angle_laid n t ≡ true → Laid n t
unfolding angle_laid
laid-tests n t e =
    let abc = (and-eq-true_iff _ _).0 e in
    let ab = (and-eq-true_iff _ _).0 abc.0 in
    let a = (and-eq-true_iff _ _).0 ab.0 in
    let xyz = (and-eq-true_iff _ _).0 (all-groups is_digit n t ∙ a.1) in
    let xy = (and-eq-true_iff _ _).0 xyz.0 in
    record { sign = a.0; d = xy.0; m = xy.1; s = xyz.1; dot = eqb-true (get_or t (n + 5) 0) 46 ab.1; h = abc.1 }

-- bytes that are laid out are such runs
module _ (n : ℕ) (t : List ℕ) (long : length t ≡ n + 8) (is-laid : angle_laid n t ≡ true) where
  abbrev tests : Laid n t
  tests = laid-tests n t is-laid

  split : t ≡ joined (get_or t 0 0) (part 1 n t) (part (n + 1) 2 t) (part (n + 3) 2 t) (part (n + 6) 2 t)
  split =
      let e0 : t ≡ get_or t 0 0 ∷ drop 1 t = drop-next t 0 (omega arith) in
      let e1 : drop 1 t ≡ part 1 n t ++ drop (n + 1) t = cut 1 n (n + 1) t (omega arith) in
      let e2 : drop (n + 1) t ≡ part (n + 1) 2 t ++ drop (n + 3) t = cut (n + 1) 2 (n + 3) t (omega arith) in
      let e3 : drop (n + 3) t ≡ part (n + 3) 2 t ++ drop (n + 5) t = cut (n + 3) 2 (n + 5) t (omega arith) in
      let n6 : n + 5 + 1 ≡ n + 6 = omega arith in
      let e4 : drop (n + 5) t ≡ 46 ∷ drop (n + 6) t = rw (n6, tests.dot) at (drop-next t (n + 5) (omega arith)) in
      let e5 : drop (n + 6) t ≡ part (n + 6) 2 t ++ drop (n + 8) t = cut (n + 6) 2 (n + 8) t (omega arith) in
      let e6 : drop (n + 8) t ≡ [] = drop_of_length-le t {i = n + 8} (omega arith) in
      let e : drop 1 t ≡ part 1 n t ++ (part (n + 1) 2 t ++ (part (n + 3) 2 t ++ (46 ∷ part (n + 6) 2 t))) = cc (append-nil (part (n + 6) 2 t)) in
      e0 ∙ ap (λ (x : List ℕ). get_or t 0 0 ∷ x) (e ∙ grouped (part 1 n t) (part (n + 1) 2 t) (part (n + 3) 2 t) (part (n + 6) 2 t))
    where
      grouped : (d m s h : List ℕ) → d ++ (m ++ (s ++ (46 ∷ h))) ≡ d ++ m ++ s ++ (46 ∷ []) ++ h
      grouped d m s h = simp append_assoc

  pub runs : Runs n t
  runs =
      record {
        sign = get_or t 0 0;
        d = part 1 n t;
        m = part (n + 1) 2 t;
        s = part (n + 3) 2 t;
        h = part (n + 6) 2 t;
        whole = split;
        is-sign = tests.sign;
        d-run = record { long = length_part 1 n t (omega arith); digit = tests.d };
        m-run = record { long = length_part (n + 1) 2 t (omega arith); digit = tests.m };
        s-run = record { long = length_part (n + 3) 2 t (omega arith); digit = tests.s };
        h-run = record { long = length_part (n + 6) 2 t (omega arith); digit = tests.h };
      }
