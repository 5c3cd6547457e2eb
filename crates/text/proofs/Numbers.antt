-- The digits of a number and the number of digits, at any width: one digit more is a division by ten with its remainder. Then
-- the same with leading zeros off. Assumes nothing.
use Rattle.std.proofs.Common.{◌≡◌, ℕ, zero, suc, ◌+◌, ◌-◌, ◌*◌, ◌/◌, ◌%◌, ◌^◌, ◌<◌, ◌≤◌, Bool, true, false, cond, eqb, leb, List, [], ◌∷◌}
use Rattle.std.proofs.Common.{length, get_or, refl, ap, ◌∙◌, mul-le-mul_right, mod-lt, mod-eq_of_lt, mul_assoc}
use Rattle.std.proofs.Common.{div-lt_iff_lt-mul, add-mul, pow-suc, le-div_iff_mul-le, zero-add, zero-mul, mul-one, add-one, arith}
use Rattle.std.proofs.Common.{ne_eqb, le-leb, leb-false, leb-true, unwrap_or, drop, drop_of_length-le, mul-le-mul_left, sym}
use Rattle.std.specs.Prelude.{Some, None, Result, Ok, Err, ◌&&◌}
use Rattle.std.specs.Result.{is_ok, result_ok}
use mathlib.Core.Bool.{and-eq-true_iff, false≢true}
use native.Mathlib.Nat.{pow-succ', mod-one, one-le-pow}
use native.Mathlib.Nat.{pow-le-pow_right, div-eq_of_lt, div-eq_of_lt-le, add-sub_cancel_left, mul-add-mod_self_right}
use native.Mathlib.Nat.{div-div-eq-div-mul}
use lib.Arith.{mod-mul}
use borrow.Author.Tests.{lt-leb}
use Rattle.text.specs.Text.{all, is_digit, onward, number, digits, trimmed, decimal}
use Rattle.text.specs.Buffer.{less_zero, summed, digits_in}
use Rattle.text.specs.declared.NotDigits.{NotDigits}
use Rattle.text.proofs.Bytes.{drop-next, all-next}

pub tens : (w : ℕ) → 0 < 10 ^ w
tens w = one-le-pow w 10 (omega arith)

-- one place more to the left
pub place-next : (v k : ℕ) → v / 10 ^ k / 10 ≡ v / 10 ^ (k + 1)
place-next v k = rw (div-div-eq-div-mul v (10 ^ k) 10, add-one, ← pow-suc 10 k)

-- ---- a number's digits

pub length_digits : (w v : ℕ) → length (digits w v) ≡ w
length_digits zero v = refl
length_digits (suc w) v = ap suc (length_digits w v)

pub all_digits : (w v : ℕ) → all is_digit (digits w v) ≡ true
all_digits zero v = refl
all_digits (suc w) v =
    let q = v / 10 ^ w % 10 in
    let h : q < 10 = mod-lt (v / 10 ^ w) (omega arith) in
    rw (le-leb 48 (48 + q) (omega arith), le-leb (48 + q) 57 (omega arith)) (all_digits w v)

onward-digits : (w acc v : ℕ) → onward acc (digits w v) ≡ acc * 10 ^ w + v % 10 ^ w
onward-digits zero acc v = rw (mul-one, mod-one) (omega arith)
onward-digits (suc w) acc v =
    let p = 10 ^ w in
    let q = v / p % 10 in
    let m : v % (10 * p) ≡ q * p + v % p = mod-mul v (omega arith) (tens w) in
    ap (λ (x : ℕ). onward (acc * 10 + x) (digits w v)) (add-sub_cancel_left 48 q)
    ∙ onward-digits w (acc * 10 + q) v
    ∙ rw (pow-succ' 10 w, m, add-mul, mul_assoc acc 10 p) (omega arith)

pub number_digits : (w v : ℕ) → v < 10 ^ w → number (digits w v) ≡ v
unfolding number
number_digits w v h = rw (onward-digits w 0 v, zero-mul, zero-add) (mod-eq_of_lt h)

-- ---- digits' number

pub digit-in : (b : ℕ) → is_digit b ≡ true → (48 ≤ b) × (b ≤ 57)
digit-in b e = let t = (and-eq-true_iff (leb 48 b) (leb b 57)).0 e in (leb-true 48 b t.0, leb-true b 57 t.1)

onward-bounds : (bs : List ℕ) (acc : ℕ) → all is_digit bs ≡ true
    → (acc * 10 ^ length bs ≤ onward acc bs) × (onward acc bs < acc * 10 ^ length bs + 10 ^ length bs)
onward-bounds [] acc e = rw mul-one (omega arith)
onward-bounds (b ∷ bs) acc e =
    let t = (and-eq-true_iff (is_digit b) (all is_digit bs)).0 e in
    let d = digit-in b t.0 in
    let p = 10 ^ length bs in
    let r = onward-bounds bs (acc * 10 + (b - 48)) t.1 in
    let c : (acc * 10 + (b - 48)) * p ≡ acc * (10 * p) + (b - 48) * p = rw (add-mul, mul_assoc acc 10 p) in
    let s : (b - 48) * p ≤ 9 * p = mul-le-mul_right p (omega arith) in
    rw (pow-succ' 10 (length bs)) (omega arith)

digits-onward : (s : List ℕ) (acc : ℕ) → all is_digit s ≡ true → digits (length s) (onward acc s) ≡ s
digits-onward [] acc e = refl
digits-onward (b ∷ bs) acc e =
    let t = (and-eq-true_iff (is_digit b) (all is_digit bs)).0 e in
    let d = digit-in b t.0 in
    let a = acc * 10 + (b - 48) in
    let p = 10 ^ length bs in
    let r = onward-bounds bs a t.1 in
    let q : onward a bs / p ≡ a = div-eq_of_lt-le p r.0 (omega (arith, add-mul a 1 p, r.1)) in
    let h : 48 + a % 10 ≡ b = rw (mul-add-mod_self_right acc 10 (b - 48)) (omega arith) in
    rw (q, h, digits-onward bs a t.1)

pub digits_number : (w : ℕ) (s : List ℕ) → length s ≡ w → all is_digit s ≡ true → digits w (number s) ≡ s
unfolding number
digits_number w s l e = rw (← l) (digits-onward s 0 e)

pub number-below : (w : ℕ) (s : List ℕ) → length s ≤ w → all is_digit s ≡ true → number s < 10 ^ w
unfolding number
number-below w s l e =
    let p : 10 ^ length s ≤ 10 ^ w = pow-le-pow_right (omega arith) l in omega (arith, (onward-bounds s 0 e).1, zero-mul (10 ^ length s))

-- ---- digits as they are read

-- of digits the sum is their number, and of any bytes it is small
summed-digits : (bs : List ℕ) (v : ℕ) → all is_digit bs ≡ true → summed v bs ≡ onward v bs
summed-digits [] v e = refl
summed-digits (b ∷ bs) v e =
    let t = (and-eq-true_iff (is_digit b) (all is_digit bs)).0 e in
    let d = digit-in b t.0 in
    let same : less_zero b ≡ b - 48 = omega arith in
    rw same (summed-digits bs (v * 10 + (b - 48)) t.1)

summed-small : (bs : List ℕ) (v : ℕ) → summed v bs + 29 ≤ (v + 29) * 10 ^ length bs
summed-small [] v = rw mul-one (omega arith)
summed-small (b ∷ bs) v =
    let p = 10 ^ length bs in
    let step : (v * 10 + less_zero b + 29) * p ≤ (v + 29) * 10 * p = mul-le-mul_right p (omega arith) in
    rw (pow-succ' 10 (length bs), ← mul_assoc (v + 29) 10 p) (omega (arith, summed-small bs (v * 10 + less_zero b), step))

-- one byte more is read
pub next_sum : (v : ℕ) (s : List ℕ) (i : ℕ) → i < length s → summed (v * 10 + less_zero (get_or s i 0)) (drop (i + 1) s) ≡ summed v (drop i s)
next_sum v s i h = rw (drop-next s i h)

pub next_test : (ok : Bool) (s : List ℕ) (i : ℕ) → i < length s
    → ((ok && is_digit (get_or s i 0)) && all is_digit (drop (i + 1) s)) ≡ (ok && all is_digit (drop i s))
next_test ok s i h = all-next is_digit ok s i h

pub pow_next : (i : ℕ) → 10 ^ (i + 1) ≡ 10 * 10 ^ i
pow_next i = rw add-one (pow-succ' 10 i)

pub pow_bound : (i : ℕ) → i ≤ 16 → 10 ^ i ≤ 10000000000000000
pow_bound i h = pow-le-pow_right (omega arith) h

pub too_long : (s : List ℕ) → 17 < length s → digits_in s ≡ Err (record { sum = 0 })
unfolding digits_in
too_long s h = rw (lt-leb (length s) 17 h)

-- what `.ok()` tells of up to 17 bytes: the number of digits, none of others
pub digits_read : (s : List ℕ) → length s ≤ 17 → result_ok (digits_in s) ≡ cond (all is_digit s) (Some (number s)) None
unfolding digits_in
digits_read s h = rw (le-leb (length s) 17 h) (go (all is_digit s))
  where
    go : (t : Bool) → result_ok {E = NotDigits} (cond t (Ok (number s)) (Err (record { sum = summed 0 s }))) ≡ cond t (Some (number s)) None
    go true = refl
    go false = refl

module _ (s : List ℕ) (h : length s ≤ 17) {v : ℕ} {ok : Bool} (i : ℕ) (l : length s ≤ i)
    (e : summed v (drop i s) ≡ summed 0 s) (f : (ok && all is_digit (drop i s)) ≡ all is_digit s) where
  pub all_read : ok ≡ true → digits_in s ≡ Ok v
  unfolding digits_in number
  all_read t =
      let none = drop_of_length-le s {i = i} l in
      let d : all is_digit s ≡ true = sym (rw (none, t) at f) in
      let n : v ≡ onward 0 s = (rw none at e) ∙ summed-digits s 0 d in
      rw (le-leb (length s) 17 h, d, n)

  pub other_read : ok ≡ false → digits_in s ≡ Err (record { sum = v })
  unfolding digits_in
  other_read t =
      let none = drop_of_length-le s {i = i} l in
      let n : v ≡ summed 0 s = rw none at e in
      let d : all is_digit s ≡ false = sym (rw (none, t) at f) in
      rw (le-leb (length s) 17 h, d, n)

-- what was read, of digits or not
abbrev pub written : Result ℕ NotDigits → ℕ
written (Ok v) = v
written (Err e) = e.sum

-- at most w bytes, as they are read
pub record Read (w : ℕ) (s : List ℕ) (r : Result ℕ NotDigits) : Type 0 where
  pub tested : is_ok r ≡ all is_digit s
  pub read : all is_digit s ≡ true → written r ≡ number s
  pub below : all is_digit s ≡ true → written r < 10 ^ w
  pub ok_below : unwrap_or (result_ok r) 0 < 10 ^ w
  pub small : written r + 29 ≤ 29 * 10 ^ w

pub digits-read : (w : ℕ) (s : List ℕ) {r : Result ℕ NotDigits} → length s ≤ w → w ≤ 17 → r ≡ digits_in s → Read w s r
unfolding digits_in number
digits-read w s h l e = rw (e, le-leb (length s) 17 (omega arith)) (go (all is_digit s) refl)
  where
    most : summed 0 s + 29 ≤ 29 * 10 ^ w
    most =
        let p : 29 * 10 ^ length s ≤ 29 * 10 ^ w = mul-le-mul_left 29 (pow-le-pow_right (omega arith) h) in
        omega (arith, summed-small s 0, p)

    go : (t : Bool) → all is_digit s ≡ t → Read w s (cond t (Ok (number s)) (Err (record { sum = summed 0 s })))
    go true q =
        let d = summed-digits s 0 q in
        record {
          tested = rw q;
          read = λ _. refl;
          below = λ _. number-below w s h q;
          ok_below = number-below w s h q;
          small = rw d at most;
        }
    go false q =
        record {
          tested = rw q;
          read = λ d. absurd (false≢true (rw q at d));
          below = λ d. absurd (false≢true (rw q at d));
          ok_below = tens w;
          small = most;
        }

pub ruleset reading = (next_sum, next_test, pow_next, pow_bound, too_long, all_read, other_read)

-- ---- leading zeros

-- a number below 10 ^ w has the same digits left, however many zeros stand before its last w
trim-to : (m w v : ℕ) → w ≤ m → 0 < w → v < 10 ^ w → trimmed (digits m v) ≡ trimmed (digits w v)
trim-to zero w v h p l = absurd (omega arith)
trim-to (suc m) w v h p l = go (leb w m) refl (λ n. trim-to m w v n p l)
  where
    leads : (m : ℕ) → w ≤ m → trimmed (digits (suc m) v) ≡ trimmed (digits m v)
    leads zero h = absurd (omega arith)
    leads (suc m) h =
        let q : 10 ^ w ≤ 10 ^ suc m = pow-le-pow_right (omega arith) h in
        let e : v / 10 ^ suc m ≡ 0 = div-eq_of_lt (omega arith) in
        rw e

    go : (t : Bool) → leb w m ≡ t → (w ≤ m → trimmed (digits m v) ≡ trimmed (digits w v)) → trimmed (digits (suc m) v) ≡ trimmed (digits w v)
    go true e more = let n = leb-true w m e in leads m n ∙ more n
    go false e more = let n : w ≡ suc m = omega (arith, leb-false w m e) in rw n

-- a first digit that is none of them, and the last digit, stay
trim-stop : (w v : ℕ) → v < 10 ^ w → (1 < w → 10 ^ (w - 1) ≤ v) → trimmed (digits w v) ≡ digits w v
trim-stop zero v h l = refl
trim-stop (suc zero) v h l = refl
trim-stop (suc (suc w)) v h l =
    let p = 10 ^ suc w in
    let n : suc (suc w) - 1 ≡ suc w = omega arith in
    let low : 1 ≤ v / p = (le-div_iff_mul-le (tens (suc w))).1 (omega (arith, rw n at (l (omega arith)))) in
    let high : v / p < 10 = (div-lt_iff_lt-mul (tens (suc w))).1 (omega (arith, pow-succ' 10 (suc w))) in
    rw (ne_eqb (48 + v / p % 10) 48 (λ e. omega (arith, mod-eq_of_lt high)))

pub decimal-is : (w v : ℕ) → 0 < w → w ≤ 20 → v < 10 ^ w → (1 < w → 10 ^ (w - 1) ≤ v) → decimal v ≡ digits w v
unfolding decimal
decimal-is w v p h l m = trim-to 20 w v h p l ∙ trim-stop w v l m

-- the width by the greatest power of ten that is not above the number
pub power_width : (v k : ℕ) → 10 ^ k ≤ v → v < 10 * 10 ^ k → k < 20 → decimal v ≡ digits (k + 1) v
power_width v k l h m = decimal-is (k + 1) v (omega arith) (omega arith) (rw (add-one, pow-succ' 10 k) h) (λ _. l')
  where
    l' : 10 ^ (k + 1 - 1) ≤ v
    l' = let e : k + 1 - 1 ≡ k = omega arith in rw e l

pub zero_width : (v : ℕ) → v ≡ 0 → decimal v ≡ digits 1 v
zero_width v e = decimal-is 1 v (omega arith) (omega arith) (omega arith) (λ h. absurd (omega arith))

pub ruleset widths = (power_width, zero_width)

-- the digits are never more
trim-le : (l : List ℕ) → length (trimmed l) ≤ length l
trim-le [] = omega arith
trim-le (d ∷ []) = omega arith
trim-le (d ∷ e ∷ ds) = first (eqb d 48) (trim-le (e ∷ ds))
  where
    first : (t : Bool) → length (trimmed (e ∷ ds)) ≤ length (e ∷ ds)
        → length (cond t (trimmed (e ∷ ds)) (d ∷ e ∷ ds)) ≤ length (d ∷ e ∷ ds)
    first true m = omega arith
    first false m = omega arith

pub decimal-most : (v : ℕ) → length (decimal v) ≤ 20
unfolding decimal
decimal-most v = trim-le (digits 20 v)

-- a number below 10 ^ k has at most k digits left
pub decimal-short : (v k : ℕ) → 0 < k → k ≤ 20 → v < 10 ^ k → length (decimal v) ≤ k
unfolding decimal
decimal-short v k h m l = rw (trim-to 20 k v m h l) (omega (arith, trim-le (digits k v), length_digits k v))
