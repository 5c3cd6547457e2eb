-- The two numbers of a line are those of its parts before and after the first space, each below 10 ^ 9. Assumes nothing.
use Rattle.std.proofs.Common.{◌≡◌, ℕ, ◌≤◌, ◌<◌, ◌^◌, Bool, true, false, cond, ◌&&◌, List, length, refl, sym, ◌∙◌, arith, leb-true, le-leb}
use Rattle.std.proofs.Common.{Option, Some, None, nat_le}
use mathlib.Core.Bool.{and-eq-true_iff}
use Rattle.text.specs.Text.{all, is_digit, number}
use Rattle.std.specs.Result.{result_ok}
use Rattle.text.specs.Buffer.{digits_in}
use Rattle.text.proofs.Numbers.{number-below, digits_read}
use Rattle.printing.specs.Lines.{up_to, after, is_number, short_number, both, numbers_of}
use Rattle.printing.specs.Steps.{IsUncut}
use Rattle.printing.specs.declared.parse.TwoNumbers.{TwoNumbers}

below : (s : List ℕ) → is_number s ≡ true → number s < 1000000000
below s t =
    let b = (and-eq-true_iff (nat_le 1 (length s) && nat_le (length s) 9) (all is_digit s)).0 t in
    let d = (and-eq-true_iff (nat_le 1 (length s)) (nat_le (length s) 9)).0 b.0 in
    number-below 9 s (leb-true (length s) 9 d.1) b.1

small : (s : List ℕ) {v : ℕ} → short_number s ≡ Some v → v < 1000000000
small s {v} e = go (is_number s) refl e
  where
    go : (t : Bool) → is_number s ≡ t → cond t (Some (number s)) None ≡ Some v → v < 1000000000
    go true t e = let n : number s ≡ v = cc in rw (← n) (below s t)
    go false t e = absurd cc

-- a run of 1 to 9 bytes as it was read
module _ (s : List ℕ) (least : 1 ≤ length s) (most : length s ≤ 9) where
  in-digits : result_ok (digits_in s) ≡ short_number s
  in-digits = rw (le-leb 1 (length s) least, le-leb (length s) 9 most) (digits_read s (omega arith))

  pub number_is_read : {r : Option ℕ} → r ≡ result_ok (digits_in s) → r ≡ short_number s
  number_is_read e = e ∙ in-digits

  pub some_is_below : {v : ℕ} → Some v ≡ result_ok (digits_in s) → v < 2 ^ 32
  some_is_below e = omega (arith, small s (sym (e ∙ in-digits)))

pub ruleset number_reads = (number_is_read, some_is_below)

-- ---- the numbers of a line, whose parts are x and y

both-none : (o : Option ℕ) → None ≡ both o None
both-none None = refl
both-none (Some x) = refl

pub uncut_has_none : (l : List ℕ) → IsUncut 32 l → None ≡ numbers_of l
unfolding numbers_of
uncut_has_none l u = rw u.ended (both-none (short_number (up_to 32 l)))

module _ (l : List ℕ) {x y : List ℕ} (p : x ≡ up_to 32 l) (q : y ≡ after 32 l) where
  pub no_left : None ≡ short_number x → None ≡ numbers_of l
  unfolding numbers_of
  no_left e = rw (← p, ← e)

  pub no_right : None ≡ short_number y → None ≡ numbers_of l
  unfolding numbers_of
  no_right e = rw (← q, ← e) (both-none (short_number (up_to 32 l)))

  pub two_numbers : {v w : ℕ} → Some v ≡ short_number x → Some w ≡ short_number y → Some (record { left = v; right = w }) ≡ numbers_of l
  unfolding numbers_of
  two_numbers e f = rw (← p, ← q, ← e, ← f)

pub ruleset line_reads = (uncut_has_none, no_left, no_right, two_numbers)

-- ---- the numbers are below 10 ^ 9

pub pair-below : (l : List ℕ) (p : TwoNumbers) → numbers_of l ≡ Some p → (p.left < 1000000000) × (p.right < 1000000000)
unfolding numbers_of
pair-below l p e = go (short_number (up_to 32 l)) (short_number (after 32 l)) refl refl e
  where
    go : (x y : Option ℕ) → short_number (up_to 32 l) ≡ x → short_number (after 32 l) ≡ y → both x y ≡ Some p
        → (p.left < 1000000000) × (p.right < 1000000000)
    go (Some v) (Some w) f g e =
        let q : record { left = v; right = w } ≡ p = cc in
        rw (← q) (small (up_to 32 l) f, small (after 32 l) g)
    go (Some v) None f g e = absurd cc
    go None y f g e = absurd cc
