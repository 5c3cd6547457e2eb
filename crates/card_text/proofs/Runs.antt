-- Runs of digits and of letters, byte by byte. Assumes nothing.
use Rattle.std.proofs.Common.{◌≡◌, ℕ, ◌+◌, ◌<◌, ◌≤◌, true, false, List, length, get_or, drop, refl, arith, drop_of_length-le, Some, None}
use mathlib.Core.Bool.{Bool, ◌&&◌, and-true}
use Rattle.std.specs.Prelude.{if◌then◌else◌}
use Rattle.std.specs.Result.{result_ok}
use Rattle.std.specs.Option.{IfSome}
use Rattle.text.specs.Text.{all, is_digit, is_name_byte, number}
use Rattle.text.specs.Buffer.{digits_in}
use Rattle.text.proofs.Bytes.{all-next}
use Rattle.text.proofs.Numbers.{number-below, digits_read}
use Rattle.card_text.specs.StepsFields.{digits_run}

-- ---- digits

pub run_is : (s : List ℕ) → length s ≤ 17 → result_ok (digits_in s) ≡ digits_run s
run_is s h = digits_read s h

pub run_small : (s : List ℕ) → length s ≤ 8 → IfSome (digits_run s) (λ v. v < 100000000)
run_small s h = go (all is_digit s) refl
  where
    go : (t : Bool) → all is_digit s ≡ t → IfSome (if t then Some (number s) else None) (λ v. v < 100000000)
    go true e = omega (arith, number-below 8 s h e)
    go false e = tt

pub ruleset runs = (run_is, run_small)

-- ---- letters

pub named_next : (named : Bool) (s : List ℕ) (i : ℕ) → i < length s
    → ((named && is_name_byte (get_or s i 0)) && all is_name_byte (drop (i + 1) s)) ≡ (named && all is_name_byte (drop i s))
named_next named s i h = all-next is_name_byte named s i h

pub named_end : (named : Bool) (s : List ℕ) (i : ℕ) → length s ≤ i → (named && all is_name_byte (drop i s)) ≡ named
named_end named s i h = rw (drop_of_length-le s {i = i} h) (and-true named)

pub ruleset named = (named_next, named_end)
