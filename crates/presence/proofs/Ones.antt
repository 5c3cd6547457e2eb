-- The count of ones, word by word. Assumes nothing.
use Prim.Native.Nat.{ℕ, zero, suc, ◌+◌, ◌-◌, ◌*◌, ◌/◌, ◌%◌, ◌^◌, ◌≤◌, ◌<◌}
use native.Mathlib.Omega.{arith}
use native.Mathlib.Nat.{mod-lt, mod-eq_of_lt, add-suc, add-zero, add_left_comm}
use native.Mathlib.Numerals.{one-add}
use mathlib.Core.Path.{◌≡◌, refl, sym, ap, ap₂, ◌∙◌}
use mathlib.Core.List.{List}
use lib.ListN.{get_or}
use lib.Pow.{mod-pow-add, ones_split, ones_lt, high, pow_pos}
use lib.Bits.{bit_and, and_mask}
use lib.Count.{ones, ones_in, ones_cat}
use Rattle.std.proofs.Common.{take, length, add-one}
use Rattle.std.specs.List.{sum_by}
use Rattle.std.proofs.lemmas.List.Sums.{sum_by_more}
use Rattle.presence.specs.Presence.{counted}
use Rattle.presence.proofs.Counted.{counted_none, counted_step, counted-le, stops_at, never_stops}

one_bit : (x : ℕ) → x < 2 → ones x ≡ x
unfolding ones ones_in
one_bit zero h = refl
one_bit (suc zero) h = refl
one_bit (suc (suc x)) h = absurd (omega arith)

-- one digit more
digit-more : (w b : ℕ) → ones (w % 2 ^ suc b) ≡ w / 2 ^ b % 2 + ones (w % 2 ^ b)
digit-more w b =
    let e : w % 2 ^ suc b ≡ w / 2 ^ b % 2 * 2 ^ b + w % 2 ^ b = ap (λ (k : ℕ). w % 2 ^ k) (sym (one-add b)) ∙ mod-pow-add w 1 b in
    ap ones e ∙ ones_cat b (w / 2 ^ b % 2) (w % 2 ^ b) (mod-lt w (pow_pos b))
    ∙ ap (λ (x : ℕ). x + ones (w % 2 ^ b)) (one_bit (w / 2 ^ b % 2) (omega arith))

no_digit : (w : ℕ) → ones (w % 2 ^ 0) ≡ 0
unfolding ones ones_in
no_digit w = let e : w % 1 ≡ 0 = omega arith in ap ones e

module _ (words : List ℕ) where
  -- b tiles into word i
  into : (i b : ℕ) → b ≤ 64 → counted words (i * 64 + b) ≡ counted words (i * 64) + ones (get_or words i 0 % 2 ^ b)
  unfolding counted
  into i zero h = ap (counted words) (add-zero (i * 64)) ∙ sym (ap (λ (x : ℕ). counted words (i * 64) + x) (no_digit (get_or words i 0)) ∙ add-zero _)
  into i (suc b) h =
      let w = get_or words i 0 in
      let word : (i * 64 + b) / 64 ≡ i = omega arith in
      let bit : (i * 64 + b) % 64 ≡ b = omega arith in
      ap (counted words) (add-suc (i * 64) b)
      ∙ ap₂ (λ (x y : ℕ). get_or words x 0 / 2 ^ y % 2 + counted words (i * 64 + b)) word bit
      ∙ ap (λ (x : ℕ). w / 2 ^ b % 2 + x) (into i b (omega arith))
      ∙ add_left_comm (w / 2 ^ b % 2) (counted words (i * 64)) (ones (w % 2 ^ b))
      ∙ ap (λ (x : ℕ). counted words (i * 64) + x) (sym (digit-more w b))

  -- a whole word
  pub whole_word : (i : ℕ) → get_or words i 0 < 2 ^ 64 → counted words (i * 64) + ones (get_or words i 0) ≡ counted words ((i + 1) * 64)
  whole_word i h =
      let e : i * 64 + 64 ≡ (i + 1) * 64 = omega arith in
      ap (λ (x : ℕ). counted words (i * 64) + ones x) (sym (mod-eq_of_lt h)) ∙ sym (into i 64 (omega arith)) ∙ ap (counted words) e

  -- the masked last word
  pub last_word : (t : ℕ) → counted words (t / 64 * 64) + ones (bit_and (get_or words (t / 64) 0) (18446744073709551615 / 2 ^ (63 - t % 64)))
      ≡ counted words (t + 1)
  last_word t =
      let w = get_or words (t / 64) 0 in
      let e : t / 64 * 64 + (t % 64 + 1) ≡ t + 1 = omega arith in
      ap (λ (m : ℕ). counted words (t / 64 * 64) + ones (bit_and w m)) (mask (t % 64) (omega arith))
      ∙ ap (λ (x : ℕ). counted words (t / 64 * 64) + ones x) (and_mask w (t % 64 + 1))
      ∙ sym (into (t / 64) (t % 64 + 1) (omega arith)) ∙ ap (counted words) e
    where
      -- of the digits up to and including `bit`
      mask : (bit : ℕ) → bit < 64 → 18446744073709551615 / 2 ^ (63 - bit) ≡ 2 ^ (bit + 1) - 1
      mask bit h =
          let k = 63 - bit in
          let e : bit + 1 + k ≡ 64 = omega arith in
          let s : 2 ^ 64 - 1 ≡ (2 ^ (bit + 1) - 1) * 2 ^ k + (2 ^ k - 1) = ap (λ (n : ℕ). 2 ^ n - 1) (sym e) ∙ ones_split (bit + 1) k in
          ap (λ (n : ℕ). n / 2 ^ k) s ∙ high (2 ^ (bit + 1) - 1) k (ones_lt k)

-- whole words
pub ones_of_words : (words : List ℕ) (i : ℕ) → ((k : ℕ) → get_or words k 0 < 2 ^ 64) → i ≤ length words
    → sum_by ones (take i words) ≡ counted words (i * 64)
ones_of_words words zero f h = sym (counted_none words)
ones_of_words words (suc i) f h =
    let e : take (i + 1) words ≡ take (suc i) words = rw add-one in
    let m : (i + 1) * 64 ≡ suc i * 64 = rw add-one in
    rw (← e, ← m, sum_by_more ones words i 0 (omega arith), ones_of_words words i f (omega arith)) (whole_word words i (f i))

pub ruleset counting = (ones_of_words, last_word, counted-le)

pub ruleset passing = (whole_word, counted_none, counted_step, counted-le, stops_at, never_stops)
