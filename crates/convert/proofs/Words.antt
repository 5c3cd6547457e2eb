-- Words of bits made from a list. Assumes nothing.
use Prim.Native.Nat.{ℕ, zero, suc, ◌+◌, ◌-◌, ◌*◌, ◌/◌, ◌%◌, ◌^◌, ◌<◌, ◌≤◌}
use native.Mathlib.Omega.{arith}
use native.Mathlib.Nat.{div-one, pow-succ', div-div-eq-div-mul}
use mathlib.Core.Path.{◌≡◌, refl, sym, ap, ap₂, ◌∙◌}
use mathlib.Core.Bool.{Bool, true, false, cond}
use mathlib.Core.List.{List}
use borrow.Author.Tests.{eq-eqb, ne_eqb}
use lib.Dec.{eqb}
use lib.ListN.{get_or}
use lib.Pow.{pow_mono}
use Rattle.presence.specs.Presence.{present}
use Rattle.tiles.proofs.Listed.{listed_at}
use Rattle.convert.specs.Convert.{bit_of, word_from, bits_of}

-- ---- one entry
pub bit-lt : (e : ℕ) → bit_of e < 2
bit-lt e = go (eqb e 0)
  where
    go : (b : Bool) → cond b 0 1 < 2
    go true = omega arith
    go false = omega arith

pub bit-none : (e : ℕ) → e ≡ 0 → bit_of e ≡ 0
bit-none e z = rw (eq-eqb e 0 z)

pub bit-some : (e : ℕ) → (e ≡ 0 → ⊥) → bit_of e ≡ 1
bit-some e d = rw (ne_eqb e 0 d)

-- ---- a word
module _ (list : List ℕ) where
  pub word-step : (t n m : ℕ) → n ≡ suc m → word_from list t n ≡ bit_of (get_or list t 0) + 2 * word_from list (t + 1) m
  unfolding word_from
  word-step t n m e = rw e

  pub word_lt : (t n : ℕ) → word_from list t n < 2 ^ n
  unfolding word_from
  word_lt t zero = omega arith
  word_lt t (suc n) = omega (arith, pow-succ' 2 n, bit-lt (get_or list t 0), word_lt (t + 1) n)

  pub word-low : (t n : ℕ) → n < 64 → word_from list t n < 2 ^ 63
  word-low t n h =
      let p : 2 ^ n ≤ 2 ^ 63 = pow_mono {i = n} {j = 63} (omega arith) in
      omega (arith, p, word_lt t n)

  -- j bits on
  word-skip : (t j n : ℕ) → word_from list t (j + n) / 2 ^ j ≡ word_from list (t + j) n
  word-skip t zero n =
      let e : 0 + n ≡ n = omega arith in
      let f : t + 0 ≡ t = omega arith in
      rw (e, f) (div-one (word_from list t n))
  word-skip t (suc j) n =
      let w = word_from list (t + 1) (j + n) in
      let e : word_from list t (suc j + n) ≡ bit_of (get_or list t 0) + 2 * w = word-step t (suc j + n) (j + n) (omega arith) in
      let h : (bit_of (get_or list t 0) + 2 * w) / 2 ≡ w = omega (arith, bit-lt (get_or list t 0)) in
      let f : t + 1 + j ≡ t + suc j = omega arith in
      ap₂ (λ (x y : ℕ). x / y) e (pow-succ' 2 j)
      ∙ sym (div-div-eq-div-mul (bit_of (get_or list t 0) + 2 * w) 2 (2 ^ j))
      ∙ ap (λ (x : ℕ). x / 2 ^ j) h ∙ word-skip (t + 1) j n ∙ ap (λ (x : ℕ). word_from list x n) f

  -- the bits are the list's
  pub present-of : (n t : ℕ) → t / 64 < n → present (bits_of list n) t ≡ bit_of (get_or list t 0)
  present-of n t h =
      let b = t % 64 in
      let m = 63 - b in
      let e : b + suc m ≡ 64 = omega arith in
      let f : t / 64 * 64 + b ≡ t = omega arith in
      ap (λ (x : ℕ). x / 2 ^ b % 2) (listed_at (λ i. word_from list (i * 64) 64) n (t / 64) h ∙ ap (word_from list (t / 64 * 64)) (sym e))
      ∙ ap (λ (x : ℕ). x % 2) (word-skip (t / 64 * 64) b (suc m) ∙ word-step (t / 64 * 64 + b) (suc m) m refl)
      ∙ low (bit_of (get_or list (t / 64 * 64 + b) 0)) (word_from list (t / 64 * 64 + b + 1) m) (bit-lt (get_or list (t / 64 * 64 + b) 0))
      ∙ ap (λ (x : ℕ). bit_of (get_or list x 0)) f
    where
      low : (p w : ℕ) → p < 2 → (p + 2 * w) % 2 ≡ p
      low p w l = omega arith

  -- a number is the word of its bits
  pub word-is : (n t w : ℕ) → w < 2 ^ n → ((j : ℕ) → j < n → bit_of (get_or list (t + j) 0) ≡ w / 2 ^ j % 2) → word_from list t n ≡ w
  unfolding word_from
  word-is zero t w h b = omega arith
  word-is (suc n) t w h b =
      let z : t + 0 ≡ t = omega arith in
      let first : bit_of (get_or list t 0) ≡ w % 2 =
      ap (λ (x : ℕ). bit_of (get_or list x 0)) (sym z) ∙ b 0 (omega arith) ∙ ap (λ (x : ℕ). x % 2) (div-one w) in
      let rest : word_from list (t + 1) n ≡ w / 2 = word-is n (t + 1) (w / 2) (omega (arith, pow-succ' 2 n)) (λ j l.
      let f : t + 1 + j ≡ t + suc j = omega arith in
      ap (λ (x : ℕ). bit_of (get_or list x 0)) f ∙ b (suc j) (omega arith)
      ∙ ap (λ (x : ℕ). w / x % 2) (pow-succ' 2 j) ∙ ap (λ (x : ℕ). x % 2) (sym (div-div-eq-div-mul w 2 (2 ^ j)))) in
      omega (arith, first, rest)
