-- The bits of a word from a tile's on. Assumes nothing.
use Prim.Native.Nat.{ℕ, zero, suc, ◌+◌, ◌-◌, ◌*◌, ◌/◌, ◌%◌, ◌^◌, ◌≤◌, ◌<◌}
use native.Mathlib.Omega.{arith}
use native.Mathlib.Numerals.{add-one}
use native.Mathlib.Decide.{ℕ_discrete}
use mathlib.Core.Path.{◌≡◌, refl, sym, ap, ap₂, ◌∙◌}
use mathlib.Core.Bool.{Bool, true, false, not, ◌||◌, true≢false}
use mathlib.Core.List.{List}
use borrow.Author.Tests.{eq-eqb, ne_eqb, eqb-true}
use lib.Dec.{eqb}
use lib.ListN.{length, get_or}
use lib.Pow.{mod-pow-add, shr-shr, shr_mod}
use Rattle.presence.specs.Presence.{present, any_set_from}
use Rattle.presence.proofs.Counted.{present-past}

-- the first digit, or one of the others
either-digit : (p y : ℕ) → p < 2 → not (eqb p 0) || not (eqb y 0) ≡ not (eqb (y * 2 + p) 0)
either-digit zero zero h = refl
either-digit zero (suc y) h = rw (ne_eqb (suc y) 0 (λ z. omega arith), ne_eqb (suc y * 2 + 0) 0 (λ z. omega arith))
either-digit (suc p) y h = rw (ne_eqb (suc p) 0 (λ z. omega arith), ne_eqb (y * 2 + suc p) 0 (λ z. omega arith))

module _ (words : List ℕ) where
  -- the n digits from tile t's on
  abbrev digits : ℕ → ℕ → ℕ
  digits t n = get_or words (t / 64) 0 / 2 ^ (t % 64) % 2 ^ n

  set-digits : (t n : ℕ) → t % 64 + n ≤ 64 → any_set_from words t n ≡ not (eqb (digits t n) 0)
  unfolding any_set_from
  set-digits t zero h = sym (ap not (eq-eqb (digits t 0) 0 (omega arith)))
  set-digits t (suc zero) h =
      let e : 0 * 2 + present words t ≡ present words t = omega arith in
      either-digit (present words t) 0 (omega arith) ∙ ap (λ (y : ℕ). not (eqb y 0)) e
  set-digits t (suc (suc n)) h =
      let w = get_or words (t / 64) 0 in
      let x = w / 2 ^ (t % 64) in
      let q : (t + 1) / 64 ≡ t / 64 = omega arith in
      let r : (t + 1) % 64 ≡ t % 64 + 1 = omega arith in
      let e : digits (t + 1) (suc n) ≡ x / 2 % 2 ^ suc n =
      ap₂ (λ (i b : ℕ). get_or words i 0 / 2 ^ b % 2 ^ suc n) q r ∙ ap (λ (y : ℕ). y % 2 ^ suc n) (sym (shr-shr w (t % 64) 1)) in
      ap (λ (b : Bool). not (eqb (present words t) 0) || b) (set-digits (t + 1) (suc n) (omega arith) ∙ ap (λ (y : ℕ). not (eqb y 0)) e)
      ∙ either-digit (x % 2) (x / 2 % 2 ^ suc n) (omega arith)
      ∙ ap (λ (y : ℕ). not (eqb y 0)) (sym (mod-pow-add x (suc n) 1) ∙ ap (λ (k : ℕ). x % 2 ^ k) (add-one (suc n)))

  -- to the end of a word
  pub set_rest : (t : ℕ) → get_or words (t / 64) 0 < 2 ^ 64 → any_set_from words t (64 - t % 64) ≡ not (eqb (get_or words (t / 64) 0 / 2 ^ (t % 64)) 0)
  set_rest t h =
      let e : 64 - t % 64 + t % 64 ≡ 64 = omega arith in
      set-digits t (64 - t % 64) (omega arith)
      ∙ ap (λ (y : ℕ). not (eqb y 0)) (shr_mod {n = get_or words (t / 64) 0} (64 - t % 64) (t % 64) (rw e h))

  -- none is set where none of them is 1
  pub set-none : (t n : ℕ) → ((j : ℕ) → t ≤ j → j < t + n → present words j ≡ 0) → any_set_from words t n ≡ false
  unfolding any_set_from
  set-none t zero h = refl
  set-none t (suc n) h =
      rw (eq-eqb (present words t) 0 (h t (omega arith) (omega arith)), set-none (t + 1) n (λ j p q. h j (omega arith) (omega arith)))

  -- and none of them is 1 where none is set
  pub none-set : (t n : ℕ) → any_set_from words t n ≡ false → (j : ℕ) → t ≤ j → j < t + n → present words j ≡ 0
  unfolding any_set_from
  none-set t zero e j p q = absurd (omega arith)
  none-set t (suc n) e j p q = go (eqb (present words t) 0) (any_set_from words (t + 1) n) refl refl e (ℕ_discrete j t)
      (λ g d. none-set (t + 1) n g j (omega arith) (omega arith))
    where
      go : (a b : Bool) → eqb (present words t) 0 ≡ a → any_set_from words (t + 1) n ≡ b → not a || b ≡ false → Dec (j ≡ t)
          → (any_set_from words (t + 1) n ≡ false → (j ≡ t → ⊥) → present words j ≡ 0) → present words j ≡ 0
      go true false f g z (yes i) w = ap (present words) i ∙ eqb-true (present words t) 0 f
      go true false f g z (no d) w = w g d
      go true true f g z i w = absurd (true≢false z)
      go false b f g z i w = absurd (true≢false z)

  -- nor past the words
  pub set_past : (t n : ℕ) → length words ≤ t / 64 → any_set_from words t n ≡ false
  set_past t n h = set-none t n (λ j p q. present-past words j (omega arith))

pub ruleset setting = (set_rest, set_past)
