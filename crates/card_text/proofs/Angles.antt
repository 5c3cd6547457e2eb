-- The values that the code keeps are those of the definitions: a number, an angle counted from its limit, a flag. Assumes nothing.
use mathlib.Core.Path.{◌≡◌, refl, sym, ap, ◌∙◌}
use mathlib.Core.Bool.{Bool, true, false, cond, not, ◌&&◌}
use mathlib.Core.List.{List, [], ◌∷◌}
use Prim.Native.Nat.{ℕ, ◌+◌, ◌*◌, ◌-◌, ◌≤◌}
use native.Mathlib.Omega.{arith}
use lib.Dec.{leb, ltb, eqb}
use borrow.Author.Tests.{eq-eqb, ne_eqb}
use lib.ListN.{get_or}
use lib.IntN.{pos, neg_ℤ}
use Rattle.whole.proofs.Signed.{Is, is_same, is-nat, is-neg}
use Rattle.card_text.specs.declared.subfields.Angle.{Angle}
use Rattle.text.specs.Text.{all, number, part, is_digit, is_sign, minus, angle_laid, degrees, minutes, seconds, hundredths, angle_size, angle_of, angle_valid}
use Rattle.std.specs.Prelude.{Option, Some, None, Ok, if◌then◌else◌}
use Rattle.text.proofs.Bytes.{all-groups}
use Rattle.text.proofs.Angles.{valid-tests}
use Rattle.card_text.specs.declared.Fill.{Fill}
use Rattle.card_text.specs.Layout.{LSO, PSO, layout, bytes_of, walk}
use Rattle.card_text.specs.StepsFields.{digits_run, shifted, parts_of, checked, angle_held}
use Rattle.card_text.proofs.Walked.{right-in}

-- ---- an angle of d degree digits
module _ (d limit : ℕ) (s : List ℕ) where
  pub is-angle : angle_size d s ≤ limit → Is (angle_of d s) (shifted limit (minus s) (angle_size d s)) limit
  unfolding angle_of
  is-angle h = go (minus s)
    where
      go : (b : Bool) → Is (cond b (neg_ℤ (pos (angle_size d s))) (pos (angle_size d s))) (shifted limit b (angle_size d s)) limit
      go true =
          is_same (neg_ℤ (pos (angle_size d s))) 0 (angle_size d s) (limit - angle_size d s) limit
          (is-neg (pos (angle_size d s)) (angle_size d s) 0 (is-nat (angle_size d s))) (omega arith)
      go false = omega arith

  pub angle-high : angle_size d s ≤ limit → shifted limit (minus s) (angle_size d s) ≤ 2 * limit
  angle-high h = go (minus s)
    where
      go : (b : Bool) → shifted limit b (angle_size d s) ≤ 2 * limit
      go true = omega arith
      go false = omega arith

abbrev or_none : Option Angle → ℕ → ℕ
or_none None i = 0
or_none (Some x) i = get_or (x.degrees ∷ x.minutes ∷ x.seconds ∷ x.hundredths ∷ []) i 0

-- ---- an angle as it is read: a sign, the degrees, the minutes, the seconds, the dot and the hundredths
module _ (d : ℕ) (p : List ℕ) where
  pub laid_parts : angle_laid d p
      ≡ is_sign (get_or p 0 0) && ((all is_digit (part 1 d p) && all is_digit (part (d + 1) 2 p)) && all is_digit (part (d + 3) 2 p))
      && eqb (get_or p (d + 5) 0) 46 && all is_digit (part (d + 6) 2 p)
  unfolding angle_laid
  laid_parts = rw (all-groups is_digit d p)

  module _ (a : Angle) (e : parts_of d p ≡ Some a) where
    pub parts_laid : angle_laid d p ≡ true
    parts_laid = go (angle_laid d p) refl e
      where
        go : (t : Bool) → angle_laid d p ≡ t
            → (if t then Some (record { degrees = degrees d p; minutes = minutes d p; seconds = seconds d p; hundredths = hundredths d p }) else None)
            ≡ Some a → angle_laid d p ≡ true
        go true t k = t
        go false t k = let x : ◌≡◌ {A = ℕ} 0 1 = cc in absurd (omega arith)

    pub parts_are : (a.degrees ≡ degrees d p) × (a.minutes ≡ minutes d p) × (a.seconds ≡ seconds d p) × (a.hundredths ≡ hundredths d p)
    parts_are =
        let k = rw parts_laid at e in
        (sym (ap (λ o. or_none o 0) k), sym (ap (λ o. or_none o 1) k), sym (ap (λ o. or_none o 2) k), sym (ap (λ o. or_none o 3) k))

    pub parts_size : a.degrees * 360000 + a.minutes * 6000 + a.seconds * 100 + a.hundredths ≡ angle_size d p
    unfolding angle_size
    parts_size = let k = parts_are in rw (k.0, k.1, k.2, k.3)

    -- past the kind of its bytes the value decides
    pub parts_checked : (o limit : ℕ) (v : Bool) →
        let size = a.degrees * 360000 + a.minutes * 6000 + a.seconds * 100 + a.hundredths in
        v ≡ (ltb a.minutes 60 && ltb a.seconds 60 && leb size limit && not (minus p && eqb size 0))
        → checked (angle_laid d p) (angle_valid d limit p) o (angle_held d limit p) ≡ checked true v o (shifted limit (minus p) size)
    unfolding angle_valid
    parts_checked o limit v ev = let k = parts_are in rw (ev, parts_laid, parts_size, k.1, k.2)

  -- ---- where one of the tests fails
  none_laid : (is_sign (get_or p 0 0) && ((all is_digit (part 1 d p) && all is_digit (part (d + 1) 2 p)) && all is_digit (part (d + 3) 2 p))
      && eqb (get_or p (d + 5) 0) 46 && all is_digit (part (d + 6) 2 p)) ≡ false → parts_of d p ≡ None
  none_laid e = rw (laid_parts ∙ e)

  pub no_sign : is_sign (get_or p 0 0) ≡ false → parts_of d p ≡ None
  no_sign e = none_laid (rw e)

  pub no_dot : (get_or p (d + 5) 0 ≡ 46 → ⊥) → parts_of d p ≡ None
  no_dot e = none_laid (rw (ne_eqb (get_or p (d + 5) 0) 46 e) (go (is_sign (get_or p 0 0)) ((all is_digit (part 1 d p) && all is_digit
      (part (d + 1) 2 p)) && all is_digit (part (d + 3) 2 p))))
    where
      go : (x y : Bool) → (x && y && false && all is_digit (part (d + 6) 2 p)) ≡ false
      go true true = refl
      go true false = refl
      go false y = refl

  no_run : (s : List ℕ) → digits_run s ≡ None → all is_digit s ≡ false
  no_run s e = go (all is_digit s) e
    where
      go : (t : Bool) → (if t then Some (number s) else None) ≡ None → t ≡ false
      go true k = let x : ◌≡◌ {A = ℕ} 0 1 = cc in absurd (omega arith)
      go false k = refl

  pub no_degrees : digits_run (part 1 d p) ≡ None → parts_of d p ≡ None
  no_degrees e = none_laid (rw (no_run (part 1 d p) e) (go (is_sign (get_or p 0 0))))
    where
      go : (x : Bool) → (x && false && eqb (get_or p (d + 5) 0) 46 && all is_digit (part (d + 6) 2 p)) ≡ false
      go true = refl
      go false = refl

  pub no_minutes : digits_run (part (d + 1) 2 p) ≡ None → parts_of d p ≡ None
  no_minutes e = none_laid (rw (no_run (part (d + 1) 2 p) e) (go (is_sign (get_or p 0 0)) (all is_digit (part 1 d p))))
    where
      go : (x y : Bool) → (x && ((y && false) && all is_digit (part (d + 3) 2 p)) && eqb (get_or p (d + 5) 0) 46 && all is_digit (part (d + 6) 2 p)) ≡ false
      go true true = refl
      go true false = refl
      go false y = refl

  pub no_seconds : digits_run (part (d + 3) 2 p) ≡ None → parts_of d p ≡ None
  no_seconds e =
      none_laid (rw (no_run (part (d + 3) 2 p) e) (go (is_sign (get_or p 0 0)) (all is_digit (part 1 d p) && all is_digit (part (d + 1) 2 p))))
    where
      go : (x y : Bool) → (x && (y && false) && eqb (get_or p (d + 5) 0) 46 && all is_digit (part (d + 6) 2 p)) ≡ false
      go true true = refl
      go true false = refl
      go false y = refl

  pub no_hundredths : digits_run (part (d + 6) 2 p) ≡ None → parts_of d p ≡ None
  no_hundredths e =
      none_laid
      (rw (no_run (part (d + 6) 2 p) e)
      (go (is_sign (get_or p 0 0)) ((all is_digit (part 1 d p) && all is_digit (part (d + 1) 2 p)) && all is_digit (part (d + 3) 2 p))
      (eqb (get_or p (d + 5) 0) 46)))
    where
      go : (x y z : Bool) → (x && y && z && false) ≡ false
      go true true true = refl
      go true true false = refl
      go true false z = refl
      go false y z = refl

  -- where all are passed
  some_run : (s : List ℕ) (v : ℕ) → digits_run s ≡ Some v → (all is_digit s ≡ true) × (v ≡ number s)
  some_run s v e = go (all is_digit s) e
    where
      go : (t : Bool) → (if t then Some (number s) else None) ≡ Some v → (t ≡ true) × (v ≡ number s)
      go true k = (refl, cc)
      go false k = let x : ◌≡◌ {A = ℕ} 0 1 = cc in absurd (omega arith)

  pub all_parts : {x y z h : ℕ} → is_sign (get_or p 0 0) ≡ true → get_or p (d + 5) 0 ≡ 46 → digits_run (part 1 d p) ≡ Some x
      → digits_run (part (d + 1) 2 p) ≡ Some y → digits_run (part (d + 3) 2 p) ≡ Some z → digits_run (part (d + 6) 2 p) ≡ Some h
      → parts_of d p ≡ Some (record { degrees = x; minutes = y; seconds = z; hundredths = h })
  unfolding degrees minutes seconds hundredths
  all_parts {x} {y} {z} {h} s o ex ey ez eh =
      let rx = some_run (part 1 d p) x ex in
      let ry = some_run (part (d + 1) 2 p) y ey in
      let rz = some_run (part (d + 3) 2 p) z ez in
      let rh = some_run (part (d + 6) 2 p) h eh in
      let laid : angle_laid d p ≡ true = rw (laid_parts, s, eq-eqb (get_or p (d + 5) 0) 46 o, rx.0, ry.0, rz.0, rh.0) in
      rw (laid, rx.1, ry.1, rz.1, rh.1)

pub ruleset laid = (no_sign, no_dot, no_degrees, no_minutes, no_seconds, no_hundredths, all_parts)

-- ---- the two angles of a card whose subfields are right
module _ (fill : Fill) (s : List ℕ) (w : walk fill layout s ≡ Ok tt) where
  lso-size : angle_size 3 (bytes_of LSO s) ≤ 64800000
  unfolding layout
  lso-size = (valid-tests 3 64800000 (bytes_of LSO s) (right-in fill s w 3 (omega arith)).1).2

  pso-size : angle_size 2 (bytes_of PSO s) ≤ 32400000
  unfolding layout
  pso-size = (valid-tests 2 32400000 (bytes_of PSO s) (right-in fill s w 4 (omega arith)).1).2

  pub lso-is : Is (angle_of 3 (bytes_of LSO s)) (angle_held 3 64800000 (bytes_of LSO s)) 64800000
  lso-is = is-angle 3 64800000 (bytes_of LSO s) lso-size

  pub pso-is : Is (angle_of 2 (bytes_of PSO s)) (angle_held 2 32400000 (bytes_of PSO s)) 32400000
  pso-is = is-angle 2 32400000 (bytes_of PSO s) pso-size

  pub lso-high : angle_held 3 64800000 (bytes_of LSO s) ≤ 2 * 64800000
  lso-high = angle-high 3 64800000 (bytes_of LSO s) lso-size

  pub pso-high : angle_held 2 32400000 (bytes_of PSO s) ≤ 2 * 32400000
  pso-high = angle-high 2 32400000 (bytes_of PSO s) pso-size
