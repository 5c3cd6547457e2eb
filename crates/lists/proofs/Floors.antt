-- Angles in 2^36ths of a hundredth, as the machine holds them: their floors, and a longitude brought into range. Assumes nothing.
use mathlib.Core.Path.{◌≡◌, refl, sym, ap, ap₂, ◌∙◌}
use mathlib.Core.Bool.{true, false}
use Prim.Native.Nat.{ℕ, ◌+◌, ◌-◌, ◌*◌, ◌/◌, ◌%◌, ◌≤◌, ◌<◌, ◌^◌}
use native.Mathlib.Omega.{arith}
use borrow.Author.Tests.{ltb-true, ltb-false}
use lib.Dec.{ltb}
use lib.IntN.{ℤ, pos, negsuc, ◌+ℤ◌, ◌-ℤ◌}
use lib.Signed.{lt_z, shr_z}
use mir.Syntax.{w64}
use mir.Val.{SFits, to_z, of_z}
use mir.ValLaws.{to_z-of_z, to_z_pos}
use Rattle.whole.specs.Whole.{floor_div}
use Rattle.whole.proofs.Signed.{Is, is_same, is-equal, is-add, is-minus, is-difference, is-nat, is-unique, is-lt_z, is-floor}
use Rattle.whole.proofs.Machine.{is-fits}
use Rattle.arc.specs.Zones.{circle, half, quarter}
use Rattle.lists.specs.Axes.{coarse}

-- a shift that copies the sign is the floor
pub shift-floor : (z : ℤ) (m : ℕ) → shr_z z m ≡ floor_div z m
unfolding floor_div
shift-floor (pos n) m = refl
shift-floor (negsuc n) m = refl

-- the floor of a difference, the subtrahend whole
floor-less : (v q m : ℕ) → 0 < m → floor_div (pos v -ℤ pos (q * m)) m ≡ pos (v / m) -ℤ pos q
floor-less v q m h =
    is-unique (floor_div (pos v -ℤ pos (q * m)) m) (pos (v / m) -ℤ pos q) (v / m) q
    (is-floor (pos v -ℤ pos (q * m)) m v q h (is-difference v (q * m))) (is-difference (v / m) q)

-- ---- a latitude in parts of a hundredth, v from the South Pole
pub latitude_floor : (v : ℕ) → v < 4453022161212276736
    → floor_div (to_z w64 (of_z w64 (to_z w64 v -ℤ pos (quarter * coarse)))) coarse ≡ pos (v / coarse) -ℤ pos quarter
latitude_floor v low =
    let less : ℤ = pos v -ℤ pos (quarter * coarse) in
    let fits : SFits w64 less = is-fits less v (quarter * coarse) (is-difference v (quarter * coarse)) (omega arith) (omega arith) in
    rw (to_z_pos w64 v (omega arith), to_z-of_z w64 less fits) (floor-less v quarter coarse (omega arith))

-- ---- a longitude in parts of a hundredth, v from 180° west and p more, less a circle
module _ (v p : ℕ) (hv : v < 8933531975680000000) (hp : p < 2 ^ 63) (low : (v + p) / coarse < 2 * circle) where
  abbrev less : ℤ
  less = pos v -ℤ pos (circle * coarse)

  from-plain : to_z w64 v -ℤ pos (circle * coarse) ≡ less
  from-plain = ap (λ (z : ℤ). z -ℤ pos (circle * coarse)) (to_z_pos w64 v (omega arith))

  from_less : SFits w64 (pos v -ℤ pos (circle * coarse))
  from_less = is-fits less v (circle * coarse) (is-difference v (circle * coarse)) (omega arith) (omega arith)

  from-fits : SFits w64 (to_z w64 v -ℤ pos (circle * coarse))
  from-fits = rw from-plain from_less

  sum_is : Is (less +ℤ pos p) (v + p) (circle * coarse)
  sum_is =
      is_same (less +ℤ pos p) (v + p) (circle * coarse + 0) (v + p) (circle * coarse)
      (is-add less (pos p) v (circle * coarse) p 0 (is-difference v (circle * coarse)) (is-nat p)) (omega arith)

  sum_less : SFits w64 (less +ℤ pos p)
  sum_less =
      is-fits (less +ℤ pos p) (v + p - circle * coarse) (circle * coarse - (v + p))
      (is_same (less +ℤ pos p) (v + p) (circle * coarse) (v + p - circle * coarse) (circle * coarse - (v + p)) sum_is (omega arith)) (omega arith)
      (omega arith)

  sum-plain : to_z w64 (of_z w64 (to_z w64 v -ℤ pos (circle * coarse))) +ℤ to_z w64 p ≡ less +ℤ pos p
  sum-plain = ap₂ ◌+ℤ◌ (to_z-of_z w64 (to_z w64 v -ℤ pos (circle * coarse)) from-fits ∙ from-plain) (to_z_pos w64 p (omega arith))

  sum_fits : SFits w64 (to_z w64 (of_z w64 (to_z w64 v -ℤ pos (circle * coarse))) +ℤ to_z w64 p)
  sum_fits = rw sum-plain sum_less

  pub sum-floor : floor_div (to_z w64 (of_z w64 (to_z w64 (of_z w64 (to_z w64 v -ℤ pos (circle * coarse))) +ℤ to_z w64 p))) coarse
      ≡ pos ((v + p) / coarse) -ℤ pos circle
  sum-floor =
      ap (λ (z : ℤ). floor_div z coarse) (to_z-of_z w64 _ sum_fits ∙ sum-plain)
      ∙ is-unique (floor_div (less +ℤ pos p) coarse) (pos ((v + p) / coarse) -ℤ pos circle) ((v + p) / coarse) circle
      (is-floor (less +ℤ pos p) coarse (v + p) circle (omega arith) sum_is) (is-difference ((v + p) / coarse) circle)

-- ---- t hundredths, n less a circle, brought into range
module _ (t : ℤ) (n : ℕ) (e : t ≡ pos n -ℤ pos circle) (low : n < 2 * circle) where
  is-t : Is t n circle
  is-t = rw e (is-difference n circle)

  fits-t : SFits w64 t
  fits-t = is-fits t n circle is-t (omega arith) (omega arith)

  test-t : lt_z (to_z w64 (of_z w64 t)) (pos 0) ≡ ltb (n + 0) (0 + circle)
  test-t = rw (to_z-of_z w64 t fits-t) (is-lt_z t (pos 0) n circle 0 0 is-t (is-nat 0))

  up-plain : to_z w64 (of_z w64 t) +ℤ pos half ≡ t +ℤ pos half
  up-plain = ap (λ (z : ℤ). z +ℤ pos half) (to_z-of_z w64 t fits-t)

  is_up : Is (t +ℤ pos half) (n + half) (circle + 0)
  is_up = is-add t (pos half) n circle half 0 is-t (is-nat half)

  up_fits : SFits w64 (to_z w64 (of_z w64 t) +ℤ pos half)
  up_fits = rw up-plain (is-fits (t +ℤ pos half) (n + half) (circle + 0) is_up (omega arith) (omega arith))

  pub up-held : lt_z (to_z w64 (of_z w64 t)) (pos 0) ≡ true → to_z w64 (of_z w64 (to_z w64 (of_z w64 t) +ℤ pos half)) ≡ pos (n % circle) -ℤ pos half
  up-held h =
      let lt : n + 0 < 0 + circle = ltb-true (n + 0) (0 + circle) (sym test-t ∙ h) in
      to_z-of_z w64 _ up_fits ∙ up-plain
      ∙ is-equal (t +ℤ pos half) (pos (n % circle) -ℤ pos half) (n + half) (circle + 0) (n % circle) half is_up (is-difference (n % circle) half) (omega arith)

  down-plain : to_z w64 (of_z w64 t) -ℤ pos half ≡ t -ℤ pos half
  down-plain = ap (λ (z : ℤ). z -ℤ pos half) (to_z-of_z w64 t fits-t)

  is_down : Is (t -ℤ pos half) (n + 0) (circle + half)
  is_down = is-minus t (pos half) n circle half 0 is-t (is-nat half)

  down_fits : SFits w64 (to_z w64 (of_z w64 t) -ℤ pos half)
  down_fits = rw down-plain (is-fits (t -ℤ pos half) (n + 0) (circle + half) is_down (omega arith) (omega arith))

  pub down-held : lt_z (to_z w64 (of_z w64 t)) (pos 0) ≡ false → to_z w64 (of_z w64 (to_z w64 (of_z w64 t) -ℤ pos half)) ≡ pos (n % circle) -ℤ pos half
  down-held h =
      let le : 0 + circle ≤ n + 0 = ltb-false (n + 0) (0 + circle) (sym test-t ∙ h) in
      to_z-of_z w64 _ down_fits ∙ down-plain
      ∙ is-equal (t -ℤ pos half) (pos (n % circle) -ℤ pos half) (n + 0) (circle + half) (n % circle) half is_down (is-difference (n % circle) half)
      (omega arith)
