-- A laid card's places, positions and pixels in naturals, its rows counted from the South Pole and its columns from 180° west.
-- Each is its axis' law at the card's origin. Assumes nothing.
use mathlib.Core.Path.{◌≡◌, sym, ap, ◌∙◌, subst⁻¹}
use Prim.Native.Nat.{ℕ, ◌+◌, ◌-◌, ◌*◌, ◌/◌, ◌%◌, ◌≤◌, ◌<◌}
use native.Mathlib.Nat.{mul-le-mul_right, zero-mul, mod-lt, mod-eq_of_lt, add-mul-mod_self_right}
use native.Mathlib.Omega.{arith}
use lib.IntN.{ℤ, pos, ◌-ℤ◌, ◌*ℤ◌}
use Rattle.whole.specs.Whole.{floor_div, near, nearest, modulo}
use Rattle.whole.proofs.Signed.{Is, is-nat, is_same, is-unique, is-add, is-minus, is_mul, is-lmul, is-modulo}
use Rattle.whole.proofs.Near.{near-low, near-high, near_le, floor-modulo}
use Rattle.arc.specs.Zones.{circle, half, quarter}
use Rattle.origin.proofs.Line.{Line, angle-is, scaled-is, pixel-back}
use Rattle.card_text.specs.declared.Fields.{Fields}
use Rattle.card.specs.declared.Pair.{Pair}
use Rattle.card.specs.Grid.{place_row, grid_column, place_column, exact_row, exact_column, latitude_of, longitude_of}
use Rattle.card.specs.Grid.{row_value, column_value, row_of, column_of}
use Rattle.card.specs.Steps.{inward}
use Rattle.card_text.proofs.Laid.{Laid}
use Rattle.card.proofs.Line.{rows-line, columns-line, range-is}
use Rattle.card.proofs.Pairs.{inward-high, exact-row, exact-column, nearest-circle, floor-circle}

module _ (k : Fields) (l : Laid k) where
  rows : Line circle k.b (128 * (k.b / 512)) quarter
  rows = rows-line k.b l.rows

  columns : Line circle k.a (128 * (k.a / 256)) half
  columns = columns-line k.a l.columns

  pub north-high : 2 * k.north ≤ k.b
  north-high = omega (arith, l.north-is, l.n-high, l.rows.whole)

  pub down-high : 128 * k.nfl ≤ k.north
  down-high = omega (arith, l.north-is, l.down)

  pub east-high : k.east ≤ k.a
  east-high = omega (arith, l.east-is, l.m-high, l.columns.whole)

  -- the origin
  pub north-is : Is (pos 128 *ℤ k.n) k.north (128 * (k.b / 512))
  north-is = subst⁻¹ (λ (o : ℕ). Is (pos 128 *ℤ k.n) o (128 * (k.b / 512))) l.north-is (is-lmul k.n 128 l.N (k.b / 512) l.n-is)

  pub east-is : Is (pos 128 *ℤ k.m) k.east (128 * (k.a / 256))
  east-is = subst⁻¹ (λ (o : ℕ). Is (pos 128 *ℤ k.m) o (128 * (k.a / 256))) l.east-is (is-lmul k.m 128 l.M (k.a / 256) l.m-is)

  -- ---- pixel to place and position
  pub row_is : (r : ℕ) → r ≤ k.north → Is (place_row k (pos r)) (k.north - r) (128 * (k.b / 512))
  row_is r h =
      is_same (place_row k (pos r)) (k.north + 0) (128 * (k.b / 512) + r) (k.north - r) (128 * (k.b / 512))
      (is-minus (pos 128 *ℤ k.n) (pos r) k.north (128 * (k.b / 512)) r 0 north-is (is-nat r)) (omega arith)

  pub column-is : (c : ℕ) → Is (grid_column k (pos c)) (k.east + c) (128 * (k.a / 256))
  column-is c =
      is_same (grid_column k (pos c)) (k.east + c) (128 * (k.a / 256) + 0) (k.east + c) (128 * (k.a / 256))
      (is-add (pos 128 *ℤ k.m) (pos c) k.east (128 * (k.a / 256)) c 0 east-is (is-nat c)) (omega arith)

  pub column-place : (c : ℕ) → place_column k (pos c) ≡ pos ((k.east + c + k.a / 2) % k.a)
  column-place c =
      is-modulo (grid_column k (pos c)) k.a (k.east + c + k.a / 2) 1 columns.some
      (is_same (grid_column k (pos c)) (k.east + c) (128 * (k.a / 256)) (k.east + c + k.a / 2) (1 * k.a) (column-is c)
      (omega (arith, l.columns.whole)))

  pub latitude-is : (p : Pair) (r : ℕ) → r < k.north → Is (latitude_of p k (pos r)) (near ((k.north - r) * circle - inward p) k.b) quarter
  unfolding latitude_of
  latitude-is p r h =
      angle-is rows (exact_row p (place_row k (pos r))) ((k.north - r) * circle - inward p)
      (exact-row p (place_row k (pos r)) (k.north - r) (128 * (k.b / 512)) (omega arith) (row_is r (omega arith)))

  pub longitude-is : (p : Pair) (c : ℕ) → Is (longitude_of p k (pos c)) (near ((k.east + c) * circle + inward p) k.a % circle) half
  unfolding longitude_of
  longitude-is p c =
      range-is (nearest (exact_column p (grid_column k (pos c))) k.a) (near ((k.east + c) * circle + inward p) k.a) 0
      (angle-is columns (exact_column p (grid_column k (pos c))) ((k.east + c) * circle + inward p)
      (exact-column p (grid_column k (pos c)) (k.east + c) (128 * (k.a / 256)) (column-is c)))

  pub latitude-high : (y o : ℕ) → 2 * y ≤ k.b → near (y * circle - o) k.b ≤ 64800000
  latitude-high y o h = near_le k.b rows.some (y * circle - o) 64800000 (omega (arith, rows.some))

  -- ---- position to pixel
  row_before : (lat : ℤ) (q : ℕ) → Is lat q quarter → Is (row_value k lat) (k.north * circle) (q * k.b)
  row_before lat q h =
      let s : ℕ = 128 * (k.b / 512) * circle in
      is_same (row_value k lat) (k.north * circle + s) (s + q * k.b) (k.north * circle) (q * k.b)
      (is-minus (pos 128 *ℤ k.n *ℤ pos circle) (lat *ℤ pos k.b) (k.north * circle) s (q * k.b) s
      (is_mul (pos 128 *ℤ k.n) circle k.north (128 * (k.b / 512)) north-is) (scaled-is rows lat q h))
      (omega arith)

  -- the nearest, or the floor
  row_cut : (p : Pair) (lat : ℤ) (x t : ℕ) → Is (row_value k lat) x (t * circle) → Is (row_of p k lat) ((x + (half - inward p)) / circle) t
  unfolding row_of
  row_cut Pair.Corner lat x t e = nearest-circle (row_value k lat) x t e
  row_cut Pair.Centre lat x t e = floor-circle (row_value k lat) x t e

  -- as the code divides
  pub row_fits : (q : ℕ) → q ≤ 64800000 → q * k.b ≤ (k.north + k.b / 2) * circle
  row_fits q h = omega (arith, mul-le-mul_right k.b h, l.rows.whole)

  pub column-high : (q o : ℕ) → q ≤ circle → (q * k.a + (half - o)) / circle ≤ k.a
  column-high q o h = omega (arith, mul-le-mul_right k.a h)

  pub row_at : (p : Pair) (lat : ℤ) (q : ℕ) → Is lat q quarter → q ≤ 64800000
      → Is (row_of p k lat) (((k.north + k.b / 2) * circle - q * k.b + (half - inward p)) / circle) (k.b / 2)
  row_at p lat q h le =
      let x : ℕ = (k.north + k.b / 2) * circle - q * k.b in
      row_cut p lat x (k.b / 2)
      (is_same (row_value k lat) (k.north * circle) (q * k.b) x (k.b / 2 * circle) (row_before lat q h) (omega (arith, row_fits q le)))

  pub column-value : (lon : ℤ) (q : ℕ) → Is lon q half → column_value k lon ≡ pos ((q * k.a + (k.a - k.east) * circle) % (k.a * circle))
  column-value lon q h =
      let z : ℤ = lon *ℤ pos k.a -ℤ pos 128 *ℤ k.m *ℤ pos circle in
      let s : ℕ = 128 * (k.a / 256) * circle in
      let x : ℕ = q * k.a + (k.a - k.east) * circle in
      is-modulo z (k.a * circle) x 1 (omega (arith, columns.some))
      (is_same z (q * k.a + s) (s + k.east * circle) x (1 * (k.a * circle))
      (is-minus (lon *ℤ pos k.a) (pos 128 *ℤ k.m *ℤ pos circle) (q * k.a) s (k.east * circle) s
      (scaled-is columns lon q h) (is_mul (pos 128 *ℤ k.m) circle k.east (128 * (k.a / 256)) east-is))
      (omega (arith, east-high)))

  -- the nearest, then modulo A; or the floor, which is below A as it is
  pub column-cut : (p : Pair) (lon : ℤ) (y : ℕ) → y < k.a * circle → column_value k lon ≡ pos y
      → column_of p k lon ≡ pos ((y + (half - inward p)) / circle % k.a)
  unfolding column_of
  column-cut Pair.Corner lon y h e =
      let n : ℕ = (y + half) / circle in
      ap (λ (z : ℤ). modulo (nearest z circle) k.a) e
      ∙ is-modulo (nearest (pos y) circle) k.a n 0 columns.some
      (is_same (nearest (pos y) circle) n 0 n (0 * k.a)
      (nearest-circle (pos y) y 0 (is_same (pos y) y 0 y (0 * circle) (is-nat y) (omega arith))) (omega (arith, zero-mul k.a)))
  column-cut Pair.Centre lon y h e =
      let n : ℕ = (y + 0) / circle in
      ap (λ (z : ℤ). floor_div z circle) e
      ∙ is-unique (floor_div (pos y) circle) (pos n) n 0
      (floor-circle (pos y) y 0 (is_same (pos y) y 0 y (0 * circle) (is-nat y) (omega arith))) (is-nat n)
      ∙ ap pos (sym (mod-eq_of_lt (omega arith)))

  pub column-at : (p : Pair) (lon : ℤ) (q : ℕ) → Is lon q half
      → column_of p k lon ≡ pos (((q * k.a + (half - inward p)) / circle + (k.a - k.east)) % k.a)
  column-at p lon q h =
      let x : ℕ = q * k.a + (k.a - k.east) * circle in
      column-cut p lon (x % (k.a * circle)) (mod-lt x (omega (arith, columns.some))) (column-value lon q h)
      ∙ ap pos (floor-modulo k.a circle (half - inward p) (omega arith) x ∙ ap (λ (n : ℕ). n % k.a) (omega arith))

  -- ---- there and back: a latitude answered for y rows from the South Pole, a longitude answered for v columns from 180° west
  pub row_back : (p : Pair) (y : ℕ) (lat : ℤ) → 0 < y → Is lat (near (y * circle - inward p) k.b) quarter → Is (row_of p k lat) k.north y
  row_back p y lat some h =
      let z : ℕ = y * circle - inward p in
      let q : ℕ = near z k.b in
      let low : 2 * (q * k.b) ≤ 2 * z + k.b = near-low k.b rows.some z in
      let high : 2 * z < 2 * (q * k.b) + k.b = near-high k.b rows.some z in
      let x : ℕ = k.north * circle + ((y + 1) * circle - q * k.b) in
      is_same (row_of p k lat) ((x + (half - inward p)) / circle) (y + 1) k.north y
      (row_cut p lat x (y + 1)
      (is_same (row_value k lat) (k.north * circle) (q * k.b) x ((y + 1) * circle) (row_before lat q h) (omega (arith, l.rows.most))))
      (omega (arith, l.rows.most, inward-high p))

  pub column-back : (p : Pair) (v : ℕ) (lon : ℤ) → Is lon (near (v * circle + inward p) k.a % circle) half
      → column_of p k lon ≡ pos ((v + (k.a - k.east)) % k.a)
  column-back p v lon h =
      let z : ℕ = v * circle + inward p in
      let q : ℕ = near z k.a in
      let o : ℕ = half - inward p in
      let t : ℕ = k.a - k.east in
      column-at p lon (q % circle) h
      ∙ ap pos
      (sym (add-mul-mod_self_right ((q % circle * k.a + o) / circle + t) (q / circle) k.a)
      ∙ ap (λ (n : ℕ). n % k.a)
      (omega (
        arith,
        pixel-back k.a (inward p) o columns.some (omega (arith, l.columns.most)) (omega (arith, inward-high p)) v z (omega arith),
      )))
