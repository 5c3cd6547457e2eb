-- The edges of a pixel, and the position between them: the pixel found lies so, since a floor is at most its value and less than one below it, and no
-- other row and no other column does. Assumes nothing.
use mathlib.Core.Path.{◌≡◌, sym, ap, ◌∙◌}
use Prim.Native.Nat.{ℕ, ◌+◌, ◌-◌, ◌*◌, ◌/◌, ◌%◌, ◌≤◌, ◌<◌}
use native.Mathlib.Nat.{add-mul, mul_right_comm, mod-eq_of_lt, add-mul-mod_self_right, div-add-mod'}
use native.Mathlib.Omega.{arith}
use lib.IntN.{ℤ, pos, sub_ℕ, ◌+ℤ◌, ◌*ℤ◌}
use lib.Signed.{◌≤ℤ◌, ◌<ℤ◌}
use Rattle.whole.proofs.Signed.{Is, over, under, is-parts, is-equal, is-nat, is-sub, is-add, is-minus, is_mul, is_le, is_lt, le_is, lt-is}
use Rattle.arc.specs.Zones.{circle, half, quarter}
use Rattle.origin.proofs.Line.{scaled-is}
use Rattle.card_text.specs.declared.Fields.{Fields}
use Rattle.card.specs.declared.Pair.{Pair}
use Rattle.card.specs.Grid.{grid_column, row_of, column_of, place_row}
use Rattle.card.specs.Contained.{north_edge, west_edge}
use Rattle.card_text.proofs.Laid.{Laid}
use Rattle.card.proofs.Line.{rows-line, columns-line}
use Rattle.card.proofs.Axes.{north-is, east-high, row_fits, row_at, column-is, column-at}

module _ (k : Fields) (l : Laid k) where
  -- ---- rows: the edge of row r, and a latitude n hundredths from the South Pole
  north-edge : (r : ℤ) (y t : ℕ) → Is r y t → Is (north_edge k r) ((k.north + t) * circle) ((128 * (k.b / 512) + y) * circle)
  north-edge r y t e =
      is_mul (place_row k r) circle (k.north + t) (128 * (k.b / 512) + y)
      (is-minus (pos 128 *ℤ k.n) r k.north (128 * (k.b / 512)) y t (north-is k l) e)

  south-edge : (r : ℤ) (y t : ℕ) → Is r y t → Is (north_edge k (r +ℤ pos 1)) ((k.north + (t + 0)) * circle) ((128 * (k.b / 512) + (y + 1)) * circle)
  south-edge r y t e = north-edge (r +ℤ pos 1) (y + 1) (t + 0) (is-add r (pos 1) y t 1 0 e (is-nat 1))

  module _ (lat : ℤ) (n : ℕ) (e : Is lat n quarter) (h : n ≤ 64800000) where
    angle : Is (lat *ℤ pos k.b) (n * k.b) (128 * (k.b / 512) * circle)
    angle = scaled-is (rows-line k.b l.rows) lat n e

    found-row : Is (row_of Pair.Centre k lat) (((k.north + k.b / 2) * circle - n * k.b + 0) / circle) (k.b / 2)
    found-row = row_at k l Pair.Centre lat n e h

    pub north : (lat *ℤ pos k.b) ≤ℤ north_edge k (row_of Pair.Centre k lat)
    north = is_le _ _ _ _ _ _ angle (north-edge (row_of Pair.Centre k lat) _ _ found-row) (omega (arith, row_fits k l n h))

    pub south : north_edge k (row_of Pair.Centre k lat +ℤ pos 1) <ℤ (lat *ℤ pos k.b)
    south = is_lt _ _ _ _ _ _ (south-edge (row_of Pair.Centre k lat) _ _ found-row) angle (omega (arith, row_fits k l n h))

    -- no other row does
    pub one-row : (r : ℤ) → (lat *ℤ pos k.b) ≤ℤ north_edge k r → north_edge k (r +ℤ pos 1) <ℤ (lat *ℤ pos k.b) → r ≡ row_of Pair.Centre k lat
    one-row r x y =
        let o : ℕ = over r in
        let u : ℕ = under r in
        is-equal r (row_of Pair.Centre k lat) o u (((k.north + k.b / 2) * circle - n * k.b + 0) / circle) (k.b / 2) (is-parts r) found-row
        (omega (
          arith,
          row_fits k l n h,
          le_is _ _ _ _ _ _ angle (north-edge r o u (is-parts r)) x,
          lt-is _ _ _ _ _ _ (south-edge r o u (is-parts r)) angle y,
        ))

  -- ---- columns: the edge of column c, and a longitude n hundredths from 180° west and some circles on
  west-edge : (c : ℕ) → Is (west_edge k (pos c)) ((k.east + c) * circle) (128 * (k.a / 256) * circle)
  west-edge c = is_mul (grid_column k (pos c)) circle (k.east + c) (128 * (k.a / 256)) (column-is k l c)

  module _ (lon : ℤ) (n : ℕ) (e : Is lon n half) where
    turned : (j : ℤ) (y t : ℕ) → Is j y t → Is ((lon +ℤ j *ℤ pos circle) *ℤ pos k.a) ((n + y * circle) * k.a) ((half + t * circle) * k.a)
    turned j y t i =
        is_mul (lon +ℤ j *ℤ pos circle) k.a (n + y * circle) (half + t * circle)
        (is-add lon (j *ℤ pos circle) n half (y * circle) (t * circle) e (is_mul j circle y t i))

    abbrev w : ℕ
    w = (n * k.a + 0) / circle + (k.a - k.east)

    pub found-column : column_of Pair.Centre k lon ≡ pos (w % k.a)
    found-column = column-at k l Pair.Centre lon n e

    -- the products of a longitude y less t circles on, so that omega has them
    products : (y t : ℕ)
        → ((n + y * circle) * k.a + 128 * (k.a / 256) * circle ≡ n * k.a + y * k.a * circle + half * k.a)
        × ((half + t * circle) * k.a ≡ half * k.a + t * k.a * circle)
    products y t = (
      omega (arith, add-mul n (y * circle) k.a, mul_right_comm y circle k.a, (columns-line k.a l.columns).exact),
      omega (arith, add-mul half (t * circle) k.a, mul_right_comm t circle k.a),
    )

    -- the column found, whose circles are those taken off by the modulo
    abbrev pub j : ℕ
    j = w / k.a

    pub west : west_edge k (pos (w % k.a)) ≤ℤ ((lon +ℤ sub_ℕ 1 j *ℤ pos circle) *ℤ pos k.a)
    west =
        is_le _ _ _ _ _ _ (west-edge (w % k.a)) (turned (sub_ℕ 1 j) 1 j (is-sub 1 j))
        (omega (arith, products 1 j, div-add-mod' w k.a, east-high k l))

    pub east : ((lon +ℤ sub_ℕ 1 j *ℤ pos circle) *ℤ pos k.a) <ℤ west_edge k (pos (w % k.a) +ℤ pos 1)
    east =
        is_lt _ _ _ _ _ _ (turned (sub_ℕ 1 j) 1 j (is-sub 1 j)) (west-edge (w % k.a + 1))
        (omega (arith, products 1 j, div-add-mod' w k.a, east-high k l))

    -- no other column below A does
    pub one-column : (c : ℕ) (i : ℤ) → c < k.a → west_edge k (pos c) ≤ℤ ((lon +ℤ i *ℤ pos circle) *ℤ pos k.a)
        → ((lon +ℤ i *ℤ pos circle) *ℤ pos k.a) <ℤ west_edge k (pos c +ℤ pos 1) → pos c ≡ column_of Pair.Centre k lon
    one-column c i h x y =
        let o : ℕ = over i in
        let u : ℕ = under i in
        let low = le_is _ _ _ _ _ _ (west-edge c) (turned i o u (is-parts i)) x in
        let high = lt-is _ _ _ _ _ _ (turned i o u (is-parts i)) (west-edge (c + 1)) y in
        let same : c + (u + 1) * k.a ≡ w + o * k.a = omega (arith, products o u, add-mul u 1 k.a, east-high k l) in
        ap pos
        (sym (mod-eq_of_lt h) ∙ sym (add-mul-mod_self_right c (u + 1) k.a) ∙ ap (λ (m : ℕ). m % k.a) same ∙ add-mul-mod_self_right w o k.a)
        ∙ sym found-column
