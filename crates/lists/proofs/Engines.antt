-- An engine's axes give the plain rule's angles in its pair, for every row and column of its card's tiles. Assumes nothing.
use mathlib.Core.Path.{◌≡◌, sym, ap, ap₂, ◌∙◌}
use mathlib.Core.Bool.{Bool, true, false}
use Prim.Native.Nat.{ℕ, ◌+◌, ◌-◌, ◌*◌, ◌/◌, ◌%◌, ◌≤◌, ◌<◌}
use native.Mathlib.Nat.{mul-le-mul, mul-le-mul_right, lt_of_mul-lt-mul_right, mod-lt, mul-add-div_right, div-add-mod', div-mul-le_self}
use native.Mathlib.Omega.{arith}
use Rattle.whole.specs.Whole.{near}
use Rattle.whole.proofs.Near.{near-low}
use Rattle.arc.specs.Zones.{circle}
use Rattle.arc.specs.Pixels.{Grid}
use Rattle.card_text.specs.declared.Fields.{Fields}
use Rattle.card.specs.declared.Pair.{Pair}
use Rattle.card.specs.Steps.{inward}
use Rattle.card_text.proofs.Laid.{Laid, known-laid}
use Rattle.card.proofs.Pairs.{inward-high}
use Rattle.card.proofs.Axes.{north-high, down-high, east-high}
use Rattle.lists.specs.declared.axis.Axis.{Axis}
use Rattle.lists.specs.declared.engine.Engine.TheInside.{Inside}
use Rattle.lists.specs.Axes.{scale_up, coarse, start_of, shift_of, row_axis, column_axis, down_span, across_span}
use Rattle.lists.specs.Steps.{engine_of, Made}
use Rattle.lists.proofs.Fixed.{scale-high, fixed}
use Rattle.lists.proofs.Units.{angle-unit, quotient-under, quotient-down}

-- ---- a pair's shift
pub shift_is : (p : Pair) → inward p ≡ 256 * shift_of p
shift_is Pair.Corner = omega arith
shift_is Pair.Centre = omega arith

pub shift-high : (p : Pair) → shift_of p ≤ 253125
shift-high Pair.Corner = omega arith
shift-high Pair.Centre = omega arith

pub shift_low : (p : Pair) {n : ℕ} → n ≡ inward p → n / 256 ≤ 253125
shift_low p h = rw h (shift-high p)

-- ---- what a rounding starts from is below one
pub start-low : (rest d : ℕ) (off : Bool) → rest < d → start_of rest d off < d
start-low rest d true h = omega arith
start-low rest d false h = h

-- ---- a spacing of 512 u, in u
module _ (x : ℕ) (g : Grid x) where
  pub some : 0 < 2 * (x / 512)
  some = omega (arith, g.some, g.whole)

  pub most : 2 * (x / 512) ≤ 312800
  most = omega (arith, g.most, g.whole)

  -- what the rounding starts from is below d
  pub start-high : (v : ℕ) (off : Bool) → start_of (v % (2 * (x / 512))) (2 * (x / 512)) off < 2 * (x / 512)
  start-high v off = start-low (v % (2 * (x / 512))) (2 * (x / 512)) off (mod-lt v some)

  -- the error over a card's pixels stays below 1 / d of a hundredth
  pub close : (i : ℕ) → i < 127872 → (i + 1) * (2 * (x / 512)) ≤ 68719476736
  close i h = let m : (i + 1) * (2 * (x / 512)) ≤ 127872 * 312800 = mul-le-mul {n₂ = 127872} (omega arith) most in omega arith

  pub by-unit : (p : ℕ) → p * x ≡ 512 * (x / 512 * p)
  by-unit p = ap (λ (y : ℕ). p * y) g.whole ∙ omega arith

  -- a product of the engine fits 63 bits
  pub reach : (i : ℕ) → i ≤ x → i * scale_up coarse 506250 (2 * (x / 512)) < 9223372036854775808
  reach i h =
      let n : ℕ = 2 * (x / 512) in
      let rate : ℕ = scale_up coarse 506250 n in
      let p : i * rate ≤ 256 * n * rate = mul-le-mul_right rate (omega (arith, g.whole)) in
      let r : rate * n < 506250 * 68719476736 + n = scale-high coarse n some 506250 in
      omega (arith, most)

  -- less than a whole hundredth, in 2^36ths of it
  pub part_low : (R : ℕ) → R < 2 * (x / 512) → scale_up coarse R (2 * (x / 512)) < 68719476736
  part_low R h =
      let n : ℕ = 2 * (x / 512) in
      let start : ℕ = scale_up coarse R n in
      let s : start * n < R * 68719476736 + n = scale-high coarse n some R in
      lt_of_mul-lt-mul_right n (omega (arith, most))

-- ---- an engine's answers
module _ (e : Inside) (made : Made e) where
  abbrev k : Fields
  k = e.card

  abbrev s : ℕ
  s = shift_of e.pair

  pub laid : Laid e.card
  laid = known-laid k made.known

  rows_are : e.rows ≡ row_axis e.pair k
  unfolding engine_of
  rows_are = ap (λ (x : Inside). x.rows) made.same

  columns-are : e.columns ≡ column_axis e.pair k
  unfolding engine_of
  columns-are = ap (λ (x : Inside). x.columns) made.same

  pub down_is : e.down ≡ down_span e.pair e.card
  unfolding engine_of
  down_is = ap (λ (x : Inside). x.down) made.same

  pub across-is : e.across ≡ across_span e.pair e.card
  unfolding engine_of
  across-is = ap (λ (x : Inside). x.across) made.same

  -- ---- the latitude of a row, from the South Pole
  module _ (r : ℕ) (h : r < 128 * e.card.nfl) where
    abbrev u : ℕ
    u = k.b / 512

    abbrev n : ℕ
    n = 2 * u

    abbrev top : ℕ
    top = 506250 * k.north - s + u

    le : r < k.north
    le = omega (arith, down-high k laid)

    abbrev row_part : ℕ
    row_part = scale_up coarse (n - 1 - top % n) n

    abbrev row_rate : ℕ
    row_rate = scale_up coarse 506250 n

    row-part : row_part < 68719476736
    row-part = part_low k.b laid.rows (n - 1 - top % n) (omega (arith, some k.b laid.rows))

    row-rate : e.rows.rate ≡ row_rate
    row-rate = ap (λ (x : Axis). x.rate) rows_are

    row_from : e.rows.from ≡ top / n * 68719476736 + (68719476735 - row_part)
    row_from = ap (λ (x : Axis). x.from) rows_are

    steps : (r * row_rate + row_part) / 68719476736 ≡ (n - 1 - top % n + 506250 * r) / n
    steps = fixed coarse n (some k.b laid.rows) 506250 (n - 1 - top % n) r (close k.b laid.rows r (omega (arith, laid.down-most)))

    under : (r * row_rate + row_part) / 68719476736 ≤ top / n
    under = rw steps (quotient-under n (some k.b laid.rows) top (506250 * r) (omega (arith, le, shift-high e.pair)))

    pub row-fits-64 : r * e.rows.rate < 18446744073709551616
    row-fits-64 = rw row-rate (let t = reach k.b laid.rows r (omega (arith, le, north-high k laid)) in omega arith)

    pub row_under : r * e.rows.rate ≤ e.rows.from
    row_under = rw (row-rate, row_from) (omega (arith, under, row-part))

    pub row-from-high : e.rows.from < 4453022161212276736
    row-from-high =
        let high : top / n < 64800001 =
        lt_of_mul-lt-mul_right n (omega (arith, div-mul-le_self top n, some k.b laid.rows, north-high k laid, laid.rows.whole)) in
        rw row_from (omega (arith, high, row-part))

    pub row-angle : (e.rows.from - r * e.rows.rate) / 68719476736 ≡ near ((e.card.north - r) * circle - inward e.pair) e.card.b
    row-angle =
        let split : (top / n * 68719476736 + (68719476735 - row_part) - r * row_rate) / 68719476736 ≡ top / n - (r * row_rate + row_part) / 68719476736 =
        omega (arith, under, row-part) in
        ap₂ (λ (x y : ℕ). (x - r * y) / 68719476736) row_from row-rate
        ∙ split
        ∙ ap (λ (q : ℕ). top / n - q) steps
        ∙ quotient-down n (some k.b laid.rows) top (506250 * r) (omega (arith, le, shift-high e.pair))
        ∙ ap (λ (y : ℕ). y / n) (omega (arith, le, shift-high e.pair))
        ∙ sym (angle-unit u (506250 * (k.north - r) - s))
        ∙ ap₂ near (omega (arith, shift_is e.pair)) (sym laid.rows.whole)

  -- ---- the longitude of a column, from 180° west, before the circle is taken off
  module _ (c : ℕ) (h : c < 128 * e.card.nfc) where
    abbrev v : ℕ
    v = k.a / 512

    abbrev m : ℕ
    m = 2 * v

    abbrev left : ℕ
    left = 506250 * k.east + s + v

    abbrev column_part : ℕ
    column_part = scale_up coarse (left % m) m

    abbrev column_rate : ℕ
    column_rate = scale_up coarse 506250 m

    column-rate : e.columns.rate ≡ column_rate
    column-rate = ap (λ (x : Axis). x.rate) columns-are

    column-from : e.columns.from ≡ left / m * 68719476736 + column_part
    column-from = ap (λ (x : Axis). x.from) columns-are

    pub column-more-fits : c * e.columns.rate < 9223372036854775808
    column-more-fits = rw column-rate (reach k.a laid.columns c (omega (arith, laid.across)))

    pub column-from-high : e.columns.from < 8933531975680000000
    column-from-high =
        let high : left / m < 130000000 =
        lt_of_mul-lt-mul_right m
        (omega (arith, div-mul-le_self left m, some k.a laid.columns, east-high k laid, shift-high e.pair, laid.columns.whole)) in
        rw column-from (omega (arith, high, part_low k.a laid.columns (left % m) (mod-lt left (some k.a laid.columns))))

    pub column-angle : (e.columns.from + c * e.columns.rate) / 68719476736
        ≡ near ((e.card.east + c) * circle + inward e.pair) e.card.a
    column-angle =
        let split : (left / m * 68719476736 + column_part + c * column_rate) / 68719476736 ≡ left / m + (c * column_rate + column_part) / 68719476736 =
        omega arith in
        ap₂ (λ (x y : ℕ). (x + c * y) / 68719476736) column-from column-rate
        ∙ split
        ∙ ap (λ (q : ℕ). left / m + q)
        (fixed coarse m (some k.a laid.columns) 506250 (left % m) c (close k.a laid.columns c (omega (arith, laid.across-most))))
        ∙ sym (mul-add-div_right (some k.a laid.columns) (left / m) (left % m + 506250 * c))
        ∙ ap (λ (y : ℕ). y / m) (omega (arith, div-add-mod' left m))
        ∙ sym (angle-unit v (506250 * (k.east + c) + s))
        ∙ ap₂ near (omega (arith, shift_is e.pair)) (sym laid.columns.whole)

    -- below two circles
    pub column-below : near ((e.card.east + c) * circle + inward e.pair) e.card.a < 2 * circle
    column-below =
        let x : ℕ = near ((k.east + c) * circle + inward e.pair) k.a in
        lt_of_mul-lt-mul_right k.a
        (omega (
          arith,
          near-low k.a (omega (arith, laid.columns.some)) ((k.east + c) * circle + inward e.pair),
          inward-high e.pair,
          east-high k laid,
          laid.across,
          laid.columns.most,
          laid.columns.some,
        ))
