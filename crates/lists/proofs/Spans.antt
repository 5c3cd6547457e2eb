-- An engine's spans give the plain rule's pixel in its pair for positions on the chart. Assumes nothing.
use mathlib.Core.Path.{◌≡◌, refl, sym, ap, ap₂, ◌∙◌, subst⁻¹}
use mathlib.Core.Bool.{Bool, true, false}
use Prim.Native.Nat.{ℕ, ◌+◌, ◌-◌, ◌*◌, ◌/◌, ◌%◌, ◌≤◌, ◌<◌}
use native.Mathlib.Nat.{mul-add, mul_comm, mul_left_comm, mul-le-mul_left, mod-lt, mod-eq_of_lt, mod-add-mod}
use native.Mathlib.Nat.{add-mul-mod_self_right, div-add-mod', div-mul-le_self}
use native.Mathlib.Omega.{arith}
use Rattle.std.proofs.Math.Nat.{min-le_left, min-le_right, min-eq_left, min-eq_right}
use Rattle.std.specs.Prelude.{min}
use borrow.Author.Tests.{ltb-true, ltb-false, le-leb}
use lib.Dec.{ltb}
use lib.IntN.{pos, ◌-ℤ◌}
use Rattle.whole.proofs.Signed.{is-equal, is-nat, is-difference}
use Rattle.arc.specs.Zones.{circle, half, quarter}
use Rattle.card_text.specs.declared.Fields.{Fields}
use Rattle.card.specs.Grid.{in_chart, at_pixel, row_of, column_of, pixel_at}
use Rattle.card.specs.Steps.{inward}
use Rattle.card_text.proofs.Laid.{Laid}
use Rattle.card.proofs.Regions.{chart-tiles}
use Rattle.card.proofs.Axes.{down-high, east-high, row_fits, row_at, column-at}
use Rattle.lists.specs.declared.engine.Engine.TheInside.{Inside}
use Rattle.lists.specs.declared.axis.Span.{Span}
use Rattle.lists.specs.Axes.{fine, up_of}
use Rattle.lists.specs.Steps.{Made}
use Rattle.lists.specs.Bounds.{Bounds}
use Rattle.lists.proofs.Bounds.{known_bounds}
use Rattle.lists.proofs.Counting.{Counts, counts}
use Rattle.lists.proofs.Engines.{shift_is, shift-high, by-unit, laid, down_is, across-is}

-- ---- the lesser of two numbers
min-cases : (x y : ℕ) (P : ℕ → Type 0) → P x → (y ≤ x → P y) → P (min x y)
min-cases x y P f g = go (ltb x y) refl
  where
    go : (t : Bool) → ltb x y ≡ t → P (min x y)
    go true e = let h = ltb-true x y e in subst⁻¹ P (min-eq_left (omega arith)) f
    go false e = let h = ltb-false x y e in subst⁻¹ P (min-eq_right h) (g h)

-- ---- the chart's first latitude, no farther north than the pole
module _ (c : Fields) (g : Bounds c) (up : ℕ) (h : up ≤ 126562) where
  abbrev from : ℕ
  from = 253125 * (c.north - c.nul) + up

  abbrev unit : ℕ
  unit = c.b / 512

  unit-some : 0 < unit
  unit-some = omega (arith, g.rows.some, g.rows.whole)

  pub first_part : unit * min (from / unit) half ≤ from
  first_part = omega (arith, mul-le-mul_left unit (min-le_left (from / unit) half), div-mul-le_self from unit, mul_comm unit (from / unit))

  -- what it has is less than a pixel
  pub first_rest : from - unit * min (from / unit) half < 253125
  first_rest =
      min-cases (from / unit) half (λ (n : ℕ). from - unit * n < 253125)
      (omega (arith, mod-lt from unit-some, div-add-mod' from unit, mul_comm unit (from / unit), g.rows.most))
      (λ y. omega (arith, g.north, g.rows.whole))

module _ (e : Inside) (made : Made e) where
  abbrev k : Fields
  k = e.card

  l : Laid e.card
  l = laid e made

  b : Bounds e.card
  b = known_bounds e.card made.known

  -- ---- the rows
  abbrev u : ℕ
  u = k.b / 512

  abbrev F : ℕ
  F = 253125 * (k.north - k.nul) + up_of e.pair

  rows-some : 0 < u
  rows-some = omega (arith, l.rows.some, l.rows.whole)

  chart-north : k.nul < k.north
  chart-north = omega (arith, l.top-down, l.bottom, down-high k l)

  abbrev top : ℕ
  top = min (F / u) half

  top-is : e.down.first ≡ top
  top-is = ap (λ (x : Span). x.first) (down_is e made)

  pub top-low : e.down.first ≤ 64800000
  top-low = rw top-is (min-le_right (F / u) half)

  rest-is : u * top + (F - u * top) ≡ F
  rest-is = omega (arith, first_part k b (up_of e.pair) (omega arith))

  rest-low : F - u * top < 253125
  rest-low = first_rest k b (up_of e.pair) (omega arith)

  rows : Counts u (F - u * top) k.nul (k.nll + 1 - k.nul) e.down
  rows =
      counts u top (F - u * top) k.nul (k.nll + 1 - k.nul) rows-some (omega (arith, l.rows.most)) rest-low (omega (arith, l.top-down))
      (omega (arith, l.top-down, l.bottom, l.down-most)) e.down (down_is e made)

  -- a latitude n hundredths from the South Pole, on the chart
  module _ (n : ℕ) (h : n ≤ 64800000) (le : n ≤ e.down.first) (on : e.down.first - n ≤ e.down.most) where
    abbrev d : ℕ
    d = e.down.first - n

    abbrev r : ℕ
    r = k.nul + (F - u * top + u * d) / 253125

    pub row-fits-63 : (e.down.first - n) * e.down.rate + e.down.start < 9223372036854775808
    row-fits-63 = rows.fits d (omega (arith, top-low)) on

    row_low : r ≤ k.nll
    row_low = omega (arith, rows.within d on, l.top-down)

    row_count : ((e.down.first - n) * e.down.rate + e.down.start) / fine ≡ r
    row_count = rows.counted d (omega (arith, top-low))

    row-found : row_of e.pair e.card (pos n -ℤ pos 32400000) ≡ pos r
    row-found =
        let sum : u * top ≡ u * n + u * d = ap (λ (m : ℕ). u * m) (omega (arith, top-is)) ∙ mul-add u n d in
        is-equal (row_of e.pair k (pos n -ℤ pos quarter)) (pos r) _ _ r 0
        (row_at k l e.pair (pos n -ℤ pos quarter) n (is-difference n quarter) h) (is-nat r)
        (omega (
          arith,
          row_fits k l n h,
          by-unit k.b l.rows n,
          shift_is e.pair,
          shift-high e.pair,
          rest-is,
          chart-north,
        ))

  -- ---- the columns
  abbrev v : ℕ
  v = k.a / 512

  abbrev G : ℕ
  G = 253125 * (2 * k.a - (k.east + k.nls)) + up_of e.pair

  columns-some : 0 < v
  columns-some = omega (arith, l.columns.some, l.columns.whole)

  pub left-low : e.across.first < 129600000
  left-low = rw (across-is e made) (mod-lt (G / v) {m = circle} (omega arith))

  columns : Counts v (G % v) k.nls (k.nus + 1 - k.nls) e.across
  columns =
      counts v (G / v % circle) (G % v) k.nls (k.nus + 1 - k.nls) columns-some (omega (arith, l.columns.most))
      (omega (arith, mod-lt G columns-some, l.columns.most)) (omega (arith, l.left-right))
      (omega (arith, l.left-right, l.right, l.across-most)) e.across (across-is e made)

  -- a longitude n hundredths from 180° west, on the chart
  module _ (n : ℕ) (on : (n + e.across.first) % circle ≤ e.across.most) where
    abbrev i : ℕ
    i = (n + e.across.first) % circle

    abbrev c : ℕ
    c = k.nls + (G % v + v * i) / 253125

    i-low : i < 129600000
    i-low = mod-lt (n + e.across.first) {m = circle} (omega arith)

    pub column-fits-63 : (n + e.across.first) % circle * e.across.rate + e.across.start < 9223372036854775808
    column-fits-63 = columns.fits i i-low on

    column-low : c ≤ k.nus
    column-low = omega (arith, columns.within i on, l.left-right)

    column-count : ((n + e.across.first) % circle * e.across.rate + e.across.start) / fine ≡ c
    column-count = columns.counted i i-low

    column-found : column_of e.pair e.card (pos n -ℤ pos 64800000) ≡ pos c
    column-found =
        let a : ℕ = k.a in
        let w : ℕ = n + G / v in
        let j : ℕ = w / circle in
        let first : e.across.first ≡ G / v % circle = ap (λ (x : Span). x.first) (across-is e made) in
        let same : i ≡ w % circle =
        ap (λ (m : ℕ). m % circle) (omega (arith, first)) ∙ mod-add-mod (G / v) circle n ∙ ap (λ (m : ℕ). m % circle) (omega arith) in
        let split : v * w ≡ v * i + j * a * 253125 =
        ap (λ (m : ℕ). v * m) (sym (div-add-mod' w circle) ∙ ap (λ (m : ℕ). j * circle + m) (sym same)) ∙ mul-add v (j * circle) i
        ∙ omega (arith, mul_left_comm v j circle, l.columns.whole, by-unit a l.columns j, mul_comm v j) in
        let m : ℕ = (n * a + (half - inward e.pair)) / circle + (a - k.east) in
        let turn : m + 1 * a ≡ c + j * a =
        omega (
          arith,
          by-unit a l.columns n,
          shift_is e.pair,
          shift-high e.pair,
          mul-add v n (G / v),
          mul_comm v (G / v),
          div-add-mod' G v,
          split,
          east-high k l,
          l.across,
          l.left-right,
          l.right,
        ) in
        column-at k l e.pair (pos n -ℤ pos half) n (is-difference n half)
        ∙ ap pos
        (sym (add-mul-mod_self_right m 1 a) ∙ ap (λ (x : ℕ). x % a) turn ∙ add-mul-mod_self_right c j a
        ∙ mod-eq_of_lt (omega (arith, column-low, l.right, l.across)))

  -- ---- a position on the chart
  module _ (n m : ℕ) (h : n ≤ 64800000) (le : n ≤ e.down.first) (on-d : e.down.first - n ≤ e.down.most)
      (on-i : (m + e.across.first) % circle ≤ e.across.most) where
    pub held-pixel : at_pixel (pos (((e.down.first - n) * e.down.rate + e.down.start) / fine))
        (pos (((m + e.across.first) % circle * e.across.rate + e.across.start) / fine))
        ≡ pixel_at e.card (row_of e.pair e.card (pos n -ℤ pos 32400000)) (column_of e.pair e.card (pos m -ℤ pos 64800000))
    held-pixel =
        let y : ℕ = r n h le on-d in
        let x : ℕ = c m on-i in
        let chart : in_chart k (pos y) (pos x) ≡ true =
        rw (
          le-leb k.nul y (omega arith),
          le-leb y k.nll (row_low n h le on-d),
          le-leb k.nls x (omega arith),
          le-leb x k.nus (column-low m on-i),
        ) in
        rw (row-found n h le on-d, column-found m on-i, chart-tiles k (pos y) (pos x) l chart, chart)
        (ap₂ at_pixel (ap pos (row_count n h le on-d)) (ap pos (column-count m on-i)))
