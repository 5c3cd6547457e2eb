-- A pixel of an engine's chart has the position that the card answers, and a position on it the pixel. Assumes nothing.
use mathlib.Core.Path.{◌≡◌, refl, sym, ap, ap₂, ◌∙◌}
use mathlib.Core.Bool.{Bool, true, false, cond, ◌||◌}
use Prim.Native.Nat.{ℕ, ◌+◌, ◌-◌, ◌*◌, ◌/◌, ◌%◌, ◌≤◌, ◌<◌}
use native.Mathlib.Omega.{arith}
use lib.IntN.{ℤ, pos, neg_ℤ, nat_abs, ◌+ℤ◌, ◌-ℤ◌}
use lib.Dec.{T}
use lib.Signed.{lt_z, non_neg}
use mir.Syntax.{w64}
use mir.Val.{SFits, Fits, to_z, of_z}
use mir.ValLaws.{to_z-of_z}
use Rattle.std.specs.Prelude.{Some, None, Ok}
use Rattle.whole.specs.Whole.{near, outside, raise}
use Rattle.whole.proofs.Signed.{is-unique, is-difference, is-raise, is-size, equal_is, raise-high, inside-size}
use Rattle.arc.specs.Zones.{circle, half, quarter}
use Rattle.card.specs.Grid.{in_tiles, in_chart, verdict_of, at_position, at_pixel, position_of}
use Rattle.card.specs.Grid.{latitude_of, longitude_of, pixel_of, pixel_at, row_of, column_of}
use Rattle.card.specs.Steps.{inward}
use Rattle.card.proofs.Answers.{accepted-in, pair-asked, cast_fits, cast-below, cast_same}
use Rattle.card.proofs.Axes.{down-high, latitude-is, longitude-is}
use Rattle.card_text.proofs.Laid.{Laid}
use Rattle.card.proofs.Regions.{PixelInside, tiles-inside}
use Rattle.lists.specs.declared.engine.Engine.TheInside.{Inside}
use Rattle.lists.specs.Axes.{coarse, fine}
use Rattle.lists.specs.Steps.{Made}
use Rattle.lists.specs.Entries.{south_of, east_of, west_of}
use Rattle.lists.proofs.Signs.{south-inside, south-is, east-round, east-past, east-west, east-straight}
use Rattle.lists.proofs.Engines.{laid, row_under, row-from-high, row-angle, column-more-fits, column-from-high, column-angle, column-below}
use Rattle.lists.proofs.Spans.{top-low, left-low, row-fits-63, column-fits-63, held-pixel}

-- ---- what a count is where there is one
module _ (first : ℕ) (high : first ≤ 64800000) (lat : ℤ) where
  pub south-from : {d : ℕ} → south_of first lat ≡ Some d → (outside quarter lat ≡ false) × (raise quarter lat ≤ first) × (d ≡ first - raise quarter lat)
  south-from {d} = go (lt_z lat (neg_ℤ (pos quarter)) || lt_z (pos first -ℤ pos quarter) lat) refl
    where
      go : (t : Bool) → lt_z lat (neg_ℤ (pos quarter)) || lt_z (pos first -ℤ pos quarter) lat ≡ t
          → cond t None (Some (nat_abs (pos first -ℤ pos quarter -ℤ lat))) ≡ Some d
          → (outside quarter lat ≡ false) × (raise quarter lat ≤ first) × (d ≡ first - raise quarter lat)
      go true h p = cc
      go false h p =
          let i = south-inside first high lat h in
          let q : nat_abs (pos first -ℤ pos quarter -ℤ lat) ≡ d = cc in
          (i.0, i.1, sym q ∙ ap nat_abs (south-is first high lat i.0 i.1))

module _ (g : ℕ) (low : g < 129600000) where
  abbrev west : ℤ
  west = west_of g

  west-inside : outside half west ≡ false
  west-inside = inside-size half west (nat_abs west) refl (omega (arith, is-size (pos half -ℤ pos g) half g (is-difference half g)))

  west-raise : raise half west + g ≡ 129600000
  west-raise = omega (arith, equal_is west (pos half -ℤ pos g) (raise half west) half half g (is-raise half west west-inside) (is-difference half g) refl)

  module _ (lon : ℤ) where
    -- round the circle
    around : outside half lon ≡ false → nat_abs (cond (lt_z lon west) (lon -ℤ west +ℤ pos circle) (lon -ℤ west)) ≡ (raise half lon + g) % circle
    around j = go (lt_z lon west) refl
      where
        go : (t : Bool) → lt_z lon west ≡ t → nat_abs (cond t (lon -ℤ west +ℤ pos circle) (lon -ℤ west)) ≡ (raise half lon + g) % circle
        go true h = ap nat_abs (east-round west lon west-inside j) ∙ omega (arith, west-raise, east-west west lon west-inside j h)
        go false h =
            let le = east-past west lon west-inside j h in
            ap nat_abs (east-straight west lon west-inside j le) ∙ omega (arith, west-raise, raise-high half lon j)

    pub east-from : {d : ℕ} → east_of g lon ≡ Some d → (outside half lon ≡ false) × (d ≡ (raise half lon + g) % circle)
    east-from {d} = go (outside half lon) refl
      where
        go : (t : Bool) → outside half lon ≡ t
            → cond t None (Some (nat_abs (cond (lt_z lon west) (lon -ℤ west +ℤ pos circle) (lon -ℤ west)))) ≡ Some d
            → (outside half lon ≡ false) × (d ≡ (raise half lon + g) % circle)
        go true h p = cc
        go false h p = let q : nat_abs (cond (lt_z lon west) (lon -ℤ west +ℤ pos circle) (lon -ℤ west)) ≡ d = cc in (h, sym q ∙ around h)

-- ---- a pixel of the chart, as the machine casts it
module _ (e : Inside) (made : Made e) (row column : ℤ) (fr : SFits w64 row) (fc : SFits w64 column)
    (accepted : Ok tt ≡ verdict_of e.card (to_z w64 (of_z w64 row)) (to_z w64 (of_z w64 column))) where
  tests : (in_tiles e.card row column ≡ true) × (in_chart e.card row column ≡ true)
  tests = accepted-in e.card row column (sym (accepted ∙ pair-asked (verdict_of e.card) fr fc))

  inside : PixelInside e.card row column
  inside = tiles-inside e.card row column tests.0

  l : Laid e.card
  l = laid e made

  abbrev r : ℕ
  r = nat_abs (to_z w64 (of_z w64 row))

  abbrev c : ℕ
  c = nat_abs (to_z w64 (of_z w64 column))

  row_low : r < 128 * e.card.nfl
  row_low = cast-below _ row fr inside.row

  column_low : c < 128 * e.card.nfc
  column_low = cast-below _ column fc inside.column

  pub column_casts : T (non_neg (to_z w64 (of_z w64 column))) × Fits w64 (nat_abs (to_z w64 (of_z w64 column)))
  column_casts = cast_fits _ column fc inside.column (omega (arith, l))

  pub row_within : r * e.rows.rate ≤ e.rows.from
  row_within = row_under e made r row_low

  pub rows_low : e.rows.from < 4453022161212276736
  rows_low = row-from-high e made r row_low

  pub columns_low : e.columns.from < 8933531975680000000
  columns_low = column-from-high e made c column_low

  pub more_low : c * e.columns.rate < 9223372036854775808
  more_low = column-more-fits e made c column_low

  pub two_circles : (e.columns.from + c * e.columns.rate) / coarse < 2 * circle
  two_circles = rw (column-angle e made c column_low) (column-below e made c column_low)

  pub chart_position : position_of e.pair e.card row column
      ≡ at_position (pos ((e.rows.from - r * e.rows.rate) / coarse) -ℤ pos quarter)
      (pos ((e.columns.from + c * e.columns.rate) / coarse % circle) -ℤ pos half)
  unfolding position_of
  chart_position =
      let north : ℕ = near ((e.card.north - r) * circle - inward e.pair) e.card.b in
      let east : ℕ = near ((e.card.east + c) * circle + inward e.pair) e.card.a % circle in
      rw (tests.0, tests.1)
      (ap₂ at_position
      (ap (latitude_of e.pair e.card) (sym (cast_same _ row fr inside.row))
      ∙ is-unique (latitude_of e.pair e.card (pos r)) (pos north -ℤ pos quarter) north quarter
      (latitude-is e.card l e.pair r (omega (arith, row_low, down-high e.card l))) (is-difference north quarter)
      ∙ ap (λ (n : ℕ). pos n -ℤ pos quarter) (sym (row-angle e made r row_low)))
      (ap (longitude_of e.pair e.card) (sym (cast_same _ column fc inside.column))
      ∙ is-unique (longitude_of e.pair e.card (pos c)) (pos east -ℤ pos half) east half (longitude-is e.card l e.pair c) (is-difference east half)
      ∙ ap (λ (n : ℕ). pos (n % circle) -ℤ pos half) (sym (column-angle e made c column_low))))

-- ---- a position on the chart, by its counts
module _ (e : Inside) (made : Made e) (lat lon : ℤ) (fl : SFits w64 lat) (fo : SFits w64 lon) {d i : ℕ}
    (south : south_of e.down.first (to_z w64 (of_z w64 lat)) ≡ Some d) (east : east_of e.across.first (to_z w64 (of_z w64 lon)) ≡ Some i)
    (on-d : d ≤ e.down.most) (on-i : i ≤ e.across.most) where
  s : (outside quarter lat ≡ false) × (raise quarter lat ≤ e.down.first) × (d ≡ e.down.first - raise quarter lat)
  s = south-from e.down.first (top-low e made) lat (rw (to_z-of_z w64 lat fl) at south)

  t : (outside half lon ≡ false) × (i ≡ (raise half lon + e.across.first) % circle)
  t = east-from e.across.first (left-low e made) lon (rw (to_z-of_z w64 lon fo) at east)

  abbrev n : ℕ
  n = raise quarter lat

  abbrev m : ℕ
  m = raise half lon

  pub rows_fit : d * e.down.rate + e.down.start < 9223372036854775808
  rows_fit = rw s.2 (row-fits-63 e made n (raise-high quarter lat s.0) s.1 (omega (arith, s.2)))

  pub columns_fit : i * e.across.rate + e.across.start < 9223372036854775808
  columns_fit = rw t.1 (column-fits-63 e made m (omega (arith, t.1)))

  pub chart_pixel : pixel_of e.pair e.card lat lon
      ≡ at_pixel (pos ((d * e.down.rate + e.down.start) / fine)) (pos ((i * e.across.rate + e.across.start) / fine))
  unfolding pixel_of
  chart_pixel =
      rw (s.2, t.1, s.0, t.0)
      (sym (held-pixel e made n m (raise-high quarter lat s.0) s.1 (omega (arith, s.2)) (omega (arith, t.1))
      ∙ ap₂ (λ (x y : ℤ). pixel_at e.card (row_of e.pair e.card x) (column_of e.pair e.card y))
      (is-unique (pos n -ℤ pos quarter) lat n quarter (is-difference n quarter) (is-raise quarter lat s.0))
      (is-unique (pos m -ℤ pos half) lon m half (is-difference m half) (is-raise half lon t.0))))
