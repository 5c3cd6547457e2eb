-- A row found is the nearest whole number, and so is a column before it is turned. H / 512 is odd and A and B are multiples of 512, so
-- neither is half a pixel away, and every other is farther. An answered position is in range, so an overview refuses it with 12 or 13 only.
-- Assumes nothing.
use Rattle.std.specs.Prelude.{if◌then◌else◌, Result, Ok, Err}
use Rattle.card.specs.declared.Pixel.{Pixel}
use Rattle.card_text.specs.Layout.{Judged}
use Rattle.card.specs.Grid.{at_pixel}
use mathlib.Core.Path.{◌≡◌, refl, sym, ap, ◌∙◌, subst₂, subst⁻¹}
use mathlib.Core.Bool.{Bool, true, false, not}
use mathlib.Core.Logic.{◌⊎◌, inl, inr}
use Prim.Native.Nat.{ℕ, ◌+◌, ◌-◌, ◌*◌, ◌/◌, ◌%◌, ◌≤◌, ◌<◌}
use native.Mathlib.Nat.{add-mul, mul_left_comm, mul_right_comm, mod-lt, mod-eq_of_lt, add-mul-mod_self_right, div-add-mod'}
use native.Mathlib.Omega.{arith}
use lib.IntN.{ℤ, pos, negsuc, neg_ℤ, sub_ℕ, nat_abs, ◌+ℤ◌, ◌-ℤ◌, ◌*ℤ◌}
use lib.Signed.{◌≤ℤ◌, ◌<ℤ◌}
use Rattle.whole.specs.Whole.{outside, raise}
use Rattle.whole.proofs.Signed.{Is, over, under, is-parts, is_same, is-equal, equal_is, is-nat, is-neg, is-sub, is-add, is-minus, is_mul}
use Rattle.whole.proofs.Signed.{is-times, is-size, le_is, lt-is, is-raise, raise-high, inside-size}
use Rattle.whole.proofs.Near.{nearer}
use Rattle.arc.specs.declared.refusal.Refusal.{Refusal}
use Rattle.whole.specs.Results.{◌>>=◌}
use Rattle.arc.specs.Zones.{circle, half, quarter}
use Rattle.arc.specs.Pixels.{Grid}
use Rattle.card_text.specs.declared.Fields.{Fields}
use Rattle.card.specs.declared.Pair.{Pair}
use Rattle.card.specs.declared.Position.{Position}
use Rattle.card.specs.Grid.{place_row, place_column, row_of, column_of, in_tiles, in_chart, verdict_of, latitude_of, longitude_of, position_of, pixel_of}
use Rattle.card.specs.Overview.{overview_pixel_of, apart, NearestRow, NearestColumn, NearestPlace, PixelNearest}
use Rattle.card.specs.Overview.{OverviewFound, OverviewNearest, OverviewRefuses, OverviewRefused}
use Rattle.card_text.proofs.Laid.{Laid, known-laid}
use Rattle.card.proofs.Axes.{north-is, east-high, row_fits, row_at, column-at, column-place}
use Rattle.card.proofs.Chain.{same_place}
use Rattle.card.proofs.Same.{same-pixel}
use Rattle.card.proofs.Answered.{answered-in-range}

-- ---- one axis: x is A or B

-- an angle of p hundredths and y pixels, both counted from one end: at most half a pixel apart is less
half-less : (x p y t : ℕ) → Grid x → 2 * (y * circle) ≤ 2 * (p * x + t * circle) + circle → 2 * (p * x + t * circle) ≤ 2 * (y * circle) + circle
    → 2 * (p * x + t * circle - y * circle + (y * circle - (p * x + t * circle))) < circle
half-less x p y t g low high =
    let whole : p * x ≡ 512 * (p * (x / 512)) = ap (λ (n : ℕ). p * n) g.whole ∙ mul_left_comm p 512 (x / 512) in
    let low' : 2 * (y * 253125) < 2 * (p * (x / 512) + t * 253125) + 253125 = omega arith in
    let high' : 2 * (p * (x / 512) + t * 253125) < 2 * (y * 253125) + 253125 = omega arith in
    omega arith

-- so many circles on, so many times A columns back
turned_apart : (a : ℕ) (lon w turns : ℤ) → apart a (lon +ℤ turns *ℤ pos circle) w ≡ apart a lon (w -ℤ turns *ℤ pos a)
turned_apart a lon w turns =
    let lo : ℕ = over lon in
    let lu : ℕ = under lon in
    let to : ℕ = over turns in
    let tu : ℕ = under turns in
    let wo : ℕ = over w in
    let wu : ℕ = under w in
    ap nat_abs
    (is-equal ((lon +ℤ turns *ℤ pos circle) *ℤ pos a -ℤ w *ℤ pos circle) (lon *ℤ pos a -ℤ (w -ℤ turns *ℤ pos a) *ℤ pos circle)
    ((lo + to * circle) * a + wu * circle) ((lu + tu * circle) * a + wo * circle)
    (lo * a + (wu + to * a) * circle) (lu * a + (wo + tu * a) * circle)
    (is-minus ((lon +ℤ turns *ℤ pos circle) *ℤ pos a) (w *ℤ pos circle) ((lo + to * circle) * a) ((lu + tu * circle) * a) (wo * circle) (wu * circle)
    (is_mul (lon +ℤ turns *ℤ pos circle) a (lo + to * circle) (lu + tu * circle)
    (is-add lon (turns *ℤ pos circle) lo lu (to * circle) (tu * circle) (is-parts lon) (is-times turns circle)))
    (is-times w circle))
    (is-minus (lon *ℤ pos a) ((w -ℤ turns *ℤ pos a) *ℤ pos circle) (lo * a) (lu * a) ((wo + tu * a) * circle) ((wu + to * a) * circle)
    (is-times lon a)
    (is_mul (w -ℤ turns *ℤ pos a) circle (wo + tu * a) (wu + to * a)
    (is-minus w (turns *ℤ pos a) wo wu (to * a) (tu * a) (is-parts w) (is-times turns a))))
    (omega (
      arith,
      add-mul lo (to * circle) a,
      add-mul lu (tu * circle) a,
      mul_right_comm to circle a,
      mul_right_comm tu circle a,
    )))

-- a column of the circle
column-of : (a : ℕ) (w : ℤ) → pos 0 ≤ℤ w → w <ℤ pos a → (n : ℕ) × (w ≡ pos n) × (n < a)
column-of a (pos n) h l = (n, refl, omega (arith, lt-is (pos n) (pos a) n 0 a 0 (is-nat n) (is-nat a) l))
column-of a (negsuc n) h l =
    absurd (omega (arith, le_is (pos 0) (negsuc n) 0 0 (over (negsuc n)) (under (negsuc n)) (is-nat 0) (is-parts (negsuc n)) h))

-- two columns of the circle that are whole circles apart are one
one-column : (a m v : ℕ) (t c : ℤ) → m < a → v < a → pos m -ℤ t *ℤ pos a ≡ pos v -ℤ c *ℤ pos a → m ≡ v
one-column a m v t c h g e =
    let back : (n : ℕ) (z : ℤ) → Is (pos n -ℤ z *ℤ pos a) (n + under z * a) (0 + over z * a) =
    λ n z. is-minus (pos n) (z *ℤ pos a) n 0 (over z * a) (under z * a) (is-nat n) (is-times z a) in
    let same =
    equal_is (pos m -ℤ t *ℤ pos a) (pos v -ℤ c *ℤ pos a) (m + under t * a) (0 + over t * a) (v + under c * a) (0 + over c * a) (back m t) (back v c) e in
    sym (mod-eq_of_lt h)
    ∙ sym (add-mul-mod_self_right m (under t + over c) a)
    ∙ ap (λ (n : ℕ). n % a) (omega (arith, same, add-mul (under t) (over c) a, add-mul (under c) (over t) a))
    ∙ add-mul-mod_self_right v (under c + over t) a
    ∙ mod-eq_of_lt g

-- the same round the circle
round-nearest : (a v : ℕ) (lon circles : ℤ) → v < a → 2 * apart a lon (pos v -ℤ circles *ℤ pos a) < circle → NearestColumn a lon (pos v)
round-nearest a v lon circles h within =
    record {
      circles = circles;
      within = rw (turned_apart a lon (pos v) circles) within;
      nearest = λ w turns low high other.
          let m = column-of a w low high in
          subst₂ ◌<◌ (sym (turned_apart a lon (pos v) circles)) (sym (turned_apart a lon w turns))
          (nearer circle (lon *ℤ pos a) (pos v -ℤ circles *ℤ pos a) (w -ℤ turns *ℤ pos a) within (λ same.
          other (m.1 ∙ ap pos (one-column a m.0 v turns circles m.2 h (ap (λ (q : ℤ). q -ℤ turns *ℤ pos a) (sym m.1) ∙ same)))));
    }

module _ (k : Fields) (l : Laid k) where
  row-nearest : (lat : ℤ) → outside quarter lat ≡ false → NearestRow k.b lat (place_row k (row_of Pair.Corner k lat))
  row-nearest lat i =
      let p : ℕ = raise quarter lat in
      let few : p ≤ 64800000 = raise-high quarter lat i in
      let e : Is lat p quarter = is-raise quarter lat i in
      let o : ℕ = k.north + k.b / 2 in
      let x : ℕ = o * circle - p * k.b in
      let y : ℕ = (x + half) / circle in
      let s : ℕ = 128 * (k.b / 512) in
      let u : ℤ = place_row k (row_of Pair.Corner k lat) in
      let z : ℤ = lat *ℤ pos k.b -ℤ u *ℤ pos circle in
      let u-is : Is u o (s + y) =
      is-minus (pos 128 *ℤ k.n) (row_of Pair.Corner k lat) k.north s y (k.b / 2) (north-is k l) (row_at k l Pair.Corner lat p e few) in
      let z-is : Is z (p * k.b + (s + y) * circle) (quarter * k.b + o * circle) =
      is-minus (lat *ℤ pos k.b) (u *ℤ pos circle) (p * k.b) (quarter * k.b) (o * circle) ((s + y) * circle)
      (is_mul lat k.b p quarter e) (is_mul u circle o (s + y) u-is) in
      let small = half-less k.b p o y l.rows (omega (arith, row_fits k l p few)) (omega (arith, row_fits k l p few)) in
      let within : 2 * nat_abs z < circle =
      omega (arith, is-size z (p * k.b + (s + y) * circle) (quarter * k.b + o * circle) z-is, l.rows.whole, small) in
      record { within = within; nearest = λ w other. nearer circle (lat *ℤ pos k.b) u w within other }

  column-nearest : (lon : ℤ) → outside half lon ≡ false → NearestColumn k.a lon (place_column k (column_of Pair.Corner k lon))
  column-nearest lon i =
      let a : ℕ = k.a in
      let p : ℕ = raise half lon in
      let e : Is lon p half = is-raise half lon i in
      let y : ℕ = (p * a + half) / circle in
      let v : ℕ = (y + a / 2) % a in
      let n : ℕ = (y + a / 2) / a in
      let v-is : place_column k (column_of Pair.Corner k lon) ≡ pos v =
      ap (place_column k) (column-at k l Pair.Corner lon p e) ∙ column-place k l ((y + (a - k.east)) % a)
      ∙ ap pos (same_place a y k.east l.columns (east-high k l) ((y + (a - k.east)) % a) refl) in
      let circles : ℤ = sub_ℕ 1 n in
      let x : ℤ = pos v -ℤ circles *ℤ pos a in
      let z : ℤ = lon *ℤ pos a -ℤ x *ℤ pos circle in
      let x-is : Is x (v + n * a) (1 * a) =
      is_same x (v + n * a) (0 + 1 * a) (v + n * a) (1 * a)
      (is-minus (pos v) (circles *ℤ pos a) v 0 (1 * a) (n * a) (is-nat v) (is_mul circles a 1 n (is-sub 1 n))) (omega arith) in
      let x-at : Is x y (a / 2) =
      is_same x (v + n * a) (1 * a) y (a / 2) x-is (omega (arith, div-add-mod' (y + a / 2) a, l.columns.whole)) in
      let z-is : Is z (p * a + a / 2 * circle) (half * a + y * circle) =
      is-minus (lon *ℤ pos a) (x *ℤ pos circle) (p * a) (half * a) (y * circle) (a / 2 * circle)
      (is_mul lon a p half e) (is_mul x circle y (a / 2) x-at) in
      let small = half-less a p y 0 l.columns (omega arith) (omega arith) in
      let within : 2 * nat_abs z < circle =
      omega (arith, is-size z (p * a + a / 2 * circle) (half * a + y * circle) z-is, l.columns.whole, small) in
      subst⁻¹ (NearestColumn a lon) v-is (round-nearest a v lon circles (mod-lt (y + a / 2) (omega (arith, l.columns.some))) within)

-- ---- the pixel that is answered

pub record FoundAt (p : Pair) (k : Fields) (lat lon r c : ℤ) : Type 0 where
  pub lat-in : outside quarter lat ≡ false
  pub lon-in : outside half lon ≡ false
  pub row : row_of p k lat ≡ r
  pub column : column_of p k lon ≡ c

pub found_at : (p : Pair) (k : Fields) (lat lon r c : ℤ) → pixel_of p k lat lon ≡ at_pixel r c → FoundAt p k lat lon r c
unfolding pixel_of
found_at p k lat lon r c e = go (outside quarter lat) (outside half lon) (verdict_of k (row_of p k lat) (column_of p k lon)) refl refl e
  where
    go : (s t : Bool) (v : Judged) → outside quarter lat ≡ s → outside half lon ≡ t
        → (if s then Err Refusal.Latitude else (if t then Err Refusal.Longitude
        else ◌>>=◌ {B = Pixel} v (λ _. at_pixel (row_of p k lat) (column_of p k lon)))) ≡ at_pixel r c
        → FoundAt p k lat lon r c
    go false false (Ok u) x y f =
        let e = same-pixel (row_of p k lat) (column_of p k lon) r c f in
        record { lat-in = x; lon-in = y; row = e.0; column = e.1 }
    go false false (Err n) x y f = let z : ◌≡◌ {A = ℕ} 0 1 = cc in absurd (omega arith)
    go false true v x y f = let z : ◌≡◌ {A = ℕ} 0 1 = cc in absurd (omega arith)
    go true t v x y f = let z : ◌≡◌ {A = ℕ} 0 1 = cc in absurd (omega arith)

pub pixel-nearest : PixelNearest
pixel-nearest k w lat lon r c e =
    let f = found_at Pair.Corner k lat lon r c e in
    let l = known-laid k w in
    subst₂ (NearestPlace k lat lon) f.row f.column
    (record { row = row-nearest k l lat f.lat-in; column = column-nearest k l lon f.lon-in })

-- ---- the overview

pub overview-nearest : OverviewNearest
unfolding overview_pixel_of
overview-nearest chart overview h w r c r' c' e = go (position_of Pair.Corner chart r c) refl e
  where
    go : (x : Result Position Refusal) → position_of Pair.Corner chart r c ≡ x
        → ◌>>=◌ {B = Pixel} x (λ y. pixel_of Pair.Corner overview y.lat y.lon) ≡ at_pixel r' c'
        → OverviewFound chart overview r c r' c'
    go (Ok x) p f =
        record { lat = x.lat; lon = x.lon; position = p; pixel = pixel-nearest overview w x.lat x.lon r' c' f }
    go (Err n) p f = let z : ◌≡◌ {A = ℕ} 0 1 = cc in absurd (omega arith)

-- a question that asks a pixel's verdict is refused with 12 or 13
verdict-refuses : {A : Type 0} (x : A) (k : Fields) (r c : ℤ) (e : Refusal) → verdict_of k r c >>= (λ _. Ok x) ≡ Err e
    → (e ≡ Refusal.OutsideTiles) ⊎ (e ≡ Refusal.Padding)
verdict-refuses {A} x k r c e f = go (in_tiles k r c) (in_chart k r c) f
  where
    go : (i j : Bool) → ◌>>=◌ {A = Unit {0}} {B = A} (if not i then Err Refusal.OutsideTiles else (if not j then Err Refusal.Padding else
        Ok (tt {0}))) (λ _. Ok x) ≡ Err e
        → (e ≡ Refusal.OutsideTiles) ⊎ (e ≡ Refusal.Padding)
    go true true f = let z : ◌≡◌ {A = ℕ} 0 1 = cc in absurd (omega arith)
    go true false f = inr (cc)
    go false j f = inl (cc)

longitude-in : (lon : ℤ) → neg_ℤ (pos half) ≤ℤ lon → lon <ℤ pos half → outside half lon ≡ false
longitude-in lon west east =
    inside-size half lon (nat_abs lon) refl
    (omega (
      arith,
      is-size lon (over lon) (under lon) (is-parts lon),
      le_is (neg_ℤ (pos half)) lon 0 half (over lon) (under lon) (is-neg (pos half) half 0 (is-nat half)) (is-parts lon) west,
      lt-is lon (pos half) (over lon) (under lon) half 0 (is-parts lon) (is-nat half) east,
    ))

pub overview-refused : OverviewRefused
unfolding overview_pixel_of position_of pixel_of
overview-refused chart overview h w r c e f = go (position_of Pair.Corner chart r c) refl f
  where
    go : (x : Result Position Refusal) → position_of Pair.Corner chart r c ≡ x
        → ◌>>=◌ {B = Pixel} x (λ y. pixel_of Pair.Corner overview y.lat y.lon) ≡ Err e
        → ((position_of Pair.Corner chart r c ≡ Err e) ⊎ OverviewRefuses chart overview r c e) × ((e ≡ Refusal.OutsideTiles) ⊎ (e ≡ Refusal.Padding))
    go (Ok x) p f =
        let lat = x.lat in
        let lon = x.lon in
        let i = answered-in-range Pair.Corner chart h r c lat lon p in
        let r' = row_of Pair.Corner overview lat in
        let c' = column_of Pair.Corner overview lon in (
          inr (record { lat = lat; lon = lon; position = p; pixel = f }),
          verdict-refuses (record { row = r'; column = c' }) overview r' c' e
              (rw (i.latitude, longitude-in lon i.west i.east) at f),
        )
    go (Err n) p f =
        let g : position_of Pair.Corner chart r c ≡ Err e = p ∙ ap Err (cc) in (
          inl g,
          verdict-refuses (record { lat = latitude_of Pair.Corner chart r; lon = longitude_of Pair.Corner chart c }) chart r c e g,
        )
