-- Equal answers have equal parts. Assumes nothing.
use mathlib.Core.Path.{◌≡◌, ap}
use Prim.Native.Nat.{ℕ}
use lib.IntN.{ℤ, pos}
use Rattle.std.specs.Prelude.{Result, Ok, Err}
use Rattle.arc.specs.declared.refusal.Refusal.{Refusal}
use Rattle.card.specs.declared.Offset.{Offset}
use Rattle.arc.specs.declared.series.Spacing.{Spacing}
use Rattle.card.specs.declared.Pixel.{Pixel}
use Rattle.card.specs.declared.Place.{Place}
use Rattle.card.specs.declared.Position.{Position}
use Rattle.card.specs.Grid.{at_place, at_position, at_pixel}

abbrev row_in : Result Pixel Refusal → ℤ
row_in (Ok x) = x.row
row_in (Err e) = pos 0

abbrev column_in : Result Pixel Refusal → ℤ
column_in (Ok x) = x.column
column_in (Err e) = pos 0

abbrev place_row_in : Result Place Refusal → ℤ
place_row_in (Ok x) = x.row
place_row_in (Err e) = pos 0

abbrev place_column_in : Result Place Refusal → ℤ
place_column_in (Ok x) = x.column
place_column_in (Err e) = pos 0

abbrev a_in : Result Spacing Refusal → ℕ
a_in (Ok x) = x.a
a_in (Err e) = 0

abbrev b_in : Result Spacing Refusal → ℕ
b_in (Ok x) = x.b
b_in (Err e) = 0

abbrev lat_in : Result Position Refusal → ℤ
lat_in (Ok x) = x.lat
lat_in (Err e) = pos 0

abbrev lon_in : Result Position Refusal → ℤ
lon_in (Ok x) = x.lon
lon_in (Err e) = pos 0

abbrev offset_or : Offset → Result Offset Refusal → Offset
offset_or d (Ok x) = x
offset_or d (Err e) = d

pub same-pixel : (r c i j : ℤ) → at_pixel r c ≡ at_pixel i j → (r ≡ i) × (c ≡ j)
same-pixel r c i j e = (ap row_in e, ap column_in e)

pub same-position : (lat lon lat' lon' : ℤ) → at_position lat lon ≡ at_position lat' lon' → (lat ≡ lat') × (lon ≡ lon')
same-position lat lon lat' lon' e = (ap lat_in e, ap lon_in e)

pub same-offset : (x y : Offset) → ◌≡◌ {A = Result Offset Refusal} (Ok x) (Ok y) → x ≡ y
same-offset x y e = ap (offset_or x) e

pub same-place : (u v w z : ℤ) → at_place u v ≡ at_place w z → (u ≡ w) × (v ≡ z)
same-place u v w z e = (ap place_row_in e, ap place_column_in e)

pub same-spaces : (a b c d : ℕ) → ◌≡◌ {A = Result Spacing Refusal} (Ok (record { a = a; b = b })) (Ok (record { a = c; b = d })) → (a ≡ c) × (b ≡ d)
same-spaces a b c d e = (ap a_in e, ap b_in e)
