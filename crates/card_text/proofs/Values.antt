-- What reading answers for the values that the code keeps: the tests of `with_values`, in its order, are those of the
-- values, and a record with its counted origin makes the fields. Assumes nothing.
use mathlib.Core.Path.{◌≡◌}
use mathlib.Core.Bool.{Bool, not, ◌&&◌}
use mathlib.Core.List.{List}
use Prim.Native.Nat.{ℕ, ◌*◌, ◌/◌, ◌≤◌}
use lib.Dec.{eqb}
use native.Mathlib.Omega.{arith}
use lib.IntN.{ℤ, pos, negsuc, ◌-ℤ◌}
use Rattle.std.specs.Prelude.{if◌then◌else◌, Option, Some, Err}
use Rattle.text.proofs.Bytes.{byte-in}
use Rattle.whole.specs.Whole.{raise}
use Rattle.whole.proofs.Signed.{Is, is-difference}
use Rattle.arc.specs.declared.refusal.Refusal.{Refusal}
use Rattle.arc.specs.declared.series.Series.{Series}
use Rattle.arc.specs.Pixels.{Grid}
use Rattle.origin.proofs.Axis.{latitudes, longitudes}
use Rattle.text.specs.Text.{angle_of}
use Rattle.card_text.specs.declared.Record.{Record}
use Rattle.card_text.specs.declared.subfields.Values.{Values}
use Rattle.card_text.specs.Layout.{LSO, PSO, NUL, NUS, NLL, NLS, NFL, NFC, layout, bytes_of}
use Rattle.card_text.specs.Blanks.{total_blanks}
use Rattle.card_text.specs.Read.{number_in, card_of, accepted_card, with_origin, with_values}
use Rattle.card_text.specs.StepsFields.{all_values}
use Rattle.card_text.specs.StepsRead.{found_at, tile_at, extents_at, record_with, fields_from, Walked}
use Rattle.card_text.proofs.Angles.{lso-is, pso-is, lso-high, pso-high}
use Rattle.card_text.proofs.Axes.{found-high, found-is}
use Rattle.card_text.proofs.Tiled.{extents-at}

pub raise-is : (t : ℕ) (z : ℤ) (n : ℕ) → Is z n t → raise t z ≡ n
raise-is t (pos m) n e = e
raise-is t (negsuc m) n e = omega arith

-- ---- the origin
module _ {s : List ℕ} {v : Values} (w : Walked s v) where
  pub pso-kept : v.stated.pso ≤ 2 * 32400000
  pso-kept = rw w.kept (pso-high w.fill s w.walks)

  pub lso-kept : v.stated.lso ≤ 2 * 64800000
  lso-kept = rw w.kept (lso-high w.fill s w.walks)

  pso-value : Is (angle_of 2 (bytes_of PSO s)) v.stated.pso 32400000
  pso-value = rw w.kept (pso-is w.fill s w.walks)

  lso-value : Is (angle_of 3 (bytes_of LSO s)) v.stated.lso 64800000
  lso-value = rw w.kept (lso-is w.fill s w.walks)

  pub north-high : {b : ℕ} → Grid b → {r : Option ℕ} {n : ℕ} → r ≡ found_at b v.stated.pso → r ≡ Some n → n ≤ 2 * (b / 512)
  north-high {b} g = found-high (latitudes b g) g (angle_of 2 (bytes_of PSO s)) v.stated.pso pso-value pso-kept

  pub east-high : {a : ℕ} → Grid a → {r : Option ℕ} {n : ℕ} → r ≡ found_at a v.stated.lso → r ≡ Some n → n ≤ 2 * (a / 256)
  east-high {a} g = found-high (longitudes a g) g (angle_of 3 (bytes_of LSO s)) v.stated.lso lso-value lso-kept

  pub values-are : {a b : ℕ} → Grid a → Grid b → (series : Series) → with_values series a b s
      ≡ (if not (eqb v.stated.arv a && eqb v.stated.brv b) then Err Refusal.Spacing
      else with_origin series a b s (tile_at (b / 512) (found_at b v.stated.pso)) (tile_at (a / 256) (found_at a v.stated.lso)))
  unfolding with_values
  values-are {a} {b} ga gb series =
      let n = found-is (latitudes b gb) gb (angle_of 2 (bytes_of PSO s)) v.stated.pso pso-value pso-kept in
      let m = found-is (longitudes a ga) ga (angle_of 3 (bytes_of LSO s)) v.stated.lso lso-value lso-kept in
      rw (n, m, w.kept)

-- ---- the fields, the origin counted
module _ (series : Series) (a b north east : ℕ) (s : List ℕ) (r : Record) (ok : Bool) where
  pub extents-are : r ≡ record_with (pos north -ℤ pos (b / 512)) (pos east -ℤ pos (a / 256)) (all_values s)
      → ok ≡ extents_at a north r.nul r.nus r.nll r.nls r.nfl r.nfc
      → with_origin series a b s (tile_at (b / 512) (Some north)) (tile_at (a / 256) (Some east))
      ≡ (if not ok then Err Refusal.Extent else accepted_card (fields_from series a b north east r) (total_blanks layout s))
  unfolding card_of
  extents-are er eo =
      let n : ℤ = pos north -ℤ pos (b / 512) in
      let m : ℤ = pos east -ℤ pos (a / 256) in
      let in_rows : Is n north (b / 512) = is-difference north (b / 512) in
      let in-columns : Is m east (a / 256) = is-difference east (a / 256) in
      rw (
        eo,
        er,
        raise-is (b / 512) n north in_rows,
        raise-is (a / 256) m east in-columns,
        extents-at a b n north (number_in NUL s) (number_in NUS s) (number_in NLL s) (number_in NLS s) (number_in NFL s) (number_in NFC s) in_rows,
        byte-in 97 0 1 s (omega arith),
      )
