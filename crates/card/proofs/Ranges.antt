-- What `count_position` answered of a position: the refusal that each question gives, or the position counted in naturals. Assumes nothing.
use mathlib.Core.Path.{◌≡◌, refl, sym, ap, ap₂, ◌∙◌}
use mathlib.Core.Bool.{Bool, true, false}
use Prim.Native.Nat.{ℕ, ◌+◌}
use native.Mathlib.Omega.{arith}
use lib.IntN.{ℤ, pos, ◌-ℤ◌}
use mir.Syntax.{w64}
use mir.Val.{SFits, to_z, of_z}
use mir.ValLaws.{to_z-of_z}
use Rattle.std.specs.Prelude.{if◌then◌else◌, Result, Ok, Err}
use Rattle.whole.specs.Whole.{outside, raise}
use Rattle.whole.proofs.Signed.{is-equal, is-unique, is-minus, is-difference, is-raise, raise-high}
use Rattle.whole.proofs.Counts.{Inside, inside_is}
use Rattle.arc.specs.declared.refusal.Refusal.{Refusal}
use Rattle.arc.specs.Zones.{half, quarter}
use Rattle.card.specs.declared.range.Ranged.{Ranged}
use Rattle.card.specs.Steps.{ranged_of}
use Rattle.card_text.proofs.Values.{raise-is}

pub inside-raise : {k : ℕ} {z : ℤ} {n : ℕ} → Inside k z n → raise k z ≡ n
inside-raise {k} {z} {n} i = raise-is k z n (inside_is i)

raise-inside : (k : ℕ) (z : ℤ) (n : ℕ) → outside k z ≡ false → raise k z ≡ n → Inside k z n
raise-inside k z n t e =
    record {
      test = t;
      same = is-unique (pos n -ℤ pos k) z n k (is-difference n k) (rw e at (is-raise k z t));
      high = omega (arith, raise-high k z t);
    }

-- counted from one limit, a difference is that of the counts
pub counts-apart : {k : ℕ} {x y : ℤ} {m n : ℕ} → Inside k x m → Inside k y n → pos m -ℤ pos n ≡ x -ℤ y
counts-apart {k} {x} {y} {m} {n} i j =
    is-equal (pos m -ℤ pos n) (x -ℤ y) m n (m + k) (k + n) (is-difference m n) (is-minus x y m k n k (inside_is i) (inside_is j)) (omega arith)

-- both parts of a position
pub record Counts (lat lon : ℤ) (north east : ℕ) : Type 0 where
  pub rows : Inside quarter lat north
  pub columns : Inside half lon east

abbrev north_in : Result Ranged Refusal → ℕ
north_in (Ok x) = x.north
north_in (Err e) = 0

abbrev east_in : Result Ranged Refusal → ℕ
east_in (Ok x) = x.east
east_in (Err e) = 0

module _ (lat lon : ℤ) (f : SFits w64 lat) (g : SFits w64 lon) {r : Result Ranged Refusal} (e : r ≡ ranged_of (to_z w64 (of_z w64 lat))
    (to_z w64 (of_z w64 lon))) where
  plain : ranged_of lat lon ≡ r
  plain = sym (e ∙ ap₂ ranged_of (to_z-of_z w64 lat f) (to_z-of_z w64 lon g))

  -- a question that asks the same of the position has the same refusal
  pub ranged-refused : {A : Type 0} (y : Result A Refusal) {n : Refusal} → r ≡ Err n
      → Err n ≡ (if outside quarter lat then Err Refusal.Latitude else (if outside half lon then Err Refusal.Longitude else y))
  ranged-refused {A} y {n} o = go (outside quarter lat) (outside half lon) (plain ∙ o)
    where
      go : (s t : Bool)
          → ◌≡◌ {A = Result Ranged Refusal} (if s then Err Refusal.Latitude else (if t then Err Refusal.Longitude else Ok (record {
            north =
                raise quarter lat;
            east = raise half lon;
          }))) (Err n)
          → ◌≡◌ {A = Result A Refusal} (Err n) (if s then Err Refusal.Latitude else (if t then Err Refusal.Longitude else y))
      go true t p = let q : n ≡ Refusal.Latitude = cc in ap Err q
      go false true p = let q : n ≡ Refusal.Longitude = cc in ap Err q
      go false false p = let y : ◌≡◌ {A = ℕ} 0 1 = cc in absurd (omega arith)

  pub ranged-at : {x : Ranged} → r ≡ Ok x → Counts lat lon x.north x.east
  ranged-at {x} o = go (outside quarter lat) (outside half lon) refl refl (plain ∙ o)
    where
      go : (s t : Bool) → outside quarter lat ≡ s → outside half lon ≡ t
          → ◌≡◌ {A = Result Ranged Refusal} (if s then Err Refusal.Latitude else (if t then Err Refusal.Longitude else Ok (record {
            north =
                raise quarter lat;
            east = raise half lon;
          }))) (Ok x)
          → Counts lat lon x.north x.east
      go true t es et p = let y : ◌≡◌ {A = ℕ} 0 1 = cc in absurd (omega arith)
      go false true es et p = let y : ◌≡◌ {A = ℕ} 0 1 = cc in absurd (omega arith)
      go false false es et p = record { rows = raise-inside quarter lat x.north es (ap north_in p); columns = raise-inside half lon x.east et (ap east_in p) }
