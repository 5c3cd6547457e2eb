-- The table by a row's place in it, 0 to 8: each column of the table is one equation that computes; and a zone number against the two zones
-- of a row. Assumes nothing.
use mathlib.Core.Path.{◌≡◌, refl, sym, ap, ◌∙◌}
use mathlib.Core.Bool.{Bool, true, false, cond, ◌||◌, false≢true}
use mathlib.Core.List.{List, [], ◌∷◌, map}
use mathlib.Core.Logic.{◌⊎◌, inl, inr, ⊎_elim}
use Rattle.std.specs.Prelude.{Some}
use Prim.Native.Nat.{ℕ, suc, ◌+◌, ◌≤◌, ◌<◌}
use native.Mathlib.Nat.{zero-add}
use native.Mathlib.Omega.{arith}
use borrow.Author.Tests.{leb-true, ltb-true, eqb-true, ne_eqb}
use lib.Dec.{leb, ltb, eqb}
use lib.ListN.{length, get_or, get_or-eq_default}
use Rattle.whole.specs.Lists.{up_from}
use Rattle.whole.proofs.Lists.{agree, up_from-at}
use Rattle.arc.specs.Zones.{quarter, table, has_zone, row_in, table_row, is_polar, row_at, no_row}
use Rattle.arc.specs.declared.zone_table.Row.{Row}

module _ (i : ℕ) (h : i < 9) where
  -- a column of the table as a function of the row's place
  column : {C : Type 0} (f : Row → C) (g : ℕ → C) (a : ℕ) → map f table ≡ map g (up_from a 9) → f (row_at i) ≡ g (a + i)
  column f g a e = agree f g table (up_from a 9) no_row 0 e i h ∙ ap g (up_from-at a 9 i 0 h)

  pub northern-at : (row_at i).northern ≡ 1 + i
  northern-at = column (λ (r : Row). r.northern) (λ (n : ℕ). n) 1 refl

  pub southern-at : (row_at i).southern ≡ 10 + i
  southern-at = column (λ (r : Row). r.southern) (λ (n : ℕ). n) 10 refl

  pub row-north : table_row (1 + i) ≡ Some (row_at i)
  row-north = sym (column Some table_row 1 refl)

  pub row-south : table_row (10 + i) ≡ Some (row_at i)
  row-south = sym (column Some table_row 10 refl)

  pub polar-at : is_polar (row_at i).northern ≡ eqb i 8
  polar-at = column (λ (r : Row). is_polar r.northern) (λ (n : ℕ). eqb n 8) 0 refl ∙ ap (λ (n : ℕ). eqb n 8) (zero-add i)

  pub last-at : eqb (row_at i).poleward quarter ≡ eqb i 8
  last-at = column (λ (r : Row). eqb r.poleward quarter) (λ (n : ℕ). eqb n 8) 0 refl ∙ ap (λ (n : ℕ). eqb n 8) (zero-add i)

  pub from-to : (row_at i).equatorward < (row_at i).poleward
  from-to = ltb-true (row_at i).equatorward (row_at i).poleward (column (λ (r : Row). ltb r.equatorward r.poleward) (λ (n : ℕ). true) 0 refl)

  pub to-most : (row_at i).poleward ≤ quarter
  to-most = leb-true (row_at i).poleward quarter (column (λ (r : Row). leb r.poleward quarter) (λ (n : ℕ). true) 0 refl)

  -- a zone of the row, on either side of the Equator
  pub zone-row : (zone : ℕ) → (zone ≡ 1 + i) ⊎ (zone ≡ 10 + i) → table_row zone ≡ Some (row_at i)
  zone-row zone w = ⊎_elim (λ e. ap table_row e ∙ row-north) (λ e. ap table_row e ∙ row-south) w

-- a row that is found stands at some place
pub found_at : (rs : List Row) (zone : ℕ) (r : Row) → row_in rs zone ≡ Some r → (j : ℕ) × (j < length rs) × (get_or rs j no_row ≡ r)
found_at [] zone r e = let z : ◌≡◌ {A = ℕ} 0 1 = cc in absurd (omega arith)
found_at (q ∷ rs) zone r e = go (has_zone q zone) e (λ k. found_at rs zone r k)
  where
    go : (t : Bool) → cond t (Some q) (row_in rs zone) ≡ Some r → (row_in rs zone ≡ Some r → (j : ℕ) × (j < length rs) × (get_or rs j no_row ≡ r))
        → (j : ℕ) × (j < length (q ∷ rs)) × (get_or (q ∷ rs) j no_row ≡ r)
    go true p k = (0, omega arith, cc)
    go false p k = let w = k p in (suc w.0, omega (arith, w.1), w.2)

-- a row that is found has the zone
found-has : (rs : List Row) (zone : ℕ) (r : Row) → row_in rs zone ≡ Some r → has_zone r zone ≡ true
found-has [] zone r e = let z : ◌≡◌ {A = ℕ} 0 1 = cc in absurd (omega arith)
found-has (q ∷ rs) zone r e = go (has_zone q zone) refl e (λ k. found-has rs zone r k)
  where
    go : (t : Bool) → has_zone q zone ≡ t → cond t (Some q) (row_in rs zone) ≡ Some r → (row_in rs zone ≡ Some r → has_zone r zone ≡ true)
        → has_zone r zone ≡ true
    go true k p f = let g : q ≡ r = cc in rw g at k
    go false k p f = f p

-- a zone of the table by its row's place
pub record ZoneAt (zone : ℕ) (r : Row) : Type 0 where
  pub at : ℕ
  pub in_table : at < 9
  pub is_row : row_at at ≡ r
  pub is-zone : (zone ≡ 1 + at) ⊎ (zone ≡ 10 + at)

pub zone-at : (zone : ℕ) (r : Row) → table_row zone ≡ Some r → ZoneAt zone r
zone-at zone r e =
    let w = found_at table zone r e in
    record {
      at = w.0;
      in_table = w.1;
      is_row = w.2;
      is-zone = go (eqb zone r.northern) (eqb zone r.southern) refl refl (found-has table zone r e) w.0 w.1 w.2;
    }
  where
    go : (n s : Bool) → eqb zone r.northern ≡ n → eqb zone r.southern ≡ s → n || s ≡ true → (j : ℕ) → j < 9 → row_at j ≡ r
        → (zone ≡ 1 + j) ⊎ (zone ≡ 10 + j)
    go true s p q t j h k = inl (eqb-true zone r.northern p ∙ sym (ap (λ (x : Row). x.northern) k) ∙ northern-at j h)
    go false true p q t j h k = inr (eqb-true zone r.southern q ∙ sym (ap (λ (x : Row). x.southern) k) ∙ southern-at j h)
    go false false p q t j h k = absurd (false≢true t)

pub neither : (n s zone : ℕ) → ((zone ≡ n) ⊎ (zone ≡ s) → ⊥) → eqb zone n || eqb zone s ≡ false
neither n s zone f = rw (ne_eqb zone n (λ e. f (inl e)), ne_eqb zone s (λ e. f (inr e)))

-- no row past the last
pub past-last : (i : ℕ) → 9 ≤ i → row_at i ≡ no_row
past-last i h = get_or-eq_default table no_row h
