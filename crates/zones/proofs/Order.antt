-- The rows' order: each starts where the one before it ends, so one row alone holds a size; and rows six apart are more than 18° apart, the widest overlap
-- that any scale has. Assumes nothing.
use mathlib.Core.Path.{◌≡◌, refl, sym, ap, ◌∙◌}
use mathlib.Core.List.{[]}
use mathlib.Core.Bool.{Bool, true, false, ◌||◌, and-eq-true_iff, or-true, false≢true}
use mathlib.Core.Logic.{◌⊎◌, inl, inr, ⊎_elim}
use Prim.Native.Nat.{ℕ, zero, suc, ◌+◌, ◌-◌, ◌*◌, ◌≤◌, ◌<◌}
use native.Mathlib.Nat.{mul-le-mul_left, mul-le-mul_right}
use native.Mathlib.Omega.{arith}
use borrow.Author.Tests.{leb-true, le-leb, ltb-true, ltb-false, lt-ltb, le-ltb, eq-eqb, ne_eqb, eqb-true, eqb-false}
use lib.Dec.{leb, ltb, eqb, lit≤}
use lib.ListN.{take, drop}
use lib.Seq.{get_or-take}
use Rattle.arc.specs.Zones.{circle, quarter, table, row_at, no_row}
use Rattle.arc.specs.declared.zone_table.Row.{Row}
use Rattle.whole.specs.Lists.{those, down_from}
use Rattle.zones.specs.Basic.{holds_size}
use Rattle.zones.specs.Steps.{reaches, Rowed}
use Rattle.whole.proofs.Lists.{agree}
use Rattle.arc.proofs.Table.{from-to, polar-at, last-at}
use Rattle.zones.proofs.Rows.{place}

pub next-from : (i : ℕ) → i < 8 → (row_at (suc i)).equatorward ≡ (row_at i).poleward
next-from i h =
    sym (agree (λ (r : Row). r.poleward) (λ (r : Row). r.equatorward) (take 8 table) (drop 1 table) no_row no_row refl i h)
    ∙ ap (λ (r : Row). r.poleward) (get_or-take 8 table i no_row h)

pub to-from : (i j : ℕ) → i < j → j < 9 → (row_at i).poleward ≤ (row_at j).equatorward
to-from i zero h k = absurd (omega arith)
to-from i (suc j) h k = go (eqb i j) refl (λ l. to-from i j l (omega arith))
  where
    go : (t : Bool) → eqb i j ≡ t → (i < j → (row_at i).poleward ≤ (row_at j).equatorward) → (row_at i).poleward ≤ (row_at (suc j)).equatorward
    go true e f =
        let g : (row_at i).poleward ≡ (row_at j).poleward = ap (λ (n : ℕ). (row_at n).poleward) (eqb-true i j e) in
        omega (arith, next-from j (omega arith))
    go false e f = omega (arith, f (omega (arith, eqb-false i j e)), next-from j (omega arith), from-to j (omega arith))

-- no row but that at its place holds a size
pub only : (size j : ℕ) → j < 9 → (row_at j).equatorward ≤ size → (size < (row_at j).poleward) ⊎ (j ≡ 8) → j ≡ (place size).at
only size j h low high = let p = place size in go (ltb j p.at) (ltb p.at j) refl refl
  where
    go : (t u : Bool) → ltb j (place size).at ≡ t → ltb (place size).at j ≡ u → j ≡ (place size).at
    go true u e f = let p = place size in let k = ltb-true j p.at e in
        ⊎_elim (λ x. absurd (omega (arith, to-from j p.at k p.in_list, p.low))) (λ x. absurd (omega (arith, p.in_list))) high
    go false true e f = let p = place size in let k = ltb-true p.at j f in
        ⊎_elim (λ x. absurd (omega (arith, to-from p.at j k h))) (λ x. absurd (omega arith)) p.high
    go false false e f = omega (arith, ltb-false j (place size).at e, ltb-false (place size).at j f)

-- as a test: that row holds it
pub holds-there : (size : ℕ) → holds_size (row_at (place size).at) size ≡ true
holds-there size =
    let p = place size in
    let r = row_at p.at in
    rw (le-leb r.equatorward size p.low, last-at p.at p.in_list)
    (⊎_elim (λ h. rw (lt-ltb size r.poleward h)) (λ h. rw (eq-eqb p.at 8 (omega arith), or-true (ltb size r.poleward))) p.high)

-- and no other
pub holds-only : (size j : ℕ) → j < 9 → holds_size (row_at j) size ≡ true → j ≡ (place size).at
holds-only size j h e =
    let r = row_at j in
    let q = (and-eq-true_iff (leb r.equatorward size) (ltb size r.poleward || eqb r.poleward quarter)).0 e in
    only size j h (leb-true r.equatorward size q.0) (go (ltb size r.poleward) refl q.1)
  where
    go : (t : Bool) → ltb size (row_at j).poleward ≡ t → t || eqb (row_at j).poleward quarter ≡ true → (size < (row_at j).poleward) ⊎ (j ≡ 8)
    go true k w = inl (ltb-true size (row_at j).poleward k)
    go false k w = inr (eqb-true j 8 (sym (last-at j h) ∙ w))

-- a row no farther than that place which does not hold the size is before it
pub before-place : (size j : ℕ) → j ≤ (place size).at → holds_size (row_at j) size ≡ false → j < (place size).at
before-place size j h e = go (ltb j (place size).at) refl
  where
    go : (t : Bool) → ltb j (place size).at ≡ t → j < (place size).at
    go true k = ltb-true j (place size).at k
    go false k =
        let s : j ≡ (place size).at = omega (arith, ltb-false j (place size).at k) in
        absurd (false≢true (sym e ∙ ap (λ (n : ℕ). holds_size (row_at n) size) s ∙ holds-there size))

-- six rows on, the limits are at least 18° apart
six : (i : ℕ) → i < 3 → (row_at i).poleward + 6480000 ≤ (row_at (i + 6)).equatorward
six zero h = lit≤ tt
six (suc zero) h = lit≤ tt
six (suc (suc zero)) h = lit≤ tt
six (suc (suc (suc i))) h = absurd (omega arith)

pub six-apart : (i j : ℕ) → i + 6 ≤ j → j < 9 → (row_at i).poleward + 6480000 ≤ (row_at j).equatorward
six-apart i j h k = go (eqb (i + 6) j) refl
  where
    go : (t : Bool) → eqb (i + 6) j ≡ t → (row_at i).poleward + 6480000 ≤ (row_at j).equatorward
    go true e =
        let f : (row_at (i + 6)).equatorward ≡ (row_at j).equatorward = ap (λ (n : ℕ). (row_at n).equatorward) (eqb-true (i + 6) j e) in
        omega (arith, six i (omega arith))
    go false e =
        omega (arith, six i (omega arith), to-from (i + 6) j (omega (arith, eqb-false (i + 6) j e)) k, from-to (i + 6) (omega arith))

-- a row below the one that starts no farther than the size is not polar, and ends before it
module _ (b first i size : ℕ) (g : Rowed b first i size) (j : ℕ) (h : j < i) where
  pub ends : (row_at j).poleward ≤ size
  ends = omega (arith, to-from j i h g.in_table, g.low)

  pub reaches-is : reaches b (row_at j) size ≡ ltb ((size - (row_at j).poleward) * b) (1024 * circle)
  reaches-is = rw (le-ltb size (row_at j).poleward ends, polar-at j (omega (arith, g.in_table)), ne_eqb j 8 (λ e. omega (arith, g.in_table)))

  -- where it reaches the size, fewer than six rows lie between
  pub near-enough : reaches b (row_at j) size ≡ true → i < j + 6
  near-enough t = go (ltb i (j + 6)) refl
    where
      l : (size - (row_at j).poleward) * b < 1024 * circle
      l = ltb-true ((size - (row_at j).poleward) * b) (1024 * circle) (sym reaches-is ∙ t)

      go : (x : Bool) → ltb i (j + 6) ≡ x → i < j + 6
      go true e = ltb-true i (j + 6) e
      go false e =
          absurd
          (omega (arith, l, six-apart j i (ltb-false i (j + 6) e) g.in_table, g.low, mul-le-mul_left (size - (row_at j).poleward) g.rows.least))

-- where a row does not reach the size, none farther from it does
pub fades : (b first i size : ℕ) → Rowed b first i size → (j : ℕ) → j < i → reaches b (row_at j) size ≡ false
    → (n : ℕ) → n ≤ j + 1 → those (λ zone. reaches b (row_at (zone - first)) size) (down_from first n) ≡ []
fades b first i size g j h t zero k = refl
fades b first i size g j h t (suc n) k =
    let e : first + n - first ≡ n = omega arith in
    let far : (size - (row_at j).poleward) * b ≤ (size - (row_at n).poleward) * b =
    mul-le-mul_right b (go (eqb n j) refl) in
    let u : reaches b (row_at n) size ≡ false =
    reaches-is b first i size g n (omega arith) ∙ le-ltb ((size - (row_at n).poleward) * b) (1024 * circle)
    (omega (arith, ltb-false ((size - (row_at j).poleward) * b) (1024 * circle) (sym (reaches-is b first i size g j h) ∙ t))) in
    rw (e, u) (fades b first i size g j h t n (omega arith))
  where
    go : (x : Bool) → eqb n j ≡ x → size - (row_at j).poleward ≤ size - (row_at n).poleward
    go true e = let f : (row_at n).poleward ≡ (row_at j).poleward = ap (λ (m : ℕ). (row_at m).poleward) (eqb-true n j e) in omega arith
    go false e = omega (arith, to-from n j (omega (arith, eqb-false n j e)) (omega (arith, g.in_table)), from-to j (omega (arith, g.in_table)))

-- whether the row of a zone reaches the size
abbrev pub within : ℕ → ℕ → ℕ → ℕ → Bool
within b first size zone = reaches b (row_at (zone - first)) size
