-- What an entry says, and what passes the tests of lengths. Assumes nothing.
use mathlib.Core.Path.{◌≡◌, refl, subst}
use mathlib.Core.Bool.{Bool, true, false, cond, not, ◌||◌, true≢false}
use Prim.Native.Nat.{ℕ, ◌≤◌, ◌<◌}
use native.Mathlib.Omega.{arith}
use borrow.Author.Tests.{lt-ltb, le-ltb, eq-eqb, ne_eqb, ltb-true, ltb-false, eqb-true, eqb-false, not-false}
use lib.Dec.{ltb, eqb}
use Rattle.std.specs.Prelude.{Result, Ok}
use Rattle.arc.specs.declared.refusal.Refusal.{Refusal}
use Rattle.card_text.specs.declared.Fields.{Fields}
use Rattle.tiles.specs.declared.Source.{Source}
use Rattle.tiles.specs.declared.Said.{Said}
use Rattle.tiles.specs.Index.{tiles, unless_wrong, count_wrong, said}

-- neither of two tests
pub neither : (a b : Bool) → a || b ≡ false → (a ≡ false) × (b ≡ false)
neither true b e = absurd (true≢false e)
neither false b e = (refl, e)

-- what is not refused with 6
pub not-wrong : (b : Bool) (then : Result Unit Refusal) → unless_wrong b then ≡ Ok tt → (b ≡ false) × (then ≡ Ok tt)
not-wrong true then e = let z : ◌≡◌ {A = ℕ} 0 1 = cc in absurd (omega arith)
not-wrong false then e = (refl, e)

-- ---- what an entry says
module _ (source : Source) (count e : ℕ) where
  pub said-missing : e ≡ 0 → said source count e ≡ Said.Missing
  said-missing z = rw (eq-eqb e 0 z)

  pub said-above : (e ≡ 0 → ⊥) → count < e → said source count e ≡ Said.Above
  said-above d h = rw (ne_eqb e 0 d, lt-ltb count e h)

  pub said-stored : (e ≡ 0 → ⊥) → e ≤ count → said source count e ≡ Said.Stored (record { source = source; number = e })
  said-stored d h = rw (ne_eqb e 0 d, le-ltb count e h)

-- and what it is where that is said
abbrev pub EntryIs : Source → ℕ → ℕ → Said → Type 0
EntryIs source count e (Said.Stored s) = (s.source ≡ source) × (e ≡ s.number) × (1 ≤ s.number) × (s.number ≤ count)
EntryIs source count e Said.Missing = e ≡ 0
EntryIs source count e Said.Above = count < e

pub entry-is : (source : Source) (count e : ℕ) (v : Said) → said source count e ≡ v → EntryIs source count e v
entry-is source count e v h = subst (EntryIs source count e) h (go (eqb e 0) (ltb count e) refl refl)
  where
    go : (a b : Bool) → eqb e 0 ≡ a → ltb count e ≡ b
        → EntryIs source count e (cond a Said.Missing (cond b Said.Above (Said.Stored (record { source = source; number = e }))))
    go true b p q = eqb-true e 0 p
    go false true p q = ltb-true count e q
    go false false p q = let d = eqb-false e 0 p in (refl, refl, omega arith, ltb-false count e q)

-- ---- the count
pub count-few : (k : Fields) (count : ℕ) → count_wrong k count ≡ false → count ≤ tiles k
count-few k count = go k.tif
  where
    go : (b : Bool) → cond b (ltb (tiles k) count) (not (eqb count (tiles k))) ≡ false → count ≤ tiles k
    go true t = ltb-false (tiles k) count t
    go false t = omega (arith, eqb-true count (tiles k) (not-false _ t))
