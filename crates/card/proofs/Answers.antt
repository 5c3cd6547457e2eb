-- What a method's callees answered, as the machine reads it back: a number that fits is itself. Assumes nothing.
use Rattle.std.specs.Prelude.{if◌then◌else◌, Result, Ok, Err}
use Rattle.card_text.specs.Layout.{Judged}
use mathlib.Core.Path.{◌≡◌, refl, sym, ap, ap₂, ◌∙◌}
use mathlib.Core.Bool.{Bool, true, false, not}
use Prim.Native.Nat.{ℕ, ◌<◌, ◌≤◌, ◌^◌}
use native.Mathlib.Omega.{arith}
use lib.Dec.{T}
use lib.IntN.{ℤ, pos, nat_abs}
use lib.Signed.{non_neg}
use mir.Syntax.{w64}
use mir.Val.{SFits, Fits, to_z, of_z}
use mir.ValLaws.{to_z-of_z}
use Rattle.whole.proofs.Machine.{casts}
use Rattle.arc.specs.declared.refusal.Refusal.{Refusal}
use Rattle.whole.specs.Results.{◌>>=◌}
use Rattle.card_text.specs.declared.Fields.{Fields}
use Rattle.card.specs.Grid.{in_tiles, in_chart, verdict_of}
use Rattle.card.proofs.Regions.{Within, PixelInside, tiles-inside}

-- a pixel that is accepted passed both tests
pub accepted-in : (k : Fields) (r c : ℤ) → verdict_of k r c ≡ Ok tt → (in_tiles k r c ≡ true) × (in_chart k r c ≡ true)
accepted-in k r c = go (in_tiles k r c) (in_chart k r c)
  where
    go : (i j : Bool) → ◌≡◌ {A = Judged} (if not i then Err Refusal.OutsideTiles else (if not j then Err Refusal.Padding else Ok tt)) (Ok tt)
        → (i ≡ true) × (j ≡ true)
    go true true e = (refl, refl)
    go true false e = let y : ◌≡◌ {A = ℕ} 0 1 = cc in absurd (omega arith)
    go false j e = let y : ◌≡◌ {A = ℕ} 0 1 = cc in absurd (omega arith)

-- a question put to a pair of numbers as the machine holds them
pub pair-asked : {A : Type 0} (f : ℤ → ℤ → A) {u v : ℤ} → SFits w64 u → SFits w64 v → f (to_z w64 (of_z w64 u)) (to_z w64 (of_z w64 v)) ≡ f u v
pair-asked f {u} {v} fu fv = ap₂ f (to_z-of_z w64 u fu) (to_z-of_z w64 v fv)

-- ---- a pixel's verdict, asked of what the machine holds
module _ (k : Fields) (r c : ℤ) (f : SFits w64 r) (g : SFits w64 c) {v : Judged} (e : v ≡ verdict_of k (to_z w64 (of_z w64 r)) (to_z w64 (of_z w64 c))) where
  plain-verdict : v ≡ verdict_of k r c
  plain-verdict = e ∙ pair-asked (verdict_of k) f g

  -- a question that asks the same of the pixel has the same refusal
  pub judged-refused : {A : Type 0} (x : Result A Refusal) {n : Refusal} → v ≡ Err n → Err n ≡ verdict_of k r c >>= (λ _. x)
  judged-refused x o = rw (sym plain-verdict ∙ o)

  pub judged-accepted : v ≡ Ok tt → (in_tiles k r c ≡ true) × (in_chart k r c ≡ true)
  judged-accepted o = accepted-in k r c (sym plain-verdict ∙ o)

  -- or has its answer, and the pixel is one of the tiles
  pub judged-answered : {A : Type 0} (x : Result A Refusal) → v ≡ Ok tt → x ≡ verdict_of k r c >>= (λ _. x)
  judged-answered x o = rw (sym plain-verdict ∙ o)

  pub judged-inside : v ≡ Ok tt → PixelInside k r c
  judged-inside o = tiles-inside k r c (judged-accepted o).0

-- a test of two numbers, likewise
pub tested : (P : ℤ → ℤ → Bool) (r c : ℤ) → SFits w64 r → SFits w64 c → {x t : Bool}
    → x ≡ P (to_z w64 (of_z w64 r)) (to_z w64 (of_z w64 c)) → x ≡ t → P r c ≡ t
tested P r c f g e h = sym (pair-asked P f g) ∙ sym e ∙ h

-- a number that is a natural below n, cast to an unsigned one
module _ (n : ℕ) (z : ℤ) (f : SFits w64 z) (i : Within 0 n z) where
  plain : to_z w64 (of_z w64 z) ≡ pos i.at
  plain = to_z-of_z w64 z f ∙ i.same

  pub cast_fits : n ≤ 2 ^ 63 → T (non_neg (to_z w64 (of_z w64 z))) × Fits w64 (nat_abs (to_z w64 (of_z w64 z)))
  cast_fits h = casts i.at plain (omega (arith, i.below))

  pub cast-below : nat_abs (to_z w64 (of_z w64 z)) < n
  cast-below = let e : nat_abs (to_z w64 (of_z w64 z)) ≡ i.at = ap nat_abs plain in omega (arith, i.below)

  pub cast_same : pos (nat_abs (to_z w64 (of_z w64 z))) ≡ z
  cast_same = ap (λ (y : ℤ). pos (nat_abs y)) plain ∙ sym i.same
