-- What a walk that refuses nothing says of each subfield: its bytes are of the right kind, and their value is right. Assumes nothing.
use mathlib.Core.Path.{◌≡◌, refl}
use mathlib.Core.Bool.{Bool, true, false, ◌&&◌, and-eq-true_iff}
use mathlib.Core.List.{List, [], ◌∷◌}
use Prim.Native.Nat.{ℕ, zero, suc, ◌≤◌, ◌<◌}
use native.Mathlib.Omega.{arith}
use borrow.Author.Tests.{leb-true, ltb-true}
use lib.Dec.{leb, ltb}
use lib.ListN.{length, get_or}
use Rattle.std.specs.Prelude.{Ok, Err}
use Rattle.arc.specs.declared.refusal.Refusal.{Refusal}
use Rattle.card_text.specs.declared.Fill.{Fill}
use Rattle.card_text.specs.Layout.{Subfield, STR, layout, bytes_of, right_kind, right_value, Judged, judge, judge_field, or_else, walk}
use Rattle.card_text.specs.Write.{test}

-- ---- tests that are passed

pub between : (low n high : ℕ) → leb low n && leb n high ≡ true → (low ≤ n) × (n ≤ high)
between low n high e = let t = (and-eq-true_iff (leb low n) (leb n high)).0 e in (leb-true low n t.0, leb-true n high t.1)

pub within : (low n high : ℕ) → leb low n && ltb n high ≡ true → (low ≤ n) × (n < high)
within low n high e = let t = (and-eq-true_iff (leb low n) (ltb n high)).0 e in (leb-true low n t.0, ltb-true n high t.1)

pub or_else-both : (v w : Judged) → or_else v w ≡ Ok tt → (v ≡ Ok tt) × (w ≡ Ok tt)
or_else-both (Ok u) w e = (refl, e)
or_else-both (Err r) w e = let x : ◌≡◌ {A = ℕ} 0 1 = cc in absurd (omega arith)

pub or_else-accepted : (v : Judged) → or_else v (Ok tt) ≡ v
or_else-accepted (Ok u) = refl
or_else-accepted (Err r) = refl

pub or_else-assoc : (a b c : Judged) → or_else (or_else a b) c ≡ or_else a (or_else b c)
or_else-assoc (Ok u) b c = refl
or_else-assoc (Err r) b c = refl

-- one test of several, and the rest of them
pub tested : (ok : Bool) (r : Refusal) (w : Judged) → or_else (test ok r) w ≡ Ok tt → (ok ≡ true) × (w ≡ Ok tt)
tested true r w e = (refl, e)
tested false r w e = let x : ◌≡◌ {A = ℕ} 0 1 = cc in absurd (omega arith)

pub judge-both : (k v : Bool) (p : ℕ) → judge k v p ≡ Ok tt → (k ≡ true) × (v ≡ true)
judge-both true true p e = (refl, refl)
judge-both true false p e = let x : ◌≡◌ {A = ℕ} 0 1 = cc in absurd (omega arith)
judge-both false v p e = let x : ◌≡◌ {A = ℕ} 0 1 = cc in absurd (omega arith)

-- ---- the walk

abbrev pub RightIn : Fill → List ℕ → Subfield → Type 0
RightIn fill s f = (right_kind fill f.kind (bytes_of f s) ≡ true) × (right_value f.kind (bytes_of f s) ≡ true)

module _ (fill : Fill) (s : List ℕ) where
  right-at : (fs : List Subfield) → walk fill fs s ≡ Ok tt → (i : ℕ) → i < length fs → RightIn fill s (get_or fs i STR)
  unfolding judge_field
  right-at [] e i h = absurd (omega arith)
  right-at (f ∷ fs) e zero h =
      judge-both (right_kind fill f.kind (bytes_of f s)) (right_value f.kind (bytes_of f s)) f.at
      (or_else-both (judge_field fill f s) (walk fill fs s) e).0
  right-at (f ∷ fs) e (suc i) h = right-at fs (or_else-both (judge_field fill f s) (walk fill fs s) e).1 i (omega arith)

  pub right-in : walk fill layout s ≡ Ok tt → (i : ℕ) → i < 20 → RightIn fill s (get_or layout i STR)
  unfolding layout
  right-in e i h = right-at layout e i h
