-- A list in reading order: each stored entry is how many of the entries up to it are stored. Assumes nothing.
use Prim.Native.Nat.{ℕ, zero, suc, ◌+◌, ◌<◌}
use native.Mathlib.Omega.{arith}
use native.Mathlib.Numerals.{add-one}
use native.Mathlib.Decide.{ℕ_discrete}
use mathlib.Core.Path.{◌≡◌, refl, sym, ap, ap₂, ◌∙◌}
use mathlib.Core.Bool.{Bool, true, false, cond, ◌&&◌, and-eq-true_iff}
use mathlib.Core.List.{List, [], ◌∷◌}
use borrow.Author.Tests.{eqb-true, eq-eqb, ne_eqb}
use lib.Dec.{eqb}
use lib.ListN.{length, get_or, drop}
use lib.Seq.{drop-cons}
use Rattle.presence.specs.Presence.{present, counted}
use Rattle.convert.specs.Convert.{in_order, bit_of}
use Rattle.convert.proofs.Words.{bit-none, bit-some}

-- how many of the first n entries are not 0
abbrev pub non_zero : ℕ → List ℕ → ℕ
non_zero zero list = 0
non_zero (suc n) [] = 0
non_zero (suc n) (e ∷ es) = bit_of e + non_zero n es

pub non_zero-step : (n : ℕ) (list : List ℕ) → non_zero (suc n) list ≡ bit_of (get_or list n 0) + non_zero n list
non_zero-step zero [] = refl
non_zero-step zero (e ∷ es) = refl
non_zero-step (suc n) [] = refl
non_zero-step (suc n) (e ∷ es) = omega (arith, non_zero-step n es)

pub same_count : (words list : List ℕ) (n : ℕ) → ((t : ℕ) → t < n → present words t ≡ bit_of (get_or list t 0)) → counted words n ≡ non_zero n list
unfolding counted
same_count words list zero a = refl
same_count words list (suc n) a =
    ap₂ (λ (x y : ℕ). x + y) (a n (omega arith)) (same_count words list n (λ t h. a t (omega arith))) ∙ sym (non_zero-step n list)

-- after n stored ones
abbrev pub Ordered : ℕ → List ℕ → Type 0
Ordered n list = (t : ℕ) → t < length list → (get_or list t 0 ≡ 0 → ⊥) → get_or list t 0 ≡ n + non_zero (suc t) list

-- ---- one entry
module _ (n e : ℕ) (es : List ℕ) where
  pub order-none : e ≡ 0 → in_order n (e ∷ es) ≡ in_order n es
  unfolding in_order
  order-none z = rw (eq-eqb e 0 z)

  pub order-some : (e ≡ 0 → ⊥) → in_order n (e ∷ es) ≡ eqb e (n + 1) && in_order (n + 1) es
  unfolding in_order
  order-some d = go (eqb e 0) refl
    where
      go : (b : Bool) → eqb e 0 ≡ b → cond b (in_order n es) (eqb e (n + 1) && in_order (n + 1) es) ≡ eqb e (n + 1) && in_order (n + 1) es
      go true f = absurd (d (eqb-true e 0 f))
      go false f = refl

  -- in its place, or not
  pub order-right : (e ≡ 0 → ⊥) → e ≡ n + 1 → in_order n (e ∷ es) ≡ in_order (n + 1) es
  order-right d s = order-some d ∙ ap (λ (b : Bool). b && in_order (n + 1) es) (eq-eqb e (n + 1) s)

  pub order-stop : (e ≡ 0 → ⊥) → (e ≡ n + 1 → ⊥) → in_order n (e ∷ es) ≡ false
  order-stop d s = order-some d ∙ ap (λ (b : Bool). b && in_order (n + 1) es) (ne_eqb e (n + 1) s)

-- the first of what is left
pub order-next : (n i : ℕ) (list : List ℕ) → i < length list → in_order n (drop i list) ≡ in_order n (get_or list i 0 ∷ drop (i + 1) list)
order-next n i list h =
    ap (in_order n) (drop-cons list i 0 h) ∙ ap (λ (x : ℕ). in_order n (get_or list i 0 ∷ drop x list)) (sym (add-one i))

-- ---- the whole list
pub order-ordered : (n : ℕ) (list : List ℕ) → in_order n list ≡ true → Ordered n list
order-ordered n [] h t l d = absurd (omega arith)
order-ordered n (e ∷ es) h t l d = go (ℕ_discrete e 0) (order-ordered n es) (order-ordered (n + 1) es) t l d
  where
    go : Dec (e ≡ 0) → (in_order n es ≡ true → Ordered n es) → (in_order (n + 1) es ≡ true → Ordered (n + 1) es)
        → (x : ℕ) → x < length (e ∷ es) → (get_or (e ∷ es) x 0 ≡ 0 → ⊥) → get_or (e ∷ es) x 0 ≡ n + non_zero (suc x) (e ∷ es)
    go (yes z) f g zero l d = absurd (d z)
    go (yes z) f g (suc x) l d = let w = f (sym (order-none n e es z) ∙ h) x (omega arith) d in omega (arith, w, bit-none e z)
    go (no q) f g x l d = at x l d
        ((and-eq-true_iff (eqb e (n + 1)) (in_order (n + 1) es)).0 (sym (order-some n e es q) ∙ h))
      where
        at : (y : ℕ) → y < length (e ∷ es) → (get_or (e ∷ es) y 0 ≡ 0 → ⊥) → (eqb e (n + 1) ≡ true) × (in_order (n + 1) es ≡ true)
            → get_or (e ∷ es) y 0 ≡ n + non_zero (suc y) (e ∷ es)
        at zero l d p = omega (arith, eqb-true e (n + 1) p.0, bit-some e q)
        at (suc y) l d p = let w = g p.1 y (omega arith) d in omega (arith, w, bit-some e q)

pub ordered-order : (n : ℕ) (list : List ℕ) → Ordered n list → in_order n list ≡ true
unfolding in_order
ordered-order n [] o = refl
ordered-order n (e ∷ es) o = go (ℕ_discrete e 0) (ordered-order n es) (ordered-order (n + 1) es)
  where
    go : Dec (e ≡ 0) → (Ordered n es → in_order n es ≡ true) → (Ordered (n + 1) es → in_order (n + 1) es ≡ true) → in_order n (e ∷ es) ≡ true
    go (yes z) f g = order-none n e es z ∙ f (λ t l d. let w = o (suc t) (omega arith) d in omega (arith, w, bit-none e z))
    go (no q) f g =
        let first = o 0 (omega arith) q in
        order-some n e es q
        ∙ ap₂ (λ (a b : Bool). a && b) (eq-eqb e (n + 1) (omega (arith, first, bit-some e q)))
        (g (λ t l d. let w = o (suc t) (omega arith) d in omega (arith, w, bit-some e q)))
