-- Lists by their elements: f 0, f 1, .., f (n − 1). Assumes nothing.
use mathlib.Core.Path.{◌≡◌, refl, sym, ap, ◌∙◌}
use mathlib.Core.List.{List, [], ◌∷◌, ◌++◌, append_assoc, append-nil}
use Prim.Native.Nat.{ℕ, zero, suc, ◌+◌, ◌<◌, ◌≤◌}
use native.Mathlib.Omega.{arith}
use native.Mathlib.Numerals.{add-one}
use native.Mathlib.Decide.{ℕ_discrete}
use lib.ListN.{length, get_or, set, drop, replicate, length-append, length-set, length-drop, length-replicate, get_or-replicate, get_or-append}
use lib.Seq.{drop_at, drop-cons, drop-length, set_at, ext_get_or, get_or_at, get_or-set_same, get_or-set_other, set-append_left}
use Rattle.whole.specs.Lists.{each}

abbrev pub listed : (ℕ → ℕ) → ℕ → List ℕ
listed f n = each n (λ j. f j ∷ [])

pub listed-length : (f : ℕ → ℕ) (n : ℕ) → length (listed f n) ≡ n
listed-length f zero = refl
listed-length f (suc n) = omega (arith, length-append (listed f n) (f n ∷ []), listed-length f n)

pub listed_at : (f : ℕ → ℕ) (n j : ℕ) → j < n → get_or (listed f n) j 0 ≡ f j
listed_at f zero j h = absurd (omega arith)
listed_at f (suc n) j h = go (ℕ_discrete j n) (listed_at f n j)
  where
    go : Dec (j ≡ n) → (j < n → get_or (listed f n) j 0 ≡ f j) → get_or (listed f (suc n)) j 0 ≡ f j
    go (yes e) w = rw e (get_or_at (listed f n) (f n) [] 0 n (listed-length f n))
    go (no d) w = get_or-append (listed f n) (f n ∷ []) 0 j (omega (arith, listed-length f n)) ∙ w (omega arith)

-- a list with these elements
pub is-listed : (f : ℕ → ℕ) (n : ℕ) (l : List ℕ) → length l ≡ n → ((j : ℕ) → j < n → get_or l j 0 ≡ f j) → l ≡ listed f n
is-listed f n l e h =
    ext_get_or 0 l (listed f n) (e ∙ sym (listed-length f n)) (λ j q. h j (omega arith) ∙ sym (listed_at f n j (omega arith)))

-- one element changed
pub listed-set : (f g : ℕ → ℕ) (n i : ℕ) (rest : List ℕ) → i < n → ((j : ℕ) → (j ≡ i → ⊥) → f j ≡ g j)
    → set (listed f n ++ rest) i (g i) ≡ listed g n ++ rest
listed-set f g n i rest h s =
    set-append_left (listed f n) rest i (g i) (omega (arith, listed-length f n))
    ∙ ap (λ (l : List ℕ). l ++ rest)
    (is-listed g n (set (listed f n) i (g i)) (length-set (listed f n) i (g i) ∙ listed-length f n) (λ j q. same j q (ℕ_discrete j i)))
  where
    same : (j : ℕ) → j < n → Dec (j ≡ i) → get_or (set (listed f n) i (g i)) j 0 ≡ g j
    same j q (yes e) = rw e (get_or-set_same (listed f n) i (g i) 0 (omega (arith, listed-length f n)))
    same j q (no d) = get_or-set_other (listed f n) i j (g i) 0 d ∙ listed_at f n j q ∙ s j d

-- the first n filled with v
module _ (v n : ℕ) (m l : List ℕ) (h : n ≤ length m) (e : l ≡ replicate n v ++ drop n m) where
  pub filled-length : length l ≡ length m
  filled-length = ap length e ∙ simp (length-append, length-replicate, length-drop) (omega arith)

  pub filled-rest : drop n l ≡ drop n m
  filled-rest = ap (drop n) e ∙ drop_at (replicate n v) (drop n m) n (length-replicate n v)

  pub filled-listed : l ≡ listed (λ j. v) n ++ drop n l
  filled-listed = rw filled-rest (e ∙ ap (λ (s : List ℕ). s ++ drop n m)
      (is-listed (λ j. v) n (replicate n v) (length-replicate n v) (λ j q. get_or-replicate n j v 0 q)))

-- the first i written, one more, and all
pub listed_more : (f : ℕ → ℕ) (i v : ℕ) (d : List ℕ) → i < length d → v ≡ f i
    → set (listed f i ++ drop i d) i v ≡ listed f (i + 1) ++ drop (i + 1) d
listed_more f i v d h e =
    ap (λ (s : List ℕ). set (listed f i ++ s) i v) (drop-cons d i 0 h)
    ∙ set_at (listed f i) (get_or d i 0) (drop (suc i) d) v i (listed-length f i)
    ∙ ap (λ (x : ℕ). listed f i ++ (x ∷ drop (suc i) d)) e
    ∙ sym (append_assoc (listed f i) (f i ∷ []) (drop (suc i) d))
    ∙ ap (λ (n : ℕ). listed f n ++ drop n d) (sym (add-one i))

module _ (f : ℕ → ℕ) (i : ℕ) (d l : List ℕ) (h : i ≤ length d) (e : l ≡ listed f i ++ drop i d) where
  pub written-length : length l ≡ length d
  written-length = ap length e ∙ simp (length-append, length-drop) (omega (arith, listed-length f i))

  pub written_all : length d ≤ i → l ≡ listed f (length d)
  written_all g =
      let w : i ≡ length d = omega arith in
      e ∙ ap (λ (n : ℕ). listed f n ++ drop n d) w ∙ ap (λ (s : List ℕ). listed f (length d) ++ s) (drop-length d)
      ∙ append-nil (listed f (length d))
