-- The entries before the place i are good and marked, so the first bad entry is one of the rest. Assumes nothing.
use mathlib.Core.Path.{◌≡◌, refl, sym, ap, fun_ext, ◌∙◌}
use mathlib.Core.Bool.{Bool, true, false, cond, or-true}
use mathlib.Core.List.{List, [], ◌∷◌, ◌++◌}
use mathlib.Core.Option.{Option, some, none}
use Prim.Native.Nat.{ℕ, ◌+◌, ◌-◌, ◌<◌, ◌≤◌}
use native.Mathlib.Omega.{arith}
use native.Mathlib.Numerals.{add-one}
use borrow.Author.Tests.{lt-ltb, le-ltb, le-leb, lt-leb, ne_eqb}
use lib.Dec.{ltb}
use lib.ListN.{length, get_or, take, drop, set, length-drop, length-append, get_or-append}
use lib.Seq.{take-suc, take-length}
use Rattle.std.specs.Prelude.{Result, Ok, Err}
use Rattle.arc.specs.declared.refusal.Refusal.{Refusal}
use Rattle.whole.specs.Lists.{occurs, first_from, one_more}
use Rattle.tiles.specs.Check.{bad_at, first_bad, judged, before, mark_at, marked, marks_passed}
use Rattle.tiles.proofs.First.{first-hit, first_next, first-none}
use Rattle.tiles.proofs.Listed.{listed, listed-length, listed_at, listed-set}
use Rattle.tiles.proofs.Counted.{occurs-other, occurs-last, named-told, counted, counted_none, counted_same, counted-new, counted-le}

-- ---- bad entries
module _ (count : ℕ) (index : List ℕ) (i : ℕ) where
  pub bad-above : count < get_or index i 0 → bad_at count index i ≡ true
  bad-above h = rw (lt-ltb count (get_or index i 0) h)

  pub bad-again : (get_or index i 0 ≡ 0 → ⊥) → occurs (get_or index i 0) (take i index) ≡ true → bad_at count index i ≡ true
  bad-again d o = rw (ne_eqb (get_or index i 0) 0 d, o) (or-true (ltb count (get_or index i 0)))

  pub good_none : get_or index i 0 ≡ 0 → bad_at count index i ≡ false
  good_none e = rw (e, le-ltb count 0 (omega arith))

  pub good_new : get_or index i 0 ≤ count → (get_or index i 0 ≡ 0 → ⊥) → occurs (get_or index i 0) (take i index) ≡ false
      → bad_at count index i ≡ false
  good_new h d o = rw (le-ltb count (get_or index i 0) h, ne_eqb (get_or index i 0) 0 d, o)

-- ---- the marks
module _ (count : ℕ) (entries m : List ℕ) where
  pub marked-length : count ≤ length m → length (marked count entries m) ≡ length m
  marked-length h = simp (length-append, length-drop) (omega (arith, listed-length (mark_at entries) count))

  pub marked-at : (e : ℕ) → (e ≡ 0 → ⊥) → e ≤ count
      → get_or (marked count entries m) (e - 1) 0 ≡ cond (occurs e entries) 1 0
  marked-at e d h =
      let s : e - 1 + 1 ≡ e = omega arith in
      get_or-append (listed (mark_at entries) count) (drop count m) 0 (e - 1)
      (omega (arith, listed-length (mark_at entries) count))
      ∙ listed_at (mark_at entries) count (e - 1) (omega arith) ∙ ap (λ (x : ℕ). cond (occurs x entries) 1 0) s

  pub marked-none : marked count (entries ++ (0 ∷ [])) m ≡ marked count entries m
  marked-none = ap (λ (f : ℕ → ℕ). listed f count ++ drop count m)
      (fun_ext (λ j. ap (λ (b : Bool). cond b 1 0) (occurs-other (j + 1) 0 entries (λ e. omega arith))))

  pub marked-new : (e : ℕ) → (e ≡ 0 → ⊥) → e ≤ count
      → set (marked count entries m) (e - 1) 1 ≡ marked count (entries ++ (e ∷ [])) m
  marked-new e d h =
      ap (λ (b : Bool). set (marked count entries m) (e - 1) (cond b 1 0)) (sym (occurs-last (e - 1 + 1) e entries (omega arith)))
      ∙ listed-set (mark_at entries) (mark_at (entries ++ (e ∷ []))) count (e - 1) (drop count m) (omega arith)
      (λ j r. ap (λ (b : Bool). cond b 1 0) (sym (occurs-other (j + 1) e entries (λ z. r (omega arith)))))

-- Entry at a place
abbrev refused : ℕ → Result Unit Refusal
refused n = Err (Refusal.Entry n)

-- a mark and what it marks
mark-none : (b : Bool) → ◌≡◌ {A = ℕ} (cond b 1 0) 0 → b ≡ false
mark-none true e = absurd (omega arith)
mark-none false e = refl

mark-some : (b : Bool) → (◌≡◌ {A = ℕ} (cond b 1 0) 0 → ⊥) → b ≡ true
mark-some true d = refl
mark-some false d = absurd (d refl)

-- ---- before the entry at i
pub record Sofar (count : ℕ) (index m marks : List ℕ) (number i : ℕ) : Type 0 where
  pub inside : i ≤ length index
  pub ahead : first_bad count index ≡ first_from one_more (bad_at count index) i (length index - i)
  pub marks-are : marks ≡ marked count (take i index) m
  pub number_is : number ≡ counted (take i index) count

-- what is answered, and what the marks then hold
abbrev pub Ended : ℕ → List ℕ → List ℕ → List ℕ → Result Unit Refusal → Type 0
Ended count index m marks answer =
    (answer ≡ judged count index (first_bad count index)) × (marks ≡ marks_passed count index m)

pub begun : (count : ℕ) (index m : List ℕ) → m ≡ marked count [] m → Sofar count index m m 0 0
begun count index m e =
    let z : length index - 0 ≡ length index = omega arith in
    record { inside = omega arith; ahead = rw z; marks-are = e; number_is = sym (counted_none count) }

module _ (count : ℕ) (index m marks : List ℕ) (number i : ℕ) (w : Sofar count index m marks number i) where
  pub marks-length : count ≤ length m → length marks ≡ length m
  marks-length h = ap length w.marks-are ∙ marked-length count (take i index) m h

  pub number-le : number ≤ count
  number-le = omega (arith, w.number_is, counted-le (take i index) count)

  -- the mark of the entry
  seen : (e : ℕ) → (e ≡ 0 → ⊥) → e ≤ count → get_or marks (e - 1) 0 ≡ cond (occurs e (take i index)) 1 0
  seen e d h = ap (λ (l : List ℕ). get_or l (e - 1) 0) w.marks-are ∙ marked-at count (take i index) m e d h

  module _ (h : i < length index) where
    next : take (i + 1) index ≡ take i index ++ (get_or index i 0 ∷ [])
    next = ap (λ (n : ℕ). take n index) (add-one i) ∙ take-suc index i 0 h

    stopped : (a : Result Unit Refusal) → a ≡ refused i → bad_at count index i ≡ true
        → Ended count index m marks a
    stopped a e t =
        let f : first_bad count index ≡ some i = w.ahead ∙ first-hit (bad_at count index) i (length index) h t in (
          e ∙ ap (judged count index) (sym f),
          w.marks-are ∙ ap (λ (o : Option ℕ). marked count (before index o) m) (sym f),
        )

    passed : (l : List ℕ) (n : ℕ) → l ≡ marked count (take i index ++ (get_or index i 0 ∷ [])) m
        → n ≡ counted (take i index ++ (get_or index i 0 ∷ [])) count
        → bad_at count index i ≡ false → Sofar count index m l n (i + 1)
    passed l n p q t =
        record {
          inside = omega arith;
          ahead = w.ahead ∙ first_next (bad_at count index) i (length index) h t;
          marks-are = p ∙ ap (λ (s : List ℕ). marked count s m) (sym next);
          number_is = q ∙ ap (λ (s : List ℕ). counted s count) (sym next);
        }

    pub stop-above : (a : Result Unit Refusal) → a ≡ refused i → count < get_or index i 0
        → Ended count index m marks a
    stop-above a e p = stopped a e (bad-above count index i p)

    pub stop-again : (a : Result Unit Refusal) → a ≡ refused i → get_or index i 0 ≤ count
        → (get_or index i 0 ≡ 0 → ⊥) → (get_or marks (get_or index i 0 - 1) 0 ≡ 0 → ⊥) → Ended count index m marks a
    stop-again a e p d n = stopped a e (bad-again count index i d (mark-some _ (λ z. n (seen (get_or index i 0) d p ∙ z))))

    pub pass-none : get_or index i 0 ≡ 0 → Sofar count index m marks number (i + 1)
    pass-none e =
        passed marks number
        (w.marks-are ∙ sym (marked-none count (take i index) m)
        ∙ ap (λ (x : ℕ). marked count (take i index ++ (x ∷ [])) m) (sym e))
        (w.number_is ∙ sym (counted_same (take i index) (get_or index i 0) count (λ j q r. omega arith)))
        (good_none count index i e)

    pub pass-new : get_or index i 0 ≤ count → (get_or index i 0 ≡ 0 → ⊥) → get_or marks (get_or index i 0 - 1) 0 ≡ 0
        → Sofar count index m (set marks (get_or index i 0 - 1) 1) (number + 1) (i + 1)
    pass-new p d n =
        let o = mark-none _ (sym (seen (get_or index i 0) d p) ∙ n) in
        passed _ _
        (ap (λ (l : List ℕ). set l (get_or index i 0 - 1) 1) w.marks-are
        ∙ marked-new count (take i index) m (get_or index i 0) d p)
        (ap (λ (x : ℕ). x + 1) w.number_is
        ∙ sym (counted-new (take i index) (get_or index i 0) count (omega arith) p o))
        (good_new count index i p d o)

  module _ (h : length index ≤ i) where
    whole : take i index ≡ index
    whole = let e : i ≡ length index = omega (arith, w.inside) in ap (λ (n : ℕ). take n index) e ∙ take-length index

    done : (a : Result Unit Refusal) → a ≡ judged count index none → Ended count index m marks a
    done a e =
        let f : first_bad count index ≡ none = w.ahead ∙ first-none (bad_at count index) i (length index) h in (
          e ∙ ap (judged count index) (sym f),
          w.marks-are ∙ ap (λ (l : List ℕ). marked count l m) whole
              ∙ ap (λ (o : Option ℕ). marked count (before index o) m) (sym f),
        )

    told : number ≡ counted index count
    told = w.number_is ∙ ap (λ (l : List ℕ). counted l count) whole

    pub done-short : (a : Result Unit Refusal) → a ≡ refused (length index) → number < count → Ended count index m marks a
    done-short a e p =
        done a (e ∙ ap (λ (b : Bool). cond {A = Result Unit Refusal} b (Ok tt) (refused (length index)))
        (sym (named-told index count ∙ lt-leb count (counted index count) (omega (arith, told)))))

    pub done_all : count ≤ number → Ended count index m marks (Ok tt)
    done_all p = done (Ok tt)
        (ap (λ (b : Bool). cond {A = Result Unit Refusal} b (Ok tt) (refused (length index)))
        (sym (named-told index count ∙ le-leb count (counted index count) (omega (arith, told)))))
