-- A list filled entry by entry, and its numbers one by one, from the reports of a question: what each turn of the loop leaves. Assumes nothing.
use mathlib.Core.Path.{◌≡◌, refl, sym, ap, ap₂, ◌∙◌}
use mathlib.Core.List.{List, [], ◌∷◌, ◌++◌, append_assoc}
use Prim.Native.Nat.{ℕ, zero, suc, ◌+◌, ◌*◌, ◌%◌, ◌≤◌, ◌<◌}
use native.Mathlib.Nat.{add-mul, zero-mul}
use native.Mathlib.Numerals.{add-one}
use native.Mathlib.Omega.{arith}
use mathlib.Core.Bool.{true, ◌&&◌, and-eq-true_iff}
use borrow.Author.Tests.{leb-true}
use lib.Dec.{leb, eqb}
use lib.ListN.{length, set, drop, length-append, length-drop}
use lib.Seq.{drop-cons, append_snoc, set-append_seam}
use lib.IntN.{ℤ, pos}
use Rattle.arc.specs.Refusals.{Report}
use Rattle.card_text.specs.declared.Fields.{Fields}
use Rattle.card.specs.declared.Pair.{Pair}
use Rattle.std.specs.Prelude.{Result, Ok, Err}
use Rattle.arc.specs.declared.refusal.Refusal.{Refusal}
use Rattle.card.specs.declared.Position.{Position}
use Rattle.card.specs.declared.Pixel.{Pixel}
use Rattle.whole.specs.Lists.{over, each}
use Rattle.card.specs.Grid.{position_of, pixel_of, position_report, pixel_report}
use Rattle.lists.specs.declared.Asked.{Asked}
use Rattle.lists.specs.Lists.{entries, lists_fit, asked_report, report_values, report_numbers}

module _ {A : Type 0} where
  pub length_over : (xs out : List A) → length xs ≤ length out → length (over xs out) ≡ length out
  length_over xs out h = length-append xs (drop (length xs) out) ∙ ap (λ (n : ℕ). length xs + n) (length-drop (length xs) out) ∙ omega arith

  pub length-each : (w n : ℕ) (f : ℕ → List A) → ((i : ℕ) → length (f i) ≡ w) → length (each n f) ≡ n * w
  length-each w zero f h = sym (zero-mul w)
  length-each w (suc n) f h = length-append (each n f) (f n) ∙ ap₂ ◌+◌ (length-each w n f h) (h n) ∙ omega (arith, add-mul n 1 w)

  -- one element more
  pub over-next : (xs out : List A) (j : ℕ) (a d : A) → j ≡ length xs → j < length out → set (over xs out) j a ≡ over (xs ++ a ∷ []) out
  over-next xs out j a d e h =
      let l : length (xs ++ a ∷ []) ≡ suc j = length-append xs (a ∷ []) ∙ omega arith in
      ap₂ (λ (s : List A) (n : ℕ). set s n a) (ap (λ (n : ℕ). xs ++ drop n out) (sym e) ∙ ap (λ (s : List A). xs ++ s) (drop-cons out j d h)) e
      ∙ set-append_seam xs _ (drop (suc j) out) a
      ∙ sym (append_snoc xs a (drop (suc j) out))
      ∙ ap (λ (n : ℕ). (xs ++ a ∷ []) ++ drop n out) (sym l)

-- ---- the lengths fit
pub room : (p o n : ℕ) → lists_fit p o n ≡ true → (p ≤ o) × (entries p ≤ n)
room p o n e =
    let t = (and-eq-true_iff (eqb (p % 2) 0 && leb p o) (leb (entries p) n)).0 e in
    (leb-true p o ((and-eq-true_iff (eqb (p % 2) 0) (leb p o)).0 t.0).1, leb-true (entries p) n t.1)

-- ---- one report more
module _ (f : ℕ → Report) where
  pub values_length : ((i : ℕ) → length (f i).values ≡ 2) → (i : ℕ) → length (report_values i f) ≡ i * 2
  values_length two i = length-each 2 i (λ (j : ℕ). (f j).values) two

  pub numbers-length : (i : ℕ) → length (report_numbers i f) ≡ i * 1
  numbers-length i = length-each 1 i (λ (j : ℕ). (f j).number ∷ []) (λ j. refl)

  -- its values
  pub values-next : ((i : ℕ) → length (f i).values ≡ 2) → (out : List ℤ) {now : List ℤ} (i : ℕ) → now ≡ over (report_values i f) out → 2 * i + 1 < length out
      → (x y : ℤ) → (f i).values ≡ x ∷ y ∷ []
      → set (set now (2 * i) x) (2 * i + 1) y ≡ over (report_values (i + 1) f) out
  values-next two out {now} i t h x y ev =
      let vs : List ℤ = report_values i f in
      let first : set (over vs out) (2 * i) x ≡ over (vs ++ x ∷ []) out =
      over-next vs out (2 * i) x (pos 0) (omega (arith, values_length two i)) (omega arith) in
      let second : set (over (vs ++ x ∷ []) out) (2 * i + 1) y ≡ over ((vs ++ x ∷ []) ++ y ∷ []) out =
      over-next (vs ++ x ∷ []) out (2 * i + 1) y (pos 0) (omega (arith, values_length two i, length-append vs (x ∷ []))) (omega arith) in
      ap (λ (s : List ℤ). set (set s (2 * i) x) (2 * i + 1) y) t
      ∙ ap (λ (s : List ℤ). set s (2 * i + 1) y) first
      ∙ second
      ∙ ap (λ (s : List ℤ). over s out)
      (append_assoc vs (x ∷ []) (y ∷ []) ∙ ap (λ (s : List ℤ). vs ++ s) (sym ev) ∙ ap (λ (k : ℕ). report_values k f) (sym (add-one i)))

  pub numbers-next : (num : List ℕ) {nums : List ℕ} (i : ℕ) → nums ≡ over (report_numbers i f) num → i < length num → (z : ℕ) → (f i).number ≡ z
      → set nums i z ≡ over (report_numbers (i + 1) f) num
  numbers-next num i t h z en =
      ap (λ (s : List ℕ). set s i z) t
      ∙ over-next (report_numbers i f) num i z 0 (omega (arith, numbers-length i)) h
      ∙ ap (λ (s : List ℕ). over s num)
      (ap (λ (k : ℕ). report_numbers i f ++ k ∷ []) (sym en) ∙ ap (λ (k : ℕ). report_numbers k f) (sym (add-one i)))

-- ---- two value parts, in a refusal too
position-values : (a : Result Position Refusal) → length (position_report a).values ≡ 2
position-values (Ok x) = refl
position-values (Err r) = refl

pixel-values : (a : Result Pixel Refusal) → length (pixel_report a).values ≡ 2
pixel-values (Ok x) = refl
pixel-values (Err r) = refl

pub report-values : (p : Pair) (asked : Asked) (k : Fields) (u v : ℤ) → length (asked_report p asked k u v).values ≡ 2
report-values p Asked.Positions k u v = position-values (position_of p k u v)
report-values p Asked.Pixels k u v = pixel-values (pixel_of p k u v)
