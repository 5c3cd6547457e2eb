-- A text that is not empty is its first line and the text after it, so the loop's lines are the text's lines, one a turn.
-- Assumes nothing.
use mathlib.Core.Path.{◌≡◌, refl, ◌∙◌}
use Prim.Native.Nat.{ℕ, zero, suc, ◌+◌, ◌≤◌, ◌<◌}
use native.Mathlib.Numerals.{add-one}
use native.Mathlib.Omega.{arith}
use mathlib.Core.Bool.{Bool, true, false, cond}
use mathlib.Core.List.{List, [], ◌∷◌, ◌++◌, append-nil}
use Rattle.std.proofs.Common.{Option, Some, None, Result, Ok, Err}
use lib.Dec.{ltb, leb, eqb}
use lib.ListN.{length, drop, drop_of_length-le, length-drop}
use lib.Seq.{drop-drop}
use borrow.Author.Tests.{ltb-true, ltb-false, leb-true, leb-false}
use Rattle.arc.specs.declared.refusal.Refusal.{Refusal}
use Rattle.arc.specs.Scales.{chart_series}
use Rattle.card_text.specs.declared.Fields.{Fields}
use Rattle.card.specs.Read.{card_read}
use Rattle.card.specs.declared.Reading.{Reading}
use Rattle.printing.specs.Lines.{into_first, lines_of, numbers_of}
use Rattle.printing.specs.declared.parse.TwoNumbers.{TwoNumbers}
use Rattle.printing.specs.Printed.{bad_line, too_long, line_for, lines_for, refusal_text, card_out, with_card, run, printed}
use Rattle.printing.specs.Run.{first_line, line_at, next_at, Opened, closed, opened_with, opened_card, opening_of, from_on, run_from, RunPrints}

-- the first line and the lines after it
pub lines-first : (s : List ℕ) → 0 < length s → lines_of s ≡ first_line s ∷ lines_of (drop (length (first_line s) + 1) s)
unfolding lines_of
lines-first [] h = absurd (omega arith)
lines-first (b ∷ bs) h = rw add-one (split (eqb b 10) bs (lines-first bs))
  where
    split : (t : Bool) (bs : List ℕ) → (0 < length bs → lines_of bs ≡ first_line bs ∷ lines_of (drop (length (first_line bs) + 1) bs))
        → cond t ([] ∷ lines_of bs) (into_first b (lines_of bs))
        ≡ cond t [] (b ∷ first_line bs) ∷ lines_of (drop (length (cond t [] (b ∷ first_line bs))) bs)
    split true bs more = refl
    split false [] more = refl
    split false (x ∷ xs) more = rw (more (omega arith), add-one)

-- the same from an offset on
pub lines_at : (s : List ℕ) (at : ℕ) → at < length s → lines_of (drop at s) ≡ line_at s at ∷ lines_of (drop (next_at s at) s)
lines_at s at h =
    let n : ℕ = length (line_at s at) in
    let e : at + (n + 1) ≡ next_at s at = omega arith in
    lines-first (drop at s) (omega (arith, length-drop at s)) ∙ rw (drop-drop (n + 1) at s, e)

-- no lines from the end on
pub lines_end : (s : List ℕ) (at : ℕ) → length s ≤ at → lines_of (drop at s) ≡ []
unfolding lines_of
lines_end s at h = rw (drop_of_length-le s {i = at} h)

-- what the loop prints, with turns enough
pub from-lines : (k : Fields) (s : List ℕ) (n at : ℕ) → length s ≤ at + n → from_on k s at n ≡ lines_for k (lines_of (drop at s))
from-lines k s zero at h = rw (lines_end s at (omega arith))
from-lines k s (suc n) at h = turn (ltb at (length s)) refl (λ g. from-lines k s n (next_at s at) g)
  where
    turn : (t : Bool) → ltb at (length s) ≡ t
        → (length s ≤ next_at s at + n → from_on k s (next_at s at) n ≡ lines_for k (lines_of (drop (next_at s at) s)))
        → cond t (line_for k (line_at s at) ++ from_on k s (next_at s at) n) [] ≡ lines_for k (lines_of (drop at s))
    turn true e more = rw (lines_at s at (ltb-true at (length s) e), more (omega arith))
    turn false e more = rw (lines_end s at (ltb-false at (length s) e))

-- what is printed of a card, its lines being ls
opened-card : (o : Option TwoNumbers) (card : List ℕ) (next end : ℕ) (s : List ℕ) (ls : List (List ℕ))
    → ((k : Fields) → from_on k s next (length s) ≡ lines_for k ls) → run_from (opened_card o card next end) s ≡ with_card o card ls
opened-card None card next end s ls more = refl
opened-card (Some p) card next end s ls more = opened (card_read (chart_series p.left p.right) card)
  where
    opened : (x : Result Reading Refusal) → run_from (opened_with x next end) s ≡ card_out x ls
    opened (Ok r) = rw (more r.card)
    opened (Err e) = append-nil (refusal_text e)

-- no second line
no_second : (s : List ℕ) → length s ≤ next_at s 0 → bad_line ≡ run (lines_of s)
unfolding lines_of
no_second [] h = refl
no_second (b ∷ bs) h = rw (lines_at (b ∷ bs) 0 (omega arith), lines_end (b ∷ bs) (next_at (b ∷ bs) 0) h)

second : (s : List ℕ) → next_at s 0 < length s
    → run_from (opened_card (numbers_of (line_at s 0)) (line_at s (next_at s 0)) (next_at s (next_at s 0)) (length s)) s ≡ run (lines_of s)
second s h =
    rw (lines_at s 0 (omega arith), lines_at s (next_at s 0) h)
    (opened-card (numbers_of (line_at s 0)) (line_at s (next_at s 0)) (next_at s (next_at s 0)) (length s) s (lines_of (drop (next_at s (next_at s 0)) s))
    (λ k. from-lines k s (length s) (next_at s (next_at s 0)) (omega arith)))

pub run_prints : RunPrints
unfolding opening_of printed
run_prints s = limit (ltb 65536 (length s)) (leb (length s) (next_at s 0)) refl
  where
    rest : Opened
    rest = opened_card (numbers_of (line_at s 0)) (line_at s (next_at s 0)) (next_at s (next_at s 0)) (length s)

    limit : (t u : Bool) → leb (length s) (next_at s 0) ≡ u
        → run_from (cond t (closed too_long (length s)) (cond u (closed bad_line (length s)) rest)) s ≡ cond t too_long (run (lines_of s))
    limit true u e = refl
    limit false true e = no_second s (leb-true (length s) (next_at s 0) e)
    limit false false e = second s (leb-false (length s) (next_at s 0) e)
