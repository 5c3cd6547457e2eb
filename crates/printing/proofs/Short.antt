-- Every text that is printed at once fits 64 bytes, and lines follow only in an input that is taken. Assumes nothing.
use mathlib.Core.Path.{◌≡◌, refl}
use Prim.Native.Nat.{ℕ, ◌≤◌, ◌<◌}
use native.Mathlib.Omega.{arith}
use mathlib.Core.Bool.{Bool, true, false, cond}
use mathlib.Core.List.{List, [], ◌++◌}
use Rattle.std.proofs.Common.{Option, Some, None, Result, Ok, Err}
use Rattle.std.specs.Prelude.{nat_le, nat_lt}
use lib.Dec.{leb, ltb}
use lib.ListN.{length, length-append}
use borrow.Author.Tests.{ltb-false}
use Rattle.arc.specs.declared.refusal.Refusal.{Refusal}
use Rattle.arc.specs.Scales.{chart_series}
use Rattle.text.specs.Text.{bytes, decimal}
use Rattle.card_text.specs.declared.Fields.{Fields}
use Rattle.card.specs.declared.Position.{Position}
use Rattle.card.specs.Read.{card_read}
use Rattle.arc.specs.Refusals.{refusal_number, refusal_place}
use Rattle.printing.specs.Lines.{numbers_of}
use Rattle.printing.specs.declared.parse.TwoNumbers.{TwoNumbers}
use Rattle.card.specs.declared.Reading.{Reading}
use Rattle.printing.specs.Printed.{bad_line, too_long, answer_text, pixel_text, line_out, line_for, refusal_text}
use Rattle.printing.specs.Run.{line_at, next_at, Opened, closed, opened_with, opened_card, opening_of}
use Rattle.printing.specs.Steps.{opening_for, opening_text, served, text_at, line_text}
use Rattle.printing.specs.declared.OpeningText.{OpeningText}
use Rattle.printing.specs.declared.LineText.{LineText}
use Rattle.text.proofs.Numbers.{decimal-short, decimal-most}
use Rattle.text.proofs.Angles.{length-angle}
use Rattle.text.proofs.Splices.{PutIf, put_if, put_then}
use Rattle.text.specs.Buffer.{end_of, put_at}
use Rattle.text.specs.Steps.{Put}
use Rattle.printing.proofs.Pairs.{pair-below}

-- a text that was put if it fits
pub put : {x s t : List ℕ} {o r : ℕ} → r ≡ end_of x o s → t ≡ put_at x o s → PutIf x o s t r
put e f = put_if (e, f)

pub answer-short : (a : Result Position Refusal) → length (answer_text a) ≤ 29
answer-short (Ok p) = simp (length-append, length-angle) (omega arith)
answer-short (Err e) = simp length-append (omega (arith, decimal-most (refusal_number e)))

-- row and column
pub lead-short : (row column : ℕ) → row < 10000000000 → column < 10000000000 → length (decimal row ++ bytes " " ++ decimal column ++ bytes " ") ≤ 22
lead-short row column h l =
    let x = decimal-short row 10 (omega arith) (omega arith) h in
    let y = decimal-short column 10 (omega arith) (omega arith) l in
    simp length-append (omega arith)

-- row, column and the answer
pixel-short : (row column : ℕ) → row < 10000000000 → column < 10000000000 → (a : Result Position Refusal) → length (pixel_text row column a) ≤ 64
pixel-short row column h l a =
    let lead = decimal row ++ bytes " " ++ decimal column ++ bytes " " in
    omega (arith, length-append lead (answer_text a), lead-short row column h l, answer-short a)

-- row and column, put one after the other
pub lead-put : (row column : ℕ) {s t u v w : List ℕ} {q p o r : ℕ} → row < 10000000000 → column < 10000000000 → 22 ≤ length s
    → PutIf (decimal row) 0 s t q → PutIf (bytes " ") q t u p → PutIf (decimal column) p u v o → PutIf (bytes " ") o v w r
    → Put (decimal row ++ bytes " " ++ decimal column ++ bytes " ") 0 s w r
lead-put row column h l m a b c d = put_then (put_then (put_then a b) c) d (omega (arith, lead-short row column h l))

pub refusal-short : (e : Refusal) → length (refusal_text e) ≤ 64
refusal-short e = simp length-append (omega (arith, decimal-most (refusal_number e), decimal-most (refusal_place e)))

pub line-short : (k : Fields) (l : List ℕ) → length (line_for k l) ≤ 64
unfolding line_for
line-short k l = split (numbers_of l) refl
  where
    split : (o : Option TwoNumbers) → numbers_of l ≡ o → length (line_out k o) ≤ 64
    split (Some p) e =
        let b = pair-below l p e in
        pixel-short p.left p.right (omega (arith, b.0)) (omega (arith, b.1)) _
    split None e = omega arith

-- what `pixel_line` puts
pub text-short : (k : Fields) (s : List ℕ) (at : ℕ) (out : List ℕ) → length (text_at k s at out) ≤ 64
unfolding text_at
text-short k s at out = split (served s at out)
  where
    split : (t : Bool) → length (cond t (line_for k (line_at s at)) []) ≤ 64
    split true = line-short k (line_at s at)
    split false = omega arith

-- ---- what `opening` puts

pub record Opening (s : List ℕ) (o : Opened) : Type 0 where
  pub short : length o.text ≤ 64
  pub taken : {r : Reading} → o.read ≡ Some r → length s ≤ 65536

shut : (s x : List ℕ) → length x ≤ 64 → Opening s (closed x (length s))
shut s x h = record { short = h; taken = λ e. absurd cc }

with-card : (s : List ℕ) → length s ≤ 65536 → (o : Option TwoNumbers) (card : List ℕ) (next : ℕ) → Opening s (opened_card o card next (length s))
with-card s h None card next = shut s bad_line (omega arith)
with-card s h (Some p) card next = opened (card_read (chart_series p.left p.right) card)
  where
    opened : (x : Result Reading Refusal) → Opening s (opened_with x next (length s))
    opened (Ok r) = record { short = omega arith; taken = λ m. h }
    opened (Err e) = shut s (refusal_text e) (refusal-short e)

pub openings : (s out : List ℕ) → Opening s (opening_for s out)
unfolding opening_for opening_of
openings s out = split (nat_le 64 (length out)) (nat_lt 65536 (length s)) (nat_le (length s) (next_at s 0)) refl
  where
    rest : Opened
    rest = opened_card (numbers_of (line_at s 0)) (line_at s (next_at s 0)) (next_at s (next_at s 0)) (length s)

    split : (t u v : Bool) → nat_lt 65536 (length s) ≡ u
        → Opening s (cond t (cond u (closed too_long (length s)) (cond v (closed bad_line (length s)) rest)) (closed [] (length s)))
    split true true v e = shut s too_long (omega arith)
    split true false true e = shut s bad_line (omega arith)
    split true false false e = with-card s (ltb-false 65536 (length s) e) (numbers_of (line_at s 0)) (line_at s (next_at s 0)) (next_at s (next_at s 0))
    split false u v e = shut s [] (omega arith)

-- ---- for a caller

pub line_fits : (k : Fields) (s : List ℕ) (at : ℕ) (out : List ℕ) {r : LineText} → r ≡ line_text k s at out → r.length ≤ 64
unfolding line_text
line_fits k s at out e = rw e (text-short k s at out)

module _ (s out : List ℕ) {r : OpeningText} (e : r ≡ opening_text (opening_for s out)) where
  pub opening_fits : r.length ≤ 64
  opening_fits = rw e (openings s out).short

  pub opening_taken : {k : Reading} → r.read ≡ Some k → length s ≤ 65536
  opening_taken m = (openings s out).taken (rw e at m)
