-- What a writer was given, put together, is all that is to be printed. Assumes nothing.
use Rattle.std.proofs.Common.{◌≡◌, ℕ, ◌≤◌, ◌<◌, List, [], ◌++◌, length, take, drop, refl, sym, ◌∙◌, append_assoc, append-nil, arith, take_at}
use Rattle.std.proofs.Common.{Option, Some, None, Result, Ok, Err, OnOk, le-ltb, lt-ltb, le-leb}
use borrow.Author.Tests.{lt-leb}
use Rattle.std.specs.Io.KnownBytes.{Appends}
use Rattle.std.proofs.KnownBytes.{Appends-nil, Appends-trans}
use Rattle.card_text.specs.declared.Fields.{Fields}
use Rattle.printing.specs.Lines.{lines_of}
use Rattle.printing.specs.Printed.{line_for, lines_for, printed}
use Rattle.printing.specs.Run.{line_at, opening_of, goes_on, lines_from}
use Rattle.printing.specs.Steps.{opening_for, opening_text, opening_left, text_at, line_text, line_left}
use Rattle.card.specs.declared.Reading.{Reading}
use Rattle.printing.specs.declared.OpeningText.{OpeningText}
use Rattle.printing.specs.declared.LineText.{LineText}
use Rattle.printing.proofs.Prints.{lines_at, lines_end, from-lines, run_prints}

-- of the whole, a text was written, and the rest is to come
pub record SoFar (old new : Option (List ℕ)) (whole rest : List ℕ) : Type 0 where
  pub text : List ℕ
  pub written : Appends old new text
  pub parts : text ++ rest ≡ whole

pub sofar-start : (o : Option (List ℕ)) (whole : List ℕ) → SoFar o o whole whole
sofar-start o whole = record { text = []; written = Appends-nil o; parts = refl }

pub sofar-next : (o p q : Option (List ℕ)) (whole rest x later : List ℕ) → SoFar o p whole rest → Appends p q x → rest ≡ x ++ later → SoFar o q whole later
sofar-next o p q whole rest x later s a e =
    record { text = s.text ++ x; written = Appends-trans o p q s.text x s.written a; parts = append_assoc s.text x later ∙ rw (← e) s.parts }

pub sofar-end : (o p : Option (List ℕ)) (whole rest : List ℕ) → SoFar o p whole rest → rest ≡ [] → Appends o p whole
sofar-end o p whole rest s e = let t : s.text ≡ whole = sym (append-nil s.text) ∙ (rw e at s.parts) in rw (← t) s.written

-- what holds on success
pub on-ok : {A E : Type 0} {P Q : Type 0} (r : Result A E) → OnOk r P → (P → Q) → OnOk r Q
on-ok (Ok a) p f = f p
on-ok (Err e) p f = tt

-- ---- the lines

pub none-left : (k : Fields) (s : List ℕ) (at : ℕ) → length s ≤ at → lines_for k (lines_of (drop at s)) ≡ []
none-left k s at h = rw (lines_end s at h)

-- a turn of the loop
pub line-turn : (k : Fields) (s : List ℕ) (at : ℕ) (out : List ℕ) → at < length s → length s ≤ 65536 → 64 ≤ length out → {r : LineText} {t : List ℕ}
    → r ≡ line_text k s at out → t ≡ line_left k s at out → lines_for k (lines_of (drop at s)) ≡ take r.length t ++ lines_for k (lines_of (drop r.next s))
unfolding text_at line_text goes_on
line-turn k s at out h l m e f =
    rw (e, f, lines_at s at h, lt-leb (length s) at h, le-ltb 65536 (length s) l, lt-ltb at (length s) h, le-leb (length s) 65536 l)
    (rw (le-leb 64 (length out) m, take_at (line_for k (line_at s at)) (drop (length (line_for k (line_at s at))) out) _ refl))

-- ---- the whole

module _ (s out : List ℕ) (room : 64 ≤ length out) {r : OpeningText} {t : List ℕ} (e : r ≡ opening_text (opening_for s out))
    (f : t ≡ opening_left s out) where
  front : take r.length t ≡ (opening_for s out).text
  front = rw (e, f) (take_at (opening_for s out).text (drop (length (opening_for s out).text) out) _ refl)

  is-whole : opening_for s out ≡ opening_of s
  unfolding opening_for
  is-whole = rw (le-leb 64 (length out) room)

  run : take r.length t ++ lines_from r.read s r.next ≡ printed s
  run = rw (front, e, is-whole) (run_prints s)

  pub whole-none : r.read ≡ None → take r.length t ≡ printed s
  whole-none m = sym (append-nil (take r.length t)) ∙ (rw m at run)

  pub whole-some : {k : Reading} → r.read ≡ Some k → take r.length t ++ lines_for k.card (lines_of (drop r.next s)) ≡ printed s
  whole-some {k} m = rw (← from-lines k.card s (length s) r.next (omega arith)) (rw m at run)
