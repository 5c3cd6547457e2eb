-- A text put at the front of the buffer, with its length, is what an opening prints. Assumes nothing.
use Rattle.std.proofs.Common.{◌≡◌, ℕ, ◌+◌, ◌≤◌, ◌<◌, List, length, ◌∙◌, arith, lt-ltb, le-ltb, le-leb, Some}
use borrow.Author.Tests.{lt-leb}
use Rattle.text.specs.Steps.{Put}
use Rattle.text.proofs.Splices.{front_length, front-left, put_if}
use Rattle.text.specs.Buffer.{end_of, put_at}
use Rattle.printing.specs.Lines.{numbers_of}
use Rattle.printing.specs.Printed.{bad_line, too_long}
use Rattle.printing.specs.Run.{line_at, next_at, closed, opened_card, opening_of}
use Rattle.printing.specs.Steps.{opening_for, opening_text, opening_left, stopped, Opens}
use Rattle.card.specs.declared.Reading.{Reading}
use Rattle.printing.specs.declared.OpeningText.{OpeningText}

module _ {x s t : List ℕ} {r : ℕ} (p : Put x 0 s t r) where
  -- nothing follows
  pub stops : (a : OpeningText) (end : ℕ) → a ≡ stopped r end → Opens (closed x end) s t a
  stops a end e = record { answer = e ∙ rw (front_length p); left = front-left p }

  -- lines follow
  pub follows : (k : Reading) (n : ℕ)
      → Opens (record { text = x; next = n; read = Some k }) s t (record { length = r; next = n; read = Some k })
  follows k n = record { answer = rw (front_length p); left = front-left p }

pub stops-with : (x s : List ℕ) (end : ℕ) {t : List ℕ} {r : ℕ} {a : OpeningText} → r ≡ end_of x 0 s → t ≡ put_at x 0 s → length x ≤ length s
    → a ≡ stopped r end → Opens (closed x end) s t a
stops-with x s end e f h g = stops (put_if (e, f) (omega arith)) _ end g

-- ---- the tests of an opening

pub opened-long : (s : List ℕ) → 65536 < length s → closed too_long (length s) ≡ opening_of s
unfolding opening_of
opened-long s h = rw (lt-ltb 65536 (length s) h)

-- f is the first line
module _ (s f : List ℕ) (first : f ≡ line_at s 0) (small : length s ≤ 65536) where
  second-starts : length f + 1 ≡ next_at s 0
  second-starts = rw first (omega arith)

  pub opened-bad : length s ≤ length f + 1 → closed bad_line (length s) ≡ opening_of s
  unfolding opening_of
  opened-bad h = rw (le-ltb 65536 (length s) small, le-leb (length s) (next_at s 0) (omega (arith, second-starts)))

  pub opened-two : (g : List ℕ) → length f + 1 < length s → g ≡ line_at s (length f + 1)
      → opened_card (numbers_of f) g (length f + 1 + length g + 1) (length s) ≡ opening_of s
  unfolding opening_of
  opened-two g h second =
      rw (
        second,
        second-starts,
        first,
        le-ltb 65536 (length s) small,
        lt-leb (length s) (next_at s 0) (omega (arith, second-starts)),
      )

-- a buffer that is too short is left as it was
module _ (s out : List ℕ) where
  pub none_opened : length out < 64 → {r : OpeningText} → r ≡ stopped 0 (length s) → r ≡ opening_text (opening_for s out)
  unfolding opening_for
  none_opened h e = rw (lt-leb 64 (length out) h) e

  pub none_left : length out < 64 → out ≡ opening_left s out
  unfolding opening_for
  none_left h = rw (lt-leb 64 (length out) h)

  module _ (h : 64 ≤ length out) {t : List ℕ} {r : OpeningText} (o : Opens (opening_of s) out t r) where
    pub whole-opened : r ≡ opening_text (opening_for s out)
    unfolding opening_for
    whole-opened = rw (le-leb 64 (length out) h) o.answer

    pub whole-left : t ≡ opening_left s out
    unfolding opening_for
    whole-left = rw (le-leb 64 (length out) h) o.left

pub ruleset opens = (none_opened, none_left)
