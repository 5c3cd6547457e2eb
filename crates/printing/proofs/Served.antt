-- A line that is served is put whole, and the next one starts after its line feed; a run ends, and never goes back. Assumes nothing.
use mathlib.Core.Path.{◌≡◌, refl, ◌∙◌}
use Prim.Native.Nat.{ℕ, ◌+◌, ◌≤◌, ◌<◌}
use native.Mathlib.Omega.{arith}
use mathlib.Core.Bool.{Bool, true, false, cond, ◌&&◌, and-false}
use mathlib.Core.List.{List}
use lib.Dec.{leb, ltb}
use lib.ListN.{length}
use borrow.Author.Tests.{leb-false, le-leb, lt-leb, lt-ltb, le-ltb}
use Rattle.card_text.specs.declared.Fields.{Fields}
use Rattle.text.specs.Steps.{Put}
use Rattle.printing.specs.Printed.{line_for}
use Rattle.printing.specs.Run.{line_at, next_at, goes_on, RunEnds, NeverBack}
use Rattle.printing.specs.Steps.{text_at, line_text, line_left, no_line}
use Rattle.printing.specs.declared.LineText.{LineText}
use Rattle.text.proofs.Splices.{front_length, front-left}

module _ (k : Fields) (s : List ℕ) (at : ℕ) (out : List ℕ) where
  -- where nothing is put, a caller goes on at the offset or at the end of the input
  pub past_text : length s ≤ at → {a : LineText} → a ≡ no_line at → a ≡ line_text k s at out
  unfolding text_at line_text goes_on
  past_text h e = rw (le-leb (length s) at h, le-ltb at (length s) h, and-false (leb (length s) 65536)) e

  pub past_left : length s ≤ at → out ≡ line_left k s at out
  unfolding text_at
  past_left h = rw (le-ltb at (length s) h, and-false (leb (length s) 65536))

  pub long_text : at < length s → 65536 < length s → {a : LineText} → a ≡ no_line (length s) → a ≡ line_text k s at out
  unfolding text_at line_text goes_on
  long_text l h e = rw (lt-leb (length s) at l, lt-ltb 65536 (length s) h, lt-leb (length s) 65536 h) e

  pub long_left : 65536 < length s → out ≡ line_left k s at out
  unfolding text_at
  long_left h = rw (lt-leb (length s) 65536 h)

  pub again_text : at < length s → length s ≤ 65536 → length out < 64 → {a : LineText} → a ≡ no_line at → a ≡ line_text k s at out
  unfolding text_at line_text goes_on
  again_text l h m e =
      rw (
        lt-leb (length s) at l,
        le-ltb 65536 (length s) h,
        lt-leb 64 (length out) m,
        and-false (leb (length s) 65536 && ltb at (length s)),
      )
      e

  pub again_left : length out < 64 → out ≡ line_left k s at out
  unfolding text_at
  again_left m = rw (lt-leb 64 (length out) m, and-false (leb (length s) 65536 && ltb at (length s)))

  -- a line that is served
  module _ (h : at < length s) (m : length s ≤ 65536) (n : 64 ≤ length out) {l t : List ℕ} (e : l ≡ line_at s at) {r : ℕ} where
    pub served-text : Put (line_for k l) 0 out t r → record { length = r; next = at + length l + 1 } ≡ line_text k s at out
    unfolding text_at line_text goes_on
    served-text p =
        rw (front_length p, e, lt-leb (length s) at h, le-ltb 65536 (length s) m, lt-ltb at (length s) h, le-leb (length s) 65536 m)
        (rw (le-leb 64 (length out) n))

    pub served-left : Put (line_for k l) 0 out t r → t ≡ line_left k s at out
    unfolding text_at
    served-left p = front-left p ∙ rw (e, lt-ltb at (length s) h, le-leb (length s) 65536 m, le-leb 64 (length out) n)

pub ruleset line_serves = (past_text, past_left, long_text, long_left, again_text, again_left)

pub run_ends : RunEnds
unfolding goes_on
run_ends s at out l m = rw (lt-leb (length s) at l, le-leb 64 (length out) m) (go (ltb 65536 (length s)))
  where
    go : (t : Bool) → at < cond t (length s) (next_at s at)
    go true = l
    go false = omega arith

pub never_back : NeverBack
unfolding goes_on
never_back s at out = go (leb (length s) at) (ltb 65536 (length s)) (leb 64 (length out)) refl
  where
    go : (t u v : Bool) → leb (length s) at ≡ t → at ≤ cond t at (cond u (length s) (cond v (next_at s at) at))
    go true u v e = omega arith
    go false true v e = omega (arith, leb-false (length s) at e)
    go false false true e = omega arith
    go false false false e = omega arith

-- for a caller
pub next_further : (k : Fields) (s : List ℕ) (at : ℕ) (out : List ℕ) {r : LineText} → r ≡ line_text k s at out → at < length s → 64 ≤ length out
    → at < r.next
unfolding line_text
next_further k s at out e l m = rw e (run_ends s at out l m)

pub ruleset runs = (run_ends, never_back)
