-- The index check: Length, then Entry at the first bad entry. Definitions, and what they are held to.
--     bad_at count index i    the entry at i is above the count, or repeats one before it
--     first_bad count index   the first such entry's place
--     all_named count index   each number 1 .. count occurs
--     check_of ..             what `index_check` answers
--     marked count entries marks    the marks by these entries: mark k − 1 is 1 where k is among them
--     marks_of ..             what the marks then hold
use Rattle.std.specs.Prelude.{◌≡◌, ℕ, zero, suc, ◌+◌, ◌≤◌, ◌<◌, List, [], ◌∷◌, ◌++◌, Bool, true, false, cond, not, ◌&&◌, ◌||◌, ltb, eqb, length}
use Rattle.std.specs.Prelude.{get_or, take, drop, replicate, Result, Ok, Err}
use Rattle.std.proofs.Math.Option.{Option, some, none}
use Rattle.whole.specs.Lists.{occurs, each, first_from, one_more}
use Rattle.arc.specs.declared.refusal.Refusal.{Refusal}
use Rattle.card_text.specs.declared.Fields.{Fields}
use Rattle.tiles.specs.declared.Said.{Said}
use Rattle.tiles.specs.Index.{tiles, in_base, index_wrong, said_of}

-- 0 may repeat
abbrev pub bad_at : ℕ → List ℕ → ℕ → Bool
bad_at count index i =
    ltb count (get_or index i 0) || (not (eqb (get_or index i 0) 0) && occurs (get_or index i 0) (take i index))

abbrev pub first_bad : ℕ → List ℕ → Option ℕ
first_bad count index = first_from one_more (bad_at count index) 0 (length index)

-- 1 .. count, each among the entries
abbrev pub all_named : ℕ → List ℕ → Bool
all_named zero index = true
all_named (suc n) index = occurs (suc n) index && all_named n index

-- Entry at the first bad entry; at the index length where a tile is never named
abbrev pub judged : ℕ → List ℕ → Option ℕ → Result Unit Refusal
judged count index (some i) = Err (Refusal.Entry i)
judged count index none = cond (all_named count index) (Ok tt) (Err (Refusal.Entry (length index)))

-- with N every tile is stored in reading order
unfoldable pub check_of : Fields → List ℕ → ℕ → List ℕ → Result Unit Refusal
check_of k index count marks =
    cond (index_wrong k index count || ltb (length marks) count) (Err Refusal.Length)
    (cond k.tif (judged count index (first_bad count index)) (Ok tt))

-- the entries before the refused one, all where none is refused
abbrev pub before : List ℕ → Option ℕ → List ℕ
before index (some i) = take i index
before index none = index

-- mark j: 1 if j + 1 is among these entries, else 0
abbrev pub mark_at : List ℕ → ℕ → ℕ
mark_at entries j = cond (occurs (j + 1) entries) 1 0

-- for the numbers 1 .. count; marks beyond stay
abbrev pub marked : ℕ → List ℕ → List ℕ → List ℕ
marked count entries marks = each count (λ j. mark_at entries j ∷ []) ++ drop count marks

-- after the pass over the entries
abbrev pub marks_passed : ℕ → List ℕ → List ℕ → List ℕ
marks_passed count index marks = marked count (before index (first_bad count index)) marks

-- unchanged on 6; with N all are 1
unfoldable pub marks_of : Fields → List ℕ → ℕ → List ℕ → List ℕ
marks_of k index count marks =
    cond (index_wrong k index count || ltb (length marks) count) marks
    (cond k.tif (marks_passed count index marks) (replicate count 1 ++ drop count marks))

-- ---- what an accepted index is held to, both ways: proved in proofs/Once.antt and proofs/Accepts.antt

-- the tile that stores n, and no other does
pub record OnePlace (k : Fields) (says : ℕ → Said) (n : ℕ) : Type 0 where
  pub at : ℕ
  pub inside : at < tiles k
  pub stores : says at ≡ Said.Stored (in_base n)
  pub only : (t : ℕ) → t < tiles k → says t ≡ Said.Stored (in_base n) → t ≡ at

-- each number 1 .. count is that of one tile
abbrev pub EachPlaced : Fields → (ℕ → Said) → ℕ → Type 0
EachPlaced k says count = (n : ℕ) → 1 ≤ n → n ≤ count → OnePlace k says n

-- no tile's entry is above the count
abbrev pub NoneAbove : Fields → (ℕ → Said) → Type 0
NoneAbove k says = (t : ℕ) → t < tiles k → says t ≡ Said.Above → ⊥

abbrev pub EachOnce : Type 0
EachOnce =
    (k : Fields) (index marks : List ℕ) (count : ℕ) → check_of k index count marks ≡ Ok tt
    → EachPlaced k (said_of k index count) count

-- the lengths being right
abbrev pub OnceAccepted : Type 0
OnceAccepted =
    (k : Fields) (index marks : List ℕ) (count : ℕ) → index_wrong k index count ≡ false → count ≤ length marks
    → NoneAbove k (said_of k index count) → EachPlaced k (said_of k index count) count
    → check_of k index count marks ≡ Ok tt

-- and an accepted index has no entry above the count
abbrev pub UpToCount : Type 0
UpToCount =
    (k : Fields) (index marks : List ℕ) (count : ℕ) → check_of k index count marks ≡ Ok tt
    → NoneAbove k (said_of k index count)
