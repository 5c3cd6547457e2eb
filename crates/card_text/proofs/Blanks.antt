-- Blanks before a number's last byte are passed over: what is left is all digits exactly where the number is laid out with them, its number
-- is the same, and so many were met. Assumes nothing.
use mathlib.Core.Path.{◌≡◌, refl, sym, ap, ◌∙◌}
use mathlib.Core.Bool.{Bool, true, false, cond, ◌&&◌}
use mathlib.Core.List.{List, [], ◌∷◌}
use Prim.Native.Nat.{ℕ, suc, ◌+◌, ◌≤◌, ◌<◌}
use native.Mathlib.Omega.{arith}
use borrow.Author.Tests.{eqb-true, ne_eqb, ltb-true, ltb-false, lt-ltb, le-ltb}
use lib.Dec.{eqb, ltb}
use lib.ListN.{length, get_or, drop, length-drop}
use Rattle.text.specs.Text.{is_digit, all, onward, number, blanks, filled}
use Rattle.std.specs.Prelude.{Ok}
use Rattle.std.specs.Result.{result_ok}
use Rattle.text.specs.Buffer.{digits_in}
use Rattle.text.proofs.Bytes.{drop-next, length_part}
use Rattle.text.proofs.Blanks.{digits-none, none_filled}
use Rattle.card_text.specs.declared.Fill.{Fill}
use Rattle.card_text.specs.Layout.{Subfield, STR, ARV, BRV, NUL, NUS, NLL, NLS, NFL, NFC, PNC, PNL, COD, ROD, POR, PCB, PVB}
use Rattle.card_text.specs.Layout.{layout, bytes_of, number_laid, right_kind, walk}
use Rattle.card_text.specs.Blanks.{blanks_in, total_blanks}
use Rattle.card_text.proofs.Walked.{right-in}
use Rattle.card_text.proofs.Strict.{one-digit}
use Rattle.card_text.proofs.Runs.{run_is}
use Rattle.card_text.specs.StepsFields.{lead, skip, number_as, lead_total}

-- ---- one byte more of the scan

lead-here : (s : List ℕ) → (get_or s 0 0 ≡ 32 → ⊥) → lead s ≡ 0
lead-here [] e = refl
lead-here (b ∷ []) e = refl
lead-here (b ∷ c ∷ bs) e = rw (ne_eqb b 32 e)

pub lead-last : (s : List ℕ) → length s ≡ 1 → lead s ≡ 0
lead-last [] h = absurd (omega arith)
lead-last (b ∷ []) h = refl
lead-last (b ∷ c ∷ bs) h = absurd (omega arith)

-- a byte that is no blank ends them
pub lead-stop : (s : List ℕ) (i : ℕ) → i < length s → (get_or s i 0 ≡ 32 → ⊥) → lead (drop i s) ≡ 0
lead-stop s i h e = rw (drop-next s i h) (lead-here (get_or s i 0 ∷ drop (i + 1) s) e)

pub lead-next : (s : List ℕ) (i : ℕ) → i + 1 < length s → get_or s i 0 ≡ 32 → lead (drop i s) ≡ lead (drop (i + 1) s) + 1
lead-next s i h e =
    rw (drop-next s i (omega arith), drop-next s (i + 1) h, e) (omega arith)

pub lead_stops : (s : List ℕ) (i : ℕ) → i < length s → (get_or s i 0 ≡ 32 → ⊥) → i + lead (drop i s) ≡ i
lead_stops s i h e = rw (lead-stop s i h e) (omega arith)

pub lead_nexts : (s : List ℕ) (i : ℕ) → i + 1 < length s → get_or s i 0 ≡ 32 → lead (drop i s) ≡ lead (drop (i + 1) s) + 1
lead_nexts s i h e = lead-next s i h e

pub lead_lasts : (s : List ℕ) (i : ℕ) → length s ≡ i + 1 → lead (drop i s) ≡ 0
lead_lasts s i h = lead-last (drop i s) (omega (arith, length-drop i s))

-- ---- what is left

pub lead-below : (s : List ℕ) → 0 < length s → lead s < length s
lead-below [] h = elim h [ ]
lead-below (b ∷ []) h = omega arith
lead-below (b ∷ c ∷ bs) h = go (eqb b 32) (lead-below (c ∷ bs) (omega arith))
  where
    go : (e : Bool) → lead (c ∷ bs) < length (c ∷ bs) → cond e (suc (lead (c ∷ bs))) 0 < length (b ∷ c ∷ bs)
    go true m = omega arith
    go false m = omega arith

pub lead_most : (s : List ℕ) → 0 < length s → lead s < length s
lead_most s h = lead-below s h

pub ruleset scan = (lead_stops, lead_nexts, lead_lasts, lead_most)

ltb-suc : (m n : ℕ) → ltb (suc m) (suc n) ≡ ltb m n
ltb-suc m n = go (ltb m n) refl
  where
    go : (t : Bool) → ltb m n ≡ t → ltb (suc m) (suc n) ≡ t
    go true e = lt-ltb (suc m) (suc n) (omega (arith, ltb-true m n e))
    go false e = le-ltb (suc m) (suc n) (omega (arith, ltb-false m n e))

lead-laid : (s : List ℕ) → 0 < length s → all is_digit (drop (lead s) s) ≡ filled s
lead-laid [] h = elim h [ ]
lead-laid (b ∷ []) h = sym (one-digit (b ∷ []) refl)
lead-laid (b ∷ c ∷ bs) h = go (eqb b 32) refl (lead-laid (c ∷ bs) (omega arith))
  where
    go : (e : Bool) → eqb b 32 ≡ e → all is_digit (drop (lead (c ∷ bs)) (c ∷ bs)) ≡ filled (c ∷ bs)
        → all is_digit (drop (cond e (suc (lead (c ∷ bs))) 0) (b ∷ c ∷ bs)) ≡ filled (b ∷ c ∷ bs)
    go true e r = r ∙ rw (e, ltb-suc (blanks (c ∷ bs)) (length (c ∷ bs)))
    go false e r = sym (none_filled (b ∷ c ∷ bs) (omega arith) (rw e))

lead-number : (s : List ℕ) → onward 0 (drop (lead s) s) ≡ onward 0 s
lead-number [] = refl
lead-number (b ∷ []) = refl
lead-number (b ∷ c ∷ bs) = go (eqb b 32) refl (lead-number (c ∷ bs))
  where
    go : (e : Bool) → eqb b 32 ≡ e → onward 0 (drop (lead (c ∷ bs)) (c ∷ bs)) ≡ onward 0 (c ∷ bs)
        → onward 0 (drop (cond e (suc (lead (c ∷ bs))) 0) (b ∷ c ∷ bs)) ≡ onward 0 (b ∷ c ∷ bs)
    go true e r = rw (eqb-true b 32 e) r
    go false e r = refl

-- all blank has one more than is passed over, and is no number
lead-counted : (s : List ℕ) → 0 < length s → filled s ≡ true → lead s ≡ blanks s
lead-counted [] h e = elim h [ ]
lead-counted (b ∷ []) h e = sym (digits-none (b ∷ []) (sym (one-digit (b ∷ []) refl) ∙ e))
lead-counted (b ∷ c ∷ bs) h e = go (eqb b 32) refl e (lead-counted (c ∷ bs) (omega arith))
  where
    go : (t : Bool) → eqb b 32 ≡ t
        → (ltb (cond t (suc (blanks (c ∷ bs))) 0) (length (b ∷ c ∷ bs)) && all is_digit (drop (cond t (suc (blanks (c ∷ bs))) 0) (b ∷ c ∷ bs))) ≡ true
        → (filled (c ∷ bs) ≡ true → lead (c ∷ bs) ≡ blanks (c ∷ bs)) → cond t (suc (lead (c ∷ bs))) 0 ≡ cond t (suc (blanks (c ∷ bs))) 0
    go true t e r = ap suc (r (rw (ltb-suc (blanks (c ∷ bs)) (length (c ∷ bs))) at e))
    go false t e r = refl

pub skip_below : (fill : Fill) (s : List ℕ) → 0 < length s → skip fill s < length s
skip_below Fill.Zeros s h = h
skip_below Fill.Blanks s h = lead-below s h

skip-laid : (fill : Fill) (s : List ℕ) → 0 < length s → all is_digit (drop (skip fill s) s) ≡ number_laid fill s
skip-laid Fill.Zeros s h = refl
skip-laid Fill.Blanks s h = lead-laid s h

skip-number : (fill : Fill) (s : List ℕ) → number (drop (skip fill s) s) ≡ number s
unfolding number
skip-number Fill.Zeros s = refl
skip-number Fill.Blanks s = lead-number s

-- a first byte that is no blank leaves all
pub skip-none : (fill : Fill) (s : List ℕ) → (get_or s 0 0 ≡ 32 → ⊥) → skip fill s ≡ 0
skip-none Fill.Zeros s e = refl
skip-none Fill.Blanks s e = lead-here s e

-- ---- the number

module _ (fill : Fill) (s : List ℕ) (h : 0 < length s) (l : length s ≤ 8) where
  -- past the blanks
  pub past_blanks : result_ok (digits_in (drop (skip fill s) s)) ≡ number_as fill s
  past_blanks =
      run_is (drop (skip fill s) s) (omega (arith, length-drop (skip fill s) s))
      ∙ rw (skip-laid fill s h, skip-number fill s)

  -- a first byte that is no blank
  pub no_blanks : (get_or s 0 0 ≡ 32 → ⊥) → result_ok (digits_in s) ≡ number_as fill s
  no_blanks e = rw (skip-none fill s e) at past_blanks

pub ruleset numbers = (past_blanks, no_blanks, skip_below)

-- ---- the total of a card whose subfields are right

module _ (fill : Fill) (s : List ℕ) (l : length s ≡ 98) (w : walk fill layout s ≡ Ok tt) where
  -- a number's, and none of one digit
  laid-counted : (b : List ℕ) → 0 < length b → number_laid fill b ≡ true → lead b ≡ blanks b
  laid-counted b h e = go fill e
    where
      go : (fill : Fill) → number_laid fill b ≡ true → lead b ≡ blanks b
      go Fill.Zeros e = lead-counted b h (none_filled b h (digits-none b e) ∙ e)
      go Fill.Blanks e = lead-counted b h e

  of_number : (f : Subfield) → (f.at + f.width ≤ 98) × (0 < f.width) → number_laid fill (bytes_of f s) ≡ true → lead (bytes_of f s) ≡ blanks (bytes_of f s)
  of_number f h e = laid-counted (bytes_of f s) (omega (arith, length_part f.at f.width s (omega arith))) e

  of-digit : (f : Subfield) → (f.at + 1 ≤ 98) × (f.width ≡ 1) → number_laid fill (bytes_of f s) ≡ true → blanks (bytes_of f s) ≡ 0
  of-digit f h e =
      let n = length_part f.at f.width s (omega arith) in
      sym (of_number f (omega arith) e) ∙ lead-last (bytes_of f s) (omega arith)

  right : (i : ℕ) → i < 20 → right_kind fill (get_or layout i STR).kind (bytes_of (get_or layout i STR) s) ≡ true
  right i h = (right-in fill s w i h).0

  pub lead-total : lead_total s ≡ total_blanks layout s
  unfolding layout blanks_in
  lead-total =
      rw (
        of_number ARV (omega arith) (right 1 (omega arith)),
        of_number BRV (omega arith) (right 2 (omega arith)),
        of_number NUL (omega arith) (right 5 (omega arith)),
        of_number NUS (omega arith) (right 6 (omega arith)),
        of_number NLL (omega arith) (right 7 (omega arith)),
        of_number NLS (omega arith) (right 8 (omega arith)),
        of_number NFL (omega arith) (right 9 (omega arith)),
        of_number NFC (omega arith) (right 10 (omega arith)),
        of_number PNC (omega arith) (right 11 (omega arith)),
        of_number PNL (omega arith) (right 12 (omega arith)),
        of-digit STR (omega arith) (right 0 (omega arith)),
        of-digit COD (omega arith) (right 13 (omega arith)),
        of-digit ROD (omega arith) (right 14 (omega arith)),
        of-digit POR (omega arith) (right 15 (omega arith)),
        of-digit PCB (omega arith) (right 16 (omega arith)),
        of-digit PVB (omega arith) (right 17 (omega arith)),
      )
      (omega arith)
