-- A list filled by the engine and by the card in turn, its numbers cleared before: what each leaves, and what they leave together. Assumes nothing.
use mathlib.Core.Path.{◌≡◌, refl, sym, ap, ◌∙◌}
use mathlib.Core.Bool.{Bool, true, false}
use mathlib.Core.List.{List, [], ◌∷◌, ◌++◌}
use Prim.Native.Nat.{ℕ, zero, suc, ◌+◌, ◌-◌, ◌*◌, ◌≤◌, ◌<◌}
use native.Mathlib.Numerals.{add-one}
use native.Mathlib.Omega.{arith}
use borrow.Author.Tests.{ltb-true, ltb-false}
use lib.Dec.{ltb}
use lib.ListN.{length, set, get_or, drop, length-set, length-append, length-drop, get_or-append}
use lib.Seq.{drop-cons, append_snoc, drop-append_seam}
use lib.IntN.{ℤ}
use Rattle.std.specs.Prelude.{replicate}
use Rattle.std.proofs.lemmas.List.{length-replicate, get_or-replicate}
use Rattle.arc.specs.Refusals.{Report, answered}
use Rattle.whole.specs.Lists.{over}
use Rattle.card_text.specs.declared.Fields.{Fields}
use Rattle.card.specs.declared.Pair.{Pair}
use Rattle.lists.specs.declared.Asked.{Asked}
use Rattle.lists.specs.Lists.{entries, lists_fit, entry_at, report_at, report_values, report_numbers}
use Rattle.lists.specs.Entries.{ChartedEntries, AskedEntries}
use Rattle.lists.proofs.Filling.{room, numbers-length, values-next, numbers-next, report-values}

-- ---- numbers over zeros: a report that refuses nothing changes none
module _ (f : ℕ → Report) (n : ℕ) (num : List ℕ) (room : n ≤ length num) where
  abbrev clean : List ℕ
  clean = replicate n 0 ++ drop n num

  clean-length : length clean ≡ length num
  clean-length = length-append (replicate n 0) (drop n num) ∙ omega (arith, length-replicate {A = ℕ} n 0, length-drop n num)

  skip-one : (b : ℕ) → b < n → (f b).number ≡ 0 → over (report_numbers (b + 1) f) clean ≡ over (report_numbers b f) clean
  skip-one b h z =
      let xs : List ℕ = report_numbers b f in
      let long : b ≡ length xs = omega (arith, numbers-length f b) in
      let none : get_or clean b 0 ≡ 0 =
      get_or-append (replicate n 0) (drop n num) 0 b (omega (arith, length-replicate {A = ℕ} n 0)) ∙ get_or-replicate n b 0 0 h in
      let next : report_numbers (b + 1) f ≡ xs ++ 0 ∷ [] = ap (λ (k : ℕ). report_numbers k f) (add-one b) ∙ ap (λ (k : ℕ). xs ++ k ∷ []) z in
      let longer : length (xs ++ 0 ∷ []) ≡ suc b = length-append xs (0 ∷ []) ∙ omega (arith, long) in
      ap (λ (s : List ℕ). over s clean) next
      ∙ ap (λ (k : ℕ). (xs ++ 0 ∷ []) ++ drop k clean) longer
      ∙ append_snoc xs 0 (drop (suc b) clean)
      ∙ ap (λ (k : ℕ). xs ++ k ∷ drop (suc b) clean) (sym none)
      ∙ ap (λ (s : List ℕ). xs ++ s) (sym (drop-cons clean b 0 (omega (arith, clean-length))))
      ∙ ap (λ (k : ℕ). xs ++ drop k clean) long

  skip : (a m : ℕ) → a + m ≤ n → ((i : ℕ) → a ≤ i → i < a + m → (f i).number ≡ 0) → over (report_numbers (a + m) f) clean ≡ over (report_numbers a f) clean
  skip a zero h z = let e : a + 0 ≡ a = omega arith in ap (λ (k : ℕ). over (report_numbers k f) clean) e
  skip a (suc m) h z =
      let e : a + suc m ≡ a + m + 1 = omega arith in
      ap (λ (k : ℕ). over (report_numbers k f) clean) e
      ∙ skip-one (a + m) (omega arith) (z (a + m) (omega arith) (omega arith))
      ∙ skip a m (omega arith) (λ i le lt. z i le (omega arith))

  skip-to : (a b : ℕ) → a ≤ b → b ≤ n → ((i : ℕ) → a ≤ i → i < b → (f i).number ≡ 0) → over (report_numbers b f) clean ≡ over (report_numbers a f) clean
  skip-to a b le h z =
      let e : b ≡ a + (b - a) = omega arith in
      ap (λ (k : ℕ). over (report_numbers k f) clean) e ∙ skip a (b - a) (omega arith) (λ i l t. z i l (omega arith))

  -- at the end the clearing makes no difference
  all-over : over (report_numbers n f) clean ≡ over (report_numbers n f) num
  all-over =
      let xs : List ℕ = report_numbers n f in
      let long : length xs ≡ n = numbers-length f n ∙ omega arith in
      let zeros : n ≡ length (replicate n 0) = sym (length-replicate {A = ℕ} n 0) in
      ap (λ (k : ℕ). xs ++ drop k clean) (long ∙ zeros)
      ∙ ap (λ (s : List ℕ). xs ++ s) (drop-append_seam (replicate n 0) (drop n num))
      ∙ ap (λ (k : ℕ). xs ++ drop k num) (sym long)

-- ---- the entries of a list, in turn
module _ (p : Pair) (asked : Asked) (k : Fields) (ps : List ℤ) where
  abbrev f : ℕ → Report
  f = report_at p asked k ps

  two : (i : ℕ) → length (f i).values ≡ 2
  two i = report-values p asked k (entry_at ps i).first (entry_at ps i).second

  -- one that the engine answers
  pub charted_next : {n from at : ℕ} {before now after : List ℤ} → ChartedEntries f n from at before now → at < n → (x y : ℤ)
      → f at ≡ answered (x ∷ y ∷ []) → after ≡ set (set now (2 * at) x) (2 * at + 1) y → ChartedEntries f n from (at + 1) before after
  charted_next {n} {from} {at} {before} {now} r h x y told wrote =
      record {
        past = omega (arith, r.past);
        upto = omega arith;
        kept = ap length wrote ∙ length-set (set now (2 * at) x) (2 * at + 1) y ∙ length-set now (2 * at) x ∙ r.kept;
        written = λ out room e. wrote ∙ values-next f two out at (r.written out room e) (omega arith) x y (ap (λ (w : Report). w.values) told);
        answers = λ i l t. here i l (ltb i at) refl t;
      }
    where
      here : (i : ℕ) → from ≤ i → (b : Bool) → ltb i at ≡ b → i < at + 1 → (f i).number ≡ 0
      here i l true e t = r.answers i l (ltb-true i at e)
      here i l false e t =
          ap (λ (j : ℕ). (f j).number) (omega (arith, ltb-false i at e)) ∙ ap (λ (w : Report). w.number) told

  -- one that the card is asked
  pub asked_next : {n from at : ℕ} {before now after : List ℤ} {counts nums : List ℕ} → AskedEntries f n from at before now counts nums → at < n
      → (x y : ℤ) (z : ℕ) → (f at).values ≡ x ∷ y ∷ [] → (f at).number ≡ z → after ≡ set (set now (2 * at) x) (2 * at + 1) y
      → AskedEntries f n from (at + 1) before after counts (set nums at z)
  asked_next {at = at} {now = now} {nums = nums} r h x y z ev ez wrote =
      record {
        past = omega (arith, r.past);
        upto = omega arith;
        values_kept = ap length wrote ∙ length-set (set now (2 * at) x) (2 * at + 1) y ∙ length-set now (2 * at) x ∙ r.values_kept;
        numbers_kept = length-set nums at z ∙ r.numbers_kept;
        written = λ out room e. wrote ∙ values-next f two out at (r.written out room e) (omega arith) x y ev;
        counted = λ num room e. numbers-next f num at (r.counted num room e) (omega arith) z ez;
      }

-- ---- the one after the other
pub record Filled (f : ℕ → Report) (n : ℕ) (out : List ℤ) (num : List ℕ) (at : ℕ) (now : List ℤ) (nums : List ℕ) : Type 0 where
  pub upto : at ≤ n
  pub values_kept : length now ≡ length out
  pub numbers_kept : length nums ≡ length num
  pub values : now ≡ over (report_values at f) out
  pub numbers : nums ≡ over (report_numbers at f) (replicate n 0 ++ drop n num)

module _ (f : ℕ → Report) (p : ℕ) (out : List ℤ) (num : List ℕ) (fit : lists_fit p (length out) (length num) ≡ true) where
  abbrev n : ℕ
  n = entries p

  fits : (p ≤ length out) × (n ≤ length num)
  fits = room p (length out) (length num) fit

  -- what the engine answers first, the numbers cleared
  pub filled_first : {at : ℕ} {now : List ℤ} {nums : List ℕ} → ChartedEntries f n 0 at out now → nums ≡ replicate n 0 ++ drop n num
      → Filled f n out num at now nums
  filled_first {at} r e =
      record {
        upto = r.upto;
        values_kept = r.kept;
        numbers_kept = ap length e ∙ clean-length f n num fits.1;
        values = r.written out (omega (arith, fits)) refl;
        numbers = e ∙ sym (skip-to f n num fits.1 0 at (omega arith) r.upto r.answers);
      }

  -- what the card was asked, and what the engine answers next
  pub filled_next : {at mid to : ℕ} {now then after : List ℤ} {nums later : List ℕ} → Filled f n out num at now nums
      → AskedEntries f n at mid now then nums later → ChartedEntries f n mid to then after → Filled f n out num to after later
  filled_next {at} {mid} {to} t r s =
      let clean : List ℕ = replicate n 0 ++ drop n num in
      record {
        upto = s.upto;
        values_kept = s.kept ∙ r.values_kept ∙ t.values_kept;
        numbers_kept = r.numbers_kept ∙ t.numbers_kept;
        values = s.written out (omega (arith, fits)) (r.written out (omega (arith, fits)) t.values);
        numbers =
            r.counted clean (omega (arith, fits, clean-length f n num fits.1)) t.numbers
            ∙ sym (skip-to f n num fits.1 mid to s.past s.upto s.answers);
      }

  -- the end
  pub filled_values : {at : ℕ} {now : List ℤ} {nums : List ℕ} → Filled f n out num at now nums → n ≤ at → now ≡ over (report_values n f) out
  filled_values {at} t h = let same : at ≡ n = omega (arith, t.upto) in t.values ∙ ap (λ (k : ℕ). over (report_values k f) out) same

  pub filled_numbers : {at : ℕ} {now : List ℤ} {nums : List ℕ} → Filled f n out num at now nums → n ≤ at → nums ≡ over (report_numbers n f) num
  filled_numbers {at} t h =
      let same : at ≡ n = omega (arith, t.upto) in
      t.numbers ∙ ap (λ (k : ℕ). over (report_numbers k f) (replicate n 0 ++ drop n num)) same ∙ all-over f n num fits.1
