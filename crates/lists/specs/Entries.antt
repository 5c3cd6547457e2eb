-- What only the code needs: entries of a list one after the other, answered by the engine or asked of the card. Definitions only; what they say is held
-- to the plain rule by the contracts.
--     south_of first lat  a latitude counted southward from the first, that being counted from the South Pole; none where it is none or farther north
--     west_of first       the westernmost longitude, that being counted westward from 180° east
--     east_of first lon   a longitude counted eastward from there, round the circle; none where it is none
--     entry_told x        the report that an answer to an entry tells
--     Agrees x r          what the engine answers, if anything, is the report r
--     ChartedEntries f n from to before after   of n entries, where the values of those before `from` are those of the reports f, so are those of the
--                        entries before `to`; and no report between them refuses
--     AskedEntries f n from to before after counts then   the same of values and of numbers, also where reports refuse
use Rattle.std.specs.Prelude.{◌≡◌, ℕ, ◌*◌, ◌≤◌, ◌<◌, cond, ◌||◌, List, [], ◌∷◌, length, ℤ, pos, neg_ℤ, nat_abs, ◌+ℤ◌, ◌-ℤ◌}
use Rattle.std.specs.Prelude.{Option, Some, None, IfSome, Result, Ok, Err}
use Rattle.std.specs.Int.Signed.{lt_z}
use Rattle.whole.specs.Whole.{outside}
use Rattle.whole.specs.Lists.{over}
use Rattle.arc.specs.declared.refusal.Refusal.{Refusal}
use Rattle.arc.specs.Refusals.{Report, answered, refused_with}
use Rattle.arc.specs.Zones.{circle, half, quarter}
use Rattle.lists.specs.Lists.{report_values, report_numbers}
use Rattle.lists.specs.declared.Entry.{Entry}

abbrev pub south_of : ℕ → ℤ → Option ℕ
south_of first lat =
    cond (lt_z lat (neg_ℤ (pos quarter)) || lt_z (pos first -ℤ pos quarter) lat) None (Some (nat_abs (pos first -ℤ pos quarter -ℤ lat)))

abbrev pub west_of : ℕ → ℤ
west_of first = pos half -ℤ pos first

abbrev pub east_of : ℕ → ℤ → Option ℕ
east_of first lon =
    cond (outside half lon) None (Some (nat_abs (cond (lt_z lon (west_of first)) (lon -ℤ west_of first +ℤ pos circle) (lon -ℤ west_of first))))

abbrev pub entry_told : Result Entry Refusal → Report
entry_told (Ok x) = answered (x.first ∷ x.second ∷ [])
entry_told (Err r) = refused_with r 2

abbrev pub Agrees : Option Entry → Report → Type 0
Agrees x r = IfSome x (λ e. r ≡ answered (e.first ∷ e.second ∷ []))

pub record ChartedEntries (f : ℕ → Report) (n from to : ℕ) (before after : List ℤ) : Type 0 where
  pub past : from ≤ to
  pub upto : to ≤ n
  pub kept : length after ≡ length before
  pub written : (out : List ℤ) → 2 * n ≤ length out → before ≡ over (report_values from f) out → after ≡ over (report_values to f) out
  pub answers : (i : ℕ) → from ≤ i → i < to → (f i).number ≡ 0

pub record AskedEntries (f : ℕ → Report) (n from to : ℕ) (before after : List ℤ) (counts then : List ℕ) : Type 0 where
  pub past : from ≤ to
  pub upto : to ≤ n
  pub values_kept : length after ≡ length before
  pub numbers_kept : length then ≡ length counts
  pub written : (out : List ℤ) → 2 * n ≤ length out → before ≡ over (report_values from f) out → after ≡ over (report_values to f) out
  pub counted : (num : List ℕ) → n ≤ length num → counts ≡ over (report_numbers from f) num → then ≡ over (report_numbers to f) num
