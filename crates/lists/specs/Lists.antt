-- Lists of pixels and of positions of one card, in either pair. Definitions only.
--     entries n              the entries in a list of length n: a row and a column, or a latitude and a longitude each
--     lists_fit h o n        the length h handed in is even, the list to fill, of length o, is no shorter, and there is a number for each entry
--     lists_verdict h o n    6 where they do not fit
--     entry_at ps i          entry i of a list: its first number stands at 2i, its second at 2i + 1
--     asked_report p asked k x y   the report of the position of pixel (x, y), or of the pixel at position (x, y), in the pair p
--     report_at p asked k ps i     the same of entry i of the list
--     position_report_at p k ps i  the report of pixel i of the list
--     pixel_report_at p k qs i     the report of position i of the list
--     report_values, report_numbers  the value parts, and the numbers, of the first n reports
--     values_left, numbers_left    what the list to fill and the numbers hold at the end
use Rattle.std.specs.Prelude.{ℕ, ◌+◌, ◌*◌, ◌/◌, ◌%◌, List, [], ◌∷◌, Bool, cond, Result, Ok, Err, ◌&&◌, leb, eqb, length, get_or, ℤ, pos}
use Rattle.whole.specs.Lists.{each, over}
use Rattle.arc.specs.declared.refusal.Refusal.{Refusal}
use Rattle.arc.specs.Refusals.{Report}
use Rattle.card_text.specs.declared.Fields.{Fields}
use Rattle.card.specs.declared.Pair.{Pair}
use Rattle.lists.specs.declared.Asked.{Asked}
use Rattle.lists.specs.declared.Entry.{Entry}
use Rattle.card.specs.Grid.{position_of, pixel_of, position_report, pixel_report}

abbrev pub entries : ℕ → ℕ
entries n = n / 2

abbrev pub lists_fit : ℕ → ℕ → ℕ → Bool
lists_fit h o n = eqb (h % 2) 0 && leb h o && leb (entries h) n

abbrev pub lists_verdict : ℕ → ℕ → ℕ → Result Unit Refusal
lists_verdict h o n = cond (lists_fit h o n) (Ok tt) (Err Refusal.Length)

abbrev pub entry_at : List ℤ → ℕ → Entry
entry_at ps i = record { first = get_or ps (2 * i) (pos 0); second = get_or ps (2 * i + 1) (pos 0) }

abbrev pub asked_report : Pair → Asked → Fields → ℤ → ℤ → Report
asked_report p Asked.Positions k x y = position_report (position_of p k x y)
asked_report p Asked.Pixels k x y = pixel_report (pixel_of p k x y)

abbrev pub report_at : Pair → Asked → Fields → List ℤ → ℕ → Report
report_at p asked k ps i = asked_report p asked k (entry_at ps i).first (entry_at ps i).second

abbrev pub position_report_at : Pair → Fields → List ℤ → ℕ → Report
position_report_at p k ps i = report_at p Asked.Positions k ps i

abbrev pub pixel_report_at : Pair → Fields → List ℤ → ℕ → Report
pixel_report_at p k qs i = report_at p Asked.Pixels k qs i

abbrev pub report_values : ℕ → (ℕ → Report) → List ℤ
report_values n f = each n (λ i. (f i).values)

abbrev pub report_numbers : ℕ → (ℕ → Report) → List ℕ
report_numbers n f = each n (λ i. (f i).number ∷ [])

-- what is left in the list to fill, and in the numbers, f being the reports of the entries handed in: as they were on a refusal
abbrev pub values_left : (List ℤ → ℕ → Report) → List ℤ → List ℤ → List ℕ → List ℤ
values_left f ps out nums = cond (lists_fit (length ps) (length out) (length nums)) (over (report_values (entries (length ps)) (f ps)) out) out

abbrev pub numbers_left : (List ℤ → ℕ → Report) → List ℤ → List ℤ → List ℕ → List ℕ
numbers_left f ps out nums = cond (lists_fit (length ps) (length out) (length nums)) (over (report_numbers (entries (length ps)) (f ps)) nums) nums
