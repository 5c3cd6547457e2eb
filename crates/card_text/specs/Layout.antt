-- The image card's subfields, row for row, and what is refused in one (002, 3.17.1; 01, "The image card, 98 bytes"). Definitions only.
--     Kind                   what may stand in a subfield
--     Subfield, sub at width kind    a subfield: its offset, its width, what may stand in it
--     STR .. TIF             the subfields, by the standard's tags
--     layout                 all of them, left to right
--     Judged                 accepted, or refused
--     number_laid fill s     whether s is laid out as a number, with zeros (01) or with blanks too (02, E2) before its digits
--     judge_field fill f s   7 before 8 in each, the subfield's offset as place
--     walk fill layout s     the first refusal, left to right
use Rattle.std.specs.Prelude.{ℕ, List, [], ◌∷◌, Bool, true, if◌then◌else◌, not, ◌&&◌, leb, get_or, Result, Ok, Err}
use Rattle.whole.specs.Results.{◌>>=◌}
use Rattle.arc.specs.declared.refusal.Refusal.{Refusal}
use Rattle.text.specs.Text.{part, is_digit, all, number, filled, angle_laid, angle_valid, name_laid, is_flag}
use Rattle.card_text.specs.declared.Fill.{Fill}

-- digits from low to high; so many digits of degrees and the rest of an angle, within a limit; a file's name; Y or N
pub data Kind : Type 0 where
  Number : ℕ → ℕ → Kind
  Angle : ℕ → ℕ → Kind
  Name : Kind
  Flag : Kind

pub record Subfield : Type 0 where
  pub at : ℕ
  pub width : ℕ
  pub kind : Kind

abbrev pub sub : ℕ → ℕ → Kind → Subfield
sub o w k = record { at = o; width = w; kind = k }

-- digits whose number is fixed, or is any
abbrev pub constant : ℕ → Kind
constant n = Number n n

abbrev pub any : Kind
any = Number 0 99999999

abbrev pub STR : Subfield
STR = sub 0 1 (constant 3)

abbrev pub ARV : Subfield
ARV = sub 1 8 any

abbrev pub BRV : Subfield
BRV = sub 9 8 any

-- ±DDDMMSS.SS
abbrev pub LSO : Subfield
LSO = sub 17 11 (Angle 3 64800000)

-- ±DDMMSS.SS
abbrev pub PSO : Subfield
PSO = sub 28 10 (Angle 2 32400000)

-- top row, right column, bottom row, left column
abbrev pub NUL : Subfield
NUL = sub 38 6 any

abbrev pub NUS : Subfield
NUS = sub 44 6 any

abbrev pub NLL : Subfield
NLL = sub 50 6 any

abbrev pub NLS : Subfield
NLS = sub 56 6 any

-- tiles down and across, 1 to 999
abbrev pub NFL : Subfield
NFL = sub 62 3 (Number 1 999)

abbrev pub NFC : Subfield
NFC = sub 65 3 (Number 1 999)

abbrev pub PNC : Subfield
PNC = sub 68 6 (constant 128)

abbrev pub PNL : Subfield
PNL = sub 74 6 (constant 128)

abbrev pub COD : Subfield
COD = sub 80 1 (constant 0)

abbrev pub ROD : Subfield
ROD = sub 81 1 (constant 1)

abbrev pub POR : Subfield
POR = sub 82 1 (constant 0)

abbrev pub PCB : Subfield
PCB = sub 83 1 (constant 0)

abbrev pub PVB : Subfield
PVB = sub 84 1 (constant 8)

abbrev pub BAD : Subfield
BAD = sub 85 12 Name

abbrev pub TIF : Subfield
TIF = sub 97 1 Flag

unfoldable pub layout : List Subfield
layout =
    STR ∷ ARV ∷ BRV ∷ LSO ∷ PSO ∷ NUL ∷ NUS ∷ NLL ∷ NLS ∷ NFL ∷ NFC ∷
    PNC ∷ PNL ∷ COD ∷ ROD ∷ POR ∷ PCB ∷ PVB ∷ BAD ∷ TIF ∷ []

abbrev pub bytes_of : Subfield → List ℕ → List ℕ
bytes_of f s = part f.at f.width s

-- all digits, zero-filled (01), or blanks before the first digit too; a subfield of blanks alone is still wrong (02, E2)
abbrev pub number_laid : Fill → List ℕ → Bool
number_laid Fill.Zeros s = all is_digit s
number_laid Fill.Blanks s = filled s

-- 7 where this fails: each byte is the digit, sign, dot or letter laid out; TIF has no wrong kind
abbrev pub right_kind : Fill → Kind → List ℕ → Bool
right_kind fill (Number low high) s = number_laid fill s
right_kind fill (Angle d limit) s = angle_laid d s
right_kind fill Name s = name_laid s
right_kind fill Flag s = true

-- 8 where this fails: a constant, minutes or seconds 60 or more, an angle outside its range, minus zero, NFL or NFC, TIF
abbrev pub right_value : Kind → List ℕ → Bool
right_value (Number low high) s = leb low (number s) && leb (number s) high
right_value (Angle d limit) s = angle_valid d limit s
right_value Name s = true
right_value Flag s = is_flag (get_or s 0 0)

-- accepted, or refused
abbrev pub Judged : Type 0
Judged = Result (Unit {0}) Refusal

abbrev pub judge : Bool → Bool → ℕ → Judged
judge kind value place =
    if not kind then Err (Refusal.Kind place)
    else (if not value then Err (Refusal.Value place)
    else Ok tt)

unfoldable pub judge_field : Fill → Subfield → List ℕ → Judged
judge_field fill f s = judge (right_kind fill f.kind (bytes_of f s)) (right_value f.kind (bytes_of f s)) f.at

-- the first of two that refuses
abbrev pub or_else : Judged → Judged → Judged
or_else v w = v >>= (λ _. w)

abbrev pub walk : Fill → List Subfield → List ℕ → Judged
walk fill [] s = Ok tt
walk fill (f ∷ fs) s = or_else (judge_field fill f s) (walk fill fs s)
