-- Writing a card: 1, 24 (02, E13), 17, 1 (02, E4), 2, 3, 6, then NFL, NFC (8), BAD (7), then 10, 11 (01, "Numbers given in refusal"). Definitions only.
--     Value                  what a subfield holds
--     values_of a b r        the record's values in the layout's order
--     card_text a b r        the 98 bytes
--     write_of series r out  what writing answers
--     out_of series r out    what the output then holds
use Rattle.std.specs.Prelude.{ℕ, List, [], ◌∷◌, ◌++◌, Bool, cond, if◌then◌else◌, not, ◌&&◌, leb, length, ℤ, Result, Ok, Err}
use Rattle.whole.specs.Results.{◌>>=◌}
use Rattle.whole.specs.Lists.{over}
use Rattle.text.specs.Text.{name_laid, digits, angle_text}
use Rattle.arc.specs.declared.series.Series.{Series}
use Rattle.arc.specs.declared.series.Spacing.{Spacing}
use Rattle.arc.specs.declared.refusal.Refusal.{Refusal}
use Rattle.arc.specs.Zones.{is_polar}
use Rattle.arc.specs.TownScales.{spacing_for_writing}
use Rattle.origin.specs.Origin.{stored_angle, on_grid}
use Rattle.card_text.specs.declared.Record.{Record}
use Rattle.card_text.specs.Layout.{Subfield, NFL, NFC, BAD, Judged, layout, or_else}
use Rattle.card_text.specs.Extents.{extents_hold}

pub data Value : Type 0 where
  counted : ℕ → Value
  angle : ℕ → ℤ → Value
  named : List ℕ → Value
  flagged : Bool → Value

-- the bytes of a value in a subfield of width w
abbrev pub text_of : ℕ → Value → List ℕ
text_of w (counted v) = digits w v
text_of w (angle d z) = angle_text d z
text_of w (named s) = s
text_of w (flagged t) = cond t 89 78 ∷ []

-- the subfields' bytes, one after the other
abbrev pub written : List Subfield → List Value → List ℕ
written [] vs = []
written (f ∷ fs) [] = []
written (f ∷ fs) (v ∷ vs) = text_of f.width v ++ written fs vs

-- STR ARV BRV LSO PSO NUL NUS NLL NLS NFL NFC PNC PNL COD ROD POR PCB PVB BAD TIF
unfoldable pub values_of : ℕ → ℕ → Record → List Value
values_of a b r =
    counted 3 ∷ counted a ∷ counted b ∷ angle 3 (stored_angle a r.m) ∷ angle 2 (stored_angle b r.n) ∷
    counted r.nul ∷ counted r.nus ∷ counted r.nll ∷ counted r.nls ∷ counted r.nfl ∷ counted r.nfc ∷
    counted 128 ∷ counted 128 ∷ counted 0 ∷ counted 1 ∷ counted 0 ∷ counted 0 ∷ counted 8 ∷ named r.bad ∷ flagged r.tif ∷ []

unfoldable pub card_text : ℕ → ℕ → Record → List ℕ
card_text a b r = written layout (values_of a b r)

abbrev pub test : Bool → Refusal → Judged
test ok e = if not ok then Err e else Ok tt

-- the first of several that refuses
abbrev pub first : List (Judged) → Judged
first [] = Ok tt
first (v ∷ vs) = or_else v (first vs)

-- NFL, NFC (8), BAD (7), 10, 11
unfoldable pub record_tests : ℕ → ℕ → Record → List (Judged)
record_tests a b r =
    test (leb 1 r.nfl && leb r.nfl 999) (Refusal.Value NFL.at) ∷
    test (leb 1 r.nfc && leb r.nfc 999) (Refusal.Value NFC.at) ∷
    test (name_laid r.bad) (Refusal.Kind BAD.at) ∷
    test (on_grid a b r.n r.m) Refusal.Origin ∷
    test (extents_hold a b r.n r.nul r.nus r.nll r.nls r.nfl r.nfc) Refusal.Extent ∷
    []

-- 3, 6, then these, the output having n bytes
abbrev pub write_in : ℕ → Spacing → Record → ℕ → Judged
write_in zone x r n =
    if is_polar zone then Err Refusal.Polar
    else (if not (leb 98 n) then Err Refusal.Length
    else first (record_tests x.a x.b r))

-- 1, 24, 17, 1, 2, then these (02, E13, E4)
unfoldable pub write_of : Series → Record → List ℕ → Judged
write_of series r out = do
  x ← spacing_for_writing series
  write_in series.zone x r (length out)

abbrev pub text_for : Result Spacing Refusal → Record → List ℕ
text_for (Ok x) r = card_text x.a x.b r
text_for (Err e) r = []

-- everything unchanged on a refusal
abbrev pub out_after : Judged → List ℕ → List ℕ → List ℕ
out_after (Ok done) card out = over card out
out_after (Err e) card out = out

unfoldable pub out_of : Series → Record → List ℕ → List ℕ
out_of series r out = out_after (write_of series r out) (text_for (spacing_for_writing series) r) out
