-- What only the code needs: the tests of a record that come before its origin, and what the output holds (01, "The image card, 98 bytes").
-- Definitions only; proofs/ tie them to writing.
--     count_tests r       NFL, NFC (8), BAD (7)
--     out_in zone x r out     what the output holds, the spacing x being asked
use Rattle.std.specs.Prelude.{ℕ, List, [], ◌∷◌, ◌&&◌, leb, length}
use Rattle.arc.specs.declared.refusal.Refusal.{Refusal}
use Rattle.arc.specs.declared.series.Spacing.{Spacing}
use Rattle.card_text.specs.declared.Record.{Record}
use Rattle.text.specs.Text.{name_laid}
use Rattle.card_text.specs.Layout.{NFL, NFC, BAD, Judged}
use Rattle.card_text.specs.Write.{card_text, test, write_in, out_after}

abbrev pub count_tests : Record → List (Judged)
count_tests r =
    test (leb 1 r.nfl && leb r.nfl 999) (Refusal.Value NFL.at) ∷
    test (leb 1 r.nfc && leb r.nfc 999) (Refusal.Value NFC.at) ∷
    test (name_laid r.bad) (Refusal.Kind BAD.at) ∷
    []

abbrev pub out_in : ℕ → Spacing → Record → List ℕ → List ℕ
out_in zone x r out = out_after (write_in zone x r (length out)) (card_text x.a x.b r) out
