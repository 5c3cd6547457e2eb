-- An accepted card in naturals: its constants are on the grid, its origin is counted from the South Pole and from 180° west,
-- and the extents bound its tiles and its chart. They are the tests that its reading passed. Assumes nothing.
use mathlib.Core.Path.{◌≡◌, refl, sym, ap, ◌∙◌, subst}
use mathlib.Core.List.{List}
use Prim.Native.Nat.{ℕ, ◌+◌, ◌*◌, ◌/◌, ◌≤◌, ◌<◌}
use native.Mathlib.Omega.{arith}
use lib.IntN.{pos, neg_ℤ, ◌-ℤ◌}
use Rattle.whole.specs.Whole.{raise}
use Rattle.whole.proofs.Signed.{Is, is-nat, is-neg, is-minus, le_is, is-raise, raise-high}
use Rattle.arc.specs.declared.series.Series.{Series}
use Rattle.std.specs.Prelude.{Result, Ok, Err}
use Rattle.arc.specs.declared.refusal.Refusal.{Refusal}
use Rattle.arc.specs.declared.series.Spacing.{Spacing as Spaces}
use Rattle.arc.specs.Pixels.{Grid}
use Rattle.arc.specs.Spacing.{spacing_of}
use Rattle.arc.proofs.Answered.{answered-grids}
use Rattle.card_text.specs.declared.Fields.{Fields}
use Rattle.card_text.specs.declared.Fill.{Fill}
use Rattle.card_text.specs.Layout.{NUL, NUS, NLL, NLS, NFL, NFC, layout}
use Rattle.card_text.specs.Read.{number_in, card_of, Accepted, Known}
use Rattle.card_text.proofs.Walked.{between, right-in}
use Rattle.card_text.proofs.Spans.{extends}
use Rattle.card_text.proofs.Acceptance.{ReadTo, read-to}

pub record Laid (k : Fields) : Type 0 where
  pub columns : Grid k.a
  pub rows : Grid k.b
  pub N : ℕ
  pub n-is : Is k.n N (k.b / 512)
  pub n-high : N ≤ 2 * (k.b / 512)
  pub north-is : k.north ≡ 128 * N
  pub M : ℕ
  pub m-is : Is k.m M (k.a / 256)
  pub m-high : M ≤ 2 * (k.a / 256)
  pub east-is : k.east ≡ 128 * M
  pub down-some : 1 ≤ k.nfl
  pub down-most : k.nfl ≤ 999
  pub down : k.nfl ≤ N
  pub across-some : 1 ≤ k.nfc
  pub across-most : k.nfc ≤ 999
  pub across : 128 * k.nfc ≤ k.a
  pub top-down : k.nul ≤ k.nll
  pub bottom : k.nll < 128 * k.nfl
  pub left-right : k.nls ≤ k.nus
  pub right : k.nus < 128 * k.nfc

read-laid : (series : Series) (s : List ℕ) (k : Fields) (blanks : ℕ) → ReadTo Fill.Blanks series s k blanks → Laid k
unfolding card_of layout
read-laid series s k blanks r =
    let g = answered-grids series r.a r.b r.spacing in
    let N : ℕ = raise (r.b / 512) r.n in
    let n : Is r.n N (r.b / 512) = is-raise (r.b / 512) r.n r.n-stored.on-grid in
    let nfl = between 1 (number_in NFL s) 999 (right-in Fill.Blanks s r.judged 9 (omega arith)).1 in
    let nfc = between 1 (number_in NFC s) 999 (right-in Fill.Blanks s r.judged 10 (omega arith)).1 in
    let x = extends r.a r.b r.n (number_in NUL s) (number_in NUS s) (number_in NLL s) (number_in NLS s) (number_in NFL s) (number_in NFC s) r.extents in
    subst Laid r.card
    (record {
      columns = g.columns;
      rows = g.rows;
      N = N;
      n-is = n;
      n-high = omega (arith, raise-high (r.b / 512) r.n r.n-stored.on-grid);
      north-is = refl;
      M = raise (r.a / 256) r.m;
      m-is = is-raise (r.a / 256) r.m r.m-stored.on-grid;
      m-high = omega (arith, raise-high (r.a / 256) r.m r.m-stored.on-grid);
      east-is = refl;
      down-some = nfl.0;
      down-most = nfl.1;
      down =
          omega (
            arith,
            le_is (neg_ℤ (pos (r.b / 512))) (r.n -ℤ pos (number_in NFL s)) 0 (r.b / 512) (N + 0) (r.b / 512 + number_in NFL s)
                (is-neg (pos (r.b / 512)) (r.b / 512) 0 (is-nat (r.b / 512)))
                (is-minus r.n (pos (number_in NFL s)) N (r.b / 512) (number_in NFL s) 0 n (is-nat (number_in NFL s))) x.down,
          );
      across-some = nfc.0;
      across-most = nfc.1;
      across = omega (arith, x.across);
      top-down = x.rows.0;
      bottom = x.rows.1;
      left-right = x.columns.0;
      right = x.columns.1;
    })

pub accepted-laid : (series : Series) (k : Fields) → Accepted series k → Laid k
accepted-laid series k h = read-laid series h.bytes k h.blanks (read-to Fill.Blanks series h.bytes k h.blanks h.read)

pub known-laid : (k : Fields) → Known k → Laid k
known-laid k h = accepted-laid h.series k h.is_read

-- a card's constants are those of its scale, factor and zone
pub record Spacing (series : Series) (k : Fields) : Type 0 where
  pub constants : spacing_of series ≡ Ok (record { a = k.a; b = k.b })
  pub same-series : k.series ≡ series

pub accepted-spacing : (series : Series) (k : Fields) → Accepted series k → Spacing series k
unfolding card_of
accepted-spacing series k h =
    let r = read-to Fill.Blanks series h.bytes k h.blanks h.read in
    subst (Spacing series) r.card (record { constants = r.spacing; same-series = refl })

abbrev a_of : Result Spaces Refusal → ℕ
a_of (Ok x) = x.a
a_of (Err r) = 0

abbrev b_of : Result Spaces Refusal → ℕ
b_of (Ok x) = x.b
b_of (Err r) = 0

-- two cards of one scale, factor and zone have the same
pub same-spacing : (series : Series) (j k : Fields) → Accepted series j → Accepted series k → (k.a ≡ j.a) × (k.b ≡ j.b)
same-spacing series j k p q =
    let e = sym (accepted-spacing series j p).constants ∙ (accepted-spacing series k q).constants in
    (sym (ap a_of e), sym (ap b_of e))
