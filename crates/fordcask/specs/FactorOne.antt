-- A factor of 1 is a chart. A claim: the proof is proofs/FactorOne.antt.
--     AsChart S zone     each question with the factor 1 is that of a chart, whose scale is `chart_scale S`: the scale's refusal, and no factor
--     FactorOne          so it is at every scale and in every zone
use Rattle.std.specs.Prelude.{◌≡◌, List, ℕ, ℤ, length}
use Rattle.whole.specs.Results.{◌>>=◌}
use Rattle.arc.specs.Scales.{chart_scale, chart_series}
use Rattle.arc.specs.Spacing.{rows_for, rows_of, spacing_for, spacing_of}
use Rattle.arc.specs.TownScales.{for_writing}
use Rattle.zones.specs.Cover.{cover_at, cover_of}
use Rattle.rectangle.specs.Rectangle.{rectangle_at, rectangle_of}
use Rattle.origin.specs.Origin.{align_in, align_of}
use Rattle.card_text.specs.declared.Record.{Record}
use Rattle.card_text.specs.declared.Fill.{Fill}
use Rattle.card_text.specs.Read.{read_in, read_as}
use Rattle.card_text.specs.Write.{write_in, write_of, text_for, out_after, out_of}

-- 1, 2; cover 1, 4; rectangles 1, 4, 4, 16; alignment 1, 24, 2, 3, 4, 5; reading 1, 2, 3, 6, ..; writing 1, 24, 2, 3, 6, ..
-- reading with the fill of zeros, or with blanks: in both the factor adds no condition
pub record AsChart (s zone : ℕ) : Type 0 where
  pub rows : rows_of s 1 ≡ rows_for (chart_scale s)
  pub spacing : spacing_of (chart_series s zone) ≡ spacing_for (chart_scale s) zone
  pub cover : (lat : ℤ) → cover_of s 1 lat ≡ (rows_for (chart_scale s) >>= (λ b. cover_at b lat))
  pub rectangle : (south north : ℤ) → rectangle_of s 1 south north ≡ (rows_for (chart_scale s) >>= (λ b. rectangle_at b south north))
  pub alignment : (lat lon : ℤ)
      → align_of (chart_series s zone) lat lon ≡ (for_writing s (spacing_for (chart_scale s) zone) >>= (λ x. align_in zone x lat lon))
  pub reading : (fill : Fill) (card : List ℕ)
      → read_as fill (chart_series s zone) card ≡ (spacing_for (chart_scale s) zone >>= (λ x. read_in fill (chart_series s zone) x card))
  pub writing : (r : Record) (out : List ℕ)
      → write_of (chart_series s zone) r out ≡ (for_writing s (spacing_for (chart_scale s) zone) >>= (λ x. write_in zone x r (length out)))
  pub output : (r : Record) (out : List ℕ)
      → out_of (chart_series s zone) r out
      ≡ out_after (for_writing s (spacing_for (chart_scale s) zone) >>= (λ x. write_in zone x r (length out)))
      (text_for (for_writing s (spacing_for (chart_scale s) zone)) r) out

abbrev pub FactorOne : Type 0
FactorOne = (s zone : ℕ) → AsChart s zone
