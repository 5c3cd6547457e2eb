-- The subfields read one after the other are the walk and its values. Assumes nothing.
use Rattle.std.proofs.Common.{sym, ◌∙◌, eq-eqb, length}
use Rattle.std.proofs.lemmas.Result.{err_from_is_err_and}
use Rattle.card_text.specs.Read.{read_in}
use Rattle.card_text.proofs.Table.{walk-err, walk-ok}
use Rattle.card_text.proofs.read_spaced.Goals as goal

pub returns-in_err-values : goal.returns-in_err-values
unfolding read_in
returns-in_err-values c =
    let a = c.args in
    let p = err_from_is_err_and c.from_residual.result c.from_residual.ensures.1 in
    rw (
      p.1,
      p.2,
      sym c.is_polar.ensures ∙ c.if-is_polar.false,
      eq-eqb (length a.bytes.now) 98 c.if-bytes-ne98.false,
      walk-err a.fill a.bytes.now (sym c.values_in.ensures ∙ c.in_err-values.was),
    )

pub read_values-requires : goal.read_values-requires
read_values-requires c =
    let a = c.args in
    let w = walk-ok a.fill a.bytes.now (sym c.values_in.ensures ∙ c.in_ok-values.was) in
    record { fill = a.fill; long = c.if-bytes-ne98.false; walks = w.0; kept = w.1 }

pub returns : goal.returns
unfolding read_in
returns c =
    let a = c.args in
    let w = walk-ok a.fill a.bytes.now (sym c.values_in.ensures ∙ c.in_ok-values.was) in
    rw (sym c.is_polar.ensures ∙ c.if-is_polar.false, eq-eqb (length a.bytes.now) 98 c.if-bytes-ne98.false, w.0) c.read_values.ensures
