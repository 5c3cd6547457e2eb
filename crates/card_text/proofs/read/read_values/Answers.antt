-- Each test decides one case of `with_values`, in its order; the counted origin and the record make the fields. Assumes nothing.
use Rattle.std.proofs.Common.{sym, ap₂, ◌∙◌, arith, eq-eqb, ne_eqb, true, false, ℤ}
use Rattle.whole.proofs.Machine.{result-is}
use Rattle.card_text.specs.Read.{accepted_card}
use Rattle.card_text.specs.StepsRead.{record_with}
use Rattle.card_text.proofs.Values.{pso-kept, lso-kept, north-high, east-high, values-are, extents-are}
use Rattle.card_text.proofs.Blanks.{lead-total}
use Rattle.card_text.proofs.read.read_values.Goals as goal

pub returns-then-stated-a : goal.returns-then-stated-a
returns-then-stated-a c =
    let a = c.args in
    let gb = rw c.count-b.ensures.value at c.count-b.ensures.on_grid in
    let ga = rw c.count-a.ensures.value at c.count-a.ensures.on_grid in
    rw (values-are c.requires ga gb a.series, ne_eqb _ _ (rw c.count-a.ensures.value at c.if-stated-a.true))

pub returns-then-stated-b : goal.returns-then-stated-b
returns-then-stated-b c =
    let a = c.args in
    let gb = rw c.count-b.ensures.value at c.count-b.ensures.on_grid in
    let ga = rw c.count-a.ensures.value at c.count-a.ensures.on_grid in
    rw (
      values-are c.requires ga gb a.series,
      eq-eqb _ _ (rw c.count-a.ensures.value at c.if-stated-a.false),
      ne_eqb _ _ (rw c.count-b.ensures.value at c.if-stated-b.true),
    )

pub tile_of-requires : goal.tile_of-requires
tile_of-requires c = omega (arith, pso-kept c.requires)

pub tile_of-requires-2 : goal.tile_of-requires-2
tile_of-requires-2 c = omega (arith, lso-kept c.requires)

pub returns-in_default : goal.returns-in_default
returns-in_default c =
    let a = c.args in
    let gb = rw c.count-b.ensures.value at c.count-b.ensures.on_grid in
    let ga = rw c.count-a.ensures.value at c.count-a.ensures.on_grid in
    rw (
      values-are c.requires ga gb a.series,
      eq-eqb _ _ (rw c.count-a.ensures.value at c.if-stated-a.false),
      eq-eqb _ _ (rw c.count-b.ensures.value at c.if-stated-b.false),
      sym c.tile_of.ensures ∙ c.in_default.is,
    )

pub returns-in_default-tile_of : goal.returns-in_default-tile_of
returns-in_default-tile_of c =
    let a = c.args in
    let gb = rw c.count-b.ensures.value at c.count-b.ensures.on_grid in
    let ga = rw c.count-a.ensures.value at c.count-a.ensures.on_grid in
    rw (
      values-are c.requires ga gb a.series,
      eq-eqb _ _ (rw c.count-a.ensures.value at c.if-stated-a.false),
      eq-eqb _ _ (rw c.count-b.ensures.value at c.if-stated-b.false),
      sym c.tile_of.ensures ∙ c.in-Some.is,
      sym c.tile_of-2.ensures ∙ c.in_default-tile_of.is,
    )

pub overflow_cast-north : goal.overflow_cast-north
overflow_cast-north c =
    let a = c.args in
    let gb = rw c.count-b.ensures.value at c.count-b.ensures.on_grid in
    let ga = rw c.count-a.ensures.value at c.count-a.ensures.on_grid in
    omega (arith, north-high c.requires gb c.tile_of.ensures c.in-Some.is, gb.most)

pub overflow_cast-east : goal.overflow_cast-east
overflow_cast-east c =
    let a = c.args in
    let gb = rw c.count-b.ensures.value at c.count-b.ensures.on_grid in
    let ga = rw c.count-a.ensures.value at c.count-a.ensures.on_grid in
    omega (arith, east-high c.requires ga c.tile_of-2.ensures c.in-Some-tile_of.is, ga.most)

pub fields_of-requires-clause-north_few : goal.fields_of-requires-clause-north_few
fields_of-requires-clause-north_few c =
    let a = c.args in
    let gb = rw c.count-b.ensures.value at c.count-b.ensures.on_grid in
    let ga = rw c.count-a.ensures.value at c.count-a.ensures.on_grid in
    omega (arith, north-high c.requires gb c.tile_of.ensures c.in-Some.is, gb.most)

pub fields_of-requires-clause-east_few : goal.fields_of-requires-clause-east_few
fields_of-requires-clause-east_few c =
    let a = c.args in
    let gb = rw c.count-b.ensures.value at c.count-b.ensures.on_grid in
    let ga = rw c.count-a.ensures.value at c.count-a.ensures.on_grid in
    omega (arith, east-high c.requires ga c.tile_of-2.ensures c.in-Some-tile_of.is, ga.most)

pub returns-then-not-extents_hold : goal.returns-then-not-extents_hold
returns-then-not-extents_hold c =
    let a = c.args in
    let gb = rw c.count-b.ensures.value at c.count-b.ensures.on_grid in
    let ga = rw c.count-a.ensures.value at c.count-a.ensures.on_grid in
    let n = result-is c.difference-n.type_inv (rw c.count-b.ensures.value at c.difference-n.ensures) in
    let m = result-is c.difference-m.type_inv (rw c.count-a.ensures.value at c.difference-m.ensures) in
    let r = c.record_of-r.ensures ∙ ap₂ (λ (x y : ℤ). record_with x y a.values) n m in
    rw (
      values-are c.requires ga gb a.series,
      eq-eqb _ _ (rw c.count-a.ensures.value at c.if-stated-a.false),
      eq-eqb _ _ (rw c.count-b.ensures.value at c.if-stated-b.false),
      sym c.tile_of.ensures ∙ c.in-Some.is,
      sym c.tile_of-2.ensures ∙ c.in-Some-tile_of.is,
      extents-are a.series a.spacing.a a.spacing.b c.in-Some.north c.in-Some-tile_of.east a.s.now c.record_of-r.result false
          (rw c.requires.kept at r) (sym c.if-not-extents_hold.true ∙ (rw c.count-a.ensures.value at c.extents_hold.ensures)),
    )

pub returns : goal.returns
returns c =
    let a = c.args in
    let gb = rw c.count-b.ensures.value at c.count-b.ensures.on_grid in
    let ga = rw c.count-a.ensures.value at c.count-a.ensures.on_grid in
    let w = c.requires in
    let n = result-is c.difference-n.type_inv (rw c.count-b.ensures.value at c.difference-n.ensures) in
    let m = result-is c.difference-m.type_inv (rw c.count-a.ensures.value at c.difference-m.ensures) in
    let r = c.record_of-r.ensures ∙ ap₂ (λ (x y : ℤ). record_with x y a.values) n m in
    rw (
      values-are c.requires ga gb a.series,
      eq-eqb _ _ (rw c.count-a.ensures.value at c.if-stated-a.false),
      eq-eqb _ _ (rw c.count-b.ensures.value at c.if-stated-b.false),
      sym c.tile_of.ensures ∙ c.in-Some.is,
      sym c.tile_of-2.ensures ∙ c.in-Some-tile_of.is,
      extents-are a.series a.spacing.a a.spacing.b c.in-Some.north c.in-Some-tile_of.east a.s.now c.record_of-r.result true
          (rw c.requires.kept at r) (sym c.if-not-extents_hold.false ∙ (rw c.count-a.ensures.value at c.extents_hold.ensures)),
    )
    (ap₂ accepted_card c.fields_of.ensures (c.blanks_in.ensures ∙ lead-total w.fill a.s.now w.long w.walks))
