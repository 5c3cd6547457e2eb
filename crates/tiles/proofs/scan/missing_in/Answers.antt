-- Each turn passes a stored tile, as a glance tells. Assumes nothing.
use Rattle.std.proofs.Common.{ℕ, Ok, ap, sym, subst, ◌∙◌, arith}
use Rattle.tiles.specs.declared.Said.{Said}
use Rattle.tiles.specs.Steps.{IsGlance}
use Rattle.tiles.proofs.Ahead.{enter, leave, done}
use Rattle.tiles.proofs.Turn.{known-as, row_few, tile_few, turn}
use Rattle.tiles.proofs.scan.missing_in.Goals as goal

pub overflow_mul-start : goal.overflow_mul-start
overflow_mul-start g c =
    let k = known-as c.fields-across.ensures.value c.fields-across.ensures.known in
    rw c.fields-across.ensures.value (omega (arith, row_few c.args.card _ _ _ _ k c.requires c.rows.r c.rows-test.true))

pub overflow_add-start-in-rows : goal.overflow_add-start-in-rows
overflow_add-start-in-rows g c =
    let k = known-as c.fields-across.ensures.value c.fields-across.ensures.known in
    rw c.fields-across.ensures.value (omega (arith, row_few c.args.card _ _ _ _ k c.requires c.rows.r c.rows-test.true))

pub loop-c-init : goal.loop-c-init
loop-c-init g c =
    let w = c.args.window in
    (c.rows.invariant.0, c.rows.invariant.1 ∙ enter _ c.args.card w.top w.left c.rows.r w.height w.width c.rows-test.true)

pub overflow_add-tile : goal.overflow_add-tile
overflow_add-tile g c =
    let k = known-as c.fields-across.ensures.value c.fields-across.ensures.known in
    rw c.fields-across.ensures.value (omega (arith, tile_few c.args.card _ _ _ _ k c.requires c.rows.r c.rows-test.true c.loop-c.c c.loop-c-test.true))

pub overflow_cast-tile : goal.overflow_cast-tile
overflow_cast-tile g c =
    let k = known-as c.fields-across.ensures.value c.fields-across.ensures.known in
    omega (arith, tile_few c.args.card _ _ _ _ k c.requires c.rows.r c.rows-test.true c.loop-c.c c.loop-c-test.true)

pub overflow_cast-start : goal.overflow_cast-start
overflow_cast-start g c =
    let k = known-as c.fields-across.ensures.value c.fields-across.ensures.known in
    rw c.fields-across.ensures.value (omega (arith, row_few c.args.card _ _ _ _ k c.requires c.rows.r c.rows-test.true))

pub returns-in-Above : goal.returns-in-Above
returns-in-Above g c =
    let a = c.args in
    let w = a.window in
    let T = g.I.TileIndex in
    let says = (T.view a.index.now a.card).says in
    let law = subst (λ (e : ℕ). IsGlance a.card (T.glance a.index.now a.card e) says) (sym c.end-end.ensures) (g.met.I.TileIndex.glances a.index.now a.card) in
    let seen = rw c.fields-across.ensures.value at c.glance.ensures in
    let t = turn a.card w.top w.left w.height w.width (known-as c.fields-across.ensures.value c.fields-across.ensures.known) c.requires c.rows.r
    c.rows-test.true
    c.loop-c.c c.loop-c-test.true says (T.glance a.index.now a.card c.end-end.result) law _ c.loop-c.invariant.1 c.glance.result seen
    (Said.Above) c.in-Above.is in
    rw (c.from-in-Above.ensures, c.fields-across.ensures.value) (sym t)

pub loop-c-preserved : goal.loop-c-preserved
loop-c-preserved g c =
    let a = c.args in
    let w = a.window in
    let T = g.I.TileIndex in
    let says = (T.view a.index.now a.card).says in
    let law = subst (λ (e : ℕ). IsGlance a.card (T.glance a.index.now a.card e) says) (sym c.end-end.ensures) (g.met.I.TileIndex.glances a.index.now a.card) in
    let seen = rw c.fields-across.ensures.value at c.glance.ensures in
    let t = turn a.card w.top w.left w.height w.width (known-as c.fields-across.ensures.value c.fields-across.ensures.known) c.requires c.rows.r
    c.rows-test.true
    c.loop-c.c c.loop-c-test.true says (T.glance a.index.now a.card c.end-end.result) law _ c.loop-c.invariant.1 c.glance.result seen
    (Said.Stored c.in-Stored.field-0) c.in-Stored.is in
    (c.loop-c.invariant.0, t)

pub returns-in-Missing : goal.returns-in-Missing
returns-in-Missing g c =
    let a = c.args in
    let w = a.window in
    let T = g.I.TileIndex in
    let says = (T.view a.index.now a.card).says in
    let law = subst (λ (e : ℕ). IsGlance a.card (T.glance a.index.now a.card e) says) (sym c.end-end.ensures) (g.met.I.TileIndex.glances a.index.now a.card) in
    let seen = rw c.fields-across.ensures.value at c.glance.ensures in
    let t = turn a.card w.top w.left w.height w.width (known-as c.fields-across.ensures.value c.fields-across.ensures.known) c.requires c.rows.r
    c.rows-test.true
    c.loop-c.c c.loop-c-test.true says (T.glance a.index.now a.card c.end-end.result) law _ c.loop-c.invariant.1 c.glance.result seen
    (Said.Missing) c.in-Missing.is in
    rw (c.from.ensures, c.fields-across.ensures.value) (sym t)

pub rows-preserved : goal.rows-preserved
rows-preserved g c = (c.loop-c.invariant.0, c.loop-c.invariant.1 ∙ leave _ _ c.loop-c.c _ _ c.loop-c-test.false)

pub returns-after-rows : goal.returns-after-rows
returns-after-rows g c =
    let a = c.args in
    let w = a.window in
    ap Ok c.rows.invariant.0 ∙ sym (c.rows.invariant.1 ∙ done _ a.card w.top w.left c.rows.r w.height w.width c.rows-test.false)
