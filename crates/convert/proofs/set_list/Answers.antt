-- Each turn writes an entry more. Assumes nothing.
use Rattle.std.proofs.Common.{◌≡◌, ℕ, List, cond, eqb, set, ◌+◌, refl, ap, ap₂, sym, ◌∙◌, arith}
use Rattle.presence.specs.Presence.{counted, number_at}
use Rattle.presence.proofs.Counted.{counted_none, counted_step, counted-le}
use Rattle.tiles.proofs.Listed.{listed_more}
use Rattle.convert.proofs.set_list.Goals as goal

pub loop-tile-init : goal.loop-tile-init
loop-tile-init c = (sym (counted_none _), refl)

pub overflow_add-stored : goal.overflow_add-stored
overflow_add-stored c =
    let l = c.loop-tile in
    omega (arith, counted_step c.args.words.now l.tile, c.bit-bit.ensures, l.invariant.0, counted-le c.args.words.now (l.tile + 1), c.requires)

pub loop-tile-preserved : goal.loop-tile-preserved
unfolding number_at
loop-tile-preserved c =
    let l = c.loop-tile in
    let ws = c.args.words.now in
    let more : l.stored + c.bit-bit.result ≡ counted ws (l.tile + 1) = omega (arith, counted_step ws l.tile, c.bit-bit.ensures, l.invariant.0) in
    let e : c.entry.result ≡ number_at ws l.tile = c.entry.ensures ∙ ap₂ (λ (x y : ℕ). cond (eqb x 0) 0 y) c.bit-bit.ensures more in (
      more,
      ap (λ (s : List ℕ). set s l.tile c.entry.result) l.invariant.1 ∙ listed_more (number_at ws) l.tile c.entry.result c.args.index.now (omega arith) e,
    )
