-- Each turn takes the next zone or passes it by. Assumes nothing.
use Rattle.std.proofs.Common.{ℕ, length-append, sym, ◌∙◌, arith}
use Rattle.rectangle.proofs.Turn.{begun, took, left_out}
use Rattle.rectangle.proofs.zones_of.Goals as goal
use Rattle.rectangle.proofs.zones_of.Goals.{then-zone_shares, else-zone_shares}

pub loop-zone-init : goal.loop-zone-init
loop-zone-init c =
    rw c.new-zones.ensures (record { few = omega arith; sofar = begun c.args.b c.args.south c.args.north })

pub loop-zone-preserved : goal.loop-zone-preserved
loop-zone-preserved c =
    let a = c.args in
    let l = c.loop-zone in
    let e = c.zone_shares.ensures in
    elim c.if-zone_shares.branch [
      | then-zone_shares w ↦
          rw (w.zones-is, w.push.ensures.items) (record {
            few = omega (arith, length-append {A = ℕ}, l.invariant.few);
            sofar = took a.b a.south a.north l.zone l.zones.items c.loop-zone-test.true l.invariant.sofar (sym e ∙ w.if-zone_shares.true);
          })
      | else-zone_shares w ↦
          rw w.zones-is (record {
            few = omega (arith, l.invariant.few);
            sofar = left_out a.b a.south a.north l.zone l.zones.items c.loop-zone-test.true l.invariant.sofar (sym e ∙ w.if-zone_shares.false);
          })
    ]
