-- Each test decides one case of `write_in`, in its order, with the output as it was; past the tests the codes of the record
-- are its bytes. Assumes nothing.
use Rattle.std.proofs.Common.{◌≡◌, ℕ, List, ◌/◌, ◌≤◌, true, false, length, sym, ◌∙◌, arith, rules, w64, Err, le-leb}
use mir.Val.{SFits}
use Rattle.std.proofs.lemmas.Result.{err_from_is_err_and}
use Rattle.whole.proofs.Machine.{told}
use Rattle.whole.proofs.Counts.{inside_is, counted-outside, counted-from}
use Rattle.origin.proofs.Axis.{latitudes, longitudes, stored_is}
use Rattle.arc.specs.declared.refusal.Refusal.{Refusal}
use Rattle.arc.specs.declared.series.Spacing.{Spacing}
use Rattle.arc.specs.Zones.{is_polar}
use Rattle.card_text.specs.declared.Record.{Record}
use Rattle.card_text.specs.Layout.{Judged}
use Rattle.card_text.specs.Write.{first, record_tests, write_in}
use Rattle.card_text.specs.StepsWrite.{out_in}
use Rattle.card_text.proofs.Tests.{counts-refused, rows-refused, columns-refused, extents-judged}
use Rattle.card_text.proofs.write.write_spaced.Goals as goal

-- past the first two tests the record's decide; a refusal leaves the output as it was
module _ (zone : ℕ) (x : Spacing) (r : Record) (out : List ℕ) (other : false ≡ is_polar zone) (room : 98 ≤ length out) where
  answered : {v : Judged} → first (record_tests x.a x.b r) ≡ v → write_in zone x r (length out) ≡ v
  answered e = rw (sym other, le-leb 98 (length out) room) e

  stays : {e : Refusal} → first (record_tests x.a x.b r) ≡ Err e → out ≡ out_in zone x r out
  stays p = rw (answered p)

pub returns-in_err-judge_counts-clause-answer : goal.returns-in_err-judge_counts-clause-answer
returns-in_err-judge_counts-clause-answer c =
    let a = c.args in
    let e = counts-refused a.spacing.a a.spacing.b a.r (sym c.judge_counts.ensures ∙ c.in_err-judge_counts.was) in
    let p = err_from_is_err_and c.from_residual.result c.from_residual.ensures.1 in
    rw (p.1, p.2, answered a.zone a.spacing a.r a.out.now c.if-is_polar.ensures (omega arith) e)

pub returns-in_err-judge_counts-clause-left : goal.returns-in_err-judge_counts-clause-left
returns-in_err-judge_counts-clause-left c =
    let a = c.args in
    let e = counts-refused a.spacing.a a.spacing.b a.r (sym c.judge_counts.ensures ∙ c.in_err-judge_counts.was) in
    stays a.zone a.spacing a.r a.out.now c.if-is_polar.ensures (omega arith) e

pub returns-in_default-clause-answer : goal.returns-in_default-clause-answer
returns-in_default-clause-answer c =
    let a = c.args in
    let x = a.spacing in
    let right = sym c.judge_counts.ensures ∙ c.in_ok-judge_counts.was in
    let b-is = c.count-b.ensures.value in
    let a-is = c.count-a.ensures.value in
    let n : SFits w64 a.r.n = search rules in
    let e = rows-refused x.a x.b a.r right (rw b-is at (counted-outside (c.count-b.result / 512) a.r.n n c.count_from.ensures c.in_default.is)) in
    rw (answered a.zone x a.r a.out.now c.if-is_polar.ensures (omega arith) e)

pub returns-in_default-clause-left : goal.returns-in_default-clause-left
returns-in_default-clause-left c =
    let a = c.args in
    let x = a.spacing in
    let right = sym c.judge_counts.ensures ∙ c.in_ok-judge_counts.was in
    let b-is = c.count-b.ensures.value in
    let a-is = c.count-a.ensures.value in
    let n : SFits w64 a.r.n = search rules in
    let e = rows-refused x.a x.b a.r right (rw b-is at (counted-outside (c.count-b.result / 512) a.r.n n c.count_from.ensures c.in_default.is)) in
    stays a.zone x a.r a.out.now c.if-is_polar.ensures (omega arith) e

pub returns-in_default-count_from-clause-answer : goal.returns-in_default-count_from-clause-answer
returns-in_default-count_from-clause-answer c =
    let a = c.args in
    let x = a.spacing in
    let right = sym c.judge_counts.ensures ∙ c.in_ok-judge_counts.was in
    let b-is = c.count-b.ensures.value in
    let a-is = c.count-a.ensures.value in
    let n : SFits w64 a.r.n = search rules in
    let m : SFits w64 a.r.m = search rules in
    let row = rw b-is at (counted-from (c.count-b.result / 512) a.r.n n c.count_from.ensures c.in-Some.is) in
    let out = rw a-is at (counted-outside (c.count-a.result / 256) a.r.m m c.count_from-2.ensures c.in_default-count_from.is) in
    let e = columns-refused x.a x.b a.r right row.test out in
    rw (answered a.zone x a.r a.out.now c.if-is_polar.ensures (omega arith) e)

pub returns-in_default-count_from-clause-left : goal.returns-in_default-count_from-clause-left
returns-in_default-count_from-clause-left c =
    let a = c.args in
    let x = a.spacing in
    let right = sym c.judge_counts.ensures ∙ c.in_ok-judge_counts.was in
    let b-is = c.count-b.ensures.value in
    let a-is = c.count-a.ensures.value in
    let n : SFits w64 a.r.n = search rules in
    let m : SFits w64 a.r.m = search rules in
    let row = rw b-is at (counted-from (c.count-b.result / 512) a.r.n n c.count_from.ensures c.in-Some.is) in
    let out = rw a-is at (counted-outside (c.count-a.result / 256) a.r.m m c.count_from-2.ensures c.in_default-count_from.is) in
    let e = columns-refused x.a x.b a.r right row.test out in
    stays a.zone x a.r a.out.now c.if-is_polar.ensures (omega arith) e

pub returns-then-not-extents_hold-clause-answer : goal.returns-then-not-extents_hold-clause-answer
returns-then-not-extents_hold-clause-answer c =
    let a = c.args in
    let x = a.spacing in
    let right = sym c.judge_counts.ensures ∙ c.in_ok-judge_counts.was in
    let b-is = c.count-b.ensures.value in
    let a-is = c.count-a.ensures.value in
    let n : SFits w64 a.r.n = search rules in
    let m : SFits w64 a.r.m = search rules in
    let row = rw b-is at (counted-from (c.count-b.result / 512) a.r.n n c.count_from.ensures c.in-Some.is) in
    let column = rw a-is at (counted-from (c.count-a.result / 256) a.r.m m c.count_from-2.ensures c.in-Some-count_from.is) in
    let held = sym c.if-not-extents_hold.true ∙ (rw a-is at c.extents_hold.ensures) in
    let e = extents-judged x.a x.b a.r right row column false held in
    rw (answered a.zone x a.r a.out.now c.if-is_polar.ensures (omega arith) e)

pub returns-then-not-extents_hold-clause-left : goal.returns-then-not-extents_hold-clause-left
returns-then-not-extents_hold-clause-left c =
    let a = c.args in
    let x = a.spacing in
    let right = sym c.judge_counts.ensures ∙ c.in_ok-judge_counts.was in
    let b-is = c.count-b.ensures.value in
    let a-is = c.count-a.ensures.value in
    let n : SFits w64 a.r.n = search rules in
    let m : SFits w64 a.r.m = search rules in
    let row = rw b-is at (counted-from (c.count-b.result / 512) a.r.n n c.count_from.ensures c.in-Some.is) in
    let column = rw a-is at (counted-from (c.count-a.result / 256) a.r.m m c.count_from-2.ensures c.in-Some-count_from.is) in
    let held = sym c.if-not-extents_hold.true ∙ (rw a-is at c.extents_hold.ensures) in
    let e = extents-judged x.a x.b a.r right row column false held in
    stays a.zone x a.r a.out.now c.if-is_polar.ensures (omega arith) e

pub put_card-requires-clause-lat_stored : goal.put_card-requires-clause-lat_stored
put_card-requires-clause-lat_stored c =
    let a = c.args in
    let n : SFits w64 a.r.n = search rules in
    let row = counted-from (c.count-b.result / 512) a.r.n n c.count_from.ensures c.in-Some.is in
    told _ 32400000 c.angle_at-lat.type_inv (rw (← c.count-b.ensures.value) at c.angle_at-lat.ensures) (stored_is (latitudes
    c.count-b.result c.count-b.ensures.on_grid) a.r.n _ (inside_is row))

pub put_card-requires-clause-lon_stored : goal.put_card-requires-clause-lon_stored
put_card-requires-clause-lon_stored c =
    let a = c.args in
    let m : SFits w64 a.r.m = search rules in
    let column = counted-from (c.count-a.result / 256) a.r.m m c.count_from-2.ensures c.in-Some-count_from.is in
    told _ 64800000 c.angle_at-lon.type_inv (rw (← c.count-a.ensures.value) at c.angle_at-lon.ensures) (stored_is (longitudes
    c.count-a.result c.count-a.ensures.on_grid) a.r.m _ (inside_is column))

pub returns-clause-answer : goal.returns-clause-answer
returns-clause-answer c =
    let a = c.args in
    let x = a.spacing in
    let n : SFits w64 a.r.n = search rules in
    let m : SFits w64 a.r.m = search rules in
    let right = sym c.judge_counts.ensures ∙ c.in_ok-judge_counts.was in
    let b-is = c.count-b.ensures.value in
    let a-is = c.count-a.ensures.value in
    let row = rw b-is at (counted-from (c.count-b.result / 512) a.r.n n c.count_from.ensures c.in-Some.is) in
    let column = rw a-is at (counted-from (c.count-a.result / 256) a.r.m m c.count_from-2.ensures c.in-Some-count_from.is) in
    let held = sym c.if-not-extents_hold.false ∙ (rw a-is at c.extents_hold.ensures) in
    let e = extents-judged x.a x.b a.r right row column true held in
    rw (answered a.zone x a.r a.out.now c.if-is_polar.ensures (omega arith) e)

pub returns-clause-left : goal.returns-clause-left
returns-clause-left c =
    let a = c.args in
    let x = a.spacing in
    let n : SFits w64 a.r.n = search rules in
    let m : SFits w64 a.r.m = search rules in
    let right = sym c.judge_counts.ensures ∙ c.in_ok-judge_counts.was in
    let b-is = c.count-b.ensures.value in
    let a-is = c.count-a.ensures.value in
    let row = rw b-is at (counted-from (c.count-b.result / 512) a.r.n n c.count_from.ensures c.in-Some.is) in
    let column = rw a-is at (counted-from (c.count-a.result / 256) a.r.m m c.count_from-2.ensures c.in-Some-count_from.is) in
    let held = sym c.if-not-extents_hold.false ∙ (rw a-is at c.extents_hold.ensures) in
    let e = extents-judged x.a x.b a.r right row column true held in
    rw (answered a.zone x a.r a.out.now c.if-is_polar.ensures (omega arith) e) (rw (a-is, b-is) at c.put_card.ensures)
