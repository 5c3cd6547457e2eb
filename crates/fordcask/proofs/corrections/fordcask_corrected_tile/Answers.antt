-- A stored tile lies in its store, whose length is below 2^64. Assumes nothing.
use Rattle.std.proofs.Common.{rules, ◌≡◌, ◌^◌, ◌<◌, length, sym, subst, arith}
use Rattle.card.specs.Read.{card_read}
use Rattle.tiles.specs.Corrections.{source_of}
use Rattle.tiles.specs.Index.{by_list}
use Rattle.tiles.specs.Corrections.{corrected_by}
use Rattle.tiles.specs.Laws.{corrected-held, list-held}
use Rattle.fordcask.specs.Entry.{asked}
use Rattle.fordcask.specs.Steps.{Numbered}
use Rattle.fordcask.proofs.Questions.{numbered}
use Rattle.fordcask.proofs.corrections.fordcask_corrected_tile.Goals as goal

pub corrected_tile_block-requires : goal.corrected_tile_block-requires
corrected_tile_block-requires c =
    let a = c.args in
    let b : length a.store.now < 2 ^ 64 = omega (arith, c.well_formed) in
    let e : c.on_card.result ≡ asked (card_read a.series a.card.now)
    (λ k. source_of k a.index.now a.count a.store.now a.corrections.now a.corrected a.second.now a.row a.column) = search rules in
    subst Numbered (sym e)
    (numbered (card_read a.series a.card.now) (λ k. corrected_by k (by_list k a.index.now a.count) a.corrections.now a.corrected)
    a.store.now a.second.now a.row a.column b (omega (arith, c.well_formed))
    (λ k. corrected-held k (by_list k a.index.now a.count) a.corrections.now a.corrected (list-held k a.index.now a.count)))
