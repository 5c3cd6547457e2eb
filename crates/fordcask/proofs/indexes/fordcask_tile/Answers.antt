-- A stored tile lies in its store, whose length is below 2^64. Assumes nothing.
use Rattle.std.proofs.Common.{rules, ◌≡◌, ◌^◌, ◌<◌, length, [], sym, subst, arith}
use Rattle.card.specs.Read.{card_read}
use Rattle.tiles.specs.LookUp.{number_of}
use Rattle.tiles.specs.Index.{by_list}
use Rattle.tiles.specs.Laws.{list-held}
use Rattle.fordcask.specs.Entry.{asked}
use Rattle.fordcask.specs.Steps.{Numbered}
use Rattle.fordcask.proofs.Questions.{numbered}
use Rattle.fordcask.proofs.indexes.fordcask_tile.Goals as goal

pub tile_block-requires : goal.tile_block-requires
tile_block-requires c =
    let a = c.args in
    let b : length a.store.now < 2 ^ 64 = omega (arith, c.well_formed) in
    let e : c.on_card.result ≡ asked (card_read a.series a.card.now)
    (λ k. number_of k a.index.now a.count a.store.now a.row a.column) = search rules in
    subst Numbered (sym e)
    (numbered (card_read a.series a.card.now) (λ k. by_list k a.index.now a.count) a.store.now [] a.row a.column b (omega arith) (λ k. list-held k a.index.now a.count))
