-- A stored tile lies in its store, whose length is below 2^64. Assumes nothing.
use Rattle.std.proofs.Common.{rules, ◌≡◌, ◌^◌, ◌<◌, length, sym, subst, arith}
use Rattle.card.specs.Read.{card_read}
use Rattle.tiles.specs.Bits.{bits_source_of}
use Rattle.tiles.specs.Bits.{by_bits}
use Rattle.tiles.specs.Corrections.{corrected_by}
use Rattle.tiles.specs.Laws.{corrected-held, bits-held}
use Rattle.fordcask.specs.Entry.{asked}
use Rattle.fordcask.specs.Steps.{Numbered}
use Rattle.fordcask.proofs.Questions.{numbered}
use Rattle.fordcask.proofs.corrected_bits.fordcask_corrected_bits_tile.Goals as goal

pub corrected_tile_block-requires : goal.corrected_tile_block-requires
corrected_tile_block-requires c =
    let a = c.args in
    let b : length a.store.now < 2 ^ 64 = omega (arith, c.well_formed) in
    let e : c.on_card.result ≡ asked (card_read a.series a.card.now)
    (λ k. bits_source_of k a.words.now a.count a.store.now a.corrections.now a.corrected a.second.now a.row a.column) = search rules in
    subst Numbered (sym e)
    (numbered (card_read a.series a.card.now) (λ k. corrected_by k (by_bits k a.words.now a.count) a.corrections.now a.corrected)
    a.store.now a.second.now a.row a.column b (omega (arith, c.well_formed))
    (λ k. corrected-held k (by_bits k a.words.now a.count) a.corrections.now a.corrected (bits-held k a.words.now a.count)))
