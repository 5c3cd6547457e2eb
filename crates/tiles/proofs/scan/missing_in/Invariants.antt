-- What is left of the window is scanned as the whole. Assumes nothing.
use Rattle.std.specs.Prelude.{◌≡◌, ◌+◌, ◌*◌, ◌-◌, ◌++◌, None}
use Rattle.whole.specs.Lists.{up_from}
use Rattle.tiles.specs.Window.{window_tiles, scan}
use Rattle.tiles.proofs.scan.missing_in.Given as goal

abbrev pub invariant-rows : goal.invariant-rows
invariant-rows g l =
    let says = (g.I.TileIndex.view l.fn.index l.fn.card).says in
    (l.missing ≡ None)
    × (scan says (window_tiles l.fn.card l.fn.window.top l.fn.window.left l.fn.window.height l.fn.window.width)
    ≡ scan says (window_tiles l.fn.card (l.fn.window.top + l.r) l.fn.window.left (l.fn.window.height - l.r) l.fn.window.width))

abbrev pub invariant-loop-c : goal.invariant-loop-c
invariant-loop-c g l =
    let says = (g.I.TileIndex.view l.fn.index l.fn.card).says in
    let w = l.fn.window in
    (l.missing ≡ None)
    × (scan says (window_tiles l.fn.card w.top w.left w.height w.width)
    ≡ scan says (up_from ((w.top + l.r) * l.fn.card.nfc + w.left + l.c) (w.width - l.c)
    ++ window_tiles l.fn.card (w.top + (l.r + 1)) w.left (w.height - (l.r + 1)) w.width))
