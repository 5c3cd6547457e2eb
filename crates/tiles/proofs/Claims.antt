-- The lemmas of claims that `search` takes, for the functions of src/laws.rt.
use Rattle.tiles.proofs.Once.{each-once, up-to-count}
use Rattle.tiles.proofs.Accepts.{once-accepted}
use Rattle.tiles.proofs.Alike.{one-tile, one_entry}
use Rattle.tiles.proofs.Apart.{parts-apart}
use Rattle.tiles.proofs.Image.{whole-view, whole-image}
use Rattle.tiles.proofs.Corrections.{zero-window, window-not-consulted}
use Rattle.tiles.proofs.Setting.{sets-one, other-windows}
use Rattle.tiles.proofs.AsList.{number-as-list, part-as-list, bands-as-list, window-as-list}
use Rattle.tiles.proofs.AsList.{source-as-list, either-part-as-list, either-bands-as-list, corrected-window-as-list}
use Rattle.tiles.proofs.Orders.{number-order, bits-number-order, source-order, bits-source-order}
use Rattle.tiles.proofs.Orders.{window-order, bits-window-order, corrected-window-order, corrected-bits-window-order}

pub ruleset checking = (each-once, up-to-count, once-accepted)

pub ruleset looking_up = (one-tile, one_entry, parts-apart)

pub ruleset viewing = (whole-view, whole-image)

pub ruleset correcting = (zero-window, window-not-consulted)

pub ruleset setting = (sets-one, other-windows)

pub ruleset as_list = (number-as-list, part-as-list, bands-as-list, window-as-list)

pub ruleset corrected_as_list = (source-as-list, either-part-as-list, either-bands-as-list, corrected-window-as-list)

pub ruleset orders = (number-order, bits-number-order, source-order, bits-source-order)

pub ruleset window_orders = (window-order, bits-window-order, corrected-window-order, corrected-bits-window-order)
