-- An accepted card has the bounds that the engine is made from. Assumes nothing.
use Rattle.card_text.specs.declared.Fields.{Fields}
use Rattle.card_text.specs.Read.{Known}
use Rattle.card_text.proofs.Laid.{known-laid}
use Rattle.card.proofs.Axes.{north-high, down-high, east-high}
use Rattle.lists.specs.Bounds.{Bounds}

pub known_bounds : (k : Fields) → Known k → Bounds k
known_bounds k known =
    let l = known-laid k known in
    record {
      columns = l.columns;
      rows = l.rows;
      north = north-high k l;
      down = down-high k l;
      down_most = l.down-most;
      top_down = l.top-down;
      bottom = l.bottom;
      east = east-high k l;
      across = l.across;
      across_most = l.across-most;
      left_right = l.left-right;
      right = l.right;
    }
