-- What the engine is made from, in naturals: the bounds on a card that reading has tested. Definitions only.
use Rattle.std.specs.Prelude.{◌*◌, ◌≤◌, ◌<◌}
use Rattle.arc.specs.Pixels.{Grid}
use Rattle.card_text.specs.declared.Fields.{Fields}

pub record Bounds (k : Fields) : Type 0 where
  pub columns : Grid k.a
  pub rows : Grid k.b
  pub north : 2 * k.north ≤ k.b
  pub down : 128 * k.nfl ≤ k.north
  pub down_most : k.nfl ≤ 999
  pub top_down : k.nul ≤ k.nll
  pub bottom : k.nll < 128 * k.nfl
  pub east : k.east ≤ k.a
  pub across : 128 * k.nfc ≤ k.a
  pub across_most : k.nfc ≤ 999
  pub left_right : k.nls ≤ k.nus
  pub right : k.nus < 128 * k.nfc
