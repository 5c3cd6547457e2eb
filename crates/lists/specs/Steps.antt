-- What only the code needs: the engine, the numbers that a card gives once in a pair. Definitions only.
--     chart_of e          the card and the pair of an engine
--     engine_of p k       the engine of a card for a pair
--     Made e              it is the engine of its card and its pair, and some accepted card gives that card
use Rattle.std.specs.Prelude.{◌≡◌}
use Rattle.card_text.specs.declared.Fields.{Fields}
use Rattle.card.specs.declared.Pair.{Pair}
use Rattle.card_text.specs.Read.{Known}
use Rattle.lists.specs.Axes.{row_axis, column_axis, down_span, across_span}
use Rattle.lists.specs.Chart.{Chart}
use Rattle.lists.specs.declared.engine.Engine.TheInside.{Inside}

abbrev pub chart_of : Inside → Chart
chart_of e = record { card = e.card; pair = e.pair }

unfoldable pub engine_of : Pair → Fields → Inside
engine_of p k =
    record {
      card = k;
      pair = p;
      rows = row_axis p k;
      columns = column_axis p k;
      down = down_span p k;
      across = across_span p k;
    }

pub record Made (e : Inside) : Type 0 where
  pub known : Known e.card
  pub same : e ≡ engine_of e.pair e.card
