-- Each case computes. Assumes nothing.
use mathlib.Core.Path.{refl}
use Rattle.whole.specs.Whole.{floor_div, nearest, ceil_div, modulo}
use Rattle.arc.specs.Pixels.{spacing_at}
use Rattle.zones.specs.Basic.{first_holding}
use Rattle.zones.specs.Cover.{covers}
use Rattle.origin.specs.Origin.{stored_angle}
use Rattle.text.specs.Text.{number, angle_laid, degrees, minutes, seconds, hundredths, angle_size, angle_of, angle_valid, name_laid}
use Rattle.card_text.specs.Layout.{layout, judge_field}
use Rattle.card_text.specs.Extents.{extents_hold}
use Rattle.whole.specs.Lists.{first_from}
use Rattle.card_text.specs.Read.{card_of, with_values, read_in}
use Rattle.card.specs.Grid.{latitude_of, longitude_of, position_of}
use Rattle.marked_cases.specs.Cases.{MarkedCases}

pub all_hold : MarkedCases
unfolding floor_div nearest ceil_div modulo spacing_at first_holding covers stored_angle number angle_laid degrees minutes seconds hundredths
    angle_size angle_of angle_valid name_laid layout judge_field extents_hold first_from card_of with_values read_in latitude_of longitude_of position_of
all_hold = (refl, (refl, (refl, (refl, (refl, (refl, (refl, (refl, (refl, (refl, (refl, (refl, tt))))))))))))
