-- The definitions compute it. Assumes nothing.
use mathlib.Core.Path.{refl}
use Rattle.whole.specs.Whole.{floor_div, nearest, near, ceil_div, modulo}
use Rattle.arc.specs.Pixels.{spacing_at}
use Rattle.origin.specs.Origin.{stored_angle}
use Rattle.text.specs.Text.{number, angle_laid, degrees, minutes, seconds, hundredths, angle_size, angle_of, angle_valid, name_laid, decimal, angle_text}
use Rattle.card_text.specs.Layout.{layout, judge_field}
use Rattle.card_text.specs.Extents.{extents_hold}
use Rattle.whole.specs.Lists.{first_from}
use Rattle.card_text.specs.Read.{card_of, with_values, read_in}
use Rattle.card.specs.Grid.{latitude_of, longitude_of, position_of}
use Rattle.printing.specs.Lines.{lines_of, numbers_of}
use Rattle.printing.specs.Printed.{line_for, printed}
use Rattle.printing.specs.Example.{WorkedExample}

pub worked_example : WorkedExample
unfolding floor_div nearest near ceil_div modulo spacing_at stored_angle number angle_laid degrees minutes seconds hundredths angle_size angle_of
    angle_valid name_laid layout judge_field extents_hold first_from card_of with_values read_in angle_text latitude_of longitude_of position_of lines_of
    numbers_of decimal line_for printed
worked_example = refl
