-- A worked example, whole: the input, and all that is printed of it. A claim: `prints_the_worked_example` in src/laws.rt has it.
use Rattle.std.specs.Prelude.{◌≡◌, List, ◌++◌, ℕ}
use Rattle.text.specs.Text.{bytes}
use Rattle.printing.specs.Printed.{printed}

abbrev pub input : List ℕ
input =
    bytes "1000000 1\n"
    ++ bytes "30036966400400384-0022935.07+113032.23000000000127000255000000002001000128000128"
    ++ bytes "01008BASE0101.IMGN\n"
    ++ bytes "0 0\n1 1\n255 127\n256 0\n"

abbrev pub output : List ℕ
output =
    bytes "row column latitude longitude\n"
    ++ bytes "0 0 +113032.23 -0022935.07\n"
    ++ bytes "1 1 +113028.99 -0022931.56\n"
    ++ bytes "255 127 +111646.82 -0022209.82\n"
    ++ bytes "256 0 refused 12\n"

abbrev pub WorkedExample : Type 0
WorkedExample = printed input ≡ output
