-- The lemmas of the claims. Assumes nothing.
use Rattle.fordcask.proofs.Questions.{tile-is-part, bits-tile-is-part, corrected-tile-is-part, corrected-bits-tile-is-part}
use Rattle.fordcask.proofs.laws.blocks_name_parts.Goals as goal

pub returns-clause-list : goal.returns-clause-list
returns-clause-list c = tile-is-part

pub returns-clause-bits : goal.returns-clause-bits
returns-clause-bits c = bits-tile-is-part

pub returns-clause-corrected_list : goal.returns-clause-corrected_list
returns-clause-corrected_list c = corrected-tile-is-part

pub returns-clause-corrected_bits : goal.returns-clause-corrected_bits
returns-clause-corrected_bits c = corrected-bits-tile-is-part
