use Rattle.card.proofs.Nearest.{pixel-nearest, overview-nearest, overview-refused}
use Rattle.card.proofs.laws.corner_pixels_are_nearest.Goals as goal

pub returns-clause-pixel : goal.returns-clause-pixel
returns-clause-pixel c = pixel-nearest

pub returns-clause-overview : goal.returns-clause-overview
returns-clause-overview c = overview-nearest

pub returns-clause-refused : goal.returns-clause-refused
returns-clause-refused c = overview-refused
