use Rattle.round_trip.proofs.WriteBack.{writes-back, read-is-text, text-is-read}
use Rattle.round_trip.proofs.laws.read_cards_are_written_back.Goals as goal

pub returns-clause-card : goal.returns-clause-card
returns-clause-card c = writes-back

pub returns-clause-text : goal.returns-clause-text
returns-clause-text c = read-is-text

pub returns-clause-again : goal.returns-clause-again
returns-clause-again c = text-is-read
