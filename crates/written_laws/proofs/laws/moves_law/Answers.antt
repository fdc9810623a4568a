use Rattle.written_laws.proofs.Moves.{least-again, same-moves}
use Rattle.written_laws.proofs.laws.moves_law.Goals as goal

pub returns-clause-same : goal.returns-clause-same
returns-clause-same c = same-moves

pub returns-clause-least : goal.returns-clause-least
returns-clause-least c = least-again
