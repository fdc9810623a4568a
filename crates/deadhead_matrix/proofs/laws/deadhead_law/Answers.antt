use Rattle.deadhead_matrix.proofs.Days.{AreDepartures-ruled, IsDay-ruled}
use Rattle.deadhead_matrix.proofs.laws.deadhead_law.Goals as goal

pub returns-clause-departures : goal.returns-clause-departures
returns-clause-departures c = AreDepartures-ruled

pub returns-clause-day : goal.returns-clause-day
returns-clause-day c = IsDay-ruled
