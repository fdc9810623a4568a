use Rattle.trip_model.proofs.Counting.{runs-within}
use Rattle.trip_model.proofs.PlainLemmas.{made-trips, AreMoves-trips, AreDepartures-plain, AreDepartures-timely, AreLinks-timely}
use Rattle.trip_model.proofs.PlainLemmas.{IsLeast-plain}
use Rattle.trip_model.proofs.laws.plain_law.Goals as goal

pub returns-clause-within : goal.returns-clause-within
returns-clause-within c = runs-within

pub returns-clause-made : goal.returns-clause-made
returns-clause-made c = made-trips

pub returns-clause-moves : goal.returns-clause-moves
returns-clause-moves c = AreMoves-trips

pub returns-clause-meeting : goal.returns-clause-meeting
returns-clause-meeting c = AreDepartures-plain

pub returns-clause-timely : goal.returns-clause-timely
returns-clause-timely c = AreDepartures-timely

pub returns-clause-links : goal.returns-clause-links
returns-clause-links c = AreLinks-timely

pub returns-clause-least : goal.returns-clause-least
returns-clause-least c = IsLeast-plain
