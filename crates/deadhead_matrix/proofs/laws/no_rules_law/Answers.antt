use Rattle.std.proofs.Common.{List, ap}
use Rattle.pair_rules.specs.Rules.{PairRule}
use Rattle.trip_model.specs.Plain.{trip_moves}
use Rattle.trip_model.specs.Timetable.{slot_names}
use Rattle.deadhead_matrix.specs.Fitting.{allowed_network, deadhead_network}
use Rattle.deadhead_matrix.proofs.laws.no_rules_law.Goals as goal

pub returns : goal.returns
returns c = λ timetable matrix none.
    ap (λ (rules : List PairRule). allowed_network rules (slot_names timetable) (deadhead_network (trip_moves timetable.slots) matrix)) none
