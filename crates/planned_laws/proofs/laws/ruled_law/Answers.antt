use Rattle.std.proofs.Common.{List, ap, ◌∙◌}
use Rattle.deadhead_matrix.specs.Fitting.{allowed_network, deadhead_network}
use Rattle.desk_feed.specs.Feed.{standing}
use Rattle.pair_rules.specs.Rules.{PairRule}
use Rattle.trip_model.specs.Plain.{trip_moves}
use Rattle.trip_model.specs.Timetable.{slot_names}
use Rattle.planned_laws.proofs.laws.ruled_law.Goals as goal

pub returns-clause-allowed : goal.returns-clause-allowed
returns-clause-allowed c = λ said matrix is.
    let walks = deadhead_network (trip_moves (standing said).slots) matrix in
    ap (λ (rules : List PairRule). allowed_network rules (slot_names (standing said)) walks) is.rules_are

pub returns-clause-none : goal.returns-clause-none
returns-clause-none c = λ said matrix is none.
    let walks = deadhead_network (trip_moves (standing said).slots) matrix in
    ap (λ (rules : List PairRule). allowed_network rules (slot_names (standing said)) walks) (is.rules_are ∙ none)
