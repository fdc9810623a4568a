use Rattle.std.proofs.Common.{List, Option, ℕ, ap, ◌∙◌}
use Rattle.trip_model.specs.Blocking.{empty_minutes}
use Rattle.trip_model.specs.Links.{blocks_along}
use Rattle.trip_model.specs.Order.{by_departure}
use Rattle.pair_graph.specs.Pairs.{PairsView, pairs_network}
use Rattle.desk_core.specs.Counts.{minutes_in}
use Rattle.desk_core.specs.Desk.{DeskView}
use Rattle.desk_core.proofs.desk.Desk.minutes.Goals as goal

pub returns : goal.returns
returns g c =
    let minutes : PairsView → List (Option ℕ) → ℕ = λ pairs links.
    empty_minutes (pairs_network pairs) (blocks_along links (by_departure pairs.moves)) in
    c.block_minutes.ensures ∙ (λ i. minutes (c.of-pairs.ensures i) (c.links.ensures i))
    ∙ (λ i. minutes_in (c.timetable.ensures i) c.self.inside.matrix (c.plan.ensures i))
    ∙ ap (λ (d : DeskView). minutes_in d.script.timetable d.matrix d.plan) c.self.view_is
