use Rattle.std.proofs.Common.{◌<◌, ap, subst, ◌∙◌, length, arith}
use Rattle.trip_model.specs.Deficit.{deficit, live_moves}
use Rattle.trip_model.specs.Maximum.{sum_of_maxima}
use Rattle.trip_model.specs.Timetable.{IsTimetable}
use Rattle.desk_core.specs.Desk.{DeskView}
use Rattle.desk_core.proofs.FollowLemmas.{total-is, total-few}
use Rattle.desk_core.proofs.desk.Desk+Deficits.fixed.Goals as goal

pub overflow_cast-result : goal.overflow_cast-result
overflow_cast-result c =
    let t = c.self.inside.script.timetable in
    let deficits = c.self.inside.kept in
    let total = total-is t deficits c.total.result c.self.invariant.1.rows c.total.ensures
    (c.held_law.ensures.total deficits (live_moves t.slots) c.places-rows.ensures.valid c.self.invariant.1.held) in
    let few : c.total.result < 4294967296 =
    total-few t c.total.result (subst IsTimetable c.timetable.ensures c.places-places.ensures.valid) total in
    omega (arith, few)

pub returns : goal.returns
returns c =
    let t = c.self.inside.script.timetable in
    let deficits = c.self.inside.kept in
    total-is t deficits c.total.result c.self.invariant.1.rows c.total.ensures
    (c.held_law.ensures.total deficits (live_moves t.slots) c.places-rows.ensures.valid c.self.invariant.1.held)
    ∙ ap (λ (d : DeskView). sum_of_maxima (deficit (live_moves d.script.timetable.slots)) (length d.script.timetable.places)) c.self.view_is
