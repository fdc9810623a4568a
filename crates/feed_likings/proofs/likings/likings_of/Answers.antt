use Rattle.std.proofs.Common.{ap, ◌∙◌, arith}
use Rattle.gtfs_tables.specs.declared.paper.Column.TheVariants as column
use Rattle.desk_settings.specs.Selected.{selected_fields}
use Rattle.desk_settings.specs.declared.prefer.Preference.TheVariants.{Stated, Line, Waiting}
use Rattle.feed_likings.specs.Likings.{if_preferred, lines_by, nexts_by}
use Rattle.feed_likings.specs.Units.{unit_of}
use Rattle.feed_likings.proofs.UnitLemmas.{units-few}
use Rattle.feed_likings.proofs.likings.likings_of.Goals as goal

pub new-requires : goal.new-requires
new-requires c =
    let few = units-few c.as_slice-order.result.now c.as_slice-order.ensures.valid in
    omega (arith, few, c.unit_of-stated.ensures, c.unit_of-line.ensures, c.unit_of-waiting.ensures)

pub returns : goal.returns
returns c =
    let trips = c.args.trips.now in
    let timetable = c.args.timetable.now in
    let prefer = c.args.settings.now.prefer in
    let order = c.as_slice-order.ensures.order ∙ c.prefer.ensures in
    let chosen = c.deref.ensures.value ∙ c.in_ok-chosen.ensures.chosen in
    let chosen-too = c.deref-2.ensures.value ∙ c.in_ok-chosen.ensures.chosen in
    let stated = c.unit_of-stated.ensures ∙ ap (unit_of Stated) order in
    let line = c.unit_of-line.ensures ∙ ap (unit_of Line) order in
    let waiting = c.unit_of-waiting.ensures ∙ ap (unit_of Waiting) order in
    let nexts = c.in_ok-nexts.ensures
    ∙ ap (λ picked. if_preferred Stated prefer (nexts_by (selected_fields column.BlockId trips picked) timetable)) chosen in
    let lines = c.in_ok-lines.ensures
    ∙ ap (λ picked. if_preferred Line prefer (lines_by (selected_fields column.RouteId trips picked) timetable)) chosen-too in
    c.new.ensures ∙ (λ i. record { stated = stated i; line = line i; waiting = waiting i; nexts = nexts i; lines = lines i })
