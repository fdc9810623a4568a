use Rattle.std.proofs.Common.{◌≡◌, ◌+◌, ◌-◌, ◌/◌, ◌∙◌, refl}
use Rattle.std.specs.List.{range_with_len}
use Rattle.std.proofs.lemmas.Iterator.{items_from_collect, YieldsList-from_range}
use Rattle.trip_model.specs.Deficit.{live_moves}
use Rattle.chart_text.proofs.ColumnsLemmas.{columns_between}
use Rattle.chart_text.proofs.columns.column_list.Goals as goal

pub returns-clause-columns : goal.returns-clause-columns
returns-clause-columns c =
    let first = c.first_and_last-first.result.0 in
    let last = c.first_and_last-first.result.1 in
    let all = items_from_collect c.collect.result c.collect.ensures.ran (YieldsList-from_range (first / 10) (last / 10 + 1) _ refl refl) in
    let collected : c.in_ok-collect.field-0.items ≡ range_with_len (first / 10) (last / 10 + 1 - first / 10) =
    rw c.in_ok-collect.was at all in
    collected ∙ columns_between (live_moves c.args.timetable.now.slots) first last c.first_and_last-first.ensures.first
    c.first_and_last-first.ensures.last
