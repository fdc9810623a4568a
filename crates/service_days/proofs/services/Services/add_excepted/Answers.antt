use Rattle.std.proofs.Common.{◌≡◌, option_map, slice_get, Some, sym, ap, ◌∙◌}
use Rattle.std.specs.BTreeSet.{BTreeSet}
use Rattle.gtfs_tables.specs.Entries.{Name}
use Rattle.service_days.specs.CalendarDates.{ServiceDate}
use Rattle.service_days.specs.Services.{ServicesView, with_excepted, with_running}
use Rattle.service_days.proofs.RunningLemmas.{not_of-date, of-date}
use Rattle.service_days.proofs.ViewedLemmas.{fold-next}
use Rattle.service_days.proofs.services.Services.add_excepted.Goals as goal
use Rattle.service_days.proofs.services.Services.add_excepted.Goals.{then-on-date+in_ok-add_running, else-on-date}

pub loop-number-preserved : goal.loop-number-preserved
loop-number-preserved c =
    let n = c.loop-number.number in
    let key : ServiceDate = (c.service_date-on.result.0.now, c.service_date-on.result.1) in
    let at : option_map (λ entry. entry.0) (slice_get c.args.self.now.exceptions n) ≡ Some key =
    sym (ap (λ (services : ServicesView). option_map (λ entry. entry.0) (slice_get services.exceptions n)) c.self.view_is)
    ∙ c.service_date-on.ensures in
    let next = sym (fold-next (with_excepted c.args.self.now c.args.date) _ c.args.self.now.exceptions n key at) in
    elim c.if-on-date.branch [
      | then-on-date+in_ok-add_running w ↦
          ap (λ (set : BTreeSet Name). set.keys) w.names-is
          ∙ w.in_ok-add_running.ensures
          ∙ ap (λ keys. with_running c.args.self.now c.args.date keys key.0) c.loop-number.invariant
          ∙ of-date c.args.self.now c.args.date _ key w.if-on-date.true
          ∙ next
      | else-on-date w ↦
          ap (λ (set : BTreeSet Name). set.keys) w.names-is
          ∙ c.loop-number.invariant
          ∙ not_of-date c.args.self.now c.args.date _ key w.if-on-date.false
          ∙ next
    ]
