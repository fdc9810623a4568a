use Rattle.std.proofs.Common.{◌≡◌, option_map, slice_get, Some, sym, ap, ◌∙◌}
use Rattle.service_days.specs.Services.{ServicesView, with_running}
use Rattle.service_days.proofs.ViewedLemmas.{fold-next}
use Rattle.service_days.proofs.services.Services.add_scheduled.Goals as goal

pub loop-number-preserved : goal.loop-number-preserved
loop-number-preserved c =
    let n = c.loop-number.number in
    let at : option_map (λ entry. entry.0) (slice_get c.args.self.now.schedules n) ≡ Some c.service.result.now =
    sym (ap (λ (services : ServicesView). option_map (λ entry. entry.0) (slice_get services.schedules n)) c.self.view_is)
    ∙ c.service.ensures in
    c.in_ok-add_running.ensures
    ∙ ap (λ keys. with_running c.args.self.now c.args.date keys c.service.result.now) c.loop-number.invariant
    ∙ sym (fold-next (with_running c.args.self.now c.args.date) _ c.args.self.now.schedules n c.service.result.now at)
