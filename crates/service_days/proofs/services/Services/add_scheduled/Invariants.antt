use Rattle.std.proofs.Common.{◌≡◌, fold, take}
use Rattle.service_days.specs.Services.{with_running}
use Rattle.service_days.proofs.services.Services.add_scheduled.Given as goal

abbrev pub invariant-loop-number : goal.invariant-loop-number
invariant-loop-number l = l.names.keys ≡ fold (λ before entry. with_running l.self l.date before entry.0) l.initial.names.keys
    (take l.number l.self.schedules)
