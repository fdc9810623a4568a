use Rattle.std.proofs.Common.{◌≡◌, fold, take}
use Rattle.service_days.specs.Services.{with_excepted}
use Rattle.service_days.proofs.services.Services.add_excepted.Given as goal

abbrev pub invariant-loop-number : goal.invariant-loop-number
invariant-loop-number l = l.names.keys ≡ fold (λ before entry. with_excepted l.self l.date before entry.0) l.initial.names.keys
    (take l.number l.self.exceptions)
