use Rattle.std.proofs.Common.{sym, subst}
use Rattle.trip_model.specs.Blocking.{IsLeast}
use Rattle.deadhead_matrix.specs.Fitting.{network_of}
use Rattle.price_check.specs.Claim.{blocks_in}
use Rattle.price_check.specs.Reasons.{OnYes}
use Rattle.price_check.proofs.CertificateLemmas.{certificate-from}
use Rattle.price_check.proofs.LeastLemmas.{certificate-least}
use Rattle.price_check.proofs.judging.check.Goals as goal

pub returns-in-Ok-clause-least : goal.returns-in-Ok-clause-least
returns-in-Ok-clause-least c =
    let t = c.args.timetable.now in
    let m = c.args.matrix.now in
    let claimed = c.args.claimed.now in
    let proved = certificate-from t m claimed c.slots-slots.ensures.valid c.requires.blocks c.requires.prices (sym c.in-Ok.ensures.first) in
    subst (λ verdict. OnYes verdict (IsLeast (network_of t m) (blocks_in claimed.blocks))) (sym c.accepted.ensures)
    (certificate-least t m claimed c.slots-slots.ensures.valid c.places-places.ensures.valid c.requires.blocks.few proved)
