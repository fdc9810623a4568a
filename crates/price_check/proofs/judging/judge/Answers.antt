use Rattle.std.proofs.Common.{◌≡◌, ap, ◌∙◌}
use Rattle.std.specs.Option.{option_or}
use Rattle.deadhead_matrix.specs.Fitting.{network_of}
use Rattle.price_check.specs.Reasons.{misnamed, unproved}
use Rattle.price_check.proofs.judging.judge.Goals as goal

pub returns-clause-first : goal.returns-clause-first
returns-clause-first c =
    let t = c.args.timetable.now in
    let network = network_of t c.args.matrix.now in
    let read : record { blocks = c.blocks-blocks.result.now; prices = c.prices-prices.result.now } ≡ c.args.claimed.now =
    (λ i. record { blocks = c.blocks-blocks.ensures i; prices = c.prices-prices.ensures i }) in
    c.all_proved.ensures ∙ ap (unproved network) read
    ∙ ap (λ found. option_or found (unproved network c.args.claimed.now)) (c.in_ok-all_named.ensures.first ∙ ap (misnamed t) read)
