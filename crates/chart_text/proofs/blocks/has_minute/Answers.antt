use Rattle.std.proofs.Common.{◌+◌, min, max, nat_lt, refl, sym, ap, ◌∙◌}
use Rattle.chart_text.proofs.BlocksLemmas.{has_minute-is}
use Rattle.chart_text.proofs.blocks.has_minute.Goals as goal

pub returns : goal.returns
returns c =
    let first = c.from-first.ensures in
    (λ i. nat_lt ((c.max.ensures ∙ ap (max c.args.from) first) i) ((c.min.ensures ∙ ap (λ f. min c.args.to (f + 10)) first) i))
    ∙ sym (has_minute-is c.args.column c.args.from c.args.to 10 refl)
