use Rattle.std.proofs.Common.{◌≡◌, ◌+◌, ◌*◌, get_or, pos, ◌∙◌, arith, rules}
use mir.Val.{SFits}
use mir.Syntax.{w32}
use Rattle.std.specs.Int.{int_max}
use Rattle.std.proofs.lemmas.Int.{to_z-of_z}
use Rattle.chart_text.specs.Deficits.{value_in}
use Rattle.chart_text.proofs.DeficitsLemmas.{greatest_so_far-more, greatest_in-all}
use Rattle.chart_text.proofs.deficits.greatest_in.Goals as goal

pub loop-minute-preserved : goal.loop-minute-preserved
loop-minute-preserved c =
    let d = value_in c.args.values.now in
    let at : 10 * c.args.column + c.loop-minute.minute ≡ c.from-first.result + c.loop-minute.minute = omega (arith, c.from-first.ensures) in
    let high_fits : SFits w32 c.max-high.result = search rules in
    let value_fits : SFits w32 (get_or c.args.values.now (c.from-first.result + c.loop-minute.minute) (pos 0)) = search rules in
    to_z-of_z w32 c.max-high.result high_fits ∙ c.max-high.ensures.value
    ∙ (λ i. int_max (c.loop-minute.invariant i)
    (to_z-of_z w32 (get_or c.args.values.now (c.from-first.result + c.loop-minute.minute) (pos 0)) value_fits i))
    ∙ greatest_so_far-more d c.args.column c.loop-minute.minute (c.from-first.result + c.loop-minute.minute) at

pub returns : goal.returns
returns c =
    c.loop-minute.invariant ∙ greatest_in-all (value_in c.args.values.now) c.args.column c.loop-minute.minute (omega arith)
