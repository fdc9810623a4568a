use Rattle.std.proofs.Common.{unwrap_or, ap, ◌∙◌}
use Rattle.pair_rules.specs.Marks.{no_marks}
use Rattle.pair_rules.proofs.Numbers.{lookup-marked_in}
use Rattle.pair_rules.proofs.marks.marks_of.Goals as goal

pub returns : goal.returns
returns c =
    c.unwrap_or.ensures
    ∙ (λ i. unwrap_or (c.copied.ensures i) (c.none.ensures i))
    ∙ ap (λ o. unwrap_or o no_marks) (c.get.ensures.value ∙ lookup-marked_in c.args.name.now c.args.names.now.entries)
