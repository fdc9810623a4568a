use Rattle.std.proofs.Common.{List, sym, ap, ◌∙◌}
use Rattle.pair_rules.specs.Rules.{PairRule}
use Rattle.pair_rules.specs.Marks.{marks_of}
use Rattle.pair_rules.proofs.rules.PairRules.marks.Goals as goal

pub returns-then-is_empty : goal.returns-then-is_empty
returns-then-is_empty c =
    c.none.ensures ∙ sym (ap (λ (rules : List PairRule). marks_of rules c.args.name.now) (c.is_empty.ensures.none c.if-is_empty.true))
