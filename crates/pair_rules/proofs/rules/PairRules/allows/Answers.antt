use Rattle.std.proofs.Common.{List, refl, sym, ap}
use Rattle.pair_rules.specs.Rules.{PairRule, allows}
use Rattle.pair_rules.proofs.rules.PairRules.allows.Goals as goal

pub returns-then-is_empty : goal.returns-then-is_empty
returns-then-is_empty c =
    sym (ap (λ (rules : List PairRule). allows rules c.args.before.now c.args.after.now) (c.is_empty.ensures.none c.if-is_empty.true))
