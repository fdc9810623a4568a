use Rattle.std.proofs.Common.{sym, ap, ◌∙◌}
use Rattle.std.specs.Option.{option_copied}
use Rattle.pair_rules.proofs.Names.{unnamed, number_of-None}
use Rattle.pair_rules.proofs.Entries.{kind-found, kind_of-unnamed_first, kind_of-unnamed_second}
use Rattle.pair_rules.proofs.rules.PairRules.kind.Goals as goal

pub returns-in_err-first-clause-value : goal.returns-in_err-first-clause-value
returns-in_err-first-clause-value c = λ a b first second.
    c.from_residual.ensures ∙ sym (kind_of-unnamed_first c.args.self.now a b
    (unnamed a c.args.self.now (number_of-None c.args.self.now a (first ∙ c.in_err-first.was))).0)

pub returns-in_err-second-clause-value : goal.returns-in_err-second-clause-value
returns-in_err-second-clause-value c = λ a b first second.
    c.from_residual-in_err-second.ensures ∙ sym (kind_of-unnamed_second c.args.self.now a b
    (unnamed b c.args.self.now (number_of-None c.args.self.now b (second ∙ c.in_err-second.was))).1)

pub returns-in_err-kind-clause-value : goal.returns-in_err-kind-clause-value
returns-in_err-kind-clause-value c = λ a b first second.
    c.from_residual-in_err-kind.ensures ∙ sym (ap option_copied c.in_err-kind.was) ∙ c.get.ensures.value
    ∙ kind-found c.self.inside.names.entries c.self.inside.rules.entries c.args.self.now a b c.in_ok-first.field-0 c.in_ok-second.field-0
    c.self.invariant c.self.view_is (first ∙ c.in_ok-first.was) (second ∙ c.in_ok-second.was)

pub returns-clause-value : goal.returns-clause-value
returns-clause-value c = λ a b first second.
    sym (ap option_copied c.in_ok-kind.was) ∙ c.get.ensures.value
    ∙ kind-found c.self.inside.names.entries c.self.inside.rules.entries c.args.self.now a b c.in_ok-first.field-0 c.in_ok-second.field-0
    c.self.invariant c.self.view_is (first ∙ c.in_ok-first.was) (second ∙ c.in_ok-second.was)
