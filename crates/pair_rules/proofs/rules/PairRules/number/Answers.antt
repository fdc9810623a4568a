use Rattle.std.proofs.Common.{position, sym, ap, ◌∙◌, arith}
use Rattle.std.specs.Str.{bytes_eq}
use Rattle.pair_rules.specs.Rules.{number_of}
use Rattle.pair_rules.proofs.Entries.{names-held, count-held}
use Rattle.pair_rules.proofs.Numbers.{position-names_in}
use Rattle.pair_rules.proofs.rules.PairRules.number.Goals as goal

pub returns-in_err-number : goal.returns-in_err-number
returns-in_err-number c =
    c.from_residual.ensures ∙ sym c.in_err-number.was ∙ c.get_index_of.ensures.index
    ∙ position-names_in (bytes_eq c.args.name.now) c.self.inside.names.entries
    ∙ ap (position (bytes_eq c.args.name.now)) (names-held c.self.inside.names.entries c.self.inside.rules.entries c.self.invariant)
    ∙ ap (λ rules. number_of rules c.args.name.now) c.self.view_is

pub overflow_cast-result : goal.overflow_cast-result
overflow_cast-result c =
    let count = count-held c.self.inside.names.entries c.self.inside.rules.entries c.self.invariant in
    omega (arith, c.in_ok-number.ensures.within, count.1, count.2)

pub returns : goal.returns
returns c =
    sym c.in_ok-number.was ∙ c.get_index_of.ensures.index
    ∙ position-names_in (bytes_eq c.args.name.now) c.self.inside.names.entries
    ∙ ap (position (bytes_eq c.args.name.now)) (names-held c.self.inside.names.entries c.self.inside.rules.entries c.self.invariant)
    ∙ ap (λ rules. number_of rules c.args.name.now) c.self.view_is
