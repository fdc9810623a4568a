use Rattle.std.proofs.Common.{slice_get, option_map, sym, ap, ◌∙◌}
use Rattle.std.specs.Map.Iter.{deref_pair}
use Rattle.pair_rules.specs.Rules.{names_of, number_of}
use Rattle.pair_rules.specs.Marks.{marks_of, rules_in}
use Rattle.pair_rules.proofs.Names.{number_of-Some, number_of-None}
use Rattle.pair_rules.proofs.Numbers.{marks-at, marks_of-unnamed}
use Rattle.pair_rules.proofs.rules.PairRules.marks_at.Goals as goal

pub returns-in-Some-get_index : goal.returns-in-Some-get_index
returns-in-Some-get_index c = λ name found.
    let rules = rules_in c.self.inside.names.entries c.self.inside.rules.entries in
    let at = number_of-Some rules name c.in-Some.number (ap (λ rs. number_of rs name) c.self.view_is ∙ found ∙ c.in-Some.is) in
    marks-at c.self.inside.names.entries (marks_of rules) (names_of rules) c.in-Some.number
    (c.in-Some-get_index.field-0-0.now, c.in-Some-get_index.marks.now) c.self.invariant.marked
    (ap (slice_get c.self.inside.names.entries) (sym c.from.ensures) ∙ sym c.get_index.ensures.entry
    ∙ ap (option_map deref_pair) c.in-Some-get_index.is)
    at.0
    ∙ (λ t. marks_of (c.self.view_is t) (at.1 t))

pub returns-in-None : goal.returns-in-None
returns-in-None c = λ name found.
    c.none-in-None.ensures ∙ sym (marks_of-unnamed c.args.self.now name (number_of-None c.args.self.now name (found ∙ c.in-None.is)))
