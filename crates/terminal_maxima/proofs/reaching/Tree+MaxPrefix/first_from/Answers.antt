use Rattle.std.proofs.Common.{ℤ, List, drop, IfNone, w32, subst, ap, ◌∙◌}
use Rattle.std.proofs.lemmas.Int.{to_z-of_z}
use Rattle.terminal_maxima.specs.declared.max_prefix.MaxPrefix.{MaxPrefix}
use Rattle.terminal_maxima.specs.declared.summary.TheConstants.{LEAVES}
use Rattle.terminal_maxima.specs.Reaching.{NoneReaches}
use Rattle.terminal_maxima.proofs.reaching.Tree+MaxPrefix.first_from.Goals as goal

pub returns-clause-none : goal.returns-clause-none
returns-clause-none c =
    let by_nodes = subst (λ (value : ℤ). IfNone c.first_place.result (NoneReaches (drop LEAVES c.deref.result.now) c.args.place value))
    (to_z-of_z w32 c.args.value c.ranges.value) c.first_place.ensures.none in
    subst (λ (leaves : List MaxPrefix). IfNone c.first_place.result (NoneReaches leaves c.args.place c.args.value))
    (ap (drop LEAVES) c.deref.ensures.value ∙ c.self.view_is) by_nodes
