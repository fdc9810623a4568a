use Rattle.std.proofs.Common.{List, Option, None, ℕ, get_or, sym, ap, subst, ◌∙◌}
use Rattle.deadhead_matrix.specs.Walks.{IsLeastWalk}
use Rattle.deadhead_matrix.proofs.matrix.Matrix.minutes.Goals as goal

pub returns-clause-walk : goal.returns-clause-walk
returns-clause-walk c = c.to.ensures.walk ∙ ap (λ (walks : List (Option ℕ)). get_or walks c.args.b None) c.walks_from.ensures.walks

pub returns-clause-least : goal.returns-clause-least
returns-clause-least c = subst (λ m. IsLeastWalk c.args.self.now.entries c.args.a c.args.b m) (sym (returns-clause-walk c))
    (c.walks_from.ensures.least c.args.b c.requires.b)
