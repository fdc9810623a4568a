use Rattle.std.proofs.Common.{◌∙◌, List, sym, ap, arith}
use Rattle.list_search.specs.Lists.{value_of}
use Rattle.list_search.specs.declared.lists.Pair.{Pair}
use Rattle.list_search.proofs.tree.Tree.visit.Goals as goal

pub look-requires-clause-low : goal.look-requires-clause-low
look-requires-clause-low c = λ j k e. c.requires.enter_low j k (ap (λ (ps : List Pair). value_of ps j) (sym c.row.ensures.pairs) ∙ e)

pub look-requires-clause-covers : goal.look-requires-clause-covers
look-requires-clause-covers c = λ j k e.
    omega (arith, c.requires.covers j k (ap (λ (ps : List Pair). value_of ps j) (sym c.row.ensures.pairs) ∙ e))
