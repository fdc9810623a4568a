use Rattle.std.proofs.Common.{◌∙◌, ℕ, List, sym, ap, subst, arith}
use Rattle.pair_search.specs.Search.{AreLooked}
use Rattle.pair_search.specs.declared.limits.TheConstants.{GREATEST_PRICE}
use Rattle.std.specs.Prelude.{vec_len}
use Rattle.list_search.specs.Lists.{row_at, value_of}
use Rattle.list_search.specs.Trees.{columns_of}
use Rattle.list_search.specs.declared.lists.Pair.{Pair}
use Rattle.list_search.proofs.tree.Tree.begin.Goals as goal

pub look-requires-clause-low : goal.look-requires-clause-low
look-requires-clause-low c = λ j k e. c.requires.enter_low j k (ap (λ (ps : List Pair). value_of ps j) (sym c.row.ensures.pairs) ∙ e)

pub look-requires-clause-covers : goal.look-requires-clause-covers
look-requires-clause-covers c = λ j k e.
    omega (arith, c.requires.most j k (ap (λ (ps : List Pair). value_of ps j) (sym c.row.ensures.pairs) ∙ e))

pub returns-clause-looked : goal.returns-clause-looked
returns-clause-looked c =
    subst (λ (n : ℕ). AreLooked (λ j. value_of (row_at c.args.lists.now c.args.a) j) n 0 GREATEST_PRICE c.args.enter.now (columns_of c.args.self.now)
    (columns_of c.look.new.self)) c.requires.slots
    (subst (λ (ps : List Pair). AreLooked (λ j. value_of ps j) (vec_len c.args.self.now.dist) 0 GREATEST_PRICE c.args.enter.now (columns_of c.args.self.now)
    (columns_of c.look.new.self)) c.row.ensures.pairs c.look.ensures.looked)
