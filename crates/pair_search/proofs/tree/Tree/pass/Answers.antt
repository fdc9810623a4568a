use Rattle.std.proofs.Common.{◌≡◌, ◌<◌, ◌≤◌, [], ◌∷◌, ◌++◌, ap, subst, ⊎_elim, arith}
use Rattle.std.proofs.lemmas.Bool.{cases_lt}
use Rattle.pair_search.specs.Groups.{group_at, IsSpent}
use Rattle.pair_search.specs.Search.{columns_of}
use Rattle.pair_search.specs.Side.{LineView}
use Rattle.pair_search.specs.declared.look.Look.TheVariants.{Passed}
use Rattle.pair_search.proofs.VisitLemmas.{listed-more}
use Rattle.pair_search.proofs.tree.Tree.pass.Goals as goal

pub loop-next-preserved : goal.loop-next-preserved
loop-next-preserved g c =
    let loop = c.loop-next in
    let tree = c.args.self.now in
    let line = c.args.line.now in
    record {
      spent = λ r enter from lt seen. ⊎_elim
          (λ (before : r < loop.next). loop.invariant.spent r enter from before seen)
          (λ (here : loop.next ≤ r).
          let same : loop.next ≡ r = omega (arith, here, lt) in
          subst (λ n. IsSpent line (group_at line.side.groups n) c.args.start enter (columns_of tree)) same
          (c.is_spent.ensures c.if-not-is_spent.false enter seen))
          (cases_lt r loop.next);
      passed =
          listed-more (Passed line.row) c.args.looks.now.list loop.looks.list c.take.new.self.list c.args.group loop.next loop.auto.next
          loop.invariant.passed
          (subst (λ row. c.take.new.self.list ≡ loop.looks.list ++ Passed row loop.next ∷ []) (ap (λ (l : LineView). l.row) c.line.view_is)
          c.take.ensures.list);
      counted = omega (arith, loop.invariant.counted, c.take.ensures.counted, loop.auto.next);
    }

pub returns-clause-spent : goal.returns-clause-spent
returns-clause-spent g c = λ r enter from lt. c.loop-next.invariant.spent r enter from (omega (arith, lt, c.loop-next-test.false))
