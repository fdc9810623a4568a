use Rattle.std.proofs.lemmas.Grind.{common_steps}
use Rattle.std.proofs.Common.{arith, rules, sym, subst, refl, inl}
use Rattle.std.specs.Prelude.{OnErr}
use Rattle.std.proofs.lemmas.Result.{err_from_is_err_and}
use Rattle.desk_run.specs.Order.{StopsAtPaper}
use Rattle.desk_run.proofs.Pages.{one_more_read, read_refused}
use Rattle.desk_run.proofs.reading.read_papers.Goals as goal

pub returns-in_err-found-clause-stops : goal.returns-in_err-found-clause-stops
returns-in_err-found-clause-stops g c =
    let fault = err_from_is_err_and c.from_residual.result c.from_residual.ensures.1 in
    subst (λ result. OnErr result (StopsAtPaper c.args.papers.now (g.S.Shelf.history c.args.shelf.now)
    (g.S.Shelf.history c.read_paper.new.shelf))) (sym fault.1)
    (inl (read_refused c.args.papers.now c.loop-paper.pages.items c.loop-paper.paper-index _ _ _ _ _ c.loop-paper.invariant.read.named
    c.loop-paper-test.true refl c.loop-paper.invariant.noted c.in_err-found.ensures.noted))

pub loop-paper-preserved : goal.loop-paper-preserved
loop-paper-preserved g c = record {
  read = grind (arith, common_steps);
  shelf = search rules;
  noted = one_more_read _ _ _ c.loop-paper.pages.items _ _ c.loop-paper.invariant.noted c.in_ok-found.ensures.noted
      c.push_reserved.ensures.items;
  count = search rules;
  room = search rules;
}
