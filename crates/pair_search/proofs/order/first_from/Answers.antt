use Rattle.std.proofs.Common.{arith}
use Rattle.pair_search.proofs.FitLemmas.{length-piece, early-piece, late-piece}
use Rattle.pair_search.proofs.order.first_from.Goals as goal

pub returns-clause-before : goal.returns-clause-before
returns-clause-before c =
    let all = length-piece c.args.columns.now c.args.from c.args.upto c.requires.within in
    early-piece c.args.columns.now c.args.from c.args.upto c.columns_before.result c.args.minute
    (omega (arith, c.columns_before.ensures.within, all, c.if-upto-from.false)) c.columns_before.ensures.before

pub returns-clause-later : goal.returns-clause-later
returns-clause-later c = λ k d from past lt.
    late-piece c.args.columns.now c.args.from c.args.upto c.columns_before.result c.args.minute c.requires.within
    c.columns_before.ensures.after k d past lt
