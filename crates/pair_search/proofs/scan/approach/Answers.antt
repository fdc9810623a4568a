use Rattle.std.proofs.Common.{rules, arith}
use Rattle.pair_search.specs.declared.look.Look.TheVariants.{Visited}
use Rattle.pair_search.proofs.VisitLemmas.{listed-more}
use Rattle.pair_search.proofs.scan.approach.Goals as goal

pub loop-column-preserved : goal.loop-column-preserved
loop-column-preserved g c =
    let loop = c.loop-column in
    record {
      after = omega (arith, loop.invariant.after);
      approached = search rules;
      undone = search rules;
      visited =
          listed-more (Visited c.args.row) c.args.looks.now.list loop.looks.list c.take.new.self.list c.args.first loop.column
          loop.invariant.after loop.invariant.visited c.take.ensures.list;
      counted = omega (arith, loop.invariant.counted, c.take.ensures.counted);
    }
