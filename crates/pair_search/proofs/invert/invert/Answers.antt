use Rattle.std.proofs.Common.{◌+◌, sym, subst, arith}
use Rattle.pair_search.specs.Inverse.{IsInverse}
use Rattle.pair_search.proofs.InverseLemmas.{IsInverse-some, IsInverse-none}
use Rattle.pair_search.proofs.invert.invert.Goals as goal
use Rattle.pair_search.proofs.invert.invert.Goals.{in-Some, in_default}

pub loop-row-preserved : goal.loop-row-preserved
loop-row-preserved c =
    let next = c.args.next.now in
    elim c.match-next-row.branch [
      | in-Some w ↦ subst (IsInverse (c.loop-row.row + 1) next) (sym w.before-is)
          (IsInverse-some next c.loop-row.before c.loop-row.row w.in-Some.column c.requires.links
          (omega (arith, c.requires.links.within c.loop-row.row w.in-Some.column w.in-Some.is, c.requires.slots, c.loop-row.auto.before))
          w.in-Some.is c.loop-row.invariant)
      | in_default w ↦ subst (IsInverse (c.loop-row.row + 1) next) (sym w.before-is)
          (IsInverse-none next c.loop-row.before c.loop-row.row w.in_default.is c.loop-row.invariant)
    ]
