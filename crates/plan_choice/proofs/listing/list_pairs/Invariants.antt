use Rattle.std.proofs.Common.{◌+◌, ◌*◌, ◌≤◌, length}
use Rattle.plan_choice.specs.Listing.{pair_worths, AreListed}
use Rattle.plan_choice.proofs.listing.list_pairs.Given as goal

abbrev pub invariant-loop-i : goal.invariant-loop-i
invariant-loop-i g l = record {
  listed : AreListed (pair_worths l.pairs l.likings l.plan) (length l.pairs.moves) l.i l.lists;
  counted : l.steps ≤ l.fn.steps + l.i * length l.pairs.moves;
}
