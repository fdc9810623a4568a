use Rattle.std.proofs.Common.{◌≡◌, take}
use Rattle.pair_search.specs.Arranged as arranged
use Rattle.plan_choice.proofs.choice.slots_of.Given as goal

abbrev pub invariant-loop-column : goal.invariant-loop-column
invariant-loop-column l = l.slots.items ≡ arranged.slots_of (take l.column-index l.columns)
