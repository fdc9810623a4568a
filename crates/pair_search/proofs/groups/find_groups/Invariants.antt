use Rattle.std.proofs.Common.{◌-◌, ◌≤◌, length}
use Rattle.pair_search.specs.Groups.{AreGroups}
use Rattle.pair_search.proofs.groups.find_groups.Given as goal

abbrev pub invariant-loop-from : goal.invariant-loop-from
invariant-loop-from l = record {
  within : l.from ≤ length l.columns;
  groups : AreGroups l.from l.columns l.count l.groups;
}

abbrev pub decreases-loop-from : goal.decreases-loop-from
decreases-loop-from l = length l.columns - l.from
