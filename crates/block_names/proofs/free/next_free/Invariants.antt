use Rattle.std.proofs.Common.{◌≡◌, ◌+◌}
use Rattle.block_names.specs.Numbered.{free_from}
use Rattle.block_names.proofs.free.next_free.Given as goal

abbrev pub invariant-loop-untried : goal.invariant-loop-untried
invariant-loop-untried l =
    (free_from l.prefix l.stated l.untried.number l.untried.left
    ≡ free_from l.prefix l.stated l.fn.untried.number l.fn.untried.left)
    × (l.untried.number + l.untried.left ≡ l.fn.untried.number + l.fn.untried.left)

abbrev pub decreases-loop-untried : goal.decreases-loop-untried
decreases-loop-untried l = l.untried.left
