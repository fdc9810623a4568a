use Rattle.std.proofs.Common.{◌≡◌, take}
use Rattle.plan_choice.proofs.choice.copy_links.Given as goal

abbrev pub invariant-loop-slot : goal.invariant-loop-slot
invariant-loop-slot l = l.next.items ≡ take l.slot l.links
