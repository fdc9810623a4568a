use Rattle.std.proofs.Common.{◌≡◌, ℕ, ◌<◌, ◌≤◌, None, length, drop, get_or}
use Rattle.feed_likings.specs.Numbered.{first_numbered, next_numbered}
use Rattle.feed_likings.proofs.nexts.nexts_numbered.Given as goal

abbrev pub invariant-loop-left : goal.invariant-loop-left
invariant-loop-left l =
    (l.left ≤ length l.order)
    × (length l.nexts.items ≡ length l.numbers)
    × (length l.firsts.items ≡ length l.numbers)
    × ((s : ℕ) → s < length l.numbers → get_or l.nexts.items s None ≡ next_numbered l.numbers (drop l.left l.order) s)
    × ((b : ℕ) → b < length l.numbers → get_or l.firsts.items b None ≡ first_numbered l.numbers b (drop l.left l.order))

abbrev pub decreases-loop-left : goal.decreases-loop-left
decreases-loop-left l = l.left
