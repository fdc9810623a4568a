use Rattle.std.proofs.Common.{◌≡◌, take}
use Rattle.joined_deficits.specs.Joined.{legs_in, ways}
use Rattle.joined_deficits.proofs.deficits.joined_moves.Given as goal

abbrev pub invariant-loop-number : goal.invariant-loop-number
invariant-loop-number l =
    l.moves.items ≡ ways (legs_in l.named.timetable.now l.named.matrix.now (take l.number l.named.blocks.now))
