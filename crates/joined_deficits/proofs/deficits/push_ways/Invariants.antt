use Rattle.std.proofs.Common.{◌≡◌, ◌++◌, take}
use Rattle.joined_deficits.specs.Joined.{ways}
use Rattle.joined_deficits.proofs.deficits.push_ways.Given as goal

abbrev pub invariant-loop-leg : goal.invariant-loop-leg
invariant-loop-leg l = l.moves.items ≡ l.initial.moves.items ++ ways (take l.leg-index l.legs)
