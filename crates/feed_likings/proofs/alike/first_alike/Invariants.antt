use Rattle.std.proofs.Common.{◌≡◌, map}
use Rattle.std.specs.List.{range_with_len}
use Rattle.feed_likings.specs.Alike.{first_alike}
use Rattle.feed_likings.proofs.AlikeLemmas.{AreNoted}
use Rattle.feed_likings.proofs.alike.first_alike.Given as goal

abbrev pub invariant-loop-slot : goal.invariant-loop-slot
invariant-loop-slot l = (l.numbers.items ≡ map (first_alike l.fields) (range_with_len 0 l.slot)) × AreNoted l.fields l.slot l.firsts
