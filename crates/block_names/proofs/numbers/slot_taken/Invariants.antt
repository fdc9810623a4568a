use Rattle.std.proofs.Common.{fold, take, None}
use Rattle.block_names.specs.Names.{with_more}
use Rattle.block_names.specs.Numbered.{number_at, trips_asking_by}
use Rattle.block_names.proofs.MostLemmas.{IsMost}
use Rattle.block_names.proofs.numbers.slot_taken.Given as goal

abbrev pub invariant-loop-slot : goal.invariant-loop-slot
invariant-loop-slot l =
    IsMost (λ s. trips_asking_by l.numbers l.asked l.block l.slots (number_at l.numbers s))
    (fold (with_more (λ s. trips_asking_by l.numbers l.asked l.block l.slots (number_at l.numbers s))) None
    (take l.slot-index l.slots)) l.most
