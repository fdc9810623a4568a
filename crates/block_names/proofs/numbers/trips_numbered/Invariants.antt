use Rattle.std.proofs.Common.{◌≡◌, ◌≤◌, length, take, filter}
use Rattle.trip_model.specs.Links.{leads_to}
use Rattle.block_names.specs.Numbered.{number_at}
use Rattle.block_names.proofs.numbers.trips_numbered.Given as goal

abbrev pub invariant-loop-slot : goal.invariant-loop-slot
invariant-loop-slot l =
    (l.count ≡ length (filter (λ s. leads_to l.number (number_at l.numbers s)) (take l.slot-index l.block))) × (l.count ≤ l.slot-index)
