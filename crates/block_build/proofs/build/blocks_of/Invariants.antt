use Rattle.std.proofs.Common.{◌≡◌, ◌<◌, take, map, filter, length}
use Rattle.std.specs.Prelude.{All}
use Rattle.trip_model.specs.Links.{is_first, block_from}
use Rattle.block_build.proofs.build.blocks_of.Given as goal

abbrev pub invariant-loop-slot : goal.invariant-loop-slot
invariant-loop-slot l = record {
  made : l.blocks.items ≡ map (block_from l.links) (filter (is_first l.links) (take l.slot-index l.slot-items));
  within : All (All (λ s. s < length l.timetable.slots)) l.blocks.items;
}
