use Rattle.std.proofs.Common.{◌≡◌, ℕ, ◌<◌, take, get_or, length, false}
use Rattle.std.specs.List.{list_any}
use Rattle.trip_model.specs.Links.{leads_to}
use Rattle.block_build.proofs.build.followers.Given as goal

abbrev pub invariant-loop-slot : goal.invariant-loop-slot
invariant-loop-slot l = record {
  count : length l.marks.items ≡ length l.links;
  marks : (s : ℕ) → s < length l.links → get_or l.marks.items s false ≡ list_any (leads_to s) (take l.slot l.links);
}
