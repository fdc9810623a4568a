use Rattle.std.proofs.Common.{◌≡◌, ◌-◌, ◌<◌, ◌++◌, length}
use Rattle.std.specs.Prelude.{All, IfSome}
use Rattle.trip_model.specs.Links.{along, block_from}
use Rattle.block_build.proofs.build.block_from.Given as goal

abbrev pub invariant-loop : goal.invariant-loop
invariant-loop l = record {
  rest : l.slots.items ++ along l.links (8192 - l.counter) l.at ≡ block_from l.links l.first;
  at : IfSome l.at (λ s. s < length l.links);
  within : All (λ s. s < length l.links) l.slots.items;
}
