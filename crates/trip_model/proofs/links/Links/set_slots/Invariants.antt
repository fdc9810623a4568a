use Rattle.std.proofs.Common.{◌≡◌, ◌≤◌, ◌++◌, vec_capacity, take, replicate, None}
use Rattle.trip_model.proofs.links.Links.set_slots.Given as goal

abbrev pub invariant-loop : goal.invariant-loop
invariant-loop l = record {
  added : l.self-inside.nexts.items ≡ take l.slots l.fn.self ++ replicate l.counter None;
  room : 4096 ≤ vec_capacity l.self-inside.nexts;
}
