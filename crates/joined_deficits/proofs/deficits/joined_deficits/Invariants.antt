use Rattle.std.proofs.Common.{◌≡◌, ◌+◌, ◌*◌, ◌≤◌, length, take}
use Rattle.deficit_steps.specs.Holds.{Holds}
use Rattle.joined_deficits.proofs.deficits.joined_deficits.Given as goal

abbrev pub invariant-loop-way : goal.invariant-loop-way
invariant-loop-way g l = record {
  held : Holds l.deficits (take l.way-index l.moves);
  places : length l.deficits ≡ l.places;
  counted : l.steps ≤ l.initial.steps + 28 * l.way-index;
}
