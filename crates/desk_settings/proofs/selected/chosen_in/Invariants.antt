use Rattle.std.proofs.Common.{◌≡◌, map, take}
use Rattle.desk_settings.specs.Selected.{is_selected}
use Rattle.desk_settings.proofs.selected.chosen_in.Given as goal

abbrev pub invariant-loop-before : goal.invariant-loop-before
invariant-loop-before l = l.chosen.items ≡ map (is_selected l.settings l.place) (take l.before l.trips.rows)
