use Rattle.std.proofs.Common.{◌≡◌, [], drop}
use Rattle.toml.specs.View.{items_view}
use Rattle.desk_settings.specs.Desk.{names_from}
use Rattle.desk_settings.proofs.desk.names_from.Given as goal

abbrev pub invariant-loop-item : goal.invariant-loop-item
invariant-loop-item l = names_from l.names (items_view (drop l.item-index l.items)) ≡ names_from [] (items_view l.items)
