use Rattle.std.proofs.Common.{◌≡◌, [], drop}
use Rattle.toml.specs.View.{items_view}
use Rattle.desk_settings.specs.Prefer.{preferences_from}
use Rattle.desk_settings.proofs.prefer.preferences_from.Given as goal

abbrev pub invariant-loop-item : goal.invariant-loop-item
invariant-loop-item l = preferences_from l.preferences (items_view (drop l.item-index l.items)) ≡ preferences_from [] (items_view l.items)
