use Rattle.std.proofs.Common.{◌≡◌}
use Rattle.toml.specs.View.{members_view}
use Rattle.desk_settings.specs.Desk.{desk_from}
use Rattle.desk_settings.proofs.desk.DeskTable.set_all.Given as goal

abbrev pub invariant-loop-key : goal.invariant-loop-key
invariant-loop-key l = desk_from l.self (members_view l.key-iterator) ≡ desk_from l.initial.self (members_view l.fn.table.entries)
