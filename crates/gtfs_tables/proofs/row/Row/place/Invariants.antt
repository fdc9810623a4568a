use Rattle.std.proofs.Common.{◌≡◌, drop}
use Rattle.std.specs.List.{position_from}
use Rattle.std.specs.Str.{bytes_eq}
use Rattle.gtfs_tables.specs.Spaces.{without_spaces}
use Rattle.gtfs_tables.specs.Table.{column_of}
use Rattle.gtfs_tables.proofs.row.Row.place.Given as goal

abbrev pub invariant-loop-place : goal.invariant-loop-place
invariant-loop-place l =
    column_of l.wanted l.self ≡ position_from (λ column. bytes_eq (without_spaces column) l.wanted) l.place (drop l.place l.self)
