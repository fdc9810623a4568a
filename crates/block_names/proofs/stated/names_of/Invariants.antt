use Rattle.std.proofs.Common.{◌≡◌, drop, fold, take, []}
use Rattle.std.specs.Prelude.{All, IsUtf8}
use Rattle.desk_settings.specs.Names.{with_name}
use Rattle.block_names.proofs.stated.names_of.Given as goal

abbrev pub invariant-loop-name : goal.invariant-loop-name
invariant-loop-name l =
    (fold with_name l.names (drop l.name-index l.stated) ≡ fold with_name [] l.stated) × All IsUtf8 (take l.name-index l.stated)
