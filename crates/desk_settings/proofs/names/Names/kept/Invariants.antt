use Rattle.std.proofs.Common.{◌≡◌, fold, take, []}
use Rattle.desk_settings.specs.Names.{if_among}
use Rattle.desk_settings.proofs.names.Names.kept.Given as goal

abbrev pub invariant-loop-number : goal.invariant-loop-number
invariant-loop-number l = l.kept ≡ fold (if_among l.others) [] (take l.number l.self)
