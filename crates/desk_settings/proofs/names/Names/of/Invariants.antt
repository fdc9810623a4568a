use Rattle.std.proofs.Common.{◌≡◌, drop, fold, []}
use Rattle.desk_settings.specs.Names.{with_name}
use Rattle.desk_settings.proofs.names.Names.of.Given as goal

abbrev pub invariant-loop-text : goal.invariant-loop-text
invariant-loop-text l = fold with_name l.names (drop l.text-index l.texts) ≡ fold with_name [] l.texts
