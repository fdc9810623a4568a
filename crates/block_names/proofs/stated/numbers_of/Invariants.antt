use Rattle.std.proofs.Common.{◌≡◌, take, map}
use Rattle.block_names.specs.Numbered.{number_of_name}
use Rattle.block_names.proofs.stated.numbers_of.Given as goal

abbrev pub invariant-loop-name : goal.invariant-loop-name
invariant-loop-name l = l.numbers.items ≡ map (number_of_name l.names) (take l.name-index l.stated)
