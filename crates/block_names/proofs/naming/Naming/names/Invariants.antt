use Rattle.std.proofs.Common.{◌≡◌, ◌+◌, ◌++◌, drop, length, map}
use Rattle.std.specs.List.{range_with_len}
use Rattle.block_names.specs.Names.{filled_up, taken_by}
use Rattle.block_names.specs.Numbered.{free_from}
use Rattle.block_names.proofs.naming.Naming.names.Given as goal

-- the names so far, and those of the other blocks by the numbers that are left, are those of all
abbrev pub invariant-loop-number : goal.invariant-loop-number
invariant-loop-number l =
    let taken = map (taken_by l.self.stated l.blocks) (range_with_len 0 (length l.blocks)) in
    record {
      told : l.names.items ++ filled_up (free_from l.self.prefix l.stated l.untried.number l.untried.left) (drop l.number taken)
          ≡ filled_up (free_from l.self.prefix l.stated 1 (length l.blocks + length l.self.stated)) taken;
      room : l.untried.number + l.untried.left ≡ 1 + (length l.blocks + length l.self.stated);
    }
