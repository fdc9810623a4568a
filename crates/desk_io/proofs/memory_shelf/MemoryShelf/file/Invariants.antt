use Rattle.std.proofs.Common.{◌≡◌}
use Rattle.std.specs.FinMap.{get, find}
use Rattle.std.specs.Cmp.Lexicographic.{slice_cmp}
use Rattle.std.specs.Ordering.{nat_cmp}
use Rattle.std.specs.VecDeque.Iter.{deque_iter_rest}
use Rattle.desk_io.specs.MemoryShelf.{files_of}
use Rattle.desk_io.proofs.memory_shelf.MemoryShelf.file.Given as goal

-- what stands under the name stands in what is left of the log
abbrev pub invariant-loop-key : goal.invariant-loop-key
invariant-loop-key l =
    get (files_of l.self) l.name ≡ find (slice_cmp nat_cmp) l.name (deque_iter_rest l.key-iterator)
