-- What a shelf in memory holds, and which of its calls fail.
use Rattle.std.specs.Prelude.{ℕ, ◌/◌, List, length, take, Some}
use Rattle.std.specs.FinMap.{from_entries}
use Rattle.desk_io.specs.Calls.{CallCount}
use Rattle.desk_io.specs.History.{Call}
use Rattle.desk_io.specs.Shelf.{Files, ShelfState}
use Rattle.desk_io.specs.declared.memory_shelf.MemoryShelf.{MemoryShelf}

-- the files: of each name, the bytes that were laid or written last
abbrev pub files_of : MemoryShelf → Files
files_of shelf = from_entries shelf.log.items

-- which reads are to fail, and how many came
abbrev pub reads_of : MemoryShelf → CallCount
reads_of shelf = shelf.reads

-- which writes are to fail, and how many came
abbrev pub writes_of : MemoryShelf → CallCount
writes_of shelf = shelf.writes

abbrev pub shelf_state_of : MemoryShelf → ShelfState
shelf_state_of shelf = record { files = Some (files_of shelf); read_faults = shelf.reads.faults; write_faults = shelf.writes.faults }

abbrev pub shelf_history_of : MemoryShelf → List Call
shelf_history_of shelf = shelf.history.calls

-- the first half of the bytes, rounded down, which a write that fails leaves
abbrev pub first_half : List ℕ → List ℕ
first_half bytes = take (length bytes / 2) bytes
