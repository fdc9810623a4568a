-- What stands outside the program in a real folder, and what is told of it.
use Rattle.std.specs.Prelude.{ℕ, List, [], None}
use Rattle.desk_io.specs.FolderShelf.{folder_history_of, folder_of, folder_state_of, system_of}
use Rattle.desk_io.specs.Host.{host_trace_of}
use Rattle.desk_io.specs.OutSink.{out_history_of, out_state_of, out_system_of}
use Rattle.desk_io.specs.System.{Asked}
use Rattle.desk_run.specs.Outside.{Outside, outside}
use Rattle.sqlite_keeper.specs.SqliteKeeper.{journal_folder_of, keeper_history_of, keeper_state_of}
use Rattle.blockdesk.specs.declared.outer.Outer.{Outer}

-- the folder, standard output and the journal, as a run sees them
abbrev pub outside_of : Outer → Outside
outside_of outer = outside folder_state_of folder_history_of out_state_of out_history_of keeper_state_of keeper_history_of
    outer.shelf outer.out outer.keeper

-- the folder whose files are read and written
abbrev pub folder_named_by : Outer → List ℕ
folder_named_by outer = folder_of outer.shelf

-- the folder in which the journal is
abbrev pub journal_named_by : Outer → List ℕ
journal_named_by outer = journal_folder_of outer.keeper

-- what the system was asked of files, and what of standard output
abbrev pub asked_of_files : Outer → List Asked
asked_of_files outer = host_trace_of (system_of outer.shelf)

abbrev pub asked_of_output : Outer → List Asked
asked_of_output outer = host_trace_of (out_system_of outer.out)

-- a folder, standard output and a journal that tell nothing of what they hold: no fault was counted, and no call came
abbrev pub nothing_yet : Outside
nothing_yet = record {
  world = record {
    shelf = record { files = None; read_faults = 0; write_faults = 0 };
    sink = record { written = None; faults = 0 };
    keeper = record { journal = None; faults = 0 };
  };
  calls = record { shelf = []; sink = []; keeper = [] };
}
