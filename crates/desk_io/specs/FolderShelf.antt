-- What a real folder is seen as: it tells nothing of its files, counts its faults, and tells which calls came, and what was asked of
-- the system in each.
use Rattle.std.specs.Prelude.{◌≡◌, ℕ, List, None, Result, Ok, Err}
use Rattle.desk_io.specs.History.{Call}
use Rattle.desk_io.specs.Shelf.{ShelfState}
use Rattle.desk_io.specs.System.{Asked}
use Rattle.desk_io.specs.WholeFiles.{AsksToRead, AsksToWrite}
use Rattle.desk_io.specs.declared.folder_shelf.FolderShelf.{FolderShelf}
use Rattle.desk_io.specs.declared.shelf.Found.{Found}
use Rattle.desk_io.specs.declared.shelf.ShelfFault.{ShelfFault}
use Rattle.desk_io.specs.declared.shelf.ShelfFault.TheVariants as fault
use Rattle.desk_io.specs.declared.system_call.Refusal.{Refusal}
use Rattle.desk_io.specs.declared.system_call.Refusal.TheVariants.{Memory}

abbrev pub folder_state_of : {Y File : Type 0} → FolderShelf Y File → ShelfState
folder_state_of shelf = record { files = None; read_faults = shelf.read_faults; write_faults = shelf.write_faults }

abbrev pub folder_history_of : {Y File : Type 0} → FolderShelf Y File → List Call
folder_history_of shelf = shelf.history.calls

-- the system that it asks, and the folder's path
abbrev pub system_of : {Y File : Type 0} → FolderShelf Y File → Y
system_of shelf = shelf.system

abbrev pub folder_of : {Y File : Type 0} → FolderShelf Y File → List ℕ
folder_of shelf = shelf.folder

-- what a refusal of the system is answered as
abbrev pub fault_of : Refusal → ShelfFault
fault_of Memory = fault.Memory
fault_of why = fault.Failed

abbrev pub fault_by : {T : Type 0} → Result T Refusal → Result T ShelfFault
fault_by (Ok x) = Ok x
fault_by (Err why) = Err (fault_of why)

-- a read answers what the system answered to what was asked of it
abbrev pub AsksForRead : List ℕ → List ℕ → ℕ → Result Found ShelfFault → List Asked → List Asked → Type 0
AsksForRead folder name limit result before after =
    (answer : Result Found Refusal) × AsksToRead folder name limit answer before after × (result ≡ fault_by answer)

-- a write answers what the system answered to what was asked of it
abbrev pub AsksForWrite : List ℕ → List ℕ → List ℕ → Result (Unit {0}) ShelfFault → List Asked → List Asked → Type 0
AsksForWrite folder name bytes result before after =
    (answer : Result (Unit {0}) Refusal) × AsksToWrite folder name bytes answer before after × (result ≡ fault_by answer)
