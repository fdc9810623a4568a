-- What a shelf holds and has counted, and what its calls do to that.
use Rattle.std.specs.Prelude.{◌≡◌, ◌≢◌, ℕ, ◌≤◌, List, length, nat_le, if◌then◌else◌, Option, None, Some, Result, Ok, Err, option_map}
use Rattle.std.specs.FinMap.{FinMap, get, insert}
use Rattle.std.specs.Cmp.Lexicographic.{slice_cmp}
use Rattle.std.specs.Ordering.{nat_cmp}
use Rattle.desk_io.specs.Faults.{Rose}
use Rattle.desk_io.specs.declared.shelf.Found.{Found}
use Rattle.desk_io.specs.declared.shelf.Found.TheVariants.{File, Missing, TooLong}
use Rattle.desk_io.specs.declared.shelf.ShelfFault.{ShelfFault}
use Rattle.desk_io.specs.declared.shelf.ShelfFault.TheVariants.{Failed, Memory}

-- the bytes of each file by its name
abbrev pub Files : Type 0
Files = FinMap (slice_cmp nat_cmp) (List ℕ)

-- what a shelf holds, where it tells that, and how many faults it has counted
pub record ShelfState : Type 0 where
  pub files : Option Files
  pub read_faults : ℕ
  pub write_faults : ℕ

-- what a file's bytes are found as, when at most so many bytes are wanted
abbrev pub found_as : ℕ → Option (List ℕ) → Found
found_as limit None = Missing
found_as limit (Some bytes) = if nat_le (length bytes) limit then File bytes else TooLong

-- the file of a name
abbrev pub found_in : Files → List ℕ → ℕ → Found
found_in files name limit = found_as limit (get files name)

-- word: tells = shows what it holds to contracts: an object in memory does, a real folder does not
-- A shelf that tells its files answers the file of the name. One that tells nothing may answer anything.
abbrev pub Tells : Option Files → List ℕ → ℕ → Found → Type 0
Tells None name limit found = Unit {0}
Tells (Some files) name limit found = found ≡ found_in files name limit

-- a file has at most so many bytes
abbrev pub FitsIn : ℕ → Found → Type 0
FitsIn limit (File bytes) = length bytes ≤ limit
FitsIn limit Missing = Unit {0}
FitsIn limit TooLong = Unit {0}

-- a read failed: its count rose, and nothing else changed
pub record ReadFailed (before after : ShelfState) : Type 0 where
  pub files : after.files ≡ before.files
  pub write_faults : after.write_faults ≡ before.write_faults
  pub never_falls : before.read_faults ≤ after.read_faults
  pub rose : Rose before.read_faults after.read_faults

-- what a read does to the shelf: nothing, but where it failed
abbrev pub Reads : {T : Type 0} → Result T ShelfFault → ShelfState → ShelfState → Type 0
Reads (Ok x) before after = after ≡ before
Reads (Err Memory) before after = after ≡ before
Reads (Err Failed) before after = ReadFailed before after

-- the shelf with the file of this name replaced or added
abbrev pub with_file : List ℕ → List ℕ → ShelfState → ShelfState
with_file name bytes shelf = record shelf { files = option_map (λ files. insert files name bytes) shelf.files }

-- each file but the one of this name is as before
abbrev pub OthersStay : List ℕ → Option Files → Option Files → Type 0
OthersStay name None after = after ≡ None
OthersStay name (Some files) None = ⊥
OthersStay name (Some files) (Some now) = (other : List ℕ) → other ≢ name → get now other ≡ get files other

-- a write failed: its count rose, the file of that name may hold anything, and nothing else changed
pub record WriteFailed (name : List ℕ) (before after : ShelfState) : Type 0 where
  pub others : OthersStay name before.files after.files
  pub read_faults : after.read_faults ≡ before.read_faults
  pub never_falls : before.write_faults ≤ after.write_faults
  pub rose : Rose before.write_faults after.write_faults

-- what a write of these bytes under this name does to the shelf
abbrev pub Writes : {T : Type 0} → List ℕ → List ℕ → Result T ShelfFault → ShelfState → ShelfState → Type 0
Writes name bytes (Ok done) before after = after ≡ with_file name bytes before
Writes name bytes (Err Memory) before after = after ≡ before
Writes name bytes (Err Failed) before after = WriteFailed name before after
