-- What is asked of the system to read a file, and to write one so that it is at each moment as before or whole.
use Rattle.std.specs.Prelude.{◌≡◌, ◌⊎◌, ℕ, ◌+◌, ◌-◌, ◌^◌, min, false, List, [], ◌∷◌, ◌++◌, All, codes, Option, None, Some}
use Rattle.std.specs.Prelude.{Result, Ok, Err}
use Rattle.std.specs.Fmt.{decimal}
use Rattle.std.specs.Path.{path_join}
use Rattle.desk_io.specs.Shelf.{found_as}
use Rattle.desk_io.specs.System.{Asked, Open, Read, Look, Create, CreateNew, Write, Sync, Rename, Remove}
use Rattle.desk_io.specs.declared.shelf.Found.{Found}
use Rattle.desk_io.specs.declared.shelf.Found.TheVariants.{Missing}
use Rattle.desk_io.specs.declared.system_call.Refusal.{Refusal}
use Rattle.desk_io.specs.declared.system_call.Refusal.TheVariants.{NotThere, Memory}

-- what a read answers where the file was not opened: one that is not there is missing
abbrev pub unopened : Refusal → Result Found Refusal
unopened NotThere = Ok Missing
unopened why = Err why

-- one byte more than is wanted, so that a longer file is seen
abbrev pub one_above : ℕ → ℕ
one_above limit = min (limit + 1) (2 ^ 64 - 1)

-- what a read answers by what was read of the file that had been opened: such a file is never missing
abbrev pub read_back : ℕ → List ℕ → Option Refusal → Result Found Refusal
read_back limit bytes None = Ok (found_as limit (Some bytes))
read_back limit bytes (Some why) = Err why

-- A read of a file opens the one of its name in the folder, and reads one byte more than is wanted. No memory for the path may end
-- it before that.
abbrev pub AsksToRead : List ℕ → List ℕ → ℕ → Result Found Refusal → List Asked → List Asked → Type 0
AsksToRead folder name limit result before after =
    ((after ≡ before) × (result ≡ Err Memory))
    ⊎ (((why : Refusal) × (after ≡ before ++ Open (path_join folder name) (Some why) ∷ []) × (result ≡ unopened why))
    ⊎ ((bytes : List ℕ) × (why : Option Refusal)
    × (after ≡ before ++ Open (path_join folder name) None ∷ Read (one_above limit) bytes why ∷ [])
    × (result ≡ read_back limit bytes why)))

-- the name under which a file is written beside the one that it is to replace, by a number
abbrev pub beside : List ℕ → ℕ → List ℕ
beside name number = codes "." ++ (name ++ (codes "." ++ decimal number))

-- what is asked leaves every file as it is, but for those that are written beside the one of this name
abbrev pub Spares : List ℕ → List ℕ → Asked → Type 0
Spares folder name (Create path None) = ⊥
Spares folder name (Rename path other None) = ⊥
Spares folder name (Remove path why) = (number : ℕ) × (path ≡ path_join folder (beside name number))
Spares folder name (CreateNew path why) = (number : ℕ) × (path ≡ path_join folder (beside name number))
Spares folder name asked = Unit {0}

-- all that was asked spares the files
pub record Spared (folder name : List ℕ) (before after : List Asked) : Type 0 where
  pub made : List Asked
  pub spares : All (Spares folder name) made
  pub asked : after ≡ before ++ made

-- A file was made beside the one of this name. What was asked before spares the files.
pub record IsMadeBeside (folder name path : List ℕ) (before after : List Asked) : Type 0 where
  pub number : ℕ
  pub named : path ≡ path_join folder (beside name number)
  pub tried : List Asked
  pub spares : All (Spares folder name) tried
  pub asked : after ≡ before ++ (tried ++ CreateNew path None ∷ [])

-- A file was made beside the one of this name. All bytes were written to it, it was put on the disk, and then renamed over that one.
pub record IsReplaced (folder name bytes : List ℕ) (before after : List Asked) : Type 0 where
  pub path : List ℕ
  pub between : List Asked
  pub made : IsMadeBeside folder name path before between
  pub asked : after ≡ between ++ Write bytes None ∷ Sync None ∷ Rename path (path_join folder name) None ∷ []

-- What is no plain file is written where it is.
abbrev pub in_place : List ℕ → List ℕ → List ℕ → Option Refusal → List Asked
in_place folder name bytes why =
    Look (path_join folder name) false None ∷ Create (path_join folder name) None ∷ Write bytes why ∷ []

-- rule: how a file is written: beside the old one and renamed, or in place
-- what is asked to write a file, by what is answered
abbrev pub AsksToWrite : List ℕ → List ℕ → List ℕ → Result (Unit {0}) Refusal → List Asked → List Asked → Type 0
AsksToWrite folder name bytes (Ok done) before after =
    IsReplaced folder name bytes before after ⊎ (after ≡ before ++ in_place folder name bytes None)
AsksToWrite folder name bytes (Err Memory) before after = Spared folder name before after
AsksToWrite folder name bytes (Err why) before after =
    Spared folder name before after ⊎ ((cut : Refusal) × (after ≡ before ++ in_place folder name bytes (Some cut)))
