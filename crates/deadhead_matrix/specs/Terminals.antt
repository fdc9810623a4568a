-- Walks of a vehicle that runs empty, from terminal to terminal, along the records of `deadheads.csv`.
use Rattle.std.specs.Prelude.{◌≡◌, ◌≢◌, ◌⊎◌, ◌↔◌, ℕ, ◌+◌, ◌<◌, ◌≤◌, length, List, [], ◌∷◌, sum_by, Option, None, Some, Ok}
use Rattle.desk_io.specs.declared.shelf.Found.{Found}
use Rattle.gtfs_tables.specs.declared.paper.Paper.TheVariants as paper
use Rattle.gtfs_tables.specs.Reading.{table_in}
use Rattle.gtfs_tables.specs.Table.{TableView}
use Rattle.trip_model.specs.Place.{Place, class_of, place_in}
use Rattle.deadhead_matrix.specs.declared.read.Columns.{Columns}
use Rattle.deadhead_matrix.specs.declared.entry.Entry.{Entry}
use Rattle.deadhead_matrix.specs.Deadheads.{columns_in, deadhead_in}
use Rattle.deadhead_matrix.specs.Walks.{IsLeastWalk}

-- a deadhead between two terminals
pub record Deadhead : Type 0 where
  pub from : List ℕ
  pub to : List ℕ
  pub minutes : ℕ

-- the record of that number has these fields, where the first of the records has the number `first`
abbrev pub IsRecord : ℕ → List (List (List ℕ)) → ℕ → List (List ℕ) → Type 0
IsRecord first [] number fields = ⊥
IsRecord first (row ∷ rows) number fields = ((number ≡ first) × (fields ≡ row)) ⊎ IsRecord (first + 1) rows number fields

-- a record of the file allows the deadhead
pub record IsAllowed (found : Found) (deadhead : Deadhead) : Type 0 where
  pub table : TableView
  pub read : table_in paper.Deadheads found ≡ Ok table
  pub columns : Columns
  pub header : columns_in table.header ≡ Ok columns
  pub number : ℕ
  pub fields : List (List ℕ)
  pub row : IsRecord 1 table.rows number fields
  pub is : deadhead_in columns number fields ≡ Ok (deadhead.from, deadhead.to, deadhead.minutes)

-- the deadheads lead from terminal a to terminal b, each beginning where the one before ends
abbrev pub IsTerminalWalk : Found → List ℕ → List Deadhead → List ℕ → Type 0
IsTerminalWalk found a [] b = a ≡ b
IsTerminalWalk found a (d ∷ ds) b = IsAllowed found d × (d.from ≡ a) × IsTerminalWalk found d.to ds b

-- the minutes of such a walk
abbrev pub terminal_minutes : List Deadhead → ℕ
terminal_minutes ds = sum_by (λ d. d.minutes) ds

-- some walk from terminal a to terminal b has so many minutes, and none has fewer
pub record IsLeastTerminalTotal (found : Found) (a b : List ℕ) (m : ℕ) : Type 0 where
  pub reached : (ds : List Deadhead) × IsTerminalWalk found a ds b × (terminal_minutes ds ≡ m)
  pub least : (ds : List Deadhead) → IsTerminalWalk found a ds b → m ≤ terminal_minutes ds

-- the minutes of a least walk from terminal a to terminal b, or None where there is no walk
abbrev pub IsLeastTerminalWalk : Found → List ℕ → List ℕ → Option ℕ → Type 0
IsLeastTerminalWalk found a b None = (ds : List Deadhead) → IsTerminalWalk found a ds b → ⊥
IsLeastTerminalWalk found a b (Some m) = IsLeastTerminalTotal found a b m

-- the terminal of the place of that number
abbrev pub terminal_at : List Place → ℕ → List ℕ
terminal_at places p = (place_in places p).terminal

-- Along the entries between these places the least walk of two posts of one class is that of their terminals. Between posts of
-- two classes there is none.
pub record AreTerminalWalks (found : Found) (places : List Place) (entries : List Entry) : Type 0 where
  pub one_class : (a b : ℕ) → a < length places → b < length places → class_of places a ≡ class_of places b → (m : Option ℕ)
      → IsLeastWalk entries a b m ↔ IsLeastTerminalWalk found (terminal_at places a) (terminal_at places b) m
  pub two_classes : (a b : ℕ) → class_of places a ≢ class_of places b → IsLeastWalk entries a b None
