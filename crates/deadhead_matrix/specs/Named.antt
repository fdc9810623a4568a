-- The places that the records of `deadheads.csv` name. A timetable gains no others of it, also after lack of memory.
use Rattle.std.specs.Prelude.{◌≡◌, ◌⊎◌, ℕ, Bool, List, ◌++◌, All, Contains, Ok}
use Rattle.desk_io.specs.declared.shelf.Found.{Found}
use Rattle.gtfs_tables.specs.declared.paper.Paper.TheVariants as paper
use Rattle.gtfs_tables.specs.Reading.{field_at, table_in}
use Rattle.gtfs_tables.specs.Table.{TableView}
use Rattle.trip_model.specs.Place.{Place}
use Rattle.trip_model.specs.Timetable.{TimetableView}
use Rattle.deadhead_matrix.specs.declared.read.Columns.{Columns}
use Rattle.deadhead_matrix.specs.Deadheads.{ReadingView, columns_in}
use Rattle.deadhead_matrix.specs.Posts.{Class, classes_of, place_for}

-- the place of a terminal for one of these classes
pub record IsPlaceOf (classed : Bool) (classes : List Class) (terminal : List ℕ) (place : Place) : Type 0 where
  pub class : Class
  pub among : Contains classes class
  pub is : place ≡ place_for classed terminal class

-- a record names the terminal of the place, as its first or its second
abbrev pub IsNamedBy : Bool → List Class → Columns → List (List ℕ) → Place → Type 0
IsNamedBy classed classes columns fields place =
    IsPlaceOf classed classes (field_at fields columns.from) place ⊎ IsPlaceOf classed classes (field_at fields columns.to) place

-- a record of the file names the terminal of the place
pub record IsNamed (found : Found) (timetable : TimetableView) (place : Place) : Type 0 where
  pub table : TableView
  pub read : table_in paper.Deadheads found ≡ Ok table
  pub columns : Columns
  pub header : columns_in table.header ≡ Ok columns
  pub fields : List (List ℕ)
  pub row : Contains table.rows fields
  pub named : IsNamedBy timetable.classed (classes_of timetable) columns fields place

-- a timetable has gained such places at the end of its list, and nothing else
pub record HasGained (Named : Place → Type 0) (before after : TimetableView) : Type 0 where
  pub more : List Place
  pub is : after ≡ record before { places = before.places ++ more }
  pub named : All Named more

-- a record adds places that it names
abbrev pub GainsNamed : List Class → Columns → List (List ℕ) → ReadingView → ReadingView → Type 0
GainsNamed classes columns fields before after =
    HasGained (IsNamedBy before.timetable.classed classes columns fields) before.timetable after.timetable
