-- What an undo takes back, and that whatever planners ask for each edit that stands is accepted.
use Rattle.std.specs.Prelude.{◌≡◌, ◌≢◌, ℕ, ◌+◌, ◌<◌, List, All, drop, length, remove, Ok, Err}
use Rattle.trip_model.specs.Timetable.{TimetableView}
use Rattle.edit_script.specs.Edits.{trip_of}
use Rattle.planner_desk.specs.declared.fault.PlannerFault.TheVariants as fault
use Rattle.planner_desk.specs.declared.standing.Standing.{Standing}
use Rattle.planner_desk.specs.Machine.{Numbered, planners_machine}
use Rattle.planner_desk.specs.Planners.{standing_after}
use Rattle.planner_desk.specs.Standing.{Folds, standing_at, undone}

-- the trip that the record of a place names
abbrev pub trip_at : List Standing → ℕ → List ℕ
trip_at standing place = trip_of (standing_at standing place).asked.edit

-- no record is of a planner
abbrev pub HasNone : List ℕ → List Standing → Type 0
HasNone planner standing = All (λ (r : Standing). r.asked.planner ≢ planner) standing

-- a place has the last record of a planner: none after it is the planner's
pub record HasLast (planner : List ℕ) (standing : List Standing) (place : ℕ) : Type 0 where
  pub within : place < length standing
  pub own : (standing_at standing place).asked.planner ≡ planner
  pub last : HasNone planner (drop (place + 1) standing)

-- the planner's last record, whose trip no later one names, is taken out, and it alone
pub record TakesBack (planner : List ℕ) (standing next : List Standing) : Type 0 where
  pub place : ℕ
  pub is_last : HasLast planner standing place
  pub free : All (λ (r : Standing). trip_of r.asked.edit ≢ trip_at standing place) (drop (place + 1) standing)
  pub next_is : next ≡ remove standing place

-- a later record names the trip of the planner's last one, and it is the first that does
pub record IsHeld (planner : List ℕ) (standing : List Standing) (number : ℕ) : Type 0 where
  pub place : ℕ
  pub is_last : HasLast planner standing place
  pub later : ℕ
  pub after : place < later
  pub within : later < length standing
  pub number_is : number ≡ (standing_at standing later).number
  pub names : trip_at standing later ≡ trip_at standing place
  pub first : (k : ℕ) → place < k → k < later → trip_at standing k ≢ trip_at standing place

-- what each answer to an undo says: an accepted one takes back the planner's last record
abbrev pub UndoTakesBack : Type 0
UndoTakesBack = (planner : List ℕ) (standing next : List Standing) → undone planner standing ≡ Ok next → TakesBack planner standing next

-- nothing is to be undone: no record that stands is of the planner
abbrev pub NothingStands : Type 0
NothingStands = (planner : List ℕ) (standing : List Standing) → undone planner standing ≡ Err fault.NothingToUndo → HasNone planner standing

-- a record holds the planner's last one: it is later, and names its trip
abbrev pub HolderStands : Type 0
HolderStands = (planner : List ℕ) (standing : List Standing) (number : ℕ) → undone planner standing ≡ Err (fault.HeldBy number)
    → IsHeld planner standing number

-- the records that stand after an accepted record fold without a refusal, where those before it did
abbrev pub StaysFolding : Type 0
StaysFolding = (base : TimetableView) (standing next : List Standing) (r : Standing) → Folds base standing
    → standing_after base standing r ≡ Ok next → Folds base next

-- after any records those that stand fold without a refusal
abbrev pub AlwaysFolds : Type 0
AlwaysFolds = (base : TimetableView) (records : List Numbered) → Folds base (planners_machine base records)
