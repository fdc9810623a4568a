-- What is put of the records of planners: what becomes of each, and those that stand.
use Rattle.std.specs.Prelude.{ℕ, ◌+◌, List, [], ◌∷◌, ◌++◌, Option, None, Some, codes}
use Rattle.std.specs.Fmt.{decimal}
use Rattle.std.specs.List.{flat_map}
use Rattle.gtfs_tables.specs.Writing.{record_text}
use Rattle.edit_script.specs.Edits.{trip_of}
use Rattle.edit_script.specs.Lines.{fault_text_of, fields_of}
use Rattle.edit_script.specs.declared.fault.EditFault.TheVariants as edit_fault
use Rattle.trip_model.specs.Timetable.{TimetableView}
use Rattle.desk_feed.specs.Script.{gathered}
use Rattle.planner_desk.specs.Laws.{trip_at}
use Rattle.planner_desk.specs.Standing.{last_place}
use Rattle.planner_desk.specs.declared.edit.PlannerEdit.{PlannerEdit}
use Rattle.planner_desk.specs.declared.edit.PlannerLine.{PlannerLine}
use Rattle.planner_desk.specs.declared.edit.PlannerLine.TheVariants as line
use Rattle.planner_desk.specs.declared.fault.PlannerFault.{PlannerFault}
use Rattle.planner_desk.specs.declared.fault.PlannerFault.TheVariants as fault
use Rattle.planner_desk.specs.declared.standing.Standing.{Standing}
use Rattle.planners_command.specs.Moments.{line_at, refusal_in, stand_at, step_at}

-- the trip of the last record of a planner, where one stands
abbrev pub trip_in : List Standing → Option ℕ → List ℕ
trip_in standing None = []
trip_in standing (Some place) = trip_at standing place

abbrev pub last_trip : List ℕ → List Standing → List ℕ
last_trip planner standing = trip_in standing (last_place planner standing)

-- the trip of a refusal, as it is printed: the one that the edit names, or that of the record that is held. Other refusals have
-- none
abbrev pub trip_text : List Standing → PlannerLine → PlannerFault → List ℕ
trip_text standing (line.Edit asked) (fault.Refused refused) = codes ", " ++ trip_of asked.edit
trip_text standing (line.Edit asked) (fault.HeldBy number) = codes ", " ++ last_trip asked.planner standing
trip_text standing line refused = []

-- why a record is refused, as it is printed; of lack of memory nothing is
abbrev pub planner_fault_text : PlannerFault → List ℕ
planner_fault_text fault.NotAnEdit = fault_text_of edit_fault.NotAnEdit
planner_fault_text (fault.Refused refused) = fault_text_of refused
planner_fault_text fault.NothingToUndo = fault_text_of edit_fault.NothingToUndo
planner_fault_text (fault.HeldBy number) = codes "held by record " ++ decimal number
planner_fault_text fault.Memory = []

-- what is put of a record behind its number, by those that stood before it
abbrev pub answer_text : List Standing → PlannerLine → Option PlannerFault → List ℕ
answer_text standing line None = codes ": ok" ++ 10 ∷ []
answer_text standing line (Some refused) = codes ": refused"
    ++ (trip_text standing line refused ++ (codes ": " ++ (planner_fault_text refused ++ 10 ∷ [])))

unfoldable pub answer_line : ℕ → List Standing → PlannerLine → Option PlannerFault → List ℕ
answer_line number standing line refused = codes "planner " ++ (decimal number ++ answer_text standing line refused)

-- what is put of so many of the first records
unfoldable pub answers_to : TimetableView → List PlannerLine → ℕ → List ℕ
answers_to base lines = gathered [] λ n text.
    text ++ answer_line (n + 1) (stand_at base lines n) (line_at lines n) (refusal_in (step_at base lines n))

-- a record that stands, as it is printed: its planner, and the record of its edit as it is written
unfoldable pub asked_line : PlannerEdit → List ℕ
asked_line asked = codes " " ++ (asked.planner ++ (codes ": " ++ record_text (fields_of asked.edit)))

abbrev pub standing_text : List Standing → List ℕ
standing_text standing = flat_map (λ (r : Standing). asked_line r.asked) standing
