-- Records that stand: the timetable of them, and what an undo takes out.
use Rattle.std.specs.Prelude.{ℕ, ◌+◌, ◌&&◌, Bool, not, List, [], ◌∷◌, fold, map, drop, remove, slice_index_or, Option, Some, None, IsOk}
use Rattle.std.specs.Prelude.{Result, Ok, Err, ⊤, if◌then◌else◌}
use Rattle.std.specs.Str.{bytes_eq}
use Rattle.trip_model.specs.Timetable.{TimetableView}
use Rattle.edit_script.specs.declared.edit.Edit.TheVariants.{Undo}
use Rattle.edit_script.specs.Changes.{edited}
use Rattle.edit_script.specs.Edits.{trip_of}
use Rattle.edit_script.specs.Machine.{or_same}
use Rattle.planner_desk.specs.declared.fault.PlannerFault.{PlannerFault}
use Rattle.planner_desk.specs.declared.fault.PlannerFault.TheVariants as fault
use Rattle.planner_desk.specs.declared.standing.Standing.{Standing}

-- the timetable after the edit of a record that stands
abbrev pub after_standing : TimetableView → Standing → TimetableView
after_standing t r = or_same t (edited t r.asked.edit)

-- the timetable of records that stand: their edits, in order, over the base
abbrev pub timetable_of : TimetableView → List Standing → TimetableView
timetable_of base standing = fold after_standing base standing

-- the edits of records, in order, are each accepted over the timetable that they come to
abbrev pub Folds : TimetableView → List Standing → Type 0
Folds t [] = ⊤
Folds t (r ∷ standing) = IsOk (edited t r.asked.edit) × Folds (after_standing t r) standing

-- the numbers of records
abbrev pub numbers : List Standing → List ℕ
numbers standing = map (λ (r : Standing). r.number) standing

-- the record of that place, and past the last one a record of an edit that does nothing
abbrev pub standing_at : List Standing → ℕ → Standing
standing_at standing n = slice_index_or standing n (record { number = 0; asked = record { planner = []; edit = Undo } })

-- the place of the last record of a planner, of records counted on from n, with that of the records before them
abbrev pub last_from : List ℕ → ℕ → Option ℕ → List Standing → Option ℕ
last_from planner n so_far [] = so_far
last_from planner n so_far (r ∷ standing) = last_from planner (n + 1) (if bytes_eq r.asked.planner planner then Some n else so_far) standing

-- the place of the last record of a planner
abbrev pub last_place : List ℕ → List Standing → Option ℕ
last_place planner standing = last_from planner 0 None standing

-- rule: which record holds another one's undo
-- a record after another holds it: it is of another planner, and names its trip
abbrev pub holds : Standing → Standing → Bool
holds held r = not (bytes_eq r.asked.planner held.asked.planner) && bytes_eq (trip_of r.asked.edit) (trip_of held.asked.edit)

-- the number of the first of the records after it that holds a record
abbrev pub holder : Standing → List Standing → Option ℕ
holder held [] = None
holder held (r ∷ after) = if holds held r then Some r.number else holder held after

-- the records that stand without the one of a place, unless another holds it
abbrev pub unless_held : Option ℕ → List Standing → Result (List Standing) PlannerFault
unless_held (Some number) fewer = Err (fault.HeldBy number)
unless_held None fewer = Ok fewer

abbrev pub without_last : List Standing → Option ℕ → Result (List Standing) PlannerFault
without_last standing None = Err fault.NothingToUndo
without_last standing (Some n) = unless_held (holder (standing_at standing n) (drop (n + 1) standing)) (remove standing n)

-- rule: what an undo of a planner takes back
-- the records that stand after an undo of a planner: the planner's last is taken out, and it alone
abbrev pub undone : List ℕ → List Standing → Result (List Standing) PlannerFault
undone planner standing = without_last standing (last_place planner standing)
