-- The plans of a script, one for each moment, and the steps that they take.
use Rattle.std.specs.Prelude.{◌≡◌, ℕ, suc, ◌+◌, ◌<◌, ◌≤◌, List, [], length, Option, None, IsSome, pos, unsigned_abs}
use Rattle.trip_model.specs.Blocking.{IsFewest}
use Rattle.trip_model.specs.Deficit.{deficit, live_moves}
use Rattle.trip_model.specs.Maximum.{sum_of_maxima}
use Rattle.trip_model.specs.Plain.{plain_network, trip_moves}
use Rattle.trip_model.specs.Timetable.{TimetableView, IsTimetable}
use Rattle.edit_script.specs.Folds.{Folds}
use Rattle.edit_script.specs.declared.edit.Line.{Line}
use Rattle.edit_script.specs.declared.edit.Line.TheVariants as line
use Rattle.edit_script.specs.declared.fault.EditFault.{EditFault}
use Rattle.deadhead_matrix.specs.Matrix.{MatrixView}
use Rattle.deadhead_matrix.specs.Fitting.{network_of}
use Rattle.assignment_model.specs.Choice.{IsChosen}
use Rattle.assignment_model.specs.Prices.{Plan}
use Rattle.plan_choice.specs.Likings.{LikingsView}
use Rattle.desk_core.specs.Computed.{PlansView, first_plan, likes, plans_after}
use Rattle.desk_core.specs.Counts.{blocks_in}
use Rattle.desk_core.specs.Desk as desk
use Rattle.desk_feed.specs.Feed.{FeedView}
use Rattle.deadhead_matrix.specs.Plans.{IsScheduled}
use Rattle.desk_feed.specs.Schedule.{most_steps}
use Rattle.desk_feed.specs.Script.{gathered, line_at, refusal_in, standing_at, state_at, step_at}

-- the sum of the maxima of the deficits
abbrev pub fixed_number : TimetableView → ℕ
fixed_number timetable = unsigned_abs (sum_of_maxima (deficit (live_moves timetable.slots)) (length timetable.places))

-- The sum of the maxima of the deficits: as many blocks has one without deadheads, and none of those has fewer. Deficits see no
-- rules of pairs, so blocks that follow rules may be more.
pub record IsFixed (timetable : TimetableView) (fixed : ℕ) : Type 0 where
  pub maxima : pos fixed ≡ sum_of_maxima (deficit (live_moves timetable.slots)) (length timetable.places)
  pub blocks : List (List ℕ)
  pub fewest : IsFewest (plain_network (trip_moves timetable.slots)) blocks
  pub count : length blocks ≡ fixed

-- Along which paths a record changes the links of a plan for a timetable: those of the repair of its trip. What an undo and a
-- redo give follows from what stands. A refused record changes no plan.
abbrev pub AreRelinked : Line → Option EditFault → TimetableView → List (Option ℕ) → List (Option ℕ) → Type 0
AreRelinked (line.Edit edit) None timetable old new = desk.AreRepaired edit timetable old new
AreRelinked line refused timetable old new = new ≡ old

-- the plans after a record: those after its edit, or the same ones where it is refused
abbrev pub plans_by : Line → Option EditFault → TimetableView → TimetableView → MatrixView → PlansView → PlansView
plans_by (line.Edit edit) None before after matrix plans = plans_after edit before after matrix plans
plans_by line refused before after matrix plans = plans

module _ (base : TimetableView) (lines : List Line) (matrix : MatrixView) (likings : LikingsView) where
  -- the plans after so many of the first records, computed record by record
  unfoldable pub plans_at : ℕ → PlansView
  plans_at = gathered (record { plan = first_plan base matrix likings; earlier = []; later = [] }) λ n plans.
      plans_by (line_at lines n) (refusal_in (step_at base lines n)) (standing_at base lines n) (standing_at base lines (suc n))
      matrix plans

  -- rule: which plan stands after a record
  -- the plan then
  abbrev pub plan_at : ℕ → Plan
  plan_at m = (plans_at m).plan

-- What holds of the plan at each moment of a script. A moment is after so many of its records. The timetable that stands then is
-- valid. The prices of its plan prove it, and its blocks are least over all blockings. The fewest vehicles without deadheads,
-- and without rules of pairs, are the sum of the maxima. Of the base timetable no least blocking is liked more. Where the same edits
-- stand the plans are equal, prices included. A refused record leaves the plan as it is. The edit of a trip changes links along the
-- paths of its repair alone. The edits that stand are each accepted over those before.
pub record ArePlanned (base : TimetableView) (lines : List Line) (matrix : MatrixView) (likings : LikingsView) : Type 0 where
  pub valid : (m : ℕ) → m ≤ length lines → IsTimetable (standing_at base lines m)
  pub scheduled : (m : ℕ) → m ≤ length lines → let plan = plan_at base lines matrix likings m in
      IsScheduled (standing_at base lines m) matrix plan (blocks_in (standing_at base lines m) plan)
  pub without : (m : ℕ) → m ≤ length lines → IsFixed (standing_at base lines m) (fixed_number (standing_at base lines m))
  pub chosen : IsChosen (network_of base matrix) (likes base matrix likings) (blocks_in base (plan_at base lines matrix likings 0))
  pub restored : (m k : ℕ) → m ≤ length lines → k ≤ length lines → (state_at base lines m).standing ≡ (state_at base lines k).standing
      → plan_at base lines matrix likings m ≡ plan_at base lines matrix likings k
  pub unchanged : (n : ℕ) → n < length lines → IsSome (refusal_in (step_at base lines n))
      → plan_at base lines matrix likings (suc n) ≡ plan_at base lines matrix likings n
  pub folds : (m : ℕ) → m ≤ length lines → Folds base (state_at base lines m).standing
  pub repaired : (n : ℕ) → n < length lines
      → AreRelinked (line_at lines n) (refusal_in (step_at base lines n)) (standing_at base lines n)
      (plan_at base lines matrix likings n).next
      (plan_at base lines matrix likings (suc n)).next

-- the most steps of a record, with so many slots after it: none where it is refused
abbrev pub most_for : Line → ℕ → Option EditFault → ℕ
most_for (line.Edit edit) slots None = desk.most_steps edit slots
most_for line slots refused = 0

-- and of so many of the first records
unfoldable pub most_to : TimetableView → List Line → ℕ → ℕ
most_to base lines = gathered 0 λ n most.
    most + most_for (line_at lines n) (length (standing_at base lines (suc n)).slots) (refusal_in (step_at base lines n))

-- the most steps of all plans: those of the first one, and then those of each record
abbrev pub most_steps_of : FeedView → ℕ
most_steps_of said = most_steps (length said.base.slots) + most_to said.base said.lines (length said.lines)
