-- What holds of plans that are computed, for every timetable.
use Rattle.std.specs.Prelude.{◌≡◌, ℕ, ◌+◌, ◌*◌, ◌≤◌, All, Bool, List, length, Option, None, Ok}
use Rattle.assignment_model.specs.Choice.{IsChosen}
use Rattle.assignment_model.specs.Paths.{IsPath}
use Rattle.assignment_model.specs.Prices.{Plan}
use Rattle.assignment_model.specs.declared.limits.TheConstants.{MOST_LIKING}
use Rattle.deadhead_matrix.specs.Fitting.{network_of}
use Rattle.deadhead_matrix.specs.Matrix.{MatrixView}
use Rattle.deadhead_matrix.specs.Plans.{IsPlanFor, IsScheduled}
use Rattle.deadhead_matrix.specs.Pulls.{IsPull}
use Rattle.desk_core.specs.Computed.{first_plan, likes, plan_repaired}
use Rattle.desk_core.specs.Counts.{blocks_in}
use Rattle.desk_core.specs.Repair.{IsRepairedIn, MayRepair}
use Rattle.desk_feed.specs.Feed.{FeedView, said_by}
use Rattle.desk_feed.specs.Schedule.{IsMatrixFor}
use Rattle.desk_feed.specs.Script.{IsScript}
use Rattle.desk_io.specs.declared.shelf.Found.{Found}
use Rattle.edit_script.specs.declared.edit.Edit.{Edit}
use Rattle.edit_script.specs.declared.edit.Line.{Line}
use Rattle.feed_desk.specs.Plans.{ArePlanned}
use Rattle.feed_likings.specs.Likings.{likings_by}
use Rattle.gtfs_tables.specs.Reading.{table_in}
use Rattle.gtfs_tables.specs.declared.paper.Paper.{Paper}
use Rattle.gtfs_tables.specs.declared.paper.Paper.TheVariants as paper
use Rattle.pair_graph.specs.Pairs.{PairsView}
use Rattle.plan_choice.specs.Likings.{LikingsView}
use Rattle.pair_rules.specs.Rules.{ArePairRules}
use Rattle.trip_model.specs.Links.{next_of, before_of}
use Rattle.trip_model.specs.Plain.{AreMoves}
use Rattle.trip_model.specs.Timetable.{TimetableView, IsTimetable}
use Rattle.trip_model.specs.declared.limits.TheConstants.{LAST_MINUTE, MOST_SLOTS}
use Rattle.pair_search.specs.Assignment.{AreWeights, IsMatched, Covers, MayBegin}
use Rattle.pair_search.specs.Determined.{found}

-- a plan has so many slots
pub record HasSlots (n : ℕ) (plan : Plan) : Type 0 where
  pub next : length plan.next ≡ n
  pub leave : length plan.leave ≡ n
  pub enter : length plan.enter ≡ n

-- A search from a row led from one plan to another. Its links are matched, and its prices cover all rows but those left out.
-- Links changed along a path from that row alone.
pub record IsFound (w : ℕ → ℕ → Option ℕ) (n : ℕ) (out : ℕ → Bool) (a : ℕ) (b : Option ℕ) (old new : Plan) : Type 0 where
  pub slots : HasSlots n new
  pub matched : IsMatched w out None b new.next new.leave new.enter
  pub covers : Covers w out None new.leave new.enter
  pub path : IsPath (next_of old.next) (before_of old.next) (next_of new.next) a

-- each search that may begin finds such a plan
abbrev pub AreFound : Type 0
AreFound = (w : ℕ → ℕ → Option ℕ) (n : ℕ) (out : ℕ → Bool) (a : ℕ) (b : Option ℕ) (plan : Plan) → n ≤ MOST_SLOTS → AreWeights w n
    → HasSlots n plan → MayBegin w n out a b plan.next plan.leave plan.enter → IsFound w n out a b plan (found w a plan)

-- No more slots than there may be. Their moves are valid, and no pull is longer than one may be.
pub record ArePairs (pairs : PairsView) : Type 0 where
  pub few : length pairs.moves ≤ MOST_SLOTS
  pub moves : AreMoves (length pairs.matrix.walks) pairs.moves
  pub pulls : All IsPull pairs.matrix.pulls

-- all that counts is together no more than a link may be liked
abbrev pub AreLikings : LikingsView → Type 0
AreLikings likings = likings.stated + likings.line + likings.waiting * LAST_MINUTE ≤ MOST_LIKING

-- A first plan has as many slots as the timetable. Its prices prove it, and its blocks are least. No least blocking is liked more.
pub record IsFirst (timetable : TimetableView) (matrix : MatrixView) (likings : LikingsView) (plan : Plan) : Type 0 where
  pub slots : HasSlots (length timetable.slots) plan
  pub scheduled : IsScheduled timetable matrix plan (blocks_in timetable plan)
  pub chosen : IsChosen (network_of timetable matrix) (likes timetable matrix likings) (blocks_in timetable plan)

-- A timetable, the matrix over its places and likings, as those of each feed are that is accepted.
pub record MayPlan (timetable : TimetableView) (matrix : MatrixView) (likings : LikingsView) : Type 0 where
  pub valid : IsTimetable timetable
  pub places : length timetable.places ≡ length matrix.walks
  pub pulls : All IsPull matrix.pulls
  pub liked : AreLikings likings

-- the plan of each timetable that is made from nothing is such
abbrev pub AreFirst : Type 0
AreFirst = (timetable : TimetableView) (matrix : MatrixView) (likings : LikingsView) → MayPlan timetable matrix likings
    → IsFirst timetable matrix likings (first_plan timetable matrix likings)

-- A plan was repaired after the edit of the trip in a slot. Its prices prove it, and links changed along the paths of the repair.
pub record IsRepaired (edit : Edit) (slot : ℕ) (timetable : TimetableView) (matrix : MatrixView) (old new : Plan) : Type 0 where
  pub plan : IsPlanFor timetable matrix new
  pub links : IsRepairedIn edit slot old.next new.next

-- each plan that may be repaired is so, where it has as many prices as next trips
abbrev pub AreAllRepaired : Type 0
AreAllRepaired = (timetable : TimetableView) (matrix : MatrixView) → IsTimetable timetable → length timetable.places ≡ length matrix.walks
    → All IsPull matrix.pulls → (plan : Plan) → length plan.leave ≡ length plan.next → length plan.enter ≡ length plan.next
    → (edit : Edit) (slot : ℕ) → MayRepair edit slot timetable matrix plan
    → IsRepaired edit slot timetable matrix plan (plan_repaired edit slot timetable matrix plan)

-- The plans of each script are planned, over each timetable, matrix and likings with which there may be plans.
abbrev pub AreEachPlanned : Type 0
AreEachPlanned = (base : TimetableView) (lines : List Line) (matrix : MatrixView) (likings : LikingsView) → MayPlan base matrix likings
    → IsScript lines → ArePlanned base lines matrix likings

-- What a feed says is valid: its timetable, its script, its rules of pairs, and for each place a pull that is no longer than one may
-- be.
pub record IsValidFeed (said : FeedView) : Type 0 where
  pub base : IsTimetable said.base
  pub script : IsScript said.lines
  pub pulls : All IsPull said.pulls
  pub count : length said.pulls ≡ length said.base.places
  pub rules : ArePairRules said.rules

-- how links are liked by the settings of a feed and by what was found of its trips
abbrev pub likings_found : (Paper → Found) → FeedView → LikingsView
likings_found found said = likings_by said.settings said.base (table_in paper.Trips (found paper.Trips))

-- what each accepted feed says is valid
abbrev pub AreAllAccepted : Type 0
AreAllAccepted = (found : Paper → Found) (said : FeedView) → said_by found ≡ Ok said → IsValidFeed said

-- there may be plans of the timetable of each accepted feed, with its matrix and its likings
abbrev pub MayAllPlan : Type 0
MayAllPlan = (found : Paper → Found) (said : FeedView) → said_by found ≡ Ok said → (matrix : MatrixView) → IsMatrixFor said matrix
    → MayPlan said.base matrix (likings_found found said)

-- the plans of the script of each accepted feed are planned, with its matrix and its likings
abbrev pub AreAllPlanned : Type 0
AreAllPlanned = (found : Paper → Found) (said : FeedView) → said_by found ≡ Ok said → (matrix : MatrixView) → IsMatrixFor said matrix
    → ArePlanned said.base said.lines matrix (likings_found found said)
