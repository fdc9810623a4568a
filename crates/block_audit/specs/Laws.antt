-- What stated blocks are.
use Rattle.std.specs.Prelude.{◌≡◌, ◌≢◌, ℕ, ◌+◌, ◌<◌, Bool, List, [], length, slice_index_or, All, ⊤, false}
use Rattle.gtfs_tables.specs.Table.{TableView}
use Rattle.trip_model.specs.Blocking.{times, StandsOnce, IsBlock, IsBlocking, IsLeast, slots_in, empty_minutes}
use Rattle.trip_model.specs.Network.{Network}
use Rattle.trip_model.specs.Timetable.{TimetableView, IsTimetable, slot_at}
use Rattle.pair_rules.specs.Rules.{PairRule, allows}
use Rattle.deadhead_matrix.specs.Matrix.{MatrixView}
use Rattle.deadhead_matrix.specs.Fitting.{network_of}
use Rattle.block_audit.specs.declared.cost.Above.{Above}
use Rattle.block_audit.specs.declared.cost.Above.TheVariants.{Nothing, Vehicles, Minutes}
use Rattle.block_audit.specs.declared.misfit.Misfit.{Misfit}
use Rattle.block_audit.specs.declared.misfit.Why.{Why}
use Rattle.block_audit.specs.declared.misfit.Why.TheVariants.{Late, Forbidden}
use Rattle.block_audit.specs.Above.{above_by}
use Rattle.block_audit.specs.Misfits.{misfits_in}
use Rattle.block_audit.specs.Stated.{NamedBlock, slots_by, stated_in}

-- each trip that runs is in the stated blocks exactly once, and no other is
abbrev pub EachStands : Type 0
EachStands =
    (trips : TableView) (timetable : TimetableView) (chosen : List Bool) (matrix : MatrixView)
    → StandsOnce (network_of timetable matrix).live (slots_in (slots_by (stated_in trips timetable chosen)))

-- without a misfit stated blocks are a blocking
abbrev pub AreBlocking : Type 0
AreBlocking =
    (trips : TableView) (timetable : TimetableView) (chosen : List Bool) (matrix : MatrixView)
    → misfits_in timetable matrix (stated_in trips timetable chosen) ≡ []
    → IsBlocking (network_of timetable matrix) (slots_by (stated_in trips timetable chosen))

-- and in a blocking there is no misfit
abbrev pub HaveNoMisfit : Type 0
HaveNoMisfit =
    (timetable : TimetableView) (matrix : MatrixView) (stated : List NamedBlock)
    → IsBlocking (network_of timetable matrix) (slots_by stated)
    → misfits_in timetable matrix stated ≡ []

-- a vehicle that comes too late does so by more than no minutes
abbrev pub IsLate : Why → Type 0
IsLate (Late minutes) = 0 < minutes
IsLate _ = ⊤

abbrev pub AreLate : Type 0
AreLate =
    (trips : TableView) (timetable : TimetableView) (chosen : List Bool) (matrix : MatrixView)
    → All (λ misfit. IsLate misfit.why) (misfits_in timetable matrix (stated_in trips timetable chosen))

-- where a misfit is forbidden, the rules of pairs do not allow its second trip straight after its first
abbrev pub IsForbidden : TimetableView → List PairRule → Misfit → Type 0
IsForbidden timetable rules misfit = misfit.why ≡ Forbidden
    → allows rules (slot_at timetable misfit.before).name (slot_at timetable misfit.after).name ≡ false

abbrev pub AreForbidden : Type 0
AreForbidden =
    (trips : TableView) (timetable : TimetableView) (chosen : List Bool) (matrix : MatrixView)
    → All (IsForbidden timetable matrix.rules) (misfits_in timetable matrix (stated_in trips timetable chosen))

-- where the trips of a stated block can be made one after the other in some order, that is their order there
abbrev pub StandInOrder : Type 0
StandInOrder =
    (trips : TableView) (timetable : TimetableView) (chosen : List Bool) (matrix : MatrixView) (b : ℕ) (other : List ℕ)
    → IsTimetable timetable
    → b < length (stated_in trips timetable chosen)
    → ((s : ℕ) → times s other ≡ times s (slice_index_or (slots_by (stated_in trips timetable chosen)) b []))
    → IsBlock (network_of timetable matrix) other
    → other ≡ slice_index_or (slots_by (stated_in trips timetable chosen)) b []

-- how blocks compare with other ones
abbrev pub standing : Network → List (List ℕ) → List (List ℕ) → Above
standing network blocks least = above_by (length blocks) (empty_minutes network blocks) (length least) (empty_minutes network least)

-- what it says of blocks against least ones: nothing, exactly where they are least. Else how many vehicles they have more, or
-- with as few vehicles how many empty minutes
abbrev pub Says : Network → List (List ℕ) → List (List ℕ) → Above → Type 0
Says network blocks least Nothing = IsLeast network blocks
Says network blocks least (Vehicles more) = (more ≢ 0) × (length blocks ≡ length least + more)
Says network blocks least (Minutes more) = (more ≢ 0) × (length blocks ≡ length least)
    × (empty_minutes network blocks ≡ empty_minutes network least + more)

abbrev pub IsSaid : Type 0
IsSaid =
    (network : Network) (blocks least : List (List ℕ))
    → IsBlocking network blocks
    → IsLeast network least
    → Says network blocks least (standing network blocks least)

abbrev pub IsSaidOfLeast : Type 0
IsSaidOfLeast =
    (network : Network) (blocks least : List (List ℕ))
    → IsLeast network blocks
    → IsLeast network least
    → standing network blocks least ≡ Nothing
