-- The theorem of joined moves: of fewest blocks, the sum of the maxima with the deadheads put in is their number.
use Rattle.std.proofs.Common.{◌≡◌, ℕ, ◌≤◌, List, [], length, map, Some, sym, ap, subst, ◌∙◌, arith}
use Rattle.std.specs.Prelude.{All, pos, ◌≤ℤ◌}
use Rattle.std.proofs.lemmas.Int.{ints}
use Rattle.trip_model.specs.declared.trip.Move.{Move}
use Rattle.trip_model.specs.Blocking.{IsBlocking, IsFewest}
use Rattle.trip_model.specs.Deficit.{deficit}
use Rattle.trip_model.specs.Maximum.{sum_of_maxima}
use Rattle.trip_model.specs.Plain.{plain_network, IsMove}
use Rattle.trip_model.specs.Timetable.{TimetableView, IsTimetable}
use Rattle.deadhead_matrix.specs.Fitting.{network_of}
use Rattle.deadhead_matrix.specs.Matrix.{MatrixView, AreLeastWalks}
use Rattle.joined_deficits.specs.Joined.{legs_in, joined_moves, TakeTime}
use Rattle.joined_deficits.proofs.Dropping.{IsLeg, legs-are, dropped, each-dropped, length-dropped, times-dropped, legs-times}
use Rattle.joined_deficits.proofs.LegLemmas.{all-in, blocks-run, joined-move}
use Rattle.joined_deficits.proofs.Meeting.{joined-blocking}

-- what is known of any list of moves: some blocking without deadheads has as many blocks as the sum of the maxima, and none
-- has fewer
abbrev pub PlainBlocks : Type 0
PlainBlocks = (places : ℕ) (moves : List Move) → All (IsMove places) moves
    → (blocks : List (List ℕ)) × IsFewest (plain_network (map Some moves)) blocks
    × (pos (length blocks) ≡ sum_of_maxima (deficit moves) places)

-- the deadheads dropped, a blocking without deadheads of the joined moves is a blocking with no more blocks, where no rules forbid
-- a pair
pub dropped-blocking : (t : TimetableView) (matrix : MatrixView) (blocks others : List (List ℕ)) → IsTimetable t → AreLeastWalks matrix
    → length matrix.walks ≡ length t.places → matrix.rules ≡ []
    → IsBlocking (network_of t matrix) blocks → IsBlocking (plain_network (map Some (joined_moves t matrix blocks))) others
    → (trips : List (List ℕ)) × IsBlocking (network_of t matrix) trips × (length trips ≤ length others)
unfolding joined_moves
dropped-blocking t matrix blocks others valid least count free blocking plain =
    let legs = legs_in t matrix blocks in
    let are = all-in t matrix (IsLeg t matrix) (legs-are t matrix valid) blocks blocking.each (blocks-run t matrix blocks blocking) in (
      dropped legs others,
      record {
        stands = record { once = λ s. times-dropped legs s others plain ∙ legs-times t matrix s blocks ∙ blocking.stands.once s };
        each = each-dropped t matrix valid least count free legs are others plain.each;
      },
      length-dropped legs others,
    )

-- the sum of the maxima is at most the number of blocks
pub sum-at-most : PlainBlocks → (t : TimetableView) (matrix : MatrixView) (blocks : List (List ℕ)) → IsTimetable t → AreLeastWalks matrix
    → length matrix.walks ≡ length t.places
    → TakeTime matrix.entries → IsBlocking (network_of t matrix) blocks
    → sum_of_maxima (deficit (joined_moves t matrix blocks)) (length t.places) ≤ℤ pos (length blocks)
sum-at-most plain_blocks t matrix blocks valid least count lasting blocking =
    let plain = plain_blocks (length t.places) (joined_moves t matrix blocks) (joined-move t matrix blocks valid blocking) in
    let joined = joined-blocking t matrix blocks valid least count lasting blocking in
    let few = plain.1.fewest joined.0 joined.1 in
    let same = joined.2 in
    subst (λ sum. sum ≤ℤ pos (length blocks)) plain.2 (omega (arith, ints, few, same))

-- and of fewest blocks it is their number, where no rules forbid a pair
pub sum-of-fewest : PlainBlocks → (t : TimetableView) (matrix : MatrixView) (blocks : List (List ℕ)) → IsTimetable t → AreLeastWalks matrix
    → length matrix.walks ≡ length t.places
    → TakeTime matrix.entries → matrix.rules ≡ [] → IsFewest (network_of t matrix) blocks
    → sum_of_maxima (deficit (joined_moves t matrix blocks)) (length t.places) ≡ pos (length blocks)
sum-of-fewest plain_blocks t matrix blocks valid least count lasting free fewest =
    let plain = plain_blocks (length t.places) (joined_moves t matrix blocks) (joined-move t matrix blocks valid fewest.blocking) in
    let joined = joined-blocking t matrix blocks valid least count lasting fewest.blocking in
    let trips = dropped-blocking t matrix blocks plain.0 valid least count free fewest.blocking plain.1.blocking in
    let same : length plain.0 ≡ length blocks =
    omega (arith, plain.1.fewest joined.0 joined.1, joined.2, fewest.fewest trips.0 trips.1, trips.2) in
    sym plain.2 ∙ ap pos same
