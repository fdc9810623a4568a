-- What `joined` asks, and what it writes and puts of a feed.
use Rattle.std.specs.Prelude.{◌≡◌, ℕ, ◌+◌, ◌*◌, ◌≤ℤ◌, ℤ, List, [], ◌∷◌, ◌++◌, length, None, codes, pos}
use Rattle.trip_model.specs.Deficit.{deficit, live_moves}
use Rattle.trip_model.specs.Maximum.{sum_of_maxima}
use Rattle.trip_model.specs.Timetable.{TimetableView, place_names}
use Rattle.deadhead_matrix.specs.Matrix.{MatrixView}
use Rattle.assignment_model.specs.Prices.{Plan}
use Rattle.plan_choice.specs.Likings.{LikingsView}
use Rattle.block_names.specs.Names.{NamingView, names_of}
use Rattle.joined_deficits.specs.Boards.{boards_text}
use Rattle.joined_deficits.specs.Joined.{joined_moves}
use Rattle.joined_deficits.specs.Lines.{joined_text}
use Rattle.joined_deficits.specs.declared.limits.TheConstants.{MOST_MOVES}
use Rattle.desk_run.specs.Commands.{Asked}
use Rattle.desk_run.specs.Outcome.{OutcomeView}
use Rattle.desk_run.specs.declared.status.Ending.{Ending}
use Rattle.desk_feed.specs.Feed.{FeedView, standing}
use Rattle.desk_feed.specs.Judging.{FeedAsked, ending_of, of_feed, refused_of}
use Rattle.desk_feed.specs.Schedule.{IsMatrixFor}
use Rattle.feed_likings.specs.Likings.{likings_in}
use Rattle.feed_naming.specs.Commands.{NamingAsked, doing_named, of_naming}
use Rattle.feed_desk.specs.Drawn.{IsDrawn}
use Rattle.feed_desk.specs.Plans.{most_steps_of}

-- the deficits of all moves of blocks beside those of the trips alone
abbrev pub joined_of : TimetableView → MatrixView → List (List ℕ) → List ℕ
joined_of timetable matrix blocks =
    joined_text (place_names timetable) (deficit (joined_moves timetable matrix blocks)) (deficit (live_moves timetable.slots))
    (length blocks)

-- the boards of blocks are written, and behind the lines of refused records their joined deficits are put
abbrev pub boards_outcome : List ℕ → Ending → List (List ℕ) → TimetableView → MatrixView → List (List ℕ) → OutcomeView
boards_outcome refused end names timetable matrix blocks = record {
  writes = record { name = codes "boards.csv"; bytes = boards_text timetable matrix names blocks } ∷ [];
  lines = None;
  text = refused ++ joined_of timetable matrix blocks;
  ending = end;
}

-- the sum of the maxima of the deficits of all moves of blocks
abbrev pub joined_sum_of : TimetableView → MatrixView → List (List ℕ) → ℤ
joined_sum_of timetable matrix blocks = sum_of_maxima (deficit (joined_moves timetable matrix blocks)) (length timetable.places)

-- It is done of the blocks of the plan after the script of a feed, and the maxima add up to no more than their number. Where there are
-- no rules of pairs, they add up to it. Deficits see no rules, and blocks that follow rules may be more.
pub record IsJoined (likings : LikingsView) (naming : NamingView) (said : FeedView) (outcome : OutcomeView) : Type 0 where
  pub matrix : MatrixView
  pub matrix_is : IsMatrixFor said matrix
  pub plan : Plan
  pub blocks : List (List ℕ)
  pub drawn : IsDrawn said.base said.lines matrix likings plan blocks
  pub done : outcome ≡ boards_outcome (refused_of said) (ending_of said) (names_of naming blocks) (standing said) matrix blocks
  pub most : joined_sum_of (standing said) matrix blocks ≤ℤ pos (length blocks)
  pub sum : said.rules ≡ [] → joined_sum_of (standing said) matrix blocks ≡ pos (length blocks)

-- the most steps: those of the plans of the script, and of the deficits of as many moves as there may be
abbrev pub joined_named : NamingAsked
joined_named = doing_named (λ read naming said. IsJoined (likings_in read said.settings said.base) naming said)
    (λ said. most_steps_of said + 28 * MOST_MOVES)

abbrev pub joined_does : FeedAsked
joined_does = of_naming joined_named

-- what `joined` asks of a run
unfoldable pub joined_asked : Asked
joined_asked = of_feed joined_does
