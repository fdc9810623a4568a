-- What `fixed` asks, and what it puts of a feed.
use Rattle.std.specs.Prelude.{◌≡◌, ℕ, List, [], ◌∷◌, ◌++◌, length, pos, codes}
use Rattle.std.specs.Fmt.{decimal}
use Rattle.trip_model.specs.Blocking.{IsFewest}
use Rattle.trip_model.specs.Fleet.{deficit_sum}
use Rattle.trip_model.specs.Links.{blocks_along}
use Rattle.trip_model.specs.Order.{by_departure}
use Rattle.trip_model.specs.Plain.{plain_network, trip_moves}
use Rattle.trip_model.specs.Timetable.{TimetableView}
use Rattle.deadhead_matrix.specs.declared.pulls.Pull.{Pull}
use Rattle.deadhead_matrix.specs.Matrix.{MatrixView, empty_matrix}
use Rattle.fixed_fleet.specs.Rule.{first_in_first_out}
use Rattle.block_build.specs.Lines.{block_text}
use Rattle.block_names.specs.Names.{NamingView, names_of}
use Rattle.desk_run.specs.Commands.{Asked}
use Rattle.desk_feed.specs.Judging.{of_feed}
use Rattle.desk_feed.specs.Showing.{Puts, TextAsked}
use Rattle.feed_naming.specs.Commands.{NamingAsked, doing_named, of_naming}

-- the matrix without entries that has the pulls: no vehicle runs empty from one trip to the next
abbrev pub standing_matrix : TimetableView → List Pull → MatrixView
standing_matrix timetable pulls = record (empty_matrix (length timetable.places)) { pulls = pulls }

-- the lines of the blocks, and then their number
abbrev pub fixed_text : TimetableView → List Pull → List (List ℕ) → List (List ℕ) → List ℕ
fixed_text timetable pulls names blocks = block_text timetable (standing_matrix timetable pulls) [] names blocks
    ++ (codes "fixed " ++ (decimal (length blocks) ++ 10 ∷ []))

-- The text is that of the blocks which the rule of first in, first out makes. No blocking without deadheads has fewer, and
-- they are as many as the sum of the maxima.
pub record IsFixedText (timetable : TimetableView) (pulls : List Pull) (naming : NamingView) (text : List ℕ) : Type 0 where
  pub blocks : List (List ℕ)
  pub by_rule : blocks ≡ blocks_along (first_in_first_out (trip_moves timetable.slots)) (by_departure (trip_moves timetable.slots))
  pub fewest : IsFewest (plain_network (trip_moves timetable.slots)) blocks
  pub number : pos (length blocks) ≡ deficit_sum timetable
  pub printed : text ≡ fixed_text timetable pulls (names_of naming blocks) blocks

-- which texts `fixed` may put, and the most steps
abbrev pub fixed_shown : NamingView → TextAsked
fixed_shown naming = record { Shows = λ stands. IsFixedText stands.timetable stands.pulls naming; most = λ timetable. 0 }

-- what `fixed` asks of a feed whose blocks are named
abbrev pub fixed_named : NamingAsked
fixed_named = doing_named (λ read naming. Puts (fixed_shown naming)) (λ said. 0)

-- what `fixed` asks of a run
unfoldable pub fixed_asked : Asked
fixed_asked = of_feed (of_naming fixed_named)
