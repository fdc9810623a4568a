-- What `chains` asks, and what it puts of a feed.
use Rattle.std.specs.Prelude.{◌≡◌, ℕ, ◌+◌, ◌*◌, List, [], ◌∷◌, ◌++◌, length, codes, pos, ◌+ℤ◌}
use Rattle.trip_model.specs.Deficit.{deficit, live_moves}
use Rattle.trip_model.specs.Maximum.{sum_of_maxima}
use Rattle.trip_model.specs.Timetable.{TimetableView}
use Rattle.trip_model.specs.declared.trip.Move.{Move}
use Rattle.deadhead_matrix.specs.Matrix.{MatrixView}
use Rattle.dh_chains.specs.Chains.{IsFirstChain, NoChain, deadheads, following, moves_of, places_with}
use Rattle.dh_chains.specs.Lines.{chain_text}
use Rattle.dh_chains.specs.declared.chain.Chain.{Chain}
use Rattle.desk_run.specs.Commands.{Asked}
use Rattle.desk_feed.specs.Judging.{of_feed}
use Rattle.desk_feed.specs.Schedule.{IsMatrixOf}
use Rattle.desk_feed.specs.Showing.{EditedView, TextAsked, showing}
use Rattle.lowering_commands.specs.Fleet.{fleet_of, total_line}

-- moves, and the deadheads of a chain as moves besides
abbrev pub with_chain : List Move → Chain → List Move
with_chain moves chain = moves ++ moves_of (deadheads chain)

-- the sum of the maxima is smaller by exactly one with a chain besides
abbrev pub Lowers : MatrixView → List Move → Chain → Type 0
Lowers matrix moves chain = (sum_of_maxima (deficit (with_chain moves chain)) (length matrix.walks) +ℤ pos 1) ≡ sum_of_maxima
    (deficit moves) (length matrix.walks)

-- the first chain where those before it are put in as moves, which lowers the sum
pub record IsPutIn (matrix : MatrixView) (moves : List Move) (chain : Chain) : Type 0 where
  pub first : IsFirstChain (places_with (deficit moves) matrix) chain.first (following chain.second chain.third)
  pub lowers : Lowers matrix moves chain

-- chains that are put in one after the other; and with all of them there is none
abbrev pub AreChains : MatrixView → List Move → List Chain → Type 0
AreChains matrix moves [] = NoChain (places_with (deficit moves) matrix)
AreChains matrix moves (c ∷ cs) = IsPutIn matrix moves c × AreChains matrix (with_chain moves c) cs

-- their lines, numbered on from those put before, each with the sum of the maxima with that chain. Then how many there are
abbrev pub chains_text : TimetableView → List Move → ℕ → List Chain → List ℕ
chains_text timetable moves before [] = total_line (codes "chains ") before (fleet_of (length timetable.places) moves)
chains_text timetable moves before (c ∷ cs) =
    chain_text timetable (before + 1) c (fleet_of (length timetable.places) (with_chain moves c))
    ++ chains_text timetable (with_chain moves c) (before + 1) cs

-- the text is that of such chains
pub record IsChainsText (timetable : TimetableView) (matrix : MatrixView) (moves : List Move) (before : ℕ) (text : List ℕ) : Type 0 where
  pub chains : List Chain
  pub are : AreChains matrix moves chains
  pub printed : text ≡ chains_text timetable moves before chains

-- those of the trips that run
pub record IsChains (stands : EditedView) (text : List ℕ) : Type 0 where
  pub matrix : MatrixView
  pub matrix_is : IsMatrixOf stands.entries stands.pulls stands.rules (length stands.timetable.places) matrix
  pub chains : IsChainsText stands.timetable matrix (live_moves stands.timetable.slots) 0 text

-- no more chains than trips, since each of them takes a vehicle
abbrev pub chains_shown : TextAsked
chains_shown = record { Shows = IsChains; most = λ timetable. 28 * length timetable.slots + 84 * (length timetable.slots + 1) }

-- what `chains` asks of a run
unfoldable pub chains_asked : Asked
chains_asked = of_feed (showing chains_shown)
