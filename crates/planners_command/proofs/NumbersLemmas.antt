-- The numbers that were put are those of a plan from scratch.
use Rattle.std.proofs.Common.{◌≡◌, ℕ, List, ◌++◌, length, pos, Option, Result, Ok, Err, sym, ap, ◌∙◌}
use Rattle.std.specs.Prelude.{OnOk, unsigned_abs}
use Rattle.trip_model.specs.declared.trip.Move.{Move}
use Rattle.trip_model.specs.Blocking.{IsFewest, empty_minutes}
use Rattle.trip_model.specs.Deficit.{deficit, live_moves}
use Rattle.trip_model.specs.Links.{blocks_along}
use Rattle.trip_model.specs.Maximum.{sum_of_maxima}
use Rattle.trip_model.specs.Order.{by_departure}
use Rattle.trip_model.specs.Plain.{made, plain_network, trip_moves, AreMoves}
use Rattle.trip_model.specs.Timetable.{Slot, TimetableView, IsTimetable}
use Rattle.deadhead_matrix.specs.Fitting.{network_of}
use Rattle.deadhead_matrix.specs.Matrix.{MatrixView}
use Rattle.assignment_model.specs.Prices.{Plan}
use Rattle.fixed_fleet.specs.Rule.{first_in_first_out}
use Rattle.deadhead_matrix.specs.Plans.{IsScheduled}
use Rattle.desk_feed.specs.Numbers.{numbers_line}
use Rattle.planners_command.specs.Stepped.{HasNumbers}

-- what is needed of the laws
abbrev pub MakesMoves : Type 0
MakesMoves = (timetable : TimetableView) → IsTimetable timetable → AreMoves (length timetable.places) (trip_moves timetable.slots)

abbrev pub AreMade : Type 0
AreMade = (slots : List Slot) → made (trip_moves slots) ≡ live_moves slots

abbrev pub ReachesMaxima : Type 0
ReachesMaxima = (places : ℕ) (moves : List (Option Move)) → AreMoves places moves
    → IsFewest (plain_network moves) (blocks_along (first_in_first_out moves) (by_departure moves))
    × (pos (length (blocks_along (first_in_first_out moves) (by_departure moves))) ≡ sum_of_maxima (deficit (made moves)) places)

module _ (makes : MakesMoves) (are_made : AreMade) (reaches : ReachesMaxima) (timetable : TimetableView) (matrix : MatrixView)
    (plan : Plan) (blocks : List (List ℕ)) (valid : IsTimetable timetable) (is : IsScheduled timetable matrix plan blocks) where
  abbrev moves : List (Option Move)
  moves = trip_moves timetable.slots

  abbrev without : List (List ℕ)
  without = blocks_along (first_in_first_out moves) (by_departure moves)

  reached : IsFewest (plain_network moves) without × (pos (length without) ≡ sum_of_maxima (deficit (made moves)) (length timetable.places))
  reached = reaches (length timetable.places) moves (makes timetable valid)

  maxima : pos (length without) ≡ sum_of_maxima (deficit (live_moves timetable.slots)) (length timetable.places)
  maxima = reached.1 ∙ ap (λ ms. sum_of_maxima (deficit ms) (length timetable.places)) (are_made timetable.slots)

  pub numbers-put : {E : Type 0} (fixed vehicles minutes : ℕ) (old new : List ℕ)
      → pos fixed ≡ sum_of_maxima (deficit (live_moves timetable.slots)) (length timetable.places) → vehicles ≡ length blocks
      → minutes ≡ empty_minutes (network_of timetable matrix) blocks
      → (result : Result (Unit {0}) E) → OnOk result (new ≡ old ++ numbers_line fixed vehicles minutes)
      → OnOk result (HasNumbers timetable matrix old new)
  numbers-put fixed vehicles minutes old new fixed_is vehicles_is minutes_is (Err e) put = tt
  numbers-put fixed vehicles minutes old new fixed_is vehicles_is minutes_is (Ok u) put =
      let count : fixed ≡ length without = ap unsigned_abs (fixed_is ∙ sym maxima) in
      record {
        numbers = numbers_line fixed vehicles minutes;
        numbered = record {
          plan = plan;
          blocks = blocks;
          scheduled = is;
          without = without;
          fewest = reached.0;
          maxima = maxima;
          put = λ i. numbers_line (count i) (vehicles_is i) (minutes_is i);
        };
        put = put;
      }
