-- One chain after the other: terms of the functions inside.
use Rattle.std.specs.Prelude.{◌≡◌, ℕ, List, ◌++◌, length, ℤ, pos, ◌+ℤ◌}
use Rattle.trip_model.specs.Maximum.{sum_of_maxima}
use Rattle.trip_model.specs.Timetable.{TimetableView}
use Rattle.trip_model.specs.declared.trip.Move.{Move}
use Rattle.deadhead_matrix.specs.Matrix.{MatrixView}
use Rattle.deficit_steps.specs.Changes.{value}
use Rattle.deficit_steps.specs.Holds.{Holds}
use Rattle.dh_chains.specs.Chains.{IsFirstChain, following, places_of}
use Rattle.dh_chains.specs.Lines.{chain_text}
use Rattle.dh_chains.specs.declared.chain.Chain.{Chain}
use Rattle.lowering_commands.specs.Chains.{with_chain}

-- the sum of the maxima of deficits that are kept
abbrev pub sum_kept : List (List ℤ) → ℤ
sum_kept deficits = sum_of_maxima (value deficits) (length deficits)

-- the first chain was put in and its line put, as that of so many
pub record HasPut (timetable : TimetableView) (matrix : MatrixView) (number : ℕ) (old new : List (List ℤ))
    (text_old text_new : List ℕ) : Type 0 where
  pub chain : Chain
  pub sum : ℕ
  pub first : IsFirstChain (places_of old matrix) chain.first (following chain.second chain.third)
  pub places : length new ≡ length old
  pub held : (moves : List Move) → Holds old moves → Holds new (with_chain moves chain)
  pub sum_is : pos sum ≡ sum_kept new
  pub fell : (sum_kept new +ℤ pos 1) ≡ sum_kept old
  pub put : text_new ≡ text_old ++ chain_text timetable number chain sum
