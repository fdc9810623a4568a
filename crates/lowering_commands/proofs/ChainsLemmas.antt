-- One chain after the other.
use Rattle.std.proofs.Common.{◌≡◌, ℕ, ◌+◌, ◌<◌, List, [], ◌∷◌, ◌++◌, All, length, ◌≤◌, ℤ, pos, Option, None, Some, sym, ap, subst, ◌∙◌}
use Rattle.std.proofs.Common.{arith}
use Rattle.std.specs.Prelude.{codes, ◌↔◌, ◌+ℤ◌, unsigned_abs}
use Rattle.std.proofs.lemmas.List.Elements.{All-cons, All-head, All-nil, All-tail}
use Rattle.trip_model.specs.declared.trip.Move.{Move}
use Rattle.trip_model.specs.Deficit.{deficit}
use Rattle.trip_model.specs.Maximum.{sum_of_maxima}
use Rattle.trip_model.specs.Timetable.{TimetableView}
use Rattle.deadhead_matrix.specs.Matrix.{MatrixView}
use Rattle.deficit_steps.specs.Changes.{IsDeficits, value}
use Rattle.deficit_steps.specs.Holds.{Holds}
use Rattle.dh_chains.specs.Chains.{GoesOn, IsDeadhead, IsFirstChain, IsUnitChain, NoChain, Places, deadheads, following, moves_of}
use Rattle.dh_chains.specs.Chains.{places_of, places_with}
use Rattle.dh_chains.specs.Lines.{IsBetween, chain_text}
use Rattle.dh_chains.specs.declared.chain.Chain.{Chain}
use Rattle.dh_chains.specs.declared.chain.Deadhead.{Deadhead}
use Rattle.lowering_commands.specs.Chains.{IsChainsText, IsPutIn, with_chain}
use Rattle.lowering_commands.specs.Fleet.{fleet_of, total_line}
use Rattle.lowering_commands.specs.Step.{HasPut, sum_kept}

-- the deadheads of a chain go between the places
between : (places : Places) (m : Deadhead) (rest : List Deadhead) → m.to < places.count → All (IsDeadhead places) (m ∷ rest)
    → GoesOn places m rest → All (IsBetween places.count) (m ∷ rest)
between places m [] to all on =
    All-cons (IsBetween places.count) m [] (record { from = (All-head (IsDeadhead places) m [] all).from; to = to })
    (All-nil (IsBetween places.count))
between places m (next ∷ rest) to all on =
    let here = All-head (IsDeadhead places) m (next ∷ rest) all in
    All-cons (IsBetween places.count) m (next ∷ rest) (record { from = here.from; to = to })
    (between places next rest (subst (λ p. p < places.count) (sym on.0) here.from) (All-tail (IsDeadhead places) m (next ∷ rest) all) on.2)

pub chain-between : (places : Places) (n : ℕ) (chain : Chain) → places.count ≡ n
    → IsUnitChain places chain.first (following chain.second chain.third) → All (IsBetween n) (deadheads chain)
chain-between places n chain count unit =
    subst (λ k. All (IsBetween k) (deadheads chain)) count
    (between places chain.first (following chain.second chain.third) unit.target unit.deadheads unit.goes_on)

pub deadheads-few : (chain : Chain) → length (moves_of (deadheads chain)) ≤ 3
deadheads-few chain = by chain.second chain.third
  where
    by : (second third : Option Deadhead) → length (moves_of (chain.first ∷ following second third)) ≤ 3
    by None third = omega arith
    by (Some second) None = omega arith
    by (Some second) (Some third) = omega arith

-- what is needed of the laws
abbrev pub SumHeld : Type 0
SumHeld = (deficits : List (List ℤ)) (moves : List Move) → IsDeficits deficits → Holds deficits moves
    → sum_of_maxima (value deficits) (length deficits) ≡ sum_of_maxima (deficit moves) (length deficits)

abbrev pub ChainsHeld : Type 0
ChainsHeld = (deficits : List (List ℤ)) (moves : List Move) (matrix : MatrixView) (first : Deadhead) (rest : List Deadhead)
    → IsDeficits deficits → Holds deficits moves → length deficits ≡ length matrix.walks
    → IsUnitChain (places_of deficits matrix) first rest ↔ IsUnitChain (places_with (deficit moves) matrix) first rest

module _ (deficits : List (List ℤ)) (moves : List Move) (matrix : MatrixView) (valid : IsDeficits deficits) (held : Holds deficits moves)
    (rows : length deficits ≡ length matrix.walks) where
  first-held : ChainsHeld → (first : Deadhead) (rest : List Deadhead) → IsFirstChain (places_of deficits matrix) first rest
      → IsFirstChain (places_with (deficit moves) matrix) first rest
  first-held same first rest is = record {
    chain = (same deficits moves matrix first rest valid held rows).0 is.chain;
    least = λ m ms unit earlier. is.least m ms ((same deficits moves matrix m ms valid held rows).1 unit) earlier;
  }

  none-held : ChainsHeld → NoChain (places_of deficits matrix) → NoChain (places_with (deficit moves) matrix)
  none-held same none first rest unit = none first rest ((same deficits moves matrix first rest valid held rows).1 unit)

-- the sum that is kept is the fleet of the moves that are held
sum-held : SumHeld → (deficits : List (List ℤ)) (moves : List Move) (places sum : ℕ) → IsDeficits deficits → Holds deficits moves
    → length deficits ≡ places → pos sum ≡ sum_kept deficits → sum ≡ fleet_of places moves
sum-held total deficits moves places sum valid held rows is =
    ap unsigned_abs (is ∙ total deficits moves valid held ∙ ap (sum_of_maxima (deficit moves)) rows)

pub sum-moves : SumHeld → (deficits : List (List ℤ)) (moves : List Move) (sum : ℕ) → IsDeficits deficits → Holds deficits moves
    → pos sum ≡ sum_kept deficits → pos sum ≡ sum_of_maxima (deficit moves) (length deficits)
sum-moves total deficits moves sum valid held is = is ∙ total deficits moves valid held

-- what was put in is put in with the moves that are held
put-in-held : SumHeld → ChainsHeld → (matrix : MatrixView) (moves : List Move) (old new : List (List ℤ)) (chain : Chain) → IsDeficits old
    → IsDeficits new → Holds old moves → Holds new (with_chain moves chain)
    → length old ≡ length matrix.walks → length new ≡ length old
    → IsFirstChain (places_of old matrix) chain.first (following chain.second chain.third) → (sum_kept new +ℤ pos 1) ≡ sum_kept old
    → IsPutIn matrix moves chain
put-in-held total same matrix moves old new chain valid after held held' rows places first fell = record {
  first = first-held old moves matrix valid held rows same chain.first (following chain.second chain.third) first;
  lowers =
      (λ i. sym (total new (with_chain moves chain) after held' ∙ ap (sum_of_maxima (deficit (with_chain moves chain))) (places ∙ rows)) i
      +ℤ pos 1)
      ∙ fell ∙ total old moves valid held ∙ ap (sum_of_maxima (deficit moves)) rows;
}

-- a chain before the text of the others
pub chain-before : SumHeld → ChainsHeld
    → (timetable : TimetableView) (matrix : MatrixView) (moves : List Move) (number : ℕ) (old new : List (List ℤ))
    (text_old text_new rest : List ℕ)
    → length timetable.places ≡ length matrix.walks → length old ≡ length matrix.walks → IsDeficits old → IsDeficits new → Holds old moves
    → (put : HasPut timetable matrix (number + 1) old new text_old text_new)
    → IsChainsText timetable matrix (with_chain moves put.chain) (number + 1) rest
    → IsChainsText timetable matrix moves number (chain_text timetable (number + 1) put.chain put.sum ++ rest)
chain-before total same timetable matrix moves number old new text_old text_new rest places rows valid after held put is = record {
  chains = put.chain ∷ is.chains;
  are = (
    put-in-held total same matrix moves old new put.chain valid after held (put.held moves held) rows put.places put.first put.fell,
    is.are,
  );
  printed = λ i. chain_text timetable (number + 1) put.chain
      (sum-held total new (with_chain moves put.chain) (length timetable.places) put.sum after (put.held moves held)
      (put.places ∙ rows ∙ sym places) put.sum_is i) ++ is.printed i;
}

-- no chain is left
pub no-chain : SumHeld → ChainsHeld
    → (timetable : TimetableView) (matrix : MatrixView) (moves : List Move) (number sum : ℕ) (deficits : List (List ℤ))
    → length timetable.places ≡ length matrix.walks → length deficits ≡ length matrix.walks → IsDeficits deficits → Holds deficits moves
    → NoChain (places_of deficits matrix) → pos sum ≡ sum_kept deficits
    → IsChainsText timetable matrix moves number (total_line (codes "chains ") number sum)
no-chain total same timetable matrix moves number sum deficits places rows valid held none is = record {
  chains = [];
  are = none-held deficits moves matrix valid held rows same none;
  printed = ap (total_line (codes "chains ") number)
      (sum-held total deficits moves (length timetable.places) sum valid held (rows ∙ sym places) is);
}
