-- Blocks are such as vehicles can make exactly where they have no misfit.
use Rattle.std.proofs.Common.{◌≡◌, ℕ, ◌+◌, ◌<◌, Bool, true, false, List, [], ◌∷◌, ◌++◌, length, None, Some, if◌then◌else◌, refl, sym, ap}
use Rattle.std.proofs.Common.{subst, ◌∙◌, arith}
use Rattle.std.specs.List.{AllByRecursion}
use Rattle.std.specs.Option.{is_some}
use Rattle.trip_model.specs.Blocking.{Follow, IsBlock}
use Rattle.trip_model.specs.Timetable.{TimetableView}
use Rattle.deadhead_matrix.specs.Matrix.{MatrixView}
use Rattle.deadhead_matrix.specs.Fitting.{network_of}
use Rattle.block_audit.specs.declared.misfit.Misfit.{Misfit}
use Rattle.block_audit.specs.Misfits.{with_misfit, misfits_after, block_misfits, misfits_from}
use Rattle.block_audit.specs.Stated.{NamedBlock, slots_by}

abbrev is-empty : {X : Type 0} → List X → Type 0
is-empty [] = Unit {0}
is-empty (x ∷ xs) = ⊥

cons-empty : {X : Type 0} (x : X) (xs : List X) → x ∷ xs ≡ [] → ⊥
cons-empty x xs e = subst is-empty (sym e) tt

empty-front : {X : Type 0} (xs ys : List X) → xs ++ ys ≡ [] → (xs ≡ []) × (ys ≡ [])
empty-front [] ys e = (refl, e)
empty-front (x ∷ xs) ys e = absurd (cons-empty x (xs ++ ys) e)

module _ (timetable : TimetableView) (matrix : MatrixView) where
  -- one pair
  fits-from : (b : Bool) (misfit : Misfit) (rest : List Misfit) → with_misfit (if b then None else Some misfit) rest ≡ []
      → (b ≡ true) × (rest ≡ [])
  fits-from true misfit rest e = (refl, e)
  fits-from false misfit rest e = absurd (cons-empty misfit rest e)

  fits-to : (b : Bool) (misfit : Misfit) (rest : List Misfit) → b ≡ true → rest ≡ []
      → with_misfit (if b then None else Some misfit) rest ≡ []
  fits-to b misfit rest e none = ap (λ b. with_misfit (if b then None else Some misfit) rest) e ∙ none

  follow-from : (block i : ℕ) (js : List ℕ) → misfits_after timetable matrix block i js ≡ [] → Follow (network_of timetable matrix) i js
  follow-from block i [] e = tt
  follow-from block i (j ∷ js) e =
      let parts = fits-from (is_some ((network_of timetable matrix).empty i j)) _ (misfits_after timetable matrix block j js) e in
      (parts.0, follow-from block j js parts.1)

  follow-to : (block i : ℕ) (js : List ℕ) → Follow (network_of timetable matrix) i js → misfits_after timetable matrix block i js ≡ []
  follow-to block i [] follow = refl
  follow-to block i (j ∷ js) follow =
      fits-to (is_some ((network_of timetable matrix).empty i j)) _ (misfits_after timetable matrix block j js) follow.0
      (follow-to block j js follow.1)

  block-from : (block : ℕ) (slots : List ℕ) → 0 < length slots → block_misfits timetable matrix block slots ≡ []
      → IsBlock (network_of timetable matrix) slots
  block-from block [] filled e = absurd (omega (arith, filled))
  block-from block (i ∷ js) filled e = follow-from block i js e

  block-to : (block : ℕ) (slots : List ℕ) → IsBlock (network_of timetable matrix) slots → block_misfits timetable matrix block slots ≡ []
  block-to block [] is = absurd is
  block-to block (i ∷ js) is = follow-to block i js is

  -- all blocks
  pub blocks-from : (number : ℕ) (stated : List NamedBlock) → AllByRecursion (λ b. 0 < length b.slots) stated
      → misfits_from timetable matrix number stated ≡ []
      → AllByRecursion (IsBlock (network_of timetable matrix)) (slots_by stated)
  blocks-from number [] filled e = tt
  blocks-from number (b ∷ stated) filled e =
      let parts = empty-front (block_misfits timetable matrix number b.slots) (misfits_from timetable matrix (number + 1) stated) e in
      (block-from number b.slots filled.0 parts.0, blocks-from (number + 1) stated filled.1 parts.1)

  pub blocks-to : (number : ℕ) (stated : List NamedBlock) → AllByRecursion (IsBlock (network_of timetable matrix)) (slots_by stated)
      → misfits_from timetable matrix number stated ≡ []
  blocks-to number [] each = refl
  blocks-to number (b ∷ stated) each =
      ap (λ misfits. misfits ++ misfits_from timetable matrix (number + 1) stated) (block-to number b.slots each.0)
      ∙ blocks-to (number + 1) stated each.1
