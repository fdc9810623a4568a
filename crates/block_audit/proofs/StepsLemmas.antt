-- What a loop over records has so far, and what holds of each misfit.
use Rattle.std.proofs.Common.{◌≡◌, ℕ, zero, suc, ◌+◌, ◌<◌, ◌≤◌, Bool, cond, List, [], ◌∷◌, ◌++◌, length, map, filter, get_or, drop, None}
use Rattle.std.proofs.Common.{Some, Result, Ok, Err, true, false, if◌then◌else◌, refl, sym, ap, subst, ◌∙◌, arith}
use Rattle.std.specs.Prelude.{All, IfOk}
use Rattle.std.specs.List.{AllByRecursion, range_with_len}
use Rattle.std.specs.Option.{is_some}
use Rattle.std.proofs.lemmas.List.{append-nil, drop_all, map-append}
use Rattle.std.proofs.lemmas.List.Elements.{All-from_recursion, All-head, All-tail, filter-append, recursion_from_All}
use Rattle.trip_model.specs.Timetable.{TimetableView}
use Rattle.trip_model.proofs.StepsLemmas.{range_with_len-more}
use Rattle.deadhead_matrix.specs.Matrix.{MatrixView}
use Rattle.deadhead_matrix.specs.Fitting.{network_of}
use Rattle.price_check.specs.Claim.{Runs}
use Rattle.block_audit.specs.declared.misfit.Misfit.{Misfit}
use Rattle.block_audit.specs.Misfits.{short_by, why_of, with_misfit, misfits_after, block_misfits, misfits_from, misfits_in}
use Rattle.block_audit.specs.Stated.{NamedBlock, block_at, blocks_by, slots_by}
use Rattle.block_audit.proofs.StatedLemmas.{all-slots}

-- the numbers that pass, up to one more
pub passing-more : {X : Type 0} (f : ℕ → X) (p : ℕ → Bool) (n : ℕ)
    → map f (filter p (range_with_len 0 (n + 1))) ≡ map f (filter p (range_with_len 0 n)) ++ cond (p n) (f n ∷ []) []
passing-more f p n =
    ap (λ m. map f (filter p (range_with_len 0 m))) (let e : n + 1 ≡ suc n = omega arith in e)
    ∙ ap (λ xs. map f (filter p xs)) (range_with_len-more 0 n)
    ∙ ap (λ x. map f (filter p (range_with_len 0 n ++ x ∷ []))) (let e : 0 + n ≡ n = omega arith in e)
    ∙ ap (map f) (filter-append p (range_with_len 0 n) (n ∷ []))
    ∙ map-append f (filter p (range_with_len 0 n)) (filter p (n ∷ []))
    ∙ ap (λ xs. map f (filter p (range_with_len 0 n)) ++ xs) (one (p n))
  where
    one : (b : Bool) → map f (cond b (n ∷ []) []) ≡ cond b (f n ∷ []) []
    one true = refl
    one false = refl

-- what holds of each slot of all blocks holds of each slot of one
pub block-all : (P : ℕ → Type 0) (stated : List NamedBlock) (b : ℕ) → b < length stated → All (All P) (slots_by stated)
    → All P (block_at stated b).slots
block-all P [] b within all = absurd (omega (arith, within))
block-all P (block ∷ stated) zero within all = All-head (All P) block.slots (slots_by stated) all
block-all P (block ∷ stated) (suc b) within all =
    block-all P stated b (omega (arith, within)) (All-tail (All P) block.slots (slots_by stated) all)

-- the slots of one block
pub slots-at : (stated : List NamedBlock) (b : ℕ) → (block_at stated b).slots ≡ get_or (slots_by stated) b []
slots-at [] b = refl
slots-at (block ∷ stated) zero = refl
slots-at (block ∷ stated) (suc b) = slots-at stated b

-- what holds of each slot of an order holds of each slot of its blocks
pub made-all : {E : Type 0} (P : ℕ → Type 0) (names : List (List ℕ)) (order : List ℕ) (result : Result (List NamedBlock) E) → All P order
    → IfOk result (λ stated. stated ≡ blocks_by names order) → IfOk result (λ stated. All (All P) (slots_by stated))
made-all P names order (Err e) all is = tt
made-all P names order (Ok stated) all is = subst (λ (s : List NamedBlock). All (All P) (slots_by s)) (sym is) (all-slots P names order all)

-- the misfits are all where no block is left
pub all-made : (timetable : TimetableView) (matrix : MatrixView) (stated : List NamedBlock) (made : List Misfit) (b : ℕ) → length stated ≤ b
    → made ++ misfits_from timetable matrix b (drop b stated) ≡ misfits_in timetable matrix stated
    → made ≡ misfits_in timetable matrix stated
all-made timetable matrix stated made b past e =
    sym (append-nil made) ∙ ap (λ xs. made ++ misfits_from timetable matrix b xs) (sym (drop_all b stated past)) ∙ e

module _ (timetable : TimetableView) (matrix : MatrixView) where
  -- a misfit is of one of the blocks, and of two trips that run
  pub record IsOf (below : ℕ) (misfit : Misfit) : Type 0 where
    pub within : misfit.block < below
    pub before : Runs timetable misfit.before
    pub after : Runs timetable misfit.after

  after-of : (below block i : ℕ) (js : List ℕ) → block < below → Runs timetable i → AllByRecursion (Runs timetable) js
      → AllByRecursion (IsOf below) (misfits_after timetable matrix block i js)
  after-of below block i [] within runs all = tt
  after-of below block i (j ∷ js) within runs all =
      by (is_some ((network_of timetable matrix).empty i j)) (after-of below block j js within all.0 all.1)
    where
      by : (b : Bool) → AllByRecursion (IsOf below) (misfits_after timetable matrix block j js)
          → AllByRecursion (IsOf below) (with_misfit
          (if b then None else Some (record { block = block; before = i; after = j; why = why_of (short_by timetable matrix i j) }))
          (misfits_after timetable matrix block j js))
      by true rest = rest
      by false rest = (record { within = within; before = runs; after = all.0 }, rest)

  block-of : (below block : ℕ) (slots : List ℕ) → block < below → AllByRecursion (Runs timetable) slots
      → AllByRecursion (IsOf below) (block_misfits timetable matrix block slots)
  block-of below block [] within all = tt
  block-of below block (i ∷ js) within all = after-of below block i js within all.0 all.1

  both : (P : Misfit → Type 0) (xs ys : List Misfit) → AllByRecursion P xs → AllByRecursion P ys → AllByRecursion P (xs ++ ys)
  both P [] ys first second = second
  both P (x ∷ xs) ys first second = (first.0, both P xs ys first.1 second)

  from-of : (below number : ℕ) (stated : List NamedBlock) → number + length stated ≤ below → All (All (Runs timetable)) (slots_by stated)
      → AllByRecursion (IsOf below) (misfits_from timetable matrix number stated)
  from-of below number [] within all = tt
  from-of below number (b ∷ stated) within all =
      both (IsOf below) (block_misfits timetable matrix number b.slots) (misfits_from timetable matrix (number + 1) stated)
      (block-of below number b.slots (omega (arith, within))
      (recursion_from_All (Runs timetable) b.slots (All-head (All (Runs timetable)) b.slots (slots_by stated) all)))
      (from-of below (number + 1) stated (omega (arith, within)) (All-tail (All (Runs timetable)) b.slots (slots_by stated) all))

  pub misfits-of : (stated : List NamedBlock) → All (All (Runs timetable)) (slots_by stated)
      → All (IsOf (length stated)) (misfits_in timetable matrix stated)
  misfits-of stated all = All-from_recursion (IsOf (length stated)) (misfits_in timetable matrix stated)
      (from-of (length stated) 0 stated (omega arith) all)
