-- Stated blocks: which slots stand in them, and in which order.
use Rattle.std.proofs.Common.{◌≡◌, ℕ, zero, suc, ◌<◌, ◌≤◌, ◌==◌, ◌||◌, Bool, true, false, cond, List, [], ◌∷◌, length, map, filter, get_or}
use Rattle.std.proofs.Common.{Option, if◌then◌else◌, refl, ◌∙◌, arith}
use Rattle.std.specs.Prelude.{All}
use Rattle.std.specs.List.{AllByRecursion, range_with_len}
use Rattle.std.specs.Option.{is_some}
use Rattle.std.proofs.lemmas.Bool.{false≢true}
use Rattle.std.proofs.lemmas.List.{length-map}
use Rattle.std.proofs.lemmas.List.Elements.{recursion_from_All, All-from_recursion}
use Rattle.std.proofs.lemmas.List.FromFn.{length-range_with_len}
use Rattle.std.proofs.lemmas.List.Sums.{count_by-le-length, length-filter}
use Rattle.trip_model.specs.declared.trip.Move.{Move}
use Rattle.trip_model.specs.Network.{AreDepartures}
use Rattle.trip_model.specs.Order.{minute_left, by_departure, RiseBy}
use Rattle.trip_model.specs.Plain.{move_at, trip_moves}
use Rattle.trip_model.specs.Timetable.{TimetableView, IsTimetable}
use Rattle.trip_model.proofs.Counting.{StandsOnce-filter_range, length-ones, runs-within, sum_by-standing}
use Rattle.trip_model.proofs.OrderLemmas.{StandsOnce-by_departure, RiseBy-by_departure}
use Rattle.deadhead_matrix.specs.Matrix.{MatrixView}
use Rattle.deadhead_matrix.specs.Fitting.{network_of}
use Rattle.block_audit.specs.Laws.{EachStands, AreBlocking, HaveNoMisfit, StandInOrder}
use Rattle.block_audit.specs.Stated.{name_at, is_alone, is_of, is_first, begins, block_from, blocks_by, stated_in, stated_names, slots_by}
use Rattle.block_audit.proofs.Fitting.{blocks-from, blocks-to}
use Rattle.block_audit.proofs.Grouping.{times-blocks_by}
use Rattle.block_audit.proofs.Sorted.{climb-block, rise-filter, same-order}

pub each-stands : EachStands
each-stands trips timetable chosen matrix = record {
  once = λ s.
      times-blocks_by (network_of timetable matrix).live (stated_names trips chosen) (by_departure (trip_moves timetable.slots))
      (StandsOnce-by_departure (trip_moves timetable.slots)) s
      ∙ (StandsOnce-by_departure (trip_moves timetable.slots)).once s;
}

-- a block that a trip of the order begins has a trip
first-filled : (names : List (List ℕ)) (name : List ℕ) (order : List ℕ) (s : ℕ) → is_first names name order s ≡ true
    → 0 < length (filter (is_of names name) order)
first-filled names name [] s e = absurd (false≢true e)
first-filled names name (x ∷ order) s e = by (is_of names name x) (first-filled names name order s) e
  where
    by : (b : Bool) → (is_first names name order s ≡ true → 0 < length (filter (is_of names name) order))
        → (if b then x == s else is_first names name order s) ≡ true
        → 0 < length (cond b (x ∷ filter (is_of names name) order) (filter (is_of names name) order))
    by true rest e = omega arith
    by false rest e = rest e

block-filled : (names : List (List ℕ)) (order : List ℕ) (s : ℕ) → begins names order s ≡ true → 0 < length (block_from names order s).slots
block-filled names order s = by (is_alone names s)
  where
    by : (b : Bool) → (b || is_first names (name_at names s) order s) ≡ true
        → 0 < length (if b then s ∷ [] else filter (is_of names (name_at names s)) order)
    by true e = omega arith
    by false e = first-filled names (name_at names s) order s e

filled-from : (names : List (List ℕ)) (order xs : List ℕ)
    → AllByRecursion (λ b. 0 < length b.slots) (map (block_from names order) (filter (begins names order) xs))
filled-from names order [] = tt
filled-from names order (x ∷ xs) = by (begins names order x) refl (filled-from names order xs)
  where
    by : (b : Bool) → begins names order x ≡ b
        → AllByRecursion (λ b. 0 < length b.slots) (map (block_from names order) (filter (begins names order) xs))
        → AllByRecursion (λ b. 0 < length b.slots)
        (map (block_from names order) (cond b (x ∷ filter (begins names order) xs) (filter (begins names order) xs)))
    by true e rest = (block-filled names order x e, rest)
    by false e rest = rest

pub all-filled : (names : List (List ℕ)) (order xs : List ℕ)
    → All (λ b. 0 < length b.slots) (map (block_from names order) (filter (begins names order) xs))
all-filled names order xs = All-from_recursion (λ b. 0 < length b.slots) (map (block_from names order) (filter (begins names order) xs))
    (filled-from names order xs)

pub are-blocking : AreBlocking
are-blocking trips timetable chosen matrix none = record {
  stands = each-stands trips timetable chosen matrix;
  each = blocks-from timetable matrix 0 (stated_in trips timetable chosen)
      (filled-from (stated_names trips chosen) (by_departure (trip_moves timetable.slots)) (by_departure (trip_moves timetable.slots)))
      none;
}

pub have-no-misfit : HaveNoMisfit
have-no-misfit timetable matrix stated are = blocks-to timetable matrix 0 stated are.each

-- what holds of each slot of the order holds of each slot of the blocks
all-filter : (P : ℕ → Type 0) (p : ℕ → Bool) (xs : List ℕ) → AllByRecursion P xs → AllByRecursion P (filter p xs)
all-filter P p [] all = tt
all-filter P p (x ∷ xs) all = by (p x) (all-filter P p xs all.1)
  where
    by : (b : Bool) → AllByRecursion P (filter p xs) → AllByRecursion P (cond b (x ∷ filter p xs) (filter p xs))
    by true rest = (all.0, rest)
    by false rest = rest

block-all : (P : ℕ → Type 0) (names : List (List ℕ)) (order : List ℕ) (s : ℕ) → AllByRecursion P order → P s
    → All P (block_from names order s).slots
block-all P names order s all here = by (is_alone names s)
  where
    by : (b : Bool) → All P (if b then s ∷ [] else filter (is_of names (name_at names s)) order)
    by true = All-from_recursion P (s ∷ []) (here, tt)
    by false = All-from_recursion P (filter (is_of names (name_at names s)) order) (all-filter P (is_of names (name_at names s)) order all)

blocks-all : (P : ℕ → Type 0) (names : List (List ℕ)) (order xs : List ℕ) → AllByRecursion P order → AllByRecursion P xs
    → AllByRecursion (All P) (slots_by (map (block_from names order) (filter (begins names order) xs)))
blocks-all P names order [] all here = tt
blocks-all P names order (x ∷ xs) all here = by (begins names order x) (blocks-all P names order xs all here.1)
  where
    by : (b : Bool) → AllByRecursion (All P) (slots_by (map (block_from names order) (filter (begins names order) xs)))
        → AllByRecursion (All P) (slots_by
        (map (block_from names order) (cond b (x ∷ filter (begins names order) xs) (filter (begins names order) xs))))
    by true rest = (block-all P names order x all here.0, rest)
    by false rest = rest

pub all-slots : (P : ℕ → Type 0) (names : List (List ℕ)) (order : List ℕ) → All P order → All (All P) (slots_by (blocks_by names order))
all-slots P names order all =
    let each = recursion_from_All P order all in
    All-from_recursion (All P) (slots_by (blocks_by names order)) (blocks-all P names order order each each)

-- in each block keys rise as in the order
block-rise : (key : ℕ → ℕ) (names : List (List ℕ)) (order : List ℕ) (s : ℕ) → RiseBy key order → RiseBy key (block_from names order s).slots
block-rise key names order s rise = by (is_alone names s)
  where
    by : (b : Bool) → RiseBy key (if b then s ∷ [] else filter (is_of names (name_at names s)) order)
    by true = (tt, tt)
    by false = rise-filter key (is_of names (name_at names s)) order rise

blocks-rise : (key : ℕ → ℕ) (names : List (List ℕ)) (order xs : List ℕ) → RiseBy key order
    → AllByRecursion (RiseBy key) (slots_by (map (block_from names order) (filter (begins names order) xs)))
blocks-rise key names order [] rise = tt
blocks-rise key names order (x ∷ xs) rise = by (begins names order x) (blocks-rise key names order xs rise)
  where
    by : (b : Bool) → AllByRecursion (RiseBy key) (slots_by (map (block_from names order) (filter (begins names order) xs)))
        → AllByRecursion (RiseBy key) (slots_by
        (map (block_from names order) (cond b (x ∷ filter (begins names order) xs) (filter (begins names order) xs))))
    by true rest = (block-rise key names order x rise, rest)
    by false rest = rest

rise-at : (key : ℕ → ℕ) (blocks : List (List ℕ)) (b : ℕ) → AllByRecursion (RiseBy key) blocks → RiseBy key (get_or blocks b [])
rise-at key [] b rise = tt
rise-at key (block ∷ blocks) zero rise = rise.0
rise-at key (block ∷ blocks) (suc b) rise = rise-at key blocks b rise.1

pub stand-in-order : ((timetable : TimetableView) (matrix : MatrixView) → IsTimetable timetable
    → AreDepartures (network_of timetable matrix) (λ s. minute_left (move_at (trip_moves timetable.slots) s))) → StandInOrder
stand-in-order clock trips timetable chosen matrix b other valid within same is =
    let moves = trip_moves timetable.slots in
    let key : ℕ → ℕ = λ s. minute_left (move_at moves s) in
    same-order key other (get_or (slots_by (stated_in trips timetable chosen)) b [])
    (climb-block (network_of timetable matrix) key (clock timetable matrix valid) other is)
    (rise-at key (slots_by (stated_in trips timetable chosen)) b
    (blocks-rise key (stated_names trips chosen) (by_departure moves) (by_departure moves) (RiseBy-by_departure moves)))
    same

-- there are no more blocks than slots
pub few-blocks : (names : List (List ℕ)) (order xs : List ℕ)
    → length (map (block_from names order) (filter (begins names order) xs)) ≤ length xs
few-blocks names order xs =
    omega (
      arith,
      length-map (filter (begins names order) xs) (block_from names order),
      length-filter (begins names order) xs,
      count_by-le-length (begins names order) xs,
    )

-- no more slots stand in the order of departure than there are
pub few-slots : (moves : List (Option Move)) → length (by_departure moves) ≤ length moves
few-slots moves =
    let live : ℕ → Bool = λ s. is_some (move_at moves s) in
    omega (
      arith,
      length-ones (by_departure moves),
      length-ones (filter live (range_with_len 0 (length moves))),
      sum_by-standing live (λ _. 1) (by_departure moves) (filter live (range_with_len 0 (length moves))) (StandsOnce-by_departure moves)
          (StandsOnce-filter_range live (length moves) (runs-within moves)),
      length-filter live (range_with_len 0 (length moves)),
      count_by-le-length live (range_with_len 0 (length moves)),
      length-range_with_len 0 (length moves),
    )
