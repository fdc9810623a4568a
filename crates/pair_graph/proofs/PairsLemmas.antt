-- The moves of the pairs of a timetable are valid, and there are as many as slots.
use Rattle.std.proofs.Common.{◌≡◌, ◌≢◌, ℕ, ◌<◌, List, [], length, set, Option, None, Some, refl, sym, ap, subst, ◌∙◌, inl, inr, ◌⊎◌, arith}
use Rattle.std.specs.Prelude.{IfSome}
use Rattle.std.proofs.lemmas.Bool.{cases_eq}
use Rattle.std.proofs.Math.ListN.{get_or-map}
use Rattle.std.proofs.lemmas.List.{get_or-set_same, get_or-set_other, length-map, length-set, map-set, set-get_or, set-set}
use Rattle.std.proofs.lemmas.Option.{none-some, IfSome_then}
use Rattle.deadhead_matrix.specs.Matrix.{MatrixView}
use Rattle.trip_model.specs.declared.trip.Move.{Move}
use Rattle.trip_model.specs.Plain.{move_at, move_of_slot, trip_moves, IsMove, AreMoves}
use Rattle.trip_model.specs.Timetable.{Slot, TimetableView, slot_at, slot_names, with_trip, IsTimetable}
use Rattle.trip_model.specs.declared.trip.Trip.{Trip}
use Rattle.trip_model.proofs.PlainLemmas.{AreMoves-trips}
use Rattle.pair_graph.specs.Pairs.{moves_without, pairs_of}

-- where moves are valid, they are without one slot
pub AreMoves-without : (places : ℕ) (moves : List (Option Move)) (without : Option ℕ) → AreMoves places moves
    → IfSome without (λ slot. slot < length moves)
    → AreMoves places (moves_without moves without)
AreMoves-without places moves None are within = are
AreMoves-without places moves (Some slot) are within = record { each = λ s m e. each s m e (cases_eq s slot) }
  where
    each : (s : ℕ) (m : Move) → move_at (moves_without moves (Some slot)) s ≡ Some m → (s ≡ slot) ⊎ (s ≢ slot) → IsMove places m
    each s m e (inl same) =
        absurd (none-some m (sym (get_or-set_same moves slot None None within) ∙ sym (ap (move_at (moves_without moves (Some slot))) same)
        ∙ e))
    each s m e (inr differs) = are.each s m (sym (get_or-set_other moves slot s None None differs) ∙ e)

length-without : (moves : List (Option Move)) (without : Option ℕ) → length (moves_without moves without) ≡ length moves
length-without moves None = refl
length-without moves (Some slot) = length-set moves slot None

-- as many moves as slots
pub length-pairs : (t : TimetableView) (matrix : MatrixView) (without : Option ℕ)
    → length (pairs_of t matrix without).moves ≡ length t.slots
length-pairs t matrix without = length-without (trip_moves t.slots) without ∙ length-map t.slots move_of_slot

pub AreMoves-pairs : (t : TimetableView) (matrix : MatrixView) (without : Option ℕ) → IsTimetable t → length t.places ≡ length matrix.walks
    → IfSome without (λ slot. slot < length t.slots) → AreMoves (length matrix.walks) (pairs_of t matrix without).moves
AreMoves-pairs t matrix without valid places within =
    subst (λ n. AreMoves n (pairs_of t matrix without).moves) places
    (AreMoves-without (length t.places) (trip_moves t.slots) without (AreMoves-trips t valid)
    (IfSome_then without within (λ slot lt. omega (arith, lt, length-map t.slots move_of_slot))))

-- another trip in a slot leaves the names as they are
pub names-with_trip : (t : TimetableView) (s : ℕ) (trip : Trip) → slot_names (with_trip t s trip) ≡ slot_names t
names-with_trip t s trip =
    let slot : Slot = record (slot_at t s) { trip = trip } in
    let name : Slot → List ℕ = λ slot. slot.name in
    map-set name t.slots s slot
    ∙ ap (set (slot_names t) s) (sym (get_or-map name t.slots s (slot_at (record t { slots = [] }) 0)))
    ∙ set-get_or (slot_names t) s []

-- so the pairs are the same with another trip in a slot that does not run
pub pairs-with_trip : (t : TimetableView) (matrix : MatrixView) (s : ℕ) (trip : Trip)
    → pairs_of (with_trip t s trip) matrix (Some s) ≡ pairs_of t matrix (Some s)
pairs-with_trip t matrix s trip =
    let slot : Slot = record (slot_at t s) { trip = trip } in
    let moves : set (trip_moves (with_trip t s trip).slots) s None ≡ set (trip_moves t.slots) s None =
    ap (λ moves. set moves s None) (map-set move_of_slot t.slots s slot) ∙ set-set (trip_moves t.slots) s (move_of_slot slot) None in
    λ i. record { names = names-with_trip t s trip i; moves = moves i; matrix = matrix }
