-- The moves of the trips that run, one slot after the other.
use Rattle.std.proofs.Common.{◌≡◌, ℕ, ◌+◌, ◌<◌, ◌≤◌, true, false, Bool, cond, List, [], ◌∷◌, ◌++◌, length, map, get_or, take, refl, sym}
use Rattle.std.proofs.Common.{ap, ◌∙◌, arith}
use Rattle.std.specs.Prelude.{filter, ℤ, pos, negsuc, neg_ℤ, ◌≤ℤ◌, ◌<ℤ◌}
use Rattle.std.proofs.lemmas.Int.{ints}
use Rattle.std.proofs.lemmas.List.{take_more, length-take}
use Rattle.trip_model.specs.Deficit.{live_moves}
use Rattle.trip_model.specs.Timetable.{Slot}
use Rattle.trip_model.specs.Trip.{move_of}
use Rattle.trip_model.specs.declared.trip.Move.{Move}
use Rattle.trip_model.specs.declared.trip.Trip.{Trip}

-- the move of a slot, where its trip runs
abbrev pub own_move : Bool → Trip → List Move
own_move true trip = move_of trip ∷ []
own_move false trip = []

live_moves-push : (slots : List Slot) (slot : Slot)
    → live_moves (slots ++ slot ∷ []) ≡ live_moves slots ++ own_move slot.trip.live slot.trip
live_moves-push [] slot =
    elim slot.trip.live as (λ b. map (λ (s : Slot). move_of s.trip) (cond b (slot ∷ []) []) ≡ own_move b slot.trip)
    [ true ↦ refl | false ↦ refl ]
live_moves-push (first ∷ slots) slot =
    elim first.trip.live as (λ b. map (λ (s : Slot). move_of s.trip)
    (cond b (first ∷ filter (λ (s : Slot). s.trip.live) (slots ++ slot ∷ [])) (filter (λ (s : Slot). s.trip.live) (slots ++ slot ∷ [])))
    ≡ map (λ (s : Slot). move_of s.trip)
    (cond b (first ∷ filter (λ (s : Slot). s.trip.live) slots) (filter (λ (s : Slot). s.trip.live) slots))
    ++ own_move slot.trip.live slot.trip) [
      | true ↦ ap (λ rest. move_of first.trip ∷ rest) (live_moves-push slots slot)
      | false ↦ live_moves-push slots slot
    ]

-- the moves up to and including a slot, by the trip that was read there
pub live_moves_more : (slots : List Slot) (s : ℕ) (d : Slot) (trip : Trip) (live : Bool) → s < length slots
    → trip ≡ (get_or slots s d).trip → trip.live ≡ live
    → live_moves (take (s + 1) slots) ≡ live_moves (take s slots) ++ own_move live trip
live_moves_more slots s d trip live lt is runs =
    ap live_moves (take_more slots s d lt) ∙ live_moves-push (take s slots) (get_or slots s d)
    ∙ ap (λ (t : Trip). live_moves (take s slots) ++ own_move t.live t) (sym is)
    ∙ ap (λ b. live_moves (take s slots) ++ own_move b trip) runs

length-live_moves : (slots : List Slot) → length (live_moves slots) ≤ length slots
length-live_moves [] = omega arith
length-live_moves (slot ∷ slots) =
    elim slot.trip.live as (λ b. length
    (map (λ (s : Slot). move_of s.trip)
    (cond b (slot ∷ filter (λ (s : Slot). s.trip.live) slots) (filter (λ (s : Slot). s.trip.live) slots))) ≤ length (slot ∷ slots)) [
      | true ↦ omega (arith, length-live_moves slots)
      | false ↦ omega (arith, length-live_moves slots)
    ]

-- at most so many moves leave room for one more
pub few_moves : (slots : List Slot) (s : ℕ) → length slots ≤ 4096 → length (live_moves (take s slots)) ≤ 4096
few_moves slots s few = omega (arith, length-live_moves (take s slots), length-take s slots)

pub room_above : (change : ℤ) (n : ℕ) → n ≤ 4096 → (neg_ℤ (pos n) ≤ℤ change) × (change ≤ℤ pos n) → change <ℤ pos 65536
room_above change n few bound = omega (arith, ints, bound.1)

pub room_below : (change : ℤ) (n : ℕ) → n ≤ 4096 → (neg_ℤ (pos n) ≤ℤ change) × (change ≤ℤ pos n) → negsuc 65535 <ℤ change
room_below change n few bound = omega (arith, ints, bound.0)
