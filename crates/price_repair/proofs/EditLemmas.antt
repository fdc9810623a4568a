-- What the pairs of a timetable are, without a trip, after an edit.
use Rattle.std.proofs.Common.{◌≡◌, ◌≢◌, ℕ, ◌-◌, ◌<◌, ◌≤◌, true, false, cond, List, [], ◌∷◌, ◌++◌, length, set, Option, None, Some, refl}
use Rattle.std.proofs.Common.{sym, ap, subst, ◌∙◌, ⊎_elim, arith}
use Rattle.std.proofs.Math.ListN.{get_or-map}
use Rattle.std.specs.Option.{is_some}
use Rattle.std.proofs.lemmas.Bool.{cases_lt}
use Rattle.std.proofs.lemmas.List.{get_or_append_left, get_or-append_right, get_or_past, get_or-set_same, length-append, length-map}
use Rattle.std.proofs.lemmas.List.{map-append, map-set, set-get_or, set-set}
use Rattle.trip_model.specs.declared.trip.Move.{Move}
use Rattle.trip_model.specs.declared.trip.Trip.{Trip}
use Rattle.trip_model.specs.Plain.{move_at, move_of_slot, trip_moves}
use Rattle.trip_model.specs.Timetable.{Slot, TimetableView, slot_at, slot_names, with_trip, IsTimetable}
use Rattle.trip_model.specs.Trip.{move_of}
use Rattle.deadhead_matrix.specs.Matrix.{MatrixView}
use Rattle.assignment_model.specs.Prices.{Plan, IsCertified}
use Rattle.deadhead_matrix.specs.Fitting.{name_at, network_of}
use Rattle.pair_graph.specs.Pairs.{PairsView, pairs_of, pairs_network}
use Rattle.pair_graph.proofs.PairsLemmas.{AreMoves-pairs, names-with_trip, pairs-with_trip}
use Rattle.price_repair.specs.Without.{IsCertifiedWith, IsCertifiedWithout}
use Rattle.price_repair.proofs.WithoutLemmas.{network-without}

pub IsCertifiedWith-left_out : (t : TimetableView) (matrix : MatrixView) (plan : Plan) (s : ℕ) → IsTimetable t
    → length t.places ≡ length matrix.walks → IsCertified (network_of t matrix) plan
    → IsCertifiedWith (pairs_of t matrix (Some s)) s plan
IsCertifiedWith-left_out t matrix plan s valid places proved = record {
  whole = pairs_of t matrix None;
  valid = AreMoves-pairs t matrix None valid places tt;
  rest = refl;
  certified = proved;
}

-- a slot whose trip does not run makes no move
no-move : (slot : Slot) → slot.trip.live ≡ false → move_of_slot slot ≡ None
no-move slot dead = ap (λ runs. cond runs (Some (move_of slot.trip)) None) dead

-- the moves but for a slot are all moves with a trip in it that does not run
moves-cancelled : (t : TimetableView) (s : ℕ) (trip : Trip) → trip.live ≡ false
    → set (trip_moves t.slots) s None ≡ trip_moves (with_trip t s trip).slots
moves-cancelled t s trip dead =
    let slot : Slot = record (slot_at t s) { trip = trip } in
    sym (map-set move_of_slot t.slots s slot ∙ ap (set (trip_moves t.slots) s) (no-move slot dead))

-- or where its own does not run
moves-idle : (t : TimetableView) (s : ℕ) → (slot_at t s).trip.live ≡ false → set (trip_moves t.slots) s None ≡ trip_moves t.slots
moves-idle t s dead =
    let none : move_at (trip_moves t.slots) s ≡ None = get_or-map move_of_slot t.slots s (slot_at (record t { slots = [] }) 0)
    ∙ no-move (slot_at t s) dead in
    sym (ap (set (trip_moves t.slots) s) none) ∙ set-get_or (trip_moves t.slots) s None

with_parts : MatrixView → List (List ℕ) → List (Option Move) → PairsView
with_parts matrix names moves = record { names = names; moves = moves; matrix = matrix }

pub IsCertifiedWith-cancelled : (t : TimetableView) (matrix : MatrixView) (plan : Plan) (s : ℕ) (trip : Trip) → IsTimetable t
    → length t.places ≡ length matrix.walks → trip.live ≡ false
    → IsCertified (network_of t matrix) plan → IsCertifiedWith (pairs_of (with_trip t s trip) matrix None) s plan
unfolding with_parts
IsCertifiedWith-cancelled t matrix plan s trip valid places dead proved = record {
  whole = pairs_of t matrix None;
  valid = AreMoves-pairs t matrix None valid places tt;
  rest = λ i. with_parts matrix (sym (names-with_trip t s trip) i) (moves-cancelled t s trip dead i);
  certified = proved;
}

-- a trip that runs is live in its slot
live-replaced : (t : TimetableView) (matrix : MatrixView) (s : ℕ) (trip : Trip) → s < length t.slots → trip.live ≡ true
    → (network_of (with_trip t s trip) matrix).live s ≡ true
live-replaced t matrix s trip within runs =
    let slot : Slot = record (slot_at t s) { trip = trip } in
    ap (λ moves. is_some (move_at moves s)) (map-set move_of_slot t.slots s slot)
    ∙ ap is_some (get_or-set_same (trip_moves t.slots) s (move_of_slot slot) None (omega (arith, within, length-map t.slots move_of_slot)))
    ∙ ap (λ live. is_some (cond live (Some (move_of trip)) None)) runs

pub IsCertifiedWithout-replaced : (t : TimetableView) (matrix : MatrixView) (plan : Plan) (s : ℕ) (trip : Trip) → s < length t.slots
    → trip.live ≡ true
    → IsCertified (pairs_network (pairs_of t matrix (Some s))) plan → IsCertifiedWithout (pairs_of (with_trip t s trip) matrix None) s plan
unfolding with_parts
IsCertifiedWithout-replaced t matrix plan s trip within runs proved = record {
  runs = live-replaced t matrix s trip within runs;
  certified = subst (λ p. IsCertified (pairs_network p) plan) (sym (pairs-with_trip t matrix s trip)) proved;
}

pub IsCertifiedWithout-restored : (t : TimetableView) (matrix : MatrixView) (plan : Plan) (s : ℕ) (trip : Trip) → s < length t.slots
    → (slot_at t s).trip.live ≡ false → trip.live ≡ true
    → IsCertified (network_of t matrix) plan → IsCertifiedWithout (pairs_of (with_trip t s trip) matrix None) s plan
unfolding with_parts
IsCertifiedWithout-restored t matrix plan s trip within dead runs proved =
    IsCertifiedWithout-replaced t matrix plan s trip within runs
    (subst (λ p. IsCertified (pairs_network p) plan) (sym (ap (with_parts matrix (slot_names t)) (moves-idle t s dead))) proved)

pub IsCertifiedWithout-appended : (t : TimetableView) (matrix : MatrixView) (plan : Plan) (slot : Slot) → slot.trip.live ≡ true
    → IsCertified (network_of t matrix) plan
    → IsCertifiedWithout (pairs_of (record t { slots = t.slots ++ slot ∷ [] }) matrix None) (length t.slots) plan
IsCertifiedWithout-appended t matrix plan slot runs proved =
    let longer = pairs_of (record t { slots = t.slots ++ slot ∷ [] }) matrix None in
    record {
      runs = ap (λ moves. is_some (move_at moves (length t.slots))) split ∙ ap is_some last
          ∙ ap (λ live. is_some (cond live (Some (move_of slot.trip)) None)) runs;
      certified = subst (λ network. IsCertified network plan)
          (sym (network-without longer (pairs_of t matrix None) (length t.slots) refl
          (get_or_past (trip_moves t.slots) (length t.slots) None (omega (arith, length-map t.slots move_of_slot))) others names)) proved;
    }
  where
    split : trip_moves (t.slots ++ slot ∷ []) ≡ trip_moves t.slots ++ move_of_slot slot ∷ []
    split = map-append move_of_slot t.slots (slot ∷ [])

    last : move_at (trip_moves t.slots ++ move_of_slot slot ∷ []) (length t.slots) ≡ move_of_slot slot
    last =
        get_or-append_right (trip_moves t.slots) (move_of_slot slot ∷ []) (length t.slots) (length t.slots) None
        (length-map t.slots move_of_slot) (omega arith)
        ∙ ap (move_at (move_of_slot slot ∷ [])) (let none : length t.slots - length t.slots ≡ 0 = omega arith in none)

    others : (i : ℕ) → i ≢ length t.slots → move_at (trip_moves t.slots) i ≡ move_at (trip_moves (t.slots ++ slot ∷ [])) i
    others i other =
        ⊎_elim
        (λ (h : i < length t.slots). sym (get_or_append_left (trip_moves t.slots) (move_of_slot slot ∷ []) None i
        (omega (arith, h, length-map t.slots move_of_slot))))
        (λ (h : length t.slots ≤ i).
        get_or_past (trip_moves t.slots) i None (omega (arith, h, length-map t.slots move_of_slot))
        ∙ sym (get_or_past (trip_moves t.slots ++ move_of_slot slot ∷ []) i None
        (omega (arith, h, other, length-append (trip_moves t.slots) (move_of_slot slot ∷ []), length-map t.slots move_of_slot))))
        (cases_lt i (length t.slots))
        ∙ ap (λ moves. move_at moves i) (sym split)

    name : Slot → List ℕ
    name slot = slot.name

    names : (i : ℕ) → i ≢ length t.slots → name_at (slot_names t) i ≡ name_at (slot_names (record t { slots = t.slots ++ slot ∷ [] })) i
    names i other =
        ⊎_elim
        (λ (h : i < length t.slots). sym (get_or_append_left (slot_names t) (slot.name ∷ []) [] i
        (omega (arith, h, length-map t.slots name))))
        (λ (h : length t.slots ≤ i).
        get_or_past (slot_names t) i [] (omega (arith, h, length-map t.slots name))
        ∙ sym (get_or_past (slot_names t ++ slot.name ∷ []) i []
        (omega (arith, h, other, length-append (slot_names t) (slot.name ∷ []), length-map t.slots name))))
        (cases_lt i (length t.slots))
        ∙ ap (λ names. name_at names i) (sym (map-append name t.slots (slot ∷ [])))
