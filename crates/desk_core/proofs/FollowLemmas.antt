-- What deficits hold as the trip in a slot becomes another.
use Rattle.std.proofs.Common.{◌≡◌, ℕ, zero, suc, ◌*◌, ◌<◌, ◌≤◌, ◌==◌, ◌&&◌, nat_le, Bool, true, false, cond, List, [], ◌∷◌, ◌++◌, length}
use Rattle.std.proofs.Common.{map, set, get_or, count_by, All, Option, None, Some, IfSome, ℤ, pos, neg_ℤ, ◌-ℤ◌, ◌≤ℤ◌, ◌<ℤ◌, refl, sym, ap}
use Rattle.std.proofs.Common.{subst, ◌∙◌, arith}
use Rattle.std.specs.Prelude.{filter}
use Rattle.std.proofs.lemmas.Int.{ints}
use Rattle.std.proofs.lemmas.List.{append_assoc, append-nil, length-append, get_or-set_same}
use Rattle.std.proofs.lemmas.List.Elements.{All-append, All-cons, All-head, All-tail, All-map, All-filter, All-weaker}
use Rattle.std.proofs.lemmas.List.Sums.{sum_by-append, count_by-le-length}
use Rattle.trip_model.specs.declared.trip.Move.{Move}
use Rattle.trip_model.specs.declared.trip.Trip.{Trip}
use Rattle.trip_model.specs.Deficit.{departures, deficit, live_moves}
use Rattle.trip_model.specs.Maximum.{first_maximum, sum_of_maxima}
use Rattle.trip_model.proofs.MaximumLemmas.{IsFirstMaximum-first_maximum}
use Rattle.trip_model.specs.Plain.{IsMove}
use Rattle.trip_model.specs.Place.{Place}
use Rattle.trip_model.specs.Timetable.{Slot, TimetableView, IsTimetable, slot_at, with_trip}
use Rattle.trip_model.specs.Trip.{move_of, IsValidTrip}
use Rattle.deficit_steps.specs.Changes.{change_at, value}
use Rattle.deficit_steps.specs.Holds.{Holds, leaving, arriving}
use Rattle.deficit_steps.proofs.DeficitsLemmas.{change-held}
use Rattle.deficit_steps.proofs.Held.{room_above, room_below}
use Rattle.edit_script.specs.Changes.{with_extra}
use Rattle.edit_script.specs.Script.{IsChangedIn, IsAddedIn, IsTouchedIn}
use Rattle.desk_core.specs.Follow.{moves_of, HoldsAmong}

-- the moves of a trip that runs
pub moves_of-live : (trip : Option Trip) (t : Trip) → trip ≡ Some t → t.live ≡ true → moves_of trip ≡ move_of t ∷ []
moves_of-live trip t is live = ap moves_of is ∙ ap (λ b. cond b (move_of t ∷ []) []) live

-- a count is the same where moves stand at the end
count-placed : (p : Move → Bool) (front moves back : List Move)
    → count_by p ((front ++ back) ++ moves) ≡ count_by p (front ++ (moves ++ back))
count-placed p front moves back =
    let c : Move → ℕ = λ m. cond (p m) 1 0 in
    omega (
      arith,
      sum_by-append c (front ++ back) moves,
      sum_by-append c front back,
      sum_by-append c front (moves ++ back),
      sum_by-append c
          moves back,
    )

pub Holds-placed : (deficits : List (List ℤ)) (front moves back : List Move) → Holds deficits ((front ++ back) ++ moves)
    → Holds deficits (front ++ (moves ++ back))
Holds-placed deficits front moves back held = record {
  change = λ place minute p m.
      let leave : leaving ((front ++ back) ++ moves) place minute ≡ leaving (front ++ (moves ++ back)) place minute =
      count-placed _ front moves back in
      let arrive : arriving ((front ++ back) ++ moves) place minute ≡ arriving (front ++ (moves ++ back)) place minute =
      count-placed _ front moves back in
      held.change place minute p m ∙ (λ i. pos (leave i) -ℤ pos (arrive i));
}

-- the moves of two lists of slots of which one has another trip in a slot, or lacks it
pub record AreSwapped (before after : Option Trip) (old new : List Slot) : Type 0 where
  pub front : List Move
  pub back : List Move
  pub was : live_moves old ≡ front ++ (moves_of before ++ back)
  pub now : live_moves new ≡ front ++ (moves_of after ++ back)

live_moves-cons : (slot : Slot) (slots : List Slot) → live_moves (slot ∷ slots) ≡ moves_of (Some slot.trip) ++ live_moves slots
live_moves-cons slot slots =
    elim slot.trip.live as (λ b. map (λ (s : Slot). move_of s.trip)
    (cond b (slot ∷ filter (λ (s : Slot). s.trip.live) slots) (filter (λ (s : Slot). s.trip.live) slots)) ≡ cond b
    (move_of slot.trip ∷ []) [] ++ live_moves slots) [
      | true ↦ refl
      | false ↦ refl
    ]

live_moves-push : (slots : List Slot) (slot : Slot)
    → live_moves (slots ++ slot ∷ []) ≡ live_moves slots ++ (moves_of (Some slot.trip) ++ [])
live_moves-push [] slot = live_moves-cons slot []
live_moves-push (first ∷ slots) slot =
    live_moves-cons first (slots ++ slot ∷ [])
    ∙ (ap (λ rest. moves_of (Some first.trip) ++ rest) (live_moves-push slots slot)
    ∙ (sym (append_assoc (moves_of (Some first.trip)) (live_moves slots) (moves_of (Some slot.trip) ++ []))
    ∙ ap (λ moves. moves ++ (moves_of (Some slot.trip) ++ [])) (sym (live_moves-cons first slots))))

AreSwapped-cons : (before after : Option Trip) (slot : Slot) (old new : List Slot) → AreSwapped before after old new
    → AreSwapped before after (slot ∷ old) (slot ∷ new)
AreSwapped-cons before after slot old new are = record {
  front = moves_of (Some slot.trip) ++ are.front;
  back = are.back;
  was = live_moves-cons slot old ∙ ap (λ rest. moves_of (Some slot.trip) ++ rest) are.was
      ∙ sym (append_assoc (moves_of (Some slot.trip)) are.front (moves_of before ++ are.back));
  now = live_moves-cons slot new ∙ ap (λ rest. moves_of (Some slot.trip) ++ rest) are.now
      ∙ sym (append_assoc (moves_of (Some slot.trip)) are.front (moves_of after ++ are.back));
}

-- another trip stands in a slot
AreSwapped-set : (slots : List Slot) (s : ℕ) (d slot : Slot) → s < length slots
    → AreSwapped (Some (get_or slots s d).trip) (Some slot.trip) slots (set slots s slot)
AreSwapped-set [] s d slot within = absurd (omega arith)
AreSwapped-set (first ∷ slots) zero d slot within =
    record { front = []; back = live_moves slots; was = live_moves-cons first slots; now = live_moves-cons slot slots }
AreSwapped-set (first ∷ slots) (suc s) d slot within =
    AreSwapped-cons (Some (get_or slots s d).trip) (Some slot.trip) first slots (set slots s slot)
    (AreSwapped-set slots s d slot (omega arith))

-- one more slot stands at the end
AreSwapped-push : (slots : List Slot) (slot : Slot) → AreSwapped None (Some slot.trip) slots (slots ++ slot ∷ [])
AreSwapped-push slots slot = record {
  front = live_moves slots;
  back = [];
  was = sym (append-nil (live_moves slots));
  now = live_moves-push slots slot;
}

AreSwapped-back : (before after : Option Trip) (old new : List Slot) → AreSwapped before after old new → AreSwapped after before new old
AreSwapped-back before after old new are = record { front = are.front; back = are.back; was = are.now; now = are.was }

AreSwapped-along : (before after : Option Trip) (old due new : List Slot) → due ≡ new → AreSwapped before after old due
    → AreSwapped before after old new
AreSwapped-along before after old due new same are =
    record { front = are.front; back = are.back; was = are.was; now = ap live_moves (sym same) ∙ are.now }

AreSwapped-changed : (s : ℕ) (before after : Trip) (old new : TimetableView) → IsChangedIn s before after old new
    → AreSwapped (Some before) (Some after) old.slots new.slots
AreSwapped-changed s before after old new is =
    AreSwapped-along (Some before) (Some after) old.slots (with_trip old s after).slots new.slots
    (ap (λ (t : TimetableView). t.slots) (sym is.timetable))
    (subst (λ (was : Trip). AreSwapped (Some was) (Some after) old.slots (with_trip old s after).slots) (sym is.trip)
    (AreSwapped-set old.slots s _ (record (slot_at old s) { trip = after }) is.slot))

AreSwapped-added : (s : ℕ) (trip : Trip) (old new : TimetableView) → IsAddedIn s trip old new
    → AreSwapped None (Some trip) old.slots new.slots
AreSwapped-added s trip old new is =
    AreSwapped-along None (Some trip) old.slots (with_extra old is.timetable.0 trip).slots new.slots
    (ap (λ (t : TimetableView). t.slots) (sym is.timetable.1))
    (AreSwapped-push old.slots (record { name = is.timetable.0; trip = trip }))

-- what a step touched
pub AreSwapped-touched : (slot : Option ℕ) (before after : Option Trip) (old new : TimetableView) → IsTouchedIn slot before after old new
    → AreSwapped before after old.slots new.slots
AreSwapped-touched (Some s) (Some before) (Some after) old new is = AreSwapped-changed s before after old new is
AreSwapped-touched (Some s) None (Some after) old new is = AreSwapped-added s after old new is
AreSwapped-touched (Some s) (Some before) None old new is =
    AreSwapped-back None (Some before) new.slots old.slots (AreSwapped-added s before new old is)
AreSwapped-touched (Some s) None None old new is = absurd is
AreSwapped-touched None None None old new is =
    record { front = []; back = live_moves old.slots; was = refl; now = ap (λ (t : TimetableView). live_moves t.slots) is }
AreSwapped-touched None (Some before) after old new is = absurd is
AreSwapped-touched None None (Some after) old new is = absurd is

-- a valid trip makes a move between places
pub IsMove-valid : (places : List Place) (n : ℕ) (trip : Trip) → n ≡ length places → IsValidTrip places trip → IsMove n (move_of trip)
IsMove-valid places n trip same valid = record {
  from = omega (arith, valid.from, same);
  to = omega (arith, valid.to, same);
  forward = valid.forward;
  in_day = omega (arith, ints, valid.ends_in_day, valid.not_too_late, valid.late);
}

valid-at : (t : TimetableView) (s : ℕ) → IsTimetable t → s < length t.slots → IsValidTrip t.places (slot_at t s).trip
valid-at t s valid within = valid.trips s _ within

valid-last : (t : TimetableView) (name : List ℕ) (trip : Trip) (old : TimetableView) → IsTimetable t → t ≡ with_extra old name trip
    → IsValidTrip t.places trip
valid-last t name trip old valid is =
    let slot : Slot = record { name = name; trip = trip } in
    let P : List Slot → Type 0 = λ slots. All (λ (s : Slot). IsValidTrip t.places s.trip) slots in
    let all : All (λ (s : Slot). IsValidTrip t.places s.trip) (old.slots ++ slot ∷ []) =
    subst P (ap (λ (u : TimetableView). u.slots) is) valid.trips in
    last old.slots slot all
  where
    last : (slots : List Slot) (slot : Slot) → All (λ (s : Slot). IsValidTrip t.places s.trip) (slots ++ slot ∷ [])
        → IsValidTrip t.places slot.trip
    last [] slot all = all 0 slot (omega arith)
    last (first ∷ slots) slot all = last slots slot (λ k d h. all (suc k) d (omega arith))

-- the trips that a step touched make moves
pub IsMove-before : (slot : Option ℕ) (before after : Option Trip) (old new : TimetableView) (n : ℕ) → IsTimetable old → IsTimetable new
    → n ≡ length old.places → IsTouchedIn slot before after old new → IfSome before (λ trip. IsMove n (move_of trip))
IsMove-before (Some s) (Some before) (Some after) old new n valid then same is =
    IsMove-valid old.places n before same (subst (IsValidTrip old.places) (sym is.trip) (valid-at old s valid is.slot))
IsMove-before (Some s) None (Some after) old new n valid then same is = tt
IsMove-before (Some s) (Some before) None old new n valid then same is =
    IsMove-valid old.places n before same (valid-last old is.timetable.0 before new valid is.timetable.1)
IsMove-before (Some s) None None old new n valid then same is = absurd is
IsMove-before None None None old new n valid then same is = tt
IsMove-before None (Some before) after old new n valid then same is = absurd is
IsMove-before None None (Some after) old new n valid then same is = absurd is

pub IsMove-after : (slot : Option ℕ) (before after : Option Trip) (old new : TimetableView) (n : ℕ) → IsTimetable new
    → n ≡ length old.places → IsTouchedIn slot before after old new → IfSome after (λ trip. IsMove n (move_of trip))
IsMove-after (Some s) (Some before) (Some after) old new n valid same is =
    let there : (slot_at new s).trip ≡ after = ap (λ (t : TimetableView). (slot_at t s).trip) is.timetable
    ∙ ap (λ (slot : Slot). slot.trip) (get_or-set_same old.slots s (record (slot_at old s) { trip = after }) _ is.slot) in
    let within : s < length new.slots =
    subst (λ (t : TimetableView). s < length t.slots) (sym is.timetable) (set-within old.slots s _ is.slot) in
    IsMove-valid new.places n after (same ∙ ap (λ (t : TimetableView). length t.places) (sym is.timetable))
    (subst (IsValidTrip new.places) there (valid-at new s valid within))
  where
    set-within : (slots : List Slot) (s : ℕ) (slot : Slot) → s < length slots → s < length (set slots s slot)
    set-within [] s slot h = absurd (omega arith)
    set-within (x ∷ xs) zero slot h = omega arith
    set-within (x ∷ xs) (suc s) slot h = let k : s < length (set xs s slot) = set-within xs s slot (omega arith) in omega arith
IsMove-after (Some s) None (Some after) old new n valid same is =
    IsMove-valid new.places n after (same ∙ ap (λ (t : TimetableView). length t.places) (sym is.timetable.1))
    (valid-last new is.timetable.0 after old valid is.timetable.1)
IsMove-after (Some s) (Some before) None old new n valid same is = tt
IsMove-after (Some s) None None old new n valid same is = absurd is
IsMove-after None None None old new n valid same is = tt
IsMove-after None (Some before) after old new n valid same is = absurd is
IsMove-after None None (Some after) old new n valid same is = absurd is

-- the moves of a timetable's trips are few, and take time
length-live_moves : (slots : List Slot) → length (live_moves slots) ≤ length slots
length-live_moves [] = omega arith
length-live_moves (slot ∷ slots) =
    elim slot.trip.live as (λ b. length
    (map (λ (s : Slot). move_of s.trip)
    (cond b (slot ∷ filter (λ (s : Slot). s.trip.live) slots) (filter (λ (s : Slot). s.trip.live) slots))) ≤ length (slot ∷ slots)) [
      | true ↦ omega (arith, length-live_moves slots)
      | false ↦ omega (arith, length-live_moves slots)
    ]

forward-live_moves : (t : TimetableView) → IsTimetable t → All (λ (m : Move). m.leaves < m.arrives) (live_moves t.slots)
forward-live_moves t valid =
    All-map (λ (m : Move). m.leaves < m.arrives) (λ (s : Slot). move_of s.trip) (filter (λ (s : Slot). s.trip.live) t.slots)
    (All-filter (λ (s : Slot). s.trip.live) (λ (s : Slot). s.trip.departs < s.trip.ends) t.slots
    (All-weaker (λ (s : Slot). IsValidTrip t.places s.trip) (λ (s : Slot). s.trip.departs < s.trip.ends) (λ s v. v.forward) t.slots
    valid.trips))

-- deficits that hold them hold the move that is taken out among few
pub HoldsAmong-before : (deficits : List (List ℤ)) (before after : Option Trip) (old new : TimetableView) → IsTimetable old
    → AreSwapped before after old.slots new.slots → Holds deficits (live_moves old.slots) → HoldsAmong deficits (moves_of before)
HoldsAmong-before deficits before after old new valid are held = record {
  front = are.front;
  back = are.back;
  held = subst (Holds deficits) are.was held;
  forward = subst (All (λ (m : Move). m.leaves < m.arrives)) are.was (forward-live_moves old valid);
  few = subst (λ (moves : List Move). length moves ≤ 4096) are.was
      (let few : length (live_moves old.slots) ≤ 4096 = omega (arith, valid.slots, length-live_moves old.slots) in few);
}

-- what is said of each of two lists together is said of each of them
All-front : (xs ys : List Move) → All (λ (m : Move). m.leaves < m.arrives) (xs ++ ys) → All (λ (m : Move). m.leaves < m.arrives) xs
All-front [] ys all = λ k d h. absurd (omega arith)
All-front (x ∷ xs) ys all =
    All-cons (λ (m : Move). m.leaves < m.arrives) x xs (All-head (λ (m : Move). m.leaves < m.arrives) x (xs ++ ys) all)
    (All-front xs ys (All-tail (λ (m : Move). m.leaves < m.arrives) x (xs ++ ys) all))

All-back : (xs ys : List Move) → All (λ (m : Move). m.leaves < m.arrives) (xs ++ ys) → All (λ (m : Move). m.leaves < m.arrives) ys
All-back [] ys all = all
All-back (x ∷ xs) ys all = All-back xs ys (All-tail (λ (m : Move). m.leaves < m.arrives) x (xs ++ ys) all)

-- and without it they hold no more
pub HoldsAmong-without : (deficits taken : List (List ℤ)) (before after : Option Trip) (old new : TimetableView) → IsTimetable old
    → AreSwapped before after old.slots new.slots
    → Holds deficits (live_moves old.slots)
    → ((front back : List Move) → Holds deficits (front ++ (moves_of before ++ back)) → Holds taken (front ++ back))
    → HoldsAmong taken []
HoldsAmong-without deficits taken before after old new valid are held out =
    let forward : All (λ (m : Move). m.leaves < m.arrives) (are.front ++ (moves_of before ++ are.back)) =
    subst (All (λ (m : Move). m.leaves < m.arrives)) are.was (forward-live_moves old valid) in
    let few : length (are.front ++ (moves_of before ++ are.back)) ≤ 4096 =
    subst (λ (moves : List Move). length moves ≤ 4096) are.was
    (let few : length (live_moves old.slots) ≤ 4096 = omega (arith, valid.slots, length-live_moves old.slots) in few) in
    record {
      front = are.front;
      back = are.back;
      held = out are.front are.back (subst (Holds deficits) are.was held);
      forward = All-append (λ (m : Move). m.leaves < m.arrives) are.front are.back
          (All-front are.front (moves_of before ++ are.back) forward)
          (All-back (moves_of before) are.back (All-back are.front (moves_of before ++ are.back) forward));
      few = omega (
        arith,
        few,
        length-append are.front are.back,
        length-append are.front (moves_of before ++ are.back),
        length-append
            (moves_of before) are.back,
      );
    }

-- after a step deficits that followed it hold the moves of its timetable
pub Holds-followed : (deficits taken put : List (List ℤ)) (before after : Option Trip) (old new : TimetableView)
    → AreSwapped before after old.slots new.slots → Holds deficits (live_moves old.slots)
    → ((front back : List Move) → Holds deficits (front ++ (moves_of before ++ back)) → Holds taken (front ++ back))
    → ((front back : List Move) → Holds taken (front ++ back) → Holds put (front ++ (moves_of after ++ back)))
    → Holds put (live_moves new.slots)
Holds-followed deficits taken put before after old new are held out into =
    subst (Holds put) (sym are.now) (into are.front are.back (out are.front are.back (subst (Holds deficits) are.was held)))

-- what a move counts where it leaves and where it arrives stays small
pub record HasRoomFor (deficits : List (List ℤ)) (m : Move) : Type 0 where
  pub from_raised : change_at deficits m.from m.leaves <ℤ pos 65536
  pub from_lowered : neg_ℤ (pos 65536) <ℤ change_at deficits m.from m.leaves
  pub to_raised : change_at deficits m.to m.arrives <ℤ pos 65536
  pub to_lowered : neg_ℤ (pos 65536) <ℤ change_at deficits m.to m.arrives

pub HasRoomFor-few : (deficits : List (List ℤ)) (moves : List Move) (m : Move) → IsMove (length deficits) m → Holds deficits moves
    → length moves ≤ 4096 → HasRoomFor deficits m
HasRoomFor-few deficits moves m is held few =
    let leaves : m.leaves ≤ 8191 = omega (arith, is.forward, is.in_day) in
    let from = change-held deficits moves m.from m.leaves held is.from leaves in
    let to = change-held deficits moves m.to m.arrives held is.to is.in_day in
    record {
      from_raised = room_above _ _ few from;
      from_lowered = room_below _ _ few from;
      to_raised = room_above _ _ few to;
      to_lowered = room_below _ _ few to;
    }

-- the move of a trip that was read
pub HasRoomFor-read : (deficits : List (List ℤ)) (trip : Option Trip) (t : Trip) (m : Move) (moves : List Move)
    → IfSome trip (λ t. IsMove (length deficits) (move_of t)) → trip ≡ Some t → m ≡ move_of t
    → HoldsAmong deficits moves → HasRoomFor deficits m
HasRoomFor-read deficits trip t m moves valid is made among =
    let P : Option Trip → Type 0 = λ o. IfSome o (λ t. IsMove (length deficits) (move_of t)) in
    let Q : Move → Type 0 = λ m. IsMove (length deficits) m in
    HasRoomFor-few deficits (among.front ++ (moves ++ among.back)) m (subst Q (sym made) (subst P is valid)) among.held among.few

-- the maxima of the deficits of few moves
maxima-few : (moves : List Move) (n : ℕ) → length moves ≤ 4096 → sum_of_maxima (deficit moves) n ≤ℤ pos (4096 * n)
maxima-few moves zero few = omega (arith, ints)
maxima-few moves (suc n) few =
    let first = IsFirstMaximum-first_maximum (deficit moves n) in
    let leave : departures moves n (first_maximum (deficit moves n)).1 ≤ length moves =
    count_by-le-length (λ (m : Move). (m.from == n) && nat_le m.leaves (first_maximum (deficit moves n)).1) moves in
    omega (arith, ints, first.reached, leave, few, maxima-few moves n few)

-- the sum of the maxima where the moves of a timetable are held
pub total-is : (t : TimetableView) (deficits : List (List ℤ)) (total : ℕ) → length deficits ≡ length t.places
    → pos total ≡ sum_of_maxima (value deficits) (length deficits)
    → sum_of_maxima (value deficits) (length deficits) ≡ sum_of_maxima (deficit (live_moves t.slots)) (length deficits)
    → pos total ≡ sum_of_maxima (deficit (live_moves t.slots)) (length t.places)
total-is t deficits total rows is same = is ∙ (same ∙ ap (sum_of_maxima (deficit (live_moves t.slots))) rows)

pub total-few : (t : TimetableView) (total : ℕ) → IsTimetable t
    → pos total ≡ sum_of_maxima (deficit (live_moves t.slots)) (length t.places) → total < 4294967296
total-few t total valid is =
    let few : length (live_moves t.slots) ≤ 4096 = omega (arith, valid.slots, length-live_moves t.slots) in
    let most = maxima-few (live_moves t.slots) (length t.places) few in
    let bound : pos total ≤ℤ pos (4096 * length t.places) = subst (λ s. s ≤ℤ pos (4096 * length t.places)) (sym is) most in
    omega (arith, ints, bound, valid.places)

-- a step keeps the places of its timetable
pub places-touched : (slot : Option ℕ) (before after : Option Trip) (old new : TimetableView) → IsTouchedIn slot before after old new
    → length new.places ≡ length old.places
places-touched (Some s) (Some before) (Some after) old new is = ap (λ (t : TimetableView). length t.places) is.timetable
places-touched (Some s) None (Some after) old new is = ap (λ (t : TimetableView). length t.places) is.timetable.1
places-touched (Some s) (Some before) None old new is = sym (ap (λ (t : TimetableView). length t.places) is.timetable.1)
places-touched (Some s) None None old new is = absurd is
places-touched None None None old new is = ap (λ (t : TimetableView). length t.places) is
places-touched None (Some before) after old new is = absurd is
places-touched None None (Some after) old new is = absurd is
