-- What deficits hold while the move of a trip is replaced by another, and that they are equal where they hold the same.
use Rattle.std.proofs.Common.{◌≡◌, ◌≢◌, ℕ, zero, suc, ◌<◌, ◌≤◌, Bool, true, false, cond, List, [], ◌∷◌, ◌++◌, length, map, set, get_or}
use Rattle.std.proofs.Common.{count_by, All, ℤ, pos, neg_ℤ, ◌-ℤ◌, ◌<ℤ◌, refl, sym, ap, subst, ◌∙◌, arith}
use Rattle.std.specs.Prelude.{filter}
use Rattle.std.proofs.lemmas.List.{append_assoc, ext_get_or, get_or-set_other, length-append}
use Rattle.std.proofs.lemmas.List.Elements.{All-cons, All-head, All-tail, All-map, All-filter, All-weaker}
use Rattle.std.proofs.lemmas.List.Sums.{sum_by-append}
use Rattle.trip_model.specs.declared.trip.Move.{Move}
use Rattle.trip_model.specs.Deficit.{live_moves}
use Rattle.trip_model.specs.Plain.{IsMove}
use Rattle.trip_model.specs.Timetable.{Slot, TimetableView, IsTimetable, slot_at}
use Rattle.trip_model.specs.Trip.{move_of, shifted, IsValidTrip}
use Rattle.trip_model.specs.Fleet.{with_shift}
use Rattle.deficit_steps.specs.Changes.{IsDeficits, changes_of, change_at, with_change, with_move, without_move}
use Rattle.deficit_steps.specs.Holds.{Holds, leaving, arriving}
use Rattle.deficit_steps.proofs.DeficitsLemmas.{change-held}
use Rattle.deficit_steps.proofs.Held.{room_above, room_below}
use Rattle.shift_moves.specs.Trial.{AreSwapped, HoldsAmong}

live_moves-live : (slot : Slot) (slots : List Slot) → slot.trip.live ≡ true
    → live_moves (slot ∷ slots) ≡ move_of slot.trip ∷ live_moves slots
live_moves-live slot slots live =
    ap (λ b. map (λ (s : Slot). move_of s.trip)
    (cond b (slot ∷ filter (λ (s : Slot). s.trip.live) slots) (filter (λ (s : Slot). s.trip.live) slots))) live

own_moves : Slot → List Move
own_moves slot = cond slot.trip.live (move_of slot.trip ∷ []) []

live_moves-cons : (slot : Slot) (slots : List Slot) → live_moves (slot ∷ slots) ≡ own_moves slot ++ live_moves slots
unfolding own_moves
live_moves-cons slot slots =
    elim slot.trip.live as (λ b. map (λ (s : Slot). move_of s.trip)
    (cond b (slot ∷ filter (λ (s : Slot). s.trip.live) slots) (filter (λ (s : Slot). s.trip.live) slots)) ≡ cond b
    (move_of slot.trip ∷ []) [] ++ live_moves slots) [
      | true ↦ refl
      | false ↦ refl
    ]

AreSwapped-cons : (m n : Move) (slot : Slot) (old new : List Slot) → AreSwapped m n old new → AreSwapped m n (slot ∷ old) (slot ∷ new)
AreSwapped-cons m n slot old new are = record {
  front = own_moves slot ++ are.front;
  back = are.back;
  was = live_moves-cons slot old ∙ ap (λ rest. own_moves slot ++ rest) are.was
      ∙ sym (append_assoc (own_moves slot) are.front (m ∷ are.back));
  now = live_moves-cons slot new ∙ ap (λ rest. own_moves slot ++ rest) are.now
      ∙ sym (append_assoc (own_moves slot) are.front (n ∷ are.back));
}

pub AreSwapped-set : (slots : List Slot) (s : ℕ) (d slot : Slot) → s < length slots → (get_or slots s d).trip.live ≡ true
    → slot.trip.live ≡ true
    → AreSwapped (move_of (get_or slots s d).trip) (move_of slot.trip) slots (set slots s slot)
AreSwapped-set [] s d slot within was now = absurd (omega arith)
AreSwapped-set (first ∷ slots) zero d slot within was now =
    record { front = []; back = live_moves slots; was = live_moves-live first slots was; now = live_moves-live slot slots now }
AreSwapped-set (first ∷ slots) (suc s) d slot within was now =
    AreSwapped-cons (move_of (get_or slots s d).trip) (move_of slot.trip) first slots (set slots s slot)
    (AreSwapped-set slots s d slot (omega arith) was now)

-- the moves of a timetable's trips are few, and take time
length-live_moves : (slots : List Slot) → length (live_moves slots) ≤ length slots
length-live_moves [] = omega arith
length-live_moves (slot ∷ slots) =
    elim slot.trip.live as (λ b. length
    (map (λ (s : Slot). move_of s.trip)
    (cond b (slot ∷ filter (λ (s : Slot). s.trip.live) slots) (filter (λ (s : Slot). s.trip.live) slots))) ≤ length (slot ∷ slots)) [
      | true ↦ omega (arith, length-live_moves slots)
      | false ↦ omega (arith, length-live_moves slots)
    ]

forward-live_moves : (t : TimetableView) → IsTimetable t → All (λ (m : Move). m.leaves < m.arrives) (live_moves t.slots)
forward-live_moves t valid =
    All-map (λ (m : Move). m.leaves < m.arrives) (λ (s : Slot). move_of s.trip) (filter (λ (s : Slot). s.trip.live) t.slots)
    (All-filter (λ (s : Slot). s.trip.live) (λ (s : Slot). s.trip.departs < s.trip.ends) t.slots
    (All-weaker (λ (s : Slot). IsValidTrip t.places s.trip) (λ (s : Slot). s.trip.departs < s.trip.ends) (λ s v. v.forward) t.slots
    valid.trips))

-- deficits that hold them hold the move of a slot among few
pub HoldsAmong-swapped : (deficits : List (List ℤ)) (m n : Move) (t : TimetableView) (new : List Slot) → IsTimetable t
    → AreSwapped m n t.slots new → Holds deficits (live_moves t.slots) → HoldsAmong deficits m
HoldsAmong-swapped deficits m n t new valid are held = record {
  front = are.front;
  back = are.back;
  held = subst (Holds deficits) are.was held;
  forward = subst (All (λ (m : Move). m.leaves < m.arrives)) are.was (forward-live_moves t valid);
  few = subst (λ (moves : List Move). length moves ≤ 4096) are.was
      (let few : length (live_moves t.slots) ≤ 4096 = omega (arith, valid.slots, length-live_moves t.slots) in few);
}

All-replaced : (front back : List Move) (m n : Move) → n.leaves < n.arrives → All (λ (m : Move). m.leaves < m.arrives) (front ++ m ∷ back)
    → All (λ (m : Move). m.leaves < m.arrives) (front ++ n ∷ back)
All-replaced [] back m n forward all =
    All-cons (λ (m : Move). m.leaves < m.arrives) n back forward (All-tail (λ (m : Move). m.leaves < m.arrives) m back all)
All-replaced (x ∷ front) back m n forward all =
    All-cons (λ (m : Move). m.leaves < m.arrives) x (front ++ n ∷ back)
    (All-head (λ (m : Move). m.leaves < m.arrives) x (front ++ m ∷ back) all)
    (All-replaced front back m n forward (All-tail (λ (m : Move). m.leaves < m.arrives) x (front ++ m ∷ back) all))

-- and with another one in its stead they hold that among few
pub HoldsAmong-replaced : (old new : List (List ℤ)) (m n : Move) → n.leaves < n.arrives → HoldsAmong old m
    → ((front back : List Move) → Holds old (front ++ m ∷ back) → Holds new (front ++ n ∷ back)) → HoldsAmong new n
HoldsAmong-replaced old new m n forward among replaced = record {
  front = among.front;
  back = among.back;
  held = replaced among.front among.back among.held;
  forward = All-replaced among.front among.back m n forward among.forward;
  few = (let few = among.few in omega (arith, length-append among.front (m ∷ among.back), length-append among.front (n ∷ among.back)));
}

-- a count is the same where a move stands at the end
count-placed : (p : Move → Bool) (front back : List Move) (m : Move)
    → count_by p ((front ++ back) ++ m ∷ []) ≡ count_by p (front ++ m ∷ back)
count-placed p front back m =
    let c : Move → ℕ = λ m. cond (p m) 1 0 in
    omega (
      arith,
      sum_by-append c (front ++ back) (m ∷ []),
      sum_by-append c front back,
      sum_by-append c front (m ∷ back),
      sum_by-append c
          (m ∷ []) back,
    )

pub Holds-placed : (deficits : List (List ℤ)) (front back : List Move) (m : Move) → Holds deficits ((front ++ back) ++ m ∷ [])
    → Holds deficits (front ++ m ∷ back)
Holds-placed deficits front back m held = record {
  change = λ place minute p h.
      let leave : leaving ((front ++ back) ++ m ∷ []) place minute ≡ leaving (front ++ m ∷ back) place minute =
      count-placed _ front back m in
      let arrive : arriving ((front ++ back) ++ m ∷ []) place minute ≡ arriving (front ++ m ∷ back) place minute =
      count-placed _ front back m in
      held.change place minute p h ∙ (λ i. pos (leave i) -ℤ pos (arrive i));
}

-- what a move counts where it leaves and where it arrives stays small
pub record HasRoomFor (deficits : List (List ℤ)) (m : Move) : Type 0 where
  pub from_raised : change_at deficits m.from m.leaves <ℤ pos 65536
  pub from_lowered : neg_ℤ (pos 65536) <ℤ change_at deficits m.from m.leaves
  pub to_raised : change_at deficits m.to m.arrives <ℤ pos 65536
  pub to_lowered : neg_ℤ (pos 65536) <ℤ change_at deficits m.to m.arrives

pub HasRoomFor-few : (deficits : List (List ℤ)) (moves : List Move) (m : Move) → IsMove (length deficits) m → Holds deficits moves
    → length moves ≤ 4096 → HasRoomFor deficits m
HasRoomFor-few deficits moves m is held few =
    let leaves : m.leaves ≤ 8191 = omega (arith, is.forward, is.in_day) in
    let from = change-held deficits moves m.from m.leaves held is.from leaves in
    let to = change-held deficits moves m.to m.arrives held is.to is.in_day in
    record {
      from_raised = room_above _ _ few from;
      from_lowered = room_below _ _ few from;
      to_raised = room_above _ _ few to;
      to_lowered = room_below _ _ few to;
    }

-- deficits that hold the same moves are equal
pub same-held : (d e : List (List ℤ)) (moves : List Move) → IsDeficits d → IsDeficits e → length d ≡ length e → Holds d moves
    → Holds e moves → d ≡ e
same-held d e moves valid valid' same held held' =
    ext_get_or [] d e same
    (λ place there.
    let row = valid.changes place [] there in
    let there' : place < length e = omega arith in
    let row' = valid'.changes place [] there' in
    ext_get_or (pos 0) (changes_of d place) (changes_of e place) (row.minutes ∙ sym row'.minutes)
    (λ minute within. let h : minute ≤ 8191 = omega (arith, row.minutes) in
    held.change place minute there h ∙ sym (held'.change place minute there' h)))

-- a change of another place leaves the changes of a place
changes_of-other : (deficits : List (List ℤ)) (place minute : ℕ) (by : ℤ) (k : ℕ) → k ≢ place
    → changes_of (with_change deficits place minute by) k ≡ changes_of deficits k
unfolding with_change
changes_of-other deficits place minute by k other = get_or-set_other deficits place k _ [] other

pub others-with_move : (deficits : List (List ℤ)) (m : Move) (k : ℕ) → k ≢ m.from → k ≢ m.to
    → changes_of (with_move deficits m) k ≡ changes_of deficits k
others-with_move deficits m k from to = changes_of-other _ m.to m.arrives _ k to ∙ changes_of-other deficits m.from m.leaves _ k from

pub others-without_move : (deficits : List (List ℤ)) (m : Move) (k : ℕ) → k ≢ m.from → k ≢ m.to
    → changes_of (without_move deficits m) k ≡ changes_of deficits k
others-without_move deficits m k from to = changes_of-other _ m.to m.arrives _ k to ∙ changes_of-other deficits m.from m.leaves _ k from

-- the trip of a slot and the same trip moved by so many minutes, which run
pub AreSwapped-shift : (t : TimetableView) (s : ℕ) (by : ℤ) (m n : Move) → s < length t.slots → (slot_at t s).trip.live ≡ true
    → m ≡ move_of (slot_at t s).trip → n ≡ move_of (shifted (slot_at t s).trip by) → AreSwapped m n t.slots (with_shift t s by).slots
AreSwapped-shift t s by m n within live m_is n_is =
    let are : AreSwapped (move_of (slot_at t s).trip) (move_of (shifted (slot_at t s).trip by)) t.slots (with_shift t s by).slots =
    AreSwapped-set t.slots s _ (record (slot_at t s) { trip = shifted (slot_at t s).trip by }) within live live in
    record {
      front = are.front;
      back = are.back;
      was = are.was ∙ ap (λ (x : Move). are.front ++ x ∷ are.back) (sym m_is);
      now = are.now ∙ ap (λ (x : Move). are.front ++ x ∷ are.back) (sym n_is);
    }

-- what is held after one is replaced by the other
pub Holds-swapped : (d e : List (List ℤ)) (m n : Move) (old new : List Slot) → AreSwapped m n old new → Holds d (live_moves old)
    → ((front back : List Move) → Holds d (front ++ m ∷ back) → Holds e (front ++ n ∷ back)) → Holds e (live_moves new)
Holds-swapped d e m n old new are held replaced = subst (Holds e) (sym are.now) (replaced are.front are.back (subst (Holds d) are.was held))

pub AreSwapped-back : (m n : Move) (old new : List Slot) → AreSwapped m n old new → AreSwapped n m new old
AreSwapped-back m n old new are = record { front = are.front; back = are.back; was = are.now; now = are.was }
