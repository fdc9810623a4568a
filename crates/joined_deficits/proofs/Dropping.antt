-- Blocks without deadheads of the joined moves, with the legs dropped in which a vehicle runs empty, are blocks of the trips.
use Rattle.std.proofs.Common.{◌≡◌, ℕ, ◌+◌, ◌<◌, ◌≤◌, ◌==◌, nat_le, true, false, cond, List, [], ◌∷◌, ◌++◌, length, get_or, map, sum_by}
use Rattle.std.proofs.Common.{Option, None, Some, refl, sym, ap, subst, ◌∙◌, ⊎_elim, arith}
use Rattle.std.specs.Prelude.{⊤}
use Rattle.std.specs.List.{All, AllByRecursion}
use Rattle.std.specs.Option.{is_some}
use Rattle.std.proofs.lemmas.Bool.{cases_lt, and_parts, eqb-true, leb-true, false≢true}
use Rattle.std.proofs.lemmas.List.{length-map, get_or-map, get_or_past}
use Rattle.std.proofs.lemmas.List.Sums.{sum_by-cons, sum_by-append}
use Rattle.std.proofs.lemmas.Option.{none-some, same_Some}
use Rattle.trip_model.specs.declared.trip.Move.{Move}
use Rattle.trip_model.specs.Blocking.{times, Follow, IsBlock, slots_in, IsBlocking}
use Rattle.trip_model.specs.Network.{Network, Fits}
use Rattle.trip_model.specs.Plain.{move_at, meets, plain_network, IsMove}
use Rattle.trip_model.specs.Timetable.{TimetableView, IsTimetable, slot_at}
use Rattle.trip_model.specs.Trip.{move_of}
use Rattle.trip_model.proofs.Counting.{sum_below-list, sum_by-below, runs-within, times-cons}
use Rattle.trip_model.proofs.PlainLemmas.{fits-plain}
use Rattle.deadhead_matrix.specs.declared.entry.Entry.{Entry}
use Rattle.deadhead_matrix.specs.Fitting.{network_of}
use Rattle.deadhead_matrix.specs.Matrix.{MatrixView, walk, AreLeastWalks}
use Rattle.deadhead_matrix.specs.Walks.{IsWalk, IsLeastWalk, IsLeastTotal}
use Rattle.joined_deficits.specs.declared.legs.Leg.{Leg}
use Rattle.joined_deficits.specs.Joined.{trip_leg, deadhead_between, deadhead_legs, legs_after, legs_of, legs_in, ways}
use Rattle.joined_deficits.proofs.LegLemmas.{fits-reached, HoldsOfLegs, live-within, slot-moves, legs-move}

-- walks one after the other
walk-on : (entries es fs : List Entry) (a b c : ℕ) → IsWalk entries a es b → IsWalk entries b fs c → IsWalk entries a (es ++ fs) c
walk-on entries [] fs a b c first second = subst (λ x. IsWalk entries x fs c) (sym first) second
walk-on entries (e ∷ es) fs a b c first second = (first.0, first.1, walk-on entries es fs e.to b c first.2 second)

-- a least walk is no longer than one by way of another place
by-way : (entries : List Entry) (a b c m n : ℕ) (found : Option ℕ) → IsLeastTotal entries a b m → IsLeastTotal entries b c n
    → IsLeastWalk entries a c found
    → (k : ℕ) × (found ≡ Some k) × (k ≤ m + n)
by-way entries a b c m n None first second none =
    absurd (none (first.reached.0 ++ second.reached.0)
    (walk-on entries first.reached.0 second.reached.0 a b c first.reached.1 second.reached.1))
by-way entries a b c m n (Some k) first second least =
    let le = least.least (first.reached.0 ++ second.reached.0)
    (walk-on entries first.reached.0 second.reached.0 a b c first.reached.1 second.reached.1) in (
      k,
      refl,
      omega (
        arith,
        le,
        first.reached.2,
        second.reached.2,
        sum_by-append (λ (e : Entry). e.minutes) first.reached.0
            second.reached.0,
      ),
    )

-- a place is reached from itself in no time
from-itself : (entries : List Entry) (a : ℕ) (found : Option ℕ) → IsLeastWalk entries a a found → found ≡ Some 0
from-itself entries a None none = absurd (none [] refl)
from-itself entries a (Some m) least = let none : m ≡ 0 = omega (arith, least.least [] refl) in ap Some none

-- of the slot of a leg and its move: a trip that runs, or a deadhead along a walk of the matrix
abbrev pub IsMadeBy : TimetableView → MatrixView → Option ℕ → Move → Type 0
IsMadeBy t matrix None way = (minutes : ℕ) × (walk matrix way.from way.to ≡ Some minutes) × (way.arrives ≡ way.leaves + minutes)
IsMadeBy t matrix (Some s) way = ((slot_at t s).trip.live ≡ true) × (way ≡ move_of (slot_at t s).trip)

-- a leg is made by the vehicles of a timetable
pub record IsLeg (t : TimetableView) (matrix : MatrixView) (leg : Leg) : Type 0 where
  pub made : IsMadeBy t matrix leg.slot leg.way
  pub moves : IsMove (length t.places) leg.way

pub legs-are : (t : TimetableView) (matrix : MatrixView) → IsTimetable t → HoldsOfLegs t matrix (IsLeg t matrix)
legs-are t matrix valid =
    let move = legs-move t matrix valid in
    record {
      trip = λ s live. record { made = (live, refl); moves = move.trip s live };
      dead = λ i j minutes r h. record { made = (minutes, r.walks, refl); moves = move.dead i j minutes r h };
    }

-- no leg
abbrev no_leg : Leg
no_leg = record { slot = None; way = record { from = 0; to = 0; leaves = 0; arrives = 0 } }

-- the leg at a place in a list
abbrev pub leg_at : List Leg → ℕ → Leg
leg_at legs p = get_or legs p no_leg

-- slots, with that of a trip before them
abbrev pub with_trip : Option ℕ → List ℕ → List ℕ
with_trip None slots = slots
with_trip (Some s) slots = s ∷ slots

-- the slots of the trips at places in a list of legs
abbrev pub trips_at : List Leg → List ℕ → List ℕ
trips_at legs [] = []
trips_at legs (p ∷ ps) = with_trip (leg_at legs p).slot (trips_at legs ps)

-- the blocks that have a trip
abbrev pub filled : List (List ℕ) → List (List ℕ)
filled [] = []
filled ([] ∷ blocks) = filled blocks
filled ((s ∷ slots) ∷ blocks) = (s ∷ slots) ∷ filled blocks

-- the trips of blocks of places in a list of legs
abbrev pub dropped : List Leg → List (List ℕ) → List (List ℕ)
dropped legs blocks = filled (map (trips_at legs) blocks)

length-filled : (blocks : List (List ℕ)) → length (filled blocks) ≤ length blocks
length-filled [] = omega arith
length-filled ([] ∷ blocks) = omega (arith, length-filled blocks)
length-filled ((s ∷ slots) ∷ blocks) = omega (arith, length-filled blocks)

slots-filled : (blocks : List (List ℕ)) → slots_in (filled blocks) ≡ slots_in blocks
slots-filled [] = refl
slots-filled ([] ∷ blocks) = slots-filled blocks
slots-filled ((s ∷ slots) ∷ blocks) = ap (λ rest. (s ∷ slots) ++ rest) (slots-filled blocks)

-- so there are no more of them
pub length-dropped : (legs : List Leg) (blocks : List (List ℕ)) → length (dropped legs blocks) ≤ length blocks
length-dropped legs blocks = omega (arith, length-filled (map (trips_at legs) blocks), length-map blocks (trips_at legs))

-- the leg whose move stands at a place
at-leg : (legs : List Leg) (p : ℕ) (way : Move) → move_at (map Some (ways legs)) p ≡ Some way
    → (p < length legs) × ((leg_at legs p).way ≡ way)
at-leg legs p way e = ⊎_elim
    (λ (h : p < length legs).
    let there : p < length (ways legs) = omega (arith, length-map legs (λ (leg : Leg). leg.way)) in (
      h,
      same_Some (leg_at legs p).way way
          (sym (get_or-map Some (ways legs) p no_leg.way None there
          ∙ ap Some (get_or-map (λ (leg : Leg). leg.way) legs p no_leg no_leg.way h)) ∙ e),
    ))
    (λ (h : length legs ≤ p).
    let past : length (map Some (ways legs)) ≤ p = omega (arith, length-map legs (λ (leg : Leg). leg.way), length-map (ways legs) Some) in
    absurd (none-some way (sym (get_or_past (map Some (ways legs)) p None past) ∙ e)))
    (cases_lt p (length legs))

-- legs whose moves meet
record LegsMeet (legs : List Leg) (p q : ℕ) : Type 0 where
  pub first : p < length legs
  pub second : q < length legs
  pub place : (leg_at legs p).way.to ≡ (leg_at legs q).way.from
  pub minute : (leg_at legs p).way.arrives ≤ (leg_at legs q).way.leaves

meet-parts : (m n : Option Move) → meets m n ≡ true
    → (a : Move) × (b : Move) × (m ≡ Some a) × (n ≡ Some b) × (a.to ≡ b.from) × (a.arrives ≤ b.leaves)
meet-parts None n e = absurd (false≢true e)
meet-parts (Some a) None e = absurd (false≢true e)
meet-parts (Some a) (Some b) e =
    let parts = and_parts (a.to == b.from) (nat_le a.arrives b.leaves) e in
    (a, b, refl, refl, eqb-true a.to b.from parts.0, leb-true a.arrives b.leaves parts.1)

legs-meet : (legs : List Leg) (p q : ℕ) → Fits (plain_network (map Some (ways legs))) p q → LegsMeet legs p q
legs-meet legs p q fits =
    let all = map Some (ways legs) in
    let meet = meet-parts (move_at all p) (move_at all q) (fits-plain all p q fits) in
    let a = at-leg legs p meet.0 meet.2 in
    let b = at-leg legs q meet.1 meet.3 in
    let arrives : (leg_at legs p).way.arrives ≡ meet.0.arrives = ap (λ (m : Move). m.arrives) a.1 in
    let leaves : (leg_at legs q).way.leaves ≡ meet.1.leaves = ap (λ (m : Move). m.leaves) b.1 in
    record {
      first = a.0;
      second = b.0;
      place = ap (λ (m : Move). m.to) a.1 ∙ meet.4 ∙ sym (ap (λ (m : Move). m.from) b.1);
      minute = omega (arith, arrives, leaves, meet.5);
    }

-- a vehicle that has made the trip of i can be at a place by a minute
record IsThere (t : TimetableView) (matrix : MatrixView) (i place minute : ℕ) : Type 0 where
  pub live : (slot_at t i).trip.live ≡ true
  pub minutes : ℕ
  pub walks : walk matrix (slot_at t i).trip.to place ≡ Some minutes
  pub in_time : (slot_at t i).trip.ends + minutes ≤ minute

-- no vehicle, or one that can make the trips one after the other
abbrev pub IsBlockOrNone : Network → List ℕ → Type 0
IsBlockOrNone network [] = ⊤
IsBlockOrNone network (i ∷ js) = Follow network i js

module _ (t : TimetableView) (matrix : MatrixView) (valid : IsTimetable t) (least : AreLeastWalks matrix)
    (count : length matrix.walks ≡ length t.places) (free : matrix.rules ≡ []) (legs : List Leg) (are : All (IsLeg t matrix) legs) where
  -- after a trip a vehicle is where that has ended
  there-itself : (i : ℕ) (way : Move) → IsMadeBy t matrix (Some i) way → IsThere t matrix i way.to way.arrives
  there-itself i way made =
      let place : way.to ≡ (slot_at t i).trip.to = ap (λ (m : Move). m.to) made.1 in
      let minute : way.arrives ≡ (slot_at t i).trip.ends = ap (λ (m : Move). m.arrives) made.1 in
      let move = slot-moves t i valid (live-within t i made.0) in
      let within : (slot_at t i).trip.to < length matrix.walks = omega (arith, move.to, count) in
      record {
        live = made.0;
        minutes = 0;
        walks = ap (λ p. walk matrix (slot_at t i).trip.to p) place
            ∙ from-itself matrix.entries (slot_at t i).trip.to (walk matrix (slot_at t i).trip.to (slot_at t i).trip.to)
            (least (slot_at t i).trip.to (slot_at t i).trip.to within within);
        in_time = omega (arith, minute);
      }

  -- a deadhead takes it on
  there-on : (i : ℕ) (way : Move) → IsMadeBy t matrix None way → IsMove (length t.places) way → IsThere t matrix i way.from way.leaves
      → IsThere t matrix i way.to way.arrives
  there-on i way made move is =
      let a = (slot_at t i).trip.to in
      let a_in : a < length matrix.walks = omega (arith, (slot-moves t i valid (live-within t i is.live)).to, count) in
      let b_in : way.from < length matrix.walks = omega (arith, move.from, count) in
      let c_in : way.to < length matrix.walks = omega (arith, move.to, count) in
      let first : IsLeastTotal matrix.entries a way.from is.minutes =
      subst (IsLeastWalk matrix.entries a way.from) is.walks (least a way.from a_in b_in) in
      let second : IsLeastTotal matrix.entries way.from way.to made.0 =
      subst (IsLeastWalk matrix.entries way.from way.to) made.1 (least way.from way.to b_in c_in) in
      let on = by-way matrix.entries a way.from way.to is.minutes made.0 (walk matrix a way.to) first second (least a way.to a_in c_in) in
      record {
        live = is.live;
        minutes = on.0;
        walks = on.1;
        in_time = omega (arith, on.2, is.in_time, made.2);
      }

  -- and it reaches the trip that begins there then, as no rules forbid the pair
  there-fits : (i j : ℕ) (way : Move) → IsMadeBy t matrix (Some j) way → IsThere t matrix i way.from way.leaves
      → Fits (network_of t matrix) i j
  there-fits i j way made is =
      let place : way.from ≡ (slot_at t j).trip.from = ap (λ (m : Move). m.from) made.1 in
      let minute : way.leaves ≡ (slot_at t j).trip.departs = ap (λ (m : Move). m.leaves) made.1 in
      fits-reached t matrix i j is.minutes free (record {
        first = is.live;
        second = made.0;
        walks = ap (λ p. walk matrix (slot_at t i).trip.to p) (sym place) ∙ is.walks;
        in_time = omega (arith, minute, is.in_time);
      })

  there-next : (i p q : ℕ) → LegsMeet legs p q → IsThere t matrix i (leg_at legs p).way.to (leg_at legs p).way.arrives
      → IsThere t matrix i (leg_at legs q).way.from (leg_at legs q).way.leaves
  there-next i p q meet is = record {
    live = is.live;
    minutes = is.minutes;
    walks = ap (λ p. walk matrix (slot_at t i).trip.to p) (sym meet.place) ∙ is.walks;
    in_time = omega (arith, is.in_time, meet.minute);
  }

  -- the trips at places whose moves meet follow one on the other
  follow-trips : (i p : ℕ) (ps : List ℕ) → Follow (plain_network (map Some (ways legs))) p ps
      → IsThere t matrix i (leg_at legs p).way.to (leg_at legs p).way.arrives
      → Follow (network_of t matrix) i (trips_at legs ps)
  follow-trips i p [] follow is = tt
  follow-trips i p (q ∷ qs) follow is =
      let meet = legs-meet legs p q follow.0 in
      let leg = are q no_leg meet.second in
      by (leg_at legs q).slot (leg_at legs q).way leg.made leg.moves (there-next i p q meet is)
      (λ h there. follow-trips h q qs follow.1 there)
    where
      by : (slot : Option ℕ) (way : Move) → IsMadeBy t matrix slot way → IsMove (length t.places) way
          → IsThere t matrix i way.from way.leaves
          → ((h : ℕ) → IsThere t matrix h way.to way.arrives → Follow (network_of t matrix) h (trips_at legs qs))
          → Follow (network_of t matrix) i (with_trip slot (trips_at legs qs))
      by None way made move there rest = rest i (there-on i way made move there)
      by (Some j) way made move there rest = (there-fits i j way made there, rest j (there-itself j way made))

  -- from the first trip on
  first-trips : (p : ℕ) (ps : List ℕ) → Follow (plain_network (map Some (ways legs))) p ps
      → IsBlockOrNone (network_of t matrix) (trips_at legs (p ∷ ps))
  first-trips p [] follow = by (leg_at legs p).slot
    where
      by : (slot : Option ℕ) → IsBlockOrNone (network_of t matrix) (with_trip slot [])
      by None = tt
      by (Some j) = tt
  first-trips p (q ∷ qs) follow =
      let leg = are p no_leg (legs-meet legs p q follow.0).first in
      by (leg_at legs p).slot (leg_at legs p).way leg.made (first-trips q qs follow.1) (λ i there. follow-trips i p (q ∷ qs) follow there)
    where
      by : (slot : Option ℕ) (way : Move) → IsMadeBy t matrix slot way → IsBlockOrNone (network_of t matrix) (trips_at legs (q ∷ qs))
          → ((i : ℕ) → IsThere t matrix i way.to way.arrives → Follow (network_of t matrix) i (trips_at legs (q ∷ qs)))
          → IsBlockOrNone (network_of t matrix) (with_trip slot (trips_at legs (q ∷ qs)))
      by None way made rest on = rest
      by (Some j) way made rest on = on j (there-itself j way made)

  -- so each block that has a trip is one of the trips
  pub each-dropped : (blocks : List (List ℕ)) → AllByRecursion (IsBlock (plain_network (map Some (ways legs)))) blocks
      → AllByRecursion (IsBlock (network_of t matrix)) (dropped legs blocks)
  each-dropped [] each = tt
  each-dropped ([] ∷ blocks) each = absurd each.0
  each-dropped ((p ∷ ps) ∷ blocks) each = by (trips_at legs (p ∷ ps)) (first-trips p ps each.0) (each-dropped blocks each.1)
    where
      by : (slots : List ℕ) → IsBlockOrNone (network_of t matrix) slots
          → AllByRecursion (IsBlock (network_of t matrix)) (dropped legs blocks)
          → AllByRecursion (IsBlock (network_of t matrix)) (filled (slots ∷ map (trips_at legs) blocks))
      by [] is rest = rest
      by (i ∷ js) is rest = (is, rest)

-- 1 where the trip is that of s, and else 0
abbrev of_slot : ℕ → Option ℕ → ℕ
of_slot s None = 0
of_slot s (Some j) = cond (j == s) 1 0

times-with : (s : ℕ) (slot : Option ℕ) (slots : List ℕ) → times s (with_trip slot slots) ≡ of_slot s slot + times s slots
times-with s None slots = omega arith
times-with s (Some j) slots = times-cons s j slots

times-trips : (legs : List Leg) (s : ℕ) (ps : List ℕ) → times s (trips_at legs ps) ≡ sum_by (λ p. of_slot s (leg_at legs p).slot) ps
times-trips legs s [] = refl
times-trips legs s (p ∷ ps) =
    omega (
      arith,
      times-with s (leg_at legs p).slot (trips_at legs ps),
      times-trips legs s ps,
      sum_by-cons
          (λ p. of_slot s (leg_at legs p).slot) p ps,
    )

times-all : (legs : List Leg) (s : ℕ) (blocks : List (List ℕ))
    → times s (slots_in (map (trips_at legs) blocks)) ≡ sum_by (λ p. of_slot s (leg_at legs p).slot) (slots_in blocks)
times-all legs s [] = refl
times-all legs s (block ∷ blocks) =
    omega (
      arith,
      sum_by-append (λ x. cond (x == s) 1 0) (trips_at legs block) (slots_in (map (trips_at legs) blocks)),
      sum_by-append (λ p. of_slot s (leg_at legs p).slot) block (slots_in blocks),
      times-trips legs s block,
      times-all legs s blocks,
    )

-- a slot stands in the blocks of a blocking of the legs as often as it has a leg
pub times-dropped : (legs : List Leg) (s : ℕ) (blocks : List (List ℕ)) → IsBlocking (plain_network (map Some (ways legs))) blocks
    → times s (slots_in (dropped legs blocks)) ≡ sum_by (λ (leg : Leg). of_slot s leg.slot) legs
times-dropped legs s blocks blocking =
    let all = map Some (ways legs) in
    let len : length all ≡ length legs = length-map (ways legs) Some ∙ length-map legs (λ (leg : Leg). leg.way) in
    let within : (p : ℕ) → is_some (move_at all p) ≡ true → p < length legs = λ p e. omega (arith, runs-within all p e, len) in
    ap (times s) (slots-filled (map (trips_at legs) blocks))
    ∙ times-all legs s blocks
    ∙ sum_by-below (λ p. is_some (move_at all p)) (λ p. of_slot s (leg_at legs p).slot) (length legs) (slots_in blocks) within none
    blocking.stands
    ∙ sum_below-list (λ (leg : Leg). of_slot s leg.slot) legs no_leg
  where
    none : (p : ℕ) → is_some (move_at (map Some (ways legs)) p) ≡ false → of_slot s (leg_at legs p).slot ≡ 0
    none p e = ⊎_elim
        (λ (h : p < length legs).
        let there : p < length (ways legs) = omega (arith, length-map legs (λ (leg : Leg). leg.way)) in
        absurd (false≢true (sym e ∙ ap is_some (get_or-map Some (ways legs) p no_leg.way None there))))
        (λ (h : length legs ≤ p). ap (λ (leg : Leg). of_slot s leg.slot) (get_or_past legs p no_leg h))
        (cases_lt p (length legs))

-- a deadhead is the leg of no slot
none-dead : (s : ℕ) (way : Option Move) → sum_by (λ (leg : Leg). of_slot s leg.slot) (deadhead_legs way) ≡ 0
none-dead s None = refl
none-dead s (Some way) = omega (arith, sum_by-cons (λ (leg : Leg). of_slot s leg.slot) (record { slot = None; way = way }) [])

legs-after : (t : TimetableView) (matrix : MatrixView) (s i : ℕ) (js : List ℕ)
    → sum_by (λ (leg : Leg). of_slot s leg.slot) (legs_after t matrix i js) ≡ times s js
legs-after t matrix s i [] = refl
legs-after t matrix s i (j ∷ js) = omega (
  arith,
  sum_by-append (λ (leg : Leg). of_slot s leg.slot) (deadhead_legs (deadhead_between t matrix i j))
      (trip_leg t j ∷ legs_after t matrix j js),
  none-dead s (deadhead_between t matrix i j),
  sum_by-cons (λ (leg : Leg). of_slot s leg.slot) (trip_leg t j) (legs_after t matrix j js),
  times-cons s j js,
  legs-after t matrix s j js,
)

legs-block : (t : TimetableView) (matrix : MatrixView) (s : ℕ) (block : List ℕ)
    → sum_by (λ (leg : Leg). of_slot s leg.slot) (legs_of t matrix block) ≡ times s block
legs-block t matrix s [] = refl
legs-block t matrix s (i ∷ js) =
    omega (
      arith,
      sum_by-cons (λ (leg : Leg). of_slot s leg.slot) (trip_leg t i) (legs_after t matrix i js),
      times-cons s i js,
      legs-after
          t matrix s i js,
    )

-- a slot has as many legs as it stands in the blocks
pub legs-times : (t : TimetableView) (matrix : MatrixView) (s : ℕ) (blocks : List (List ℕ))
    → sum_by (λ (leg : Leg). of_slot s leg.slot) (legs_in t matrix blocks) ≡ times s (slots_in blocks)
legs-times t matrix s [] = refl
legs-times t matrix s (block ∷ blocks) = omega (
  arith,
  sum_by-append (λ (leg : Leg). of_slot s leg.slot) (legs_of t matrix block) (legs_in t matrix blocks),
  sum_by-append (λ x. cond (x == s) 1 0) block (slots_in blocks),
  legs-block t matrix s block,
  legs-times t matrix s blocks,
)
