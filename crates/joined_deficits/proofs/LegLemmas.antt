-- The legs of blocks: between which trips a vehicle runs empty, what each leg is, and how many there are.
use Rattle.std.proofs.Common.{◌≡◌, ℕ, ◌+◌, ◌*◌, ◌<◌, ◌≤◌, nat_le, Bool, true, false, List, [], ◌∷◌, ◌++◌, length, drop, take, get_or}
use Rattle.std.proofs.Common.{filter, Option, None, Some, if◌then◌else◌, refl, sym, ap, subst, ◌∙◌, ⊎_elim, arith}
use Rattle.std.specs.List.{All, AllByRecursion, range_with_len}
use Rattle.std.specs.Option.{is_some, IsSome, IfSome}
use Rattle.std.proofs.lemmas.Bool.{cases_eq, eq-eqb, ne_eqb, leb-true, le-leb, false≢true}
use Rattle.std.proofs.lemmas.List.{append-nil, drop_all, take_all, length-append, length-map, get_or_default}
use Rattle.std.proofs.lemmas.List.Elements.{All-nil, All-cons, All-append, All-head, All-tail, All-map}
use Rattle.std.proofs.lemmas.List.FromFn.{length-range_with_len}
use Rattle.std.proofs.lemmas.List.Sums.{count_by-le-length, length-filter}
use Rattle.std.proofs.lemmas.Option.{same_Some}
use Rattle.trip_model.specs.declared.trip.Move.{Move}
use Rattle.trip_model.specs.declared.trip.Trip.{Trip}
use Rattle.trip_model.specs.Blocking.{Follow, IsBlock, StandsOnce, slots_in, IsBlocking}
use Rattle.trip_model.specs.Network.{Fits}
use Rattle.trip_model.specs.Plain.{move_at, move_of_slot, trip_moves, IsMove}
use Rattle.trip_model.specs.Timetable.{TimetableView, IsTimetable, slot_at, slot_names}
use Rattle.trip_model.specs.Trip.{IsValidTrip, move_of}
use Rattle.trip_model.proofs.Counting.{sum_by-standing, StandsOnce-filter_range, length-ones, runs-within}
use Rattle.trip_model.proofs.OrderLemmas.{slot-move, slot-live}
use Rattle.trip_model.proofs.PlainLemmas.{IsMove-trip}
use Rattle.deadhead_matrix.specs.Fitting.{in_time, empty_between, allowed_network, deadhead_network, network_of}
use Rattle.deadhead_matrix.proofs.Ruled.{allowed-fits}
use Rattle.deadhead_matrix.specs.Matrix.{MatrixView, walk}
use Rattle.block_build.proofs.CostLemmas.{block-live}
use Rattle.joined_deficits.specs.declared.legs.Leg.{Leg}
use Rattle.joined_deficits.specs.Joined.{trip_leg, empty_move, deadhead_between, deadhead_legs, legs_after, legs_of, legs_in, ways}
use Rattle.joined_deficits.specs.Joined.{joined_moves}

-- a vehicle reaches the start of the trip of j from the end of that of i in so many minutes, and in time
pub record Reaches (t : TimetableView) (matrix : MatrixView) (i j minutes : ℕ) : Type 0 where
  pub first : (slot_at t i).trip.live ≡ true
  pub second : (slot_at t j).trip.live ≡ true
  pub walks : walk matrix (slot_at t i).trip.to (slot_at t j).trip.from ≡ Some minutes
  pub in_time : (slot_at t i).trip.ends + minutes ≤ (slot_at t j).trip.departs

-- of two trips, of which both may run
between : (matrix : MatrixView) (a b : Trip) (x y : Bool)
    → IsSome (empty_between (walk matrix) (if x then Some (move_of a) else None) (if y then Some (move_of b) else None))
    → (minutes : ℕ) × (x ≡ true) × (y ≡ true) × (walk matrix a.to b.from ≡ Some minutes) × (a.ends + minutes ≤ b.departs)
between matrix a b true true is = by (walk matrix a.to b.from) refl is
  where
    tested : (minutes : ℕ) → walk matrix a.to b.from ≡ Some minutes → (test : Bool) → nat_le (a.ends + minutes) b.departs ≡ test
        → is_some {T = ℕ} (if test then Some minutes else None) ≡ true
        → (minutes : ℕ) × (true ≡ true) × (true ≡ true) × (walk matrix a.to b.from ≡ Some minutes) × (a.ends + minutes ≤ b.departs)
    tested minutes found true passed is = (minutes, refl, refl, found, leb-true (a.ends + minutes) b.departs passed)
    tested minutes found false passed is = absurd (false≢true is)

    by : (found : Option ℕ) → walk matrix a.to b.from ≡ found → is_some (in_time (move_of a) (move_of b) found) ≡ true
        → (minutes : ℕ) × (true ≡ true) × (true ≡ true) × (walk matrix a.to b.from ≡ Some minutes) × (a.ends + minutes ≤ b.departs)
    by None found is = absurd (false≢true is)
    by (Some minutes) found is = tested minutes found (nat_le (a.ends + minutes) b.departs) refl is
between matrix a b true false is = absurd (false≢true is)
between matrix a b false true is = absurd (false≢true is)
between matrix a b false false is = absurd (false≢true is)

-- trips that fit run both, and the second is reached
pub reaches : (t : TimetableView) (matrix : MatrixView) (i j : ℕ) → Fits (network_of t matrix) i j
    → (minutes : ℕ) × Reaches t matrix i j minutes
reaches t matrix i j fits =
    let a = (slot_at t i).trip in
    let b = (slot_at t j).trip in
    let found = between matrix a b a.live b.live
    ((λ k. is_some (empty_between (walk matrix) (sym (slot-move t i) k) (sym (slot-move t j) k)))
    ∙ allowed-fits matrix.rules (slot_names t) (deadhead_network (trip_moves t.slots) matrix) i j fits) in
    (found.0, record { first = found.1; second = found.2; walks = found.3; in_time = found.4 })

-- in the minutes of the walk
pub reached-by : (t : TimetableView) (matrix : MatrixView) (i j minutes : ℕ) → Fits (network_of t matrix) i j
    → walk matrix (slot_at t i).trip.to (slot_at t j).trip.from ≡ Some minutes
    → (slot_at t i).trip.ends + minutes ≤ (slot_at t j).trip.departs
reached-by t matrix i j minutes fits found =
    let r = reaches t matrix i j fits in
    let same = same_Some r.0 minutes (sym r.1.walks ∙ found) in
    omega (arith, same, r.1.in_time)

-- so a deadhead arrives on the service day
pub arrives-in_day : (t : TimetableView) (matrix : MatrixView) (i j minutes : ℕ) (a b : Trip) → a ≡ (slot_at t i).trip
    → b ≡ (slot_at t j).trip → IsValidTrip t.places b
    → Fits (network_of t matrix) i j → walk matrix a.to b.from ≡ Some minutes → a.ends + minutes ≤ 8191
arrives-in_day t matrix i j minutes a b a_is b_is valid fits found =
    let reached = reached-by t matrix i j minutes fits ((λ k. walk matrix (sym a_is k).to (sym b_is k).from) ∙ found) in
    let move = IsMove-trip t.places b valid in
    let ends : a.ends ≡ (slot_at t i).trip.ends = ap (λ (trip : Trip). trip.ends) a_is in
    let departs : b.departs ≡ (slot_at t j).trip.departs = ap (λ (trip : Trip). trip.departs) b_is in
    omega (arith, reached, ends, departs, move.forward, move.in_day)

-- and the other way round, where no rules forbid a pair
pub fits-reached : (t : TimetableView) (matrix : MatrixView) (i j minutes : ℕ) → matrix.rules ≡ [] → Reaches t matrix i j minutes
    → Fits (network_of t matrix) i j
fits-reached t matrix i j minutes free r =
    let a = (slot_at t i).trip in
    let b = (slot_at t j).trip in
    let network = deadhead_network (trip_moves t.slots) matrix in
    ap (λ rules. is_some ((allowed_network rules (slot_names t) network).empty i j)) free
    ∙ (λ k. is_some (empty_between (walk matrix) (slot-move t i k) (slot-move t j k)))
    ∙ (λ k. is_some (empty_between (walk matrix) (if r.first k then Some (move_of a) else None)
    (if r.second k then Some (move_of b) else None)))
    ∙ (λ k. is_some (in_time (move_of a) (move_of b) (r.walks k)))
    ∙ ap (λ test. is_some {T = ℕ} (if test then Some minutes else None)) (le-leb (a.ends + minutes) b.departs r.in_time)

-- the move of a deadhead of so many minutes
abbrev pub dead_move : Move → Move → ℕ → Move
dead_move a b minutes = record { from = a.to; to = b.from; leaves = a.arrives; arrives = a.arrives + minutes }

empty-none : (a b : Move) (minutes : ℕ) → minutes ≡ 0 → empty_move a b (Some minutes) ≡ None
empty-none a b minutes zero_minutes = ap (λ test. if test then None else Some (dead_move a b minutes)) (eq-eqb minutes 0 zero_minutes)

empty-some : (a b : Move) (minutes : ℕ) → (minutes ≡ 0 → ⊥) → empty_move a b (Some minutes) ≡ Some (dead_move a b minutes)
empty-some a b minutes some = ap (λ test. if test then None else Some (dead_move a b minutes)) (ne_eqb minutes 0 some)

-- what holds of the legs between two trips that fit, where it holds of none, and of a deadhead that takes time
pub deadhead-cases : (P : List Leg → Type 0) (t : TimetableView) (matrix : MatrixView) (i j minutes : ℕ) → Reaches t matrix i j minutes
    → (minutes ≡ 0 → P [])
    → (0 < minutes → P (record { slot = None; way = dead_move (move_of (slot_at t i).trip) (move_of (slot_at t j).trip) minutes } ∷ []))
    → P (deadhead_legs (deadhead_between t matrix i j))
deadhead-cases P t matrix i j minutes r none some =
    let a = move_of (slot_at t i).trip in
    let b = move_of (slot_at t j).trip in
    ⊎_elim
    (λ (e : minutes ≡ 0). subst (λ way. P (deadhead_legs way)) (sym (ap (empty_move a b) r.walks ∙ empty-none a b minutes e)) (none e))
    (λ (ne : minutes ≡ 0 → ⊥). subst (λ way. P (deadhead_legs way)) (sym (ap (empty_move a b) r.walks ∙ empty-some a b minutes ne))
    (some (omega arith)))
    (cases_eq minutes 0)

-- what holds of the trips that run, and of the deadheads between trips of which one is reached from the other
pub record HoldsOfLegs (t : TimetableView) (matrix : MatrixView) (P : Leg → Type 0) : Type 0 where
  pub trip : (s : ℕ) → (slot_at t s).trip.live ≡ true → P (trip_leg t s)
  pub dead : (i j minutes : ℕ) → Reaches t matrix i j minutes → 0 < minutes
      → P (record { slot = None; way = dead_move (move_of (slot_at t i).trip) (move_of (slot_at t j).trip) minutes })

-- holds of all legs of a block after its first trip
pub all-after : (t : TimetableView) (matrix : MatrixView) (P : Leg → Type 0) → HoldsOfLegs t matrix P → (i : ℕ) (js : List ℕ)
    → Follow (network_of t matrix) i js → All P (legs_after t matrix i js)
all-after t matrix P holds i [] follow = All-nil P
all-after t matrix P holds i (j ∷ js) follow =
    let r = reaches t matrix i j follow.0 in
    All-append P (deadhead_legs (deadhead_between t matrix i j)) (trip_leg t j ∷ legs_after t matrix j js)
    (deadhead-cases (All P) t matrix i j r.0 r.1 (λ e. All-nil P)
    (λ h. All-cons P (record { slot = None; way = dead_move (move_of (slot_at t i).trip) (move_of (slot_at t j).trip) r.0 }) []
    (holds.dead i j r.0 r.1 h) (All-nil P)))
    (All-cons P (trip_leg t j) (legs_after t matrix j js) (holds.trip j r.1.second) (all-after t matrix P holds j js follow.1))

-- of all legs of a block
pub block-all : (t : TimetableView) (matrix : MatrixView) (P : Leg → Type 0) → HoldsOfLegs t matrix P → (block : List ℕ)
    → All (λ s. P (trip_leg t s)) block
    → IsBlock (network_of t matrix) block → All P (legs_of t matrix block)
block-all t matrix P holds [] all is = absurd is
block-all t matrix P holds (i ∷ js) all is =
    All-cons P (trip_leg t i) (legs_after t matrix i js) (All-head (λ s. P (trip_leg t s)) i js all) (all-after t matrix P holds i js is)

-- the slots of blocks all run
abbrev pub AllRun : TimetableView → List (List ℕ) → Type 0
AllRun t blocks = All (All (λ s. (slot_at t s).trip.live ≡ true)) blocks

-- and of all legs of blocks
pub all-in : (t : TimetableView) (matrix : MatrixView) (P : Leg → Type 0) → HoldsOfLegs t matrix P → (blocks : List (List ℕ))
    → AllByRecursion (IsBlock (network_of t matrix)) blocks → AllRun t blocks → All P (legs_in t matrix blocks)
all-in t matrix P holds [] each run = All-nil P
all-in t matrix P holds ([] ∷ blocks) each run = absurd each.0
all-in t matrix P holds ((i ∷ js) ∷ blocks) each run =
    let live = λ (s : ℕ). (slot_at t s).trip.live ≡ true in
    let first = All-head live i js (All-head (All live) (i ∷ js) blocks run) in
    All-append P (legs_of t matrix (i ∷ js)) (legs_in t matrix blocks)
    (All-cons P (trip_leg t i) (legs_after t matrix i js) (holds.trip i first) (all-after t matrix P holds i js each.0))
    (all-in t matrix P holds blocks each.1 (All-tail (All live) (i ∷ js) blocks run))

-- each slot of a blocking runs
pub blocks-run : (t : TimetableView) (matrix : MatrixView) (blocks : List (List ℕ)) → IsBlocking (network_of t matrix) blocks
    → AllRun t blocks
blocks-run t matrix blocks blocking = λ n d h k e g.
    let same = get_or_default blocks n d [] h in
    let within : k < length (get_or blocks n []) = omega (arith, g, ap length same) in
    ap (λ block. (slot_at t (get_or block k e)).trip.live) same
    ∙ sym (slot-live t (get_or (get_or blocks n []) k e))
    ∙ block-live (network_of t matrix) blocks blocking n k e within

-- a slot whose trip runs is one of the slots
pub live-within : (t : TimetableView) (s : ℕ) → (slot_at t s).trip.live ≡ true → s < length t.slots
live-within t s live = omega (arith, runs-within (trip_moves t.slots) s (slot-live t s ∙ live), length-map t.slots move_of_slot)

pub blocks-within : (t : TimetableView) (matrix : MatrixView) (blocks : List (List ℕ)) → IsBlocking (network_of t matrix) blocks
    → All (All (λ s. s < length t.slots)) blocks
blocks-within t matrix blocks blocking =
    λ n d h k e g. live-within t (get_or (get_or blocks n d) k e) (blocks-run t matrix blocks blocking n d h k e g)

-- the move of a trip takes time and arrives on the service day
pub slot-moves : (t : TimetableView) (s : ℕ) → IsTimetable t → s < length t.slots → IsMove (length t.places) (move_of (slot_at t s).trip)
slot-moves t s valid h = IsMove-trip t.places (slot_at t s).trip (valid.trips s _ h)

-- and so does each leg
pub legs-move : (t : TimetableView) (matrix : MatrixView) → IsTimetable t → HoldsOfLegs t matrix (λ leg. IsMove (length t.places) leg.way)
legs-move t matrix valid = record {
  trip = λ s live. slot-moves t s valid (live-within t s live);
  dead = λ i j minutes r h.
      let a = slot-moves t i valid (live-within t i r.first) in
      let b = slot-moves t j valid (live-within t j r.second) in
      record {
        from = a.to;
        to = b.from;
        forward = omega arith;
        in_day = omega (arith, r.in_time, b.forward, b.in_day);
      };
}

pub joined-move : (t : TimetableView) (matrix : MatrixView) (blocks : List (List ℕ)) → IsTimetable t
    → IsBlocking (network_of t matrix) blocks
    → All (IsMove (length t.places)) (joined_moves t matrix blocks)
unfolding joined_moves
joined-move t matrix blocks valid blocking =
    All-map (IsMove (length t.places)) (λ (leg : Leg). leg.way) (legs_in t matrix blocks)
    (all-in t matrix (λ leg. IsMove (length t.places) leg.way) (legs-move t matrix valid) blocks blocking.each
    (blocks-run t matrix blocks blocking))

-- a leg is no trip, or that of one of the slots
pub legs-within : (t : TimetableView) (matrix : MatrixView) → HoldsOfLegs t matrix (λ leg. IfSome leg.slot (λ s. s < length t.slots))
legs-within t matrix = record { trip = λ s live. live-within t s live; dead = λ i j minutes r h. tt }

-- the legs of a block, once no trip is left
pub legs-end : (t : TimetableView) (matrix : MatrixView) (i n : ℕ) (block : List ℕ) (legs : List Leg) → length block ≤ n
    → legs ++ legs_after t matrix i (drop n block) ≡ legs_of t matrix block → legs ≡ legs_of t matrix block
legs-end t matrix i n block legs h so_far = sym (append-nil legs)
    ∙ ap (λ rest. legs ++ legs_after t matrix i rest) (sym (drop_all n block h)) ∙ so_far

-- between two trips there is one deadhead at most
deadhead-one : (way : Option Move) → length (deadhead_legs way) ≤ 1
deadhead-one None = omega arith
deadhead-one (Some way) = omega arith

after-few : (t : TimetableView) (matrix : MatrixView) (i : ℕ) (js : List ℕ) → length (legs_after t matrix i js) ≤ 2 * length js
after-few t matrix i [] = omega arith
after-few t matrix i (j ∷ js) = omega (
  arith,
  length-append (deadhead_legs (deadhead_between t matrix i j)) (trip_leg t j ∷ legs_after t matrix j js),
  deadhead-one (deadhead_between t matrix i j),
  after-few t matrix j js,
)

in-few : (t : TimetableView) (matrix : MatrixView) (blocks : List (List ℕ)) → AllByRecursion (IsBlock (network_of t matrix)) blocks
    → length (legs_in t matrix blocks) + length blocks ≤ 2 * length (slots_in blocks)
in-few t matrix [] each = omega arith
in-few t matrix ([] ∷ blocks) each = absurd each.0
in-few t matrix ((i ∷ js) ∷ blocks) each = omega (
  arith,
  length-append (legs_of t matrix (i ∷ js)) (legs_in t matrix blocks),
  length-append (i ∷ js) (slots_in blocks),
  after-few t matrix i js,
  in-few t matrix blocks each.1,
)

-- no more slots stand in a blocking than there are
standing-few : (live : ℕ → Bool) (n : ℕ) (slots : List ℕ) → ((s : ℕ) → live s ≡ true → s < n) → StandsOnce live slots → length slots ≤ n
standing-few live n slots within stands = omega (
  arith,
  length-ones slots,
  length-ones (filter live (range_with_len 0 n)),
  sum_by-standing live (λ _. 1) slots (filter live (range_with_len 0 n)) stands (StandsOnce-filter_range live n within),
  length-filter live (range_with_len 0 n),
  count_by-le-length live (range_with_len 0 n),
  length-range_with_len 0 n,
)

few-legs : (legs blocks slots : ℕ) → legs + blocks ≤ 2 * slots → slots ≤ 4096 → (blocks ≡ 0 → legs ≡ 0) → legs ≤ 8191
few-legs legs blocks slots pairs few none =
    ⊎_elim (λ (e : blocks ≡ 0). omega (arith, none e)) (λ (ne : blocks ≡ 0 → ⊥). omega arith) (cases_eq blocks 0)

no-legs : (t : TimetableView) (matrix : MatrixView) (blocks : List (List ℕ)) → length blocks ≡ 0 → length (legs_in t matrix blocks) ≡ 0
no-legs t matrix [] none = refl
no-legs t matrix (block ∷ blocks) none = absurd (omega arith)

-- there are at most two legs for each trip, less one for each block
pub joined-few : (t : TimetableView) (matrix : MatrixView) (blocks : List (List ℕ)) → IsTimetable t
    → IsBlocking (network_of t matrix) blocks
    → length (joined_moves t matrix blocks) ≤ 8191
unfolding joined_moves
joined-few t matrix blocks valid blocking =
    let moves = trip_moves t.slots in
    let slots = standing-few (λ s. is_some (move_at moves s)) (length moves) (slots_in blocks) (runs-within moves) blocking.stands in
    let legs = few-legs (length (legs_in t matrix blocks)) (length blocks) (length (slots_in blocks))
    (in-few t matrix blocks blocking.each) (omega (arith, slots, length-map t.slots move_of_slot, valid.slots))
    (no-legs t matrix blocks) in
    omega (arith, legs, length-map (legs_in t matrix blocks) (λ (leg : Leg). leg.way))

-- the moves of all blocks
pub joined-all : (t : TimetableView) (matrix : MatrixView) (blocks : List (List ℕ)) (n : ℕ) (moves : List Move) → length blocks ≤ n
    → moves ≡ ways (legs_in t matrix (take n blocks))
    → moves ≡ joined_moves t matrix blocks
unfolding joined_moves
joined-all t matrix blocks n moves all so_far = so_far ∙ ap (λ bs. ways (legs_in t matrix bs)) (take_all n blocks all)
