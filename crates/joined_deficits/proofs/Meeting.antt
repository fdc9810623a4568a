-- Each block with its deadheads is one of moves that meet, so the blocks are blocks without deadheads of the joined moves.
use Rattle.std.proofs.Common.{◌≡◌, ℕ, zero, suc, ◌+◌, ◌<◌, ◌≤◌, ◌&&◌, Bool, true, cond, List, [], ◌∷◌, ◌++◌, length, get_or, map, filter}
use Rattle.std.proofs.Common.{Option, None, Some, if◌then◌else◌, refl, sym, ap, subst, ◌∙◌, arith}
use Rattle.std.specs.Prelude.{⊤}
use Rattle.std.specs.List.{AllByRecursion, range_with_len, flat_map}
use Rattle.std.specs.Option.{is_some}
use Rattle.std.proofs.lemmas.Bool.{eq-eqb, le-leb}
use Rattle.std.proofs.lemmas.List.{length-append, length-map, map-append, get_or-map, get_or_append_left, get_or-append-add}
use Rattle.std.proofs.lemmas.List.Elements.{All-contains}
use Rattle.std.proofs.lemmas.List.Sums.{sum_by-cons}
use Rattle.trip_model.specs.declared.trip.Move.{Move}
use Rattle.trip_model.specs.Blocking.{Follow, IsBlock, StandsOnce, slots_in, IsBlocking}
use Rattle.trip_model.specs.Plain.{move_at, meets, plain_network}
use Rattle.trip_model.specs.Timetable.{TimetableView, IsTimetable, slot_at}
use Rattle.trip_model.specs.Trip.{move_of}
use Rattle.trip_model.proofs.Counting.{StandsOnce-live_slots}
use Rattle.deadhead_matrix.specs.declared.entry.Entry.{Entry}
use Rattle.deadhead_matrix.specs.Fitting.{network_of}
use Rattle.deadhead_matrix.specs.Matrix.{MatrixView, walk, AreLeastWalks}
use Rattle.deadhead_matrix.specs.Walks.{IsWalk, walk_minutes, IsLeastWalk}
use Rattle.joined_deficits.specs.declared.legs.Leg.{Leg}
use Rattle.joined_deficits.specs.Joined.{trip_leg, legs_after, legs_of, legs_in, ways, joined_moves, TakeTime}
use Rattle.joined_deficits.proofs.LegLemmas.{reaches, deadhead-cases, dead_move, live-within, slot-moves}

-- a walk of no minutes leads nowhere, where every entry takes time
walk-nowhere : (entries es : List Entry) (a b : ℕ) → TakeTime entries → IsWalk entries a es b → walk_minutes es ≡ 0 → a ≡ b
walk-nowhere entries [] a b lasting is none = is
walk-nowhere entries (e ∷ es) a b lasting is none =
    absurd (omega (
      arith,
      none,
      sum_by-cons (λ (e : Entry). e.minutes) e es,
      All-contains (λ (e : Entry). 0 < e.minutes) entries e lasting
          is.0,
    ))

least-nowhere : (entries : List Entry) (a b : ℕ) (found : Option ℕ) → TakeTime entries → IsLeastWalk entries a b found → found ≡ Some 0
    → a ≡ b
least-nowhere entries a b found lasting least e = by (subst (IsLeastWalk entries a b) e least)
  where
    by : IsLeastWalk entries a b (Some 0) → a ≡ b
    by least = walk-nowhere entries least.reached.0 a b lasting least.reached.1 least.reached.2

-- a vehicle makes the moves one after the other, and each begins where and not before the one before it has ended
abbrev pub Meeting : Move → List Move → Type 0
Meeting a [] = ⊤
Meeting a (b ∷ bs) = (meets (Some a) (Some b) ≡ true) × Meeting b bs

pub meet-from : (a b : Move) → a.to ≡ b.from → a.arrives ≤ b.leaves → meets (Some a) (Some b) ≡ true
meet-from a b place minute = λ k. eq-eqb a.to b.from place k && le-leb a.arrives b.leaves minute k

-- the legs of a block are such moves
pub meeting-after : (t : TimetableView) (matrix : MatrixView) → IsTimetable t → AreLeastWalks matrix
    → length matrix.walks ≡ length t.places → TakeTime matrix.entries → (i : ℕ) (js : List ℕ)
    → Follow (network_of t matrix) i js → Meeting (move_of (slot_at t i).trip) (ways (legs_after t matrix i js))
meeting-after t matrix valid least count lasting i [] follow = tt
meeting-after t matrix valid least count lasting i (j ∷ js) follow =
    let r = reaches t matrix i j follow.0 in
    let a = move_of (slot_at t i).trip in
    let b = move_of (slot_at t j).trip in
    let rest = meeting-after t matrix valid least count lasting j js follow.1 in
    let from = slot-moves t i valid (live-within t i r.1.first) in
    let to = slot-moves t j valid (live-within t j r.1.second) in
    deadhead-cases (λ legs. Meeting a (ways (legs ++ trip_leg t j ∷ legs_after t matrix j js))) t matrix i j r.0 r.1
    (λ (none : r.0 ≡ 0).
    let same : a.to ≡ b.from = least-nowhere matrix.entries a.to b.from (walk matrix a.to b.from) lasting
    (least a.to b.from (omega (arith, from.to, count)) (omega (arith, to.from, count))) (r.1.walks ∙ ap Some none) in
    (meet-from a b same (omega (arith, r.1.in_time)), rest))
    (λ (some : 0 < r.0). (
      meet-from a (dead_move a b r.0) refl (let le : a.arrives ≤ a.arrives = omega arith in le),
      (meet-from (dead_move a b r.0) b refl r.1.in_time, rest),
    ))

-- moves that meet and stand one after the other in a list are a block of their places in it
follow-places : (all : List (Option Move)) (d : Move) (n : ℕ) (a : Move) (bs : List Move) → Meeting a bs
    → ((k : ℕ) → k < suc (length bs) → move_at all (n + k) ≡ Some (get_or (a ∷ bs) k d))
    → Follow (plain_network all) n (range_with_len (n + 1) (length bs))
follow-places all d n a [] meeting stands = tt
follow-places all d n a (b ∷ bs) meeting stands =
    let here : n + 0 ≡ n = omega arith in
    let first : move_at all n ≡ Some a = ap (move_at all) (sym here) ∙ stands 0 (omega arith) in
    let second : move_at all (n + 1) ≡ Some b = stands 1 (omega arith) in (
      ap (λ test. is_some {T = ℕ} (if test then Some 0 else None)) ((λ k. meets (first k) (second k)) ∙ meeting.0),
      follow-places all d (n + 1) b bs meeting.1
          (λ k h. ap (move_at all) (let e : n + 1 + k ≡ n + suc k = omega arith in e) ∙ stands (suc k) (omega arith)),
    )

-- lists of moves, of which each is one of moves that meet
abbrev pub IsRun : List Move → Type 0
IsRun [] = ⊥
IsRun (a ∷ bs) = Meeting a bs

-- the moves of all lists
abbrev pub flat : List (List Move) → List Move
flat runs = flat_map (λ run. run) runs

-- the places of lists of moves that stand one after the other from a place on
abbrev pub places_from : ℕ → List (List Move) → List (List ℕ)
places_from n [] = []
places_from n (run ∷ runs) = range_with_len n (length run) ∷ places_from (n + length run) runs

pub length-places : (n : ℕ) (runs : List (List Move)) → length (places_from n runs) ≡ length runs
length-places n [] = refl
length-places n (run ∷ runs) = ap suc (length-places (n + length run) runs)

each-place : (all : List (Option Move)) (d : Move) (n : ℕ) (runs : List (List Move)) → AllByRecursion IsRun runs
    → ((k : ℕ) → k < length (flat runs) → move_at all (n + k) ≡ Some (get_or (flat runs) k d))
    → AllByRecursion (IsBlock (plain_network all)) (places_from n runs)
each-place all d n [] are stands = tt
each-place all d n ([] ∷ runs) are stands = absurd are.0
each-place all d n ((a ∷ bs) ∷ runs) are stands =
    let len = length-append (a ∷ bs) (flat runs) in (
      follow-places all d n a bs are.0 (λ k h. stands k (omega arith) ∙ ap Some (get_or_append_left (a ∷ bs) (flat runs) d k h)),
      each-place all d (n + length (a ∷ bs)) runs are.1 (λ k h.
          ap (move_at all) (let e : n + length (a ∷ bs) + k ≡ n + (length (a ∷ bs) + k) = omega arith in e)
          ∙ stands (length (a ∷ bs) + k) (omega arith)
          ∙ ap Some (get_or-append-add (a ∷ bs) (flat runs) k d)),
    )

-- numbers in a row, in two parts
range-parts : (n a b : ℕ) → range_with_len n (a + b) ≡ range_with_len n a ++ range_with_len (n + a) b
range-parts n zero b =
    let none : zero + b ≡ b = omega arith in
    let here : n ≡ n + zero = omega arith in
    ap (range_with_len n) none ∙ ap (λ m. range_with_len m b) here
range-parts n (suc a) b =
    let more : suc a + b ≡ suc (a + b) = omega arith in
    let on : n + 1 + a ≡ n + suc a = omega arith in
    ap (range_with_len n) more ∙ ap (λ rest. n ∷ rest)
    (range-parts (n + 1) a b ∙ ap (λ m. range_with_len (n + 1) a ++ range_with_len m b) on)

slots-places : (n : ℕ) (runs : List (List Move)) → slots_in (places_from n runs) ≡ range_with_len n (length (flat runs))
slots-places n [] = refl
slots-places n (run ∷ runs) =
    ap (λ rest. range_with_len n (length run) ++ rest) (slots-places (n + length run) runs)
    ∙ sym (range-parts n (length run) (length (flat runs)))
    ∙ ap (range_with_len n) (sym (length-append run (flat runs)))

-- a test that all numbers in a row pass keeps them
filter-range : (p : ℕ → Bool) (n a : ℕ) → ((k : ℕ) → k < a → p (n + k) ≡ true) → filter p (range_with_len n a) ≡ range_with_len n a
filter-range p n zero pass = refl
filter-range p n (suc a) pass =
    let here : n + 0 ≡ n = omega arith in
    let rest = filter-range p (n + 1) a (λ k h. ap p (let e : n + 1 + k ≡ n + suc k = omega arith in e) ∙ pass (suc k) (omega arith)) in
    ap (λ test. cond test (n ∷ filter p (range_with_len (n + 1) a)) (filter p (range_with_len (n + 1) a)))
    (ap p (sym here) ∙ pass 0 (omega arith)) ∙ ap (λ ns. n ∷ ns) rest

-- what stands at a place of moves that are all made
pub made-at : (moves : List Move) (d : Move) (k : ℕ) → k < length moves → move_at (map Some moves) k ≡ Some (get_or moves k d)
made-at moves d k h = get_or-map Some moves k d None h

pub stands-all : (moves : List Move) → StandsOnce (λ s. is_some (move_at (map Some moves) s)) (range_with_len 0 (length moves))
stands-all moves =
    let len = length-map moves Some in
    let passes : (k : ℕ) → k < length (map Some moves) → is_some (move_at (map Some moves) (0 + k)) ≡ true =
    λ k h. ap (λ n. is_some (move_at (map Some moves) n)) (let e : 0 + k ≡ k = omega arith in e)
    ∙ ap is_some (made-at moves (record { from = 0; to = 0; leaves = 0; arrives = 0 }) k (omega arith)) in
    subst (StandsOnce (λ s. is_some (move_at (map Some moves) s)))
    (filter-range (λ s. is_some (move_at (map Some moves) s)) 0 (length (map Some moves)) passes ∙ ap (range_with_len 0) len)
    (StandsOnce-live_slots (map Some moves))

-- lists of moves that meet are a blocking of all of them
pub IsBlocking-places : (runs : List (List Move)) → AllByRecursion IsRun runs
    → IsBlocking (plain_network (map Some (flat runs))) (places_from 0 runs)
IsBlocking-places runs are =
    let d : Move = record { from = 0; to = 0; leaves = 0; arrives = 0 } in
    record {
      stands = subst (StandsOnce (λ s. is_some (move_at (map Some (flat runs)) s))) (sym (slots-places 0 runs)) (stands-all (flat runs));
      each = each-place (map Some (flat runs)) d 0 runs are
          (λ k h. ap (move_at (map Some (flat runs))) (let e : 0 + k ≡ k = omega arith in e) ∙ made-at (flat runs) d k h);
    }

-- the moves of each block
abbrev pub runs_of : TimetableView → MatrixView → List (List ℕ) → List (List Move)
runs_of t matrix blocks = map (λ block. ways (legs_of t matrix block)) blocks

flat-runs : (t : TimetableView) (matrix : MatrixView) (blocks : List (List ℕ))
    → ways (legs_in t matrix blocks) ≡ flat (runs_of t matrix blocks)
flat-runs t matrix [] = refl
flat-runs t matrix (block ∷ blocks) =
    map-append (λ (leg : Leg). leg.way) (legs_of t matrix block) (legs_in t matrix blocks)
    ∙ ap (λ rest. ways (legs_of t matrix block) ++ rest) (flat-runs t matrix blocks)

are-runs : (t : TimetableView) (matrix : MatrixView) → IsTimetable t → AreLeastWalks matrix → length matrix.walks ≡ length t.places
    → TakeTime matrix.entries → (blocks : List (List ℕ))
    → AllByRecursion (IsBlock (network_of t matrix)) blocks → AllByRecursion IsRun (runs_of t matrix blocks)
are-runs t matrix valid least count lasting [] each = tt
are-runs t matrix valid least count lasting ([] ∷ blocks) each = absurd each.0
are-runs t matrix valid least count lasting ((i ∷ js) ∷ blocks) each =
    (meeting-after t matrix valid least count lasting i js each.0, are-runs t matrix valid least count lasting blocks each.1)

-- the blocks are a blocking without deadheads of the joined moves
pub joined-blocking : (t : TimetableView) (matrix : MatrixView) (blocks : List (List ℕ)) → IsTimetable t → AreLeastWalks matrix
    → length matrix.walks ≡ length t.places → TakeTime matrix.entries
    → IsBlocking (network_of t matrix) blocks
    → (places : List (List ℕ)) × IsBlocking (plain_network (map Some (joined_moves t matrix blocks))) places
    × (length places ≡ length blocks)
unfolding joined_moves
joined-blocking t matrix blocks valid least count lasting blocking =
    let runs = runs_of t matrix blocks in (
      places_from 0 runs,
      subst (λ moves. IsBlocking (plain_network (map Some moves)) (places_from 0 runs)) (sym (flat-runs t matrix blocks))
          (IsBlocking-places runs (are-runs t matrix valid least count lasting blocks blocking.each)),
      length-places 0 runs ∙ length-map blocks (λ block. ways (legs_of t matrix block)),
    )
