-- The links of the rule leave as many blocks as the sum of the maxima, and no more.
use Rattle.std.proofs.Common.{◌≡◌, ◌≢◌, ℕ, zero, suc, ◌+◌, ◌<◌, ◌≤◌, ◌==◌, ◌&&◌, nat_le, Bool, true, false, cond, List, [], ◌∷◌, ◌++◌}
use Rattle.std.proofs.Common.{length, set, replicate, fold, sum_by, Option, None, Some, if◌then◌else◌, refl, sym, ap, subst, ◌∙◌}
use Rattle.std.proofs.Common.{append_assoc, ⊎_elim, arith}
use Rattle.std.specs.List.{AllByRecursion}
use Rattle.std.specs.Option.{is_some, is_none}
use Rattle.std.proofs.lemmas.Bool.{cases_eq, cases_lt, eq-eqb, ne_eqb, and_parts, and_from, eqb-true, le-leb, false≢true}
use Rattle.std.proofs.lemmas.List.{length-set, length-replicate, get_or-replicate, get_or-set_same, get_or-set_other, get_or_past}
use Rattle.std.proofs.lemmas.List.{append-nil}
use Rattle.std.proofs.lemmas.List.Sums.{sum_by-cons, sum_by-append, sum_by_push}
use Rattle.std.proofs.lemmas.Option.{none-some, same_Some}
use Rattle.trip_model.specs.declared.trip.Move.{Move}
use Rattle.trip_model.specs.Blocking.{times, IsBlocking}
use Rattle.trip_model.specs.Deficit.{departures}
use Rattle.trip_model.specs.Links.{next_of, AreLinks, link_count, blocks_along}
use Rattle.trip_model.specs.Network.{Fits}
use Rattle.trip_model.specs.Order.{minute_left, by_departure, RiseBy}
use Rattle.trip_model.specs.Plain.{move_at, made, meets, plain_network, AreMoves}
use Rattle.trip_model.proofs.Chains.{IsBlocking-blocks_along, blocks-and-links}
use Rattle.trip_model.proofs.Counting.{sum_below, sum_below-le, sum_below-add, sum_below-same, sum_below-zero, sum_below-raised}
use Rattle.trip_model.proofs.Counting.{sum_below-list, sum_below-made, over, sum_by-made_standing, runs-within}
use Rattle.trip_model.proofs.OrderLemmas.{StandsOnce-by_departure, RiseBy-by_departure}
use Rattle.trip_model.proofs.PlainLemmas.{AreDepartures-plain}
use Rattle.fixed_fleet.specs.Rule.{forerunner, with_link, first_in_first_out, IsForerunner}
use Rattle.fixed_fleet.proofs.Forerunners.{IsForerunner-forerunner}
use Rattle.fixed_fleet.proofs.LeastNumber.{leaves_by, arrives_by, begins_at, AreMaxima, maximum-bounds, sum-le-blocks}

-- 1 for a move that ends at a place, and else 0
abbrev stops_at : ℕ → Move → ℕ
stops_at k m = cond (m.to == k) 1 0

-- how many of the slots with a next trip end at a place
abbrev used : List (Option Move) → List (Option ℕ) → ℕ → ℕ
used moves links k = sum_below (λ s. cond (is_some (next_of links s)) (over (stops_at k) (move_at moves s)) 0) (length moves)

-- the links after the trips of `done` were given their forerunners, where `high` are the maxima
record IsState (moves : List (Option Move)) (high : ℕ → ℕ) (done : List ℕ) (links : List (Option ℕ)) : Type 0 where
  len : length links ≡ length moves
  fits : (i j : ℕ) → next_of links i ≡ Some j → Fits (plain_network moves) i j
  once : (h i j : ℕ) → next_of links h ≡ Some j → next_of links i ≡ Some j → h ≡ i
  linked : (i j : ℕ) → next_of links i ≡ Some j → 0 < times j done
  supply : (k : ℕ) → sum_by (λ s. over (begins_at k) (move_at moves s)) done ≤ used moves links k + high k

times-more : (j s : ℕ) (done : List ℕ) → times j (done ++ s ∷ []) ≡ times j done + cond (s == j) 1 0
times-more j s done = sum_by_push (λ x. cond (x == j) 1 0) done s

-- where no vehicle is free, each that has come to the place in time has gone on
none-free : (moves : List (Option Move)) (links : List (Option ℕ)) (j : ℕ) (b : Move) → move_at moves j ≡ Some b
    → IsForerunner moves links j None
    → (s : ℕ) → s < length moves → over (arrives_by b.from b.leaves) (move_at moves s) ≤ cond (is_some (next_of links s))
    (over (stops_at b.from) (move_at moves s)) 0
none-free moves links j b here none s h = by (move_at moves s) refl (next_of links s) refl
  where
    free : (a : Move) → (t : Bool) → ((a.to == b.from) && nat_le a.arrives b.leaves) ≡ t → ((meets (Some a) (Some b) ≡ true) → ⊥)
        → ◌≤◌ (cond t 1 0) 0
    free a true e never = absurd (never e)
    free a false e never = omega arith

    gone : (x y : Bool) → ◌≤◌ (cond (x && y) 1 0) (cond x 1 0)
    gone true true = omega arith
    gone true false = omega arith
    gone false y = omega arith

    by : (m : Option Move) → move_at moves s ≡ m → (next : Option ℕ) → next_of links s ≡ next
        → over (arrives_by b.from b.leaves) m ≤ cond (is_some next) (over (stops_at b.from) m) 0
    by None e next goes = omega arith
    by (Some a) e (Some n) goes = gone (a.to == b.from) (nat_le a.arrives b.leaves)
    by (Some a) e None goes = free a _ refl
        (λ meet. none s h (and_from (is_none (next_of links s)) _ (ap is_none goes) ((λ i. meets (e i) (here i)) ∙ meet)))

-- a trip without a forerunner
state-none : (moves : List (Option Move)) (high : ℕ → ℕ) (done : List ℕ) (links : List (Option ℕ)) (j : ℕ) (b : Move)
    → AreMaxima (made moves) high → IsState moves high done links
    → move_at moves j ≡ Some b → b.leaves ≤ 8191
    → sum_by (λ s. over (begins_at b.from) (move_at moves s)) (done ++ j ∷ []) ≤ departures (made moves) b.from b.leaves
    → IsForerunner moves links j None → IsState moves high (done ++ j ∷ []) links
state-none moves high done links j b are state here in_day demand none = record {
  len = state.len;
  fits = state.fits;
  once = state.once;
  linked = λ i n e. omega (arith, times-more n j done, state.linked i n e);
  supply = λ k. ⊎_elim
      (λ (same : b.from ≡ k). subst (λ k. sum_by (λ s. over (begins_at k) (move_at moves s)) (done ++ j ∷ []) ≤ used moves links k + high
      k) same enough)
      (λ (other : b.from ≡ k → ⊥).
      let no_more : over (begins_at k) (move_at moves j) ≡ 0 = ap (over (begins_at k)) here
      ∙ ap (λ t. cond t 1 0) (ne_eqb b.from k other) in
      omega (arith, sum_by_push (λ s. over (begins_at k) (move_at moves s)) done j, no_more, state.supply k))
      (cases_eq b.from k);
}
  where
    enough : sum_by (λ s. over (begins_at b.from) (move_at moves s)) (done ++ j ∷ []) ≤ used moves links b.from + high b.from
    enough =
        let come = sum_below-made (arrives_by b.from b.leaves) moves in
        let gone = sum_below-le (λ s. over (arrives_by b.from b.leaves) (move_at moves s))
        (λ s. cond (is_some (next_of links s)) (over (stops_at b.from) (move_at moves s)) 0) (length moves)
        (none-free moves links j b here none) in
        omega (arith, demand, come, gone, maximum-bounds (made moves) high are b.from b.leaves in_day)

-- the next trip of a slot after one link more
pub next-set : (links : List (Option ℕ)) (i j s : ℕ) → i < length links → s ≡ i → next_of (set links i (Some j)) s ≡ Some j
next-set links i j s h same = ap (next_of (set links i (Some j))) same ∙ get_or-set_same links i (Some j) None h

pub next-kept : (links : List (Option ℕ)) (i j s : ℕ) → s ≢ i → next_of (set links i (Some j)) s ≡ next_of links s
next-kept links i j s other = get_or-set_other links i s (Some j) None other

-- two moves that meet, where the second is known
meet-place : (m : Option Move) (b : Move) → meets m (Some b) ≡ true → (a : Move) × (m ≡ Some a) × (a.to ≡ b.from)
meet-place None b e = absurd (false≢true e)
meet-place (Some a) b e = (a, refl, eqb-true a.to b.from (and_parts (a.to == b.from) (nat_le a.arrives b.leaves) e).0)

plain-fits : (moves : List (Option Move)) (i j : ℕ) → meets (move_at moves i) (move_at moves j) ≡ true → Fits (plain_network moves) i j
plain-fits moves i j e = ap (λ t. is_some {T = ℕ} (if t then Some 0 else None)) e

pub no_next : (next : Option ℕ) → is_none next ≡ true → next ≡ None
no_next None e = refl
no_next (Some j) e = absurd (false≢true e)

-- a trip with a forerunner
state-some : (moves : List (Option Move)) (high : ℕ → ℕ) (done : List ℕ) (links : List (Option ℕ)) (j i : ℕ) (b : Move)
    → IsState moves high done links
    → move_at moves j ≡ Some b → times j done ≡ 0 → IsForerunner moves links j (Some i)
    → IsState moves high (done ++ j ∷ []) (set links i (Some j))
state-some moves high done links j i b state here new found =
    let parts = and_parts (is_none (next_of links i)) (meets (move_at moves i) (move_at moves j)) found.1 in
    let free : next_of links i ≡ None = no_next (next_of links i) parts.0 in
    let within : i < length links = omega (arith, state.len, found.0) in
    let unlinked : (h : ℕ) → next_of links h ≡ Some j → ⊥ = λ h e. omega (arith, state.linked h j e, new) in
    let meet = meet-place (move_at moves i) b (ap (meets (move_at moves i)) (sym here) ∙ parts.1) in
    let more : (n : ℕ) → times n (done ++ j ∷ []) ≡ times n done + cond (j == n) 1 0 = λ n. times-more n j done in
    record {
      len = length-set links i (Some j) ∙ state.len;
      fits = λ h n e. ⊎_elim
          (λ (same : h ≡ i).
          let is : j ≡ n = same_Some j n (sym (next-set links i j h within same) ∙ e) in
          subst (λ h. Fits (plain_network moves) h n) (sym same)
          (subst (λ n. Fits (plain_network moves) i n) is (plain-fits moves i j parts.1)))
          (λ (other : h ≡ i → ⊥). state.fits h n (sym (next-kept links i j h other) ∙ e))
          (cases_eq h i);
      once = λ g h n e f. ⊎_elim
          (λ (same : g ≡ i). ⊎_elim
          (λ (too : h ≡ i). same ∙ sym too)
          (λ (other : h ≡ i → ⊥).
          let is : j ≡ n = same_Some j n (sym (next-set links i j g within same) ∙ e) in
          absurd (unlinked h (sym (next-kept links i j h other) ∙ f ∙ ap Some (sym is))))
          (cases_eq h i))
          (λ (other : g ≡ i → ⊥). ⊎_elim
          (λ (same : h ≡ i).
          let is : j ≡ n = same_Some j n (sym (next-set links i j h within same) ∙ f) in
          absurd (unlinked g (sym (next-kept links i j g other) ∙ e ∙ ap Some (sym is))))
          (λ (too : h ≡ i → ⊥). state.once g h n (sym (next-kept links i j g other) ∙ e) (sym (next-kept links i j h too) ∙ f))
          (cases_eq h i))
          (cases_eq g i);
      linked = λ h n e. ⊎_elim
          (λ (same : h ≡ i).
          let is : j ≡ n = same_Some j n (sym (next-set links i j h within same) ∙ e) in
          let one : ◌≡◌ {A = ℕ} (cond (j == n) 1 0) 1 = ap (λ t. cond t 1 0) (eq-eqb j n is) in
          omega (arith, more n, one))
          (λ (other : h ≡ i → ⊥). omega (arith, more n, state.linked h n (sym (next-kept links i j h other) ∙ e)))
          (cases_eq h i);
      supply = λ k.
          let old : ℕ → ℕ = λ s. cond (is_some (next_of links s)) (over (stops_at k) (move_at moves s)) 0 in
          let now : ℕ → ℕ = λ s. cond (is_some (next_of (set links i (Some j)) s)) (over (stops_at k) (move_at moves s)) 0 in
          let was : old i ≡ 0 = ap (λ n. cond (is_some n) (over (stops_at k) (move_at moves i)) 0) free in
          let is : now i ≡ over (stops_at k) (move_at moves i) =
          ap (λ n. cond (is_some n) (over (stops_at k) (move_at moves i)) 0) (next-set links i j i within refl) in
          let raised = sum_below-raised old now (length moves) i (over (stops_at k) (move_at moves i)) found.0 (omega (arith, was, is))
          (λ s other. ap (λ n. cond (is_some n) (over (stops_at k) (move_at moves s)) 0) (next-kept links i j s other)) in
          let stops : over (stops_at k) (move_at moves i) ≡ over (begins_at k) (move_at moves j) =
          ap (over (stops_at k)) meet.1 ∙ ap (λ p. cond (p == k) 1 0) meet.2 ∙ sym (ap (over (begins_at k)) here) in
          omega (arith, sum_by_push (λ s. over (begins_at k) (move_at moves s)) done j, raised, stops, state.supply k);
    }

state-step : (moves : List (Option Move)) (high : ℕ → ℕ) (done : List ℕ) (links : List (Option ℕ)) (j : ℕ) (b : Move)
    → AreMaxima (made moves) high → IsState moves high done links
    → move_at moves j ≡ Some b → b.leaves ≤ 8191 → times j done ≡ 0
    → sum_by (λ s. over (begins_at b.from) (move_at moves s)) (done ++ j ∷ []) ≤ departures (made moves) b.from b.leaves
    → (found : Option ℕ) → IsForerunner moves links j found → IsState moves high (done ++ j ∷ []) (with_link links found j)
state-step moves high done links j b are state here in_day new demand None is =
    state-none moves high done links j b are state here in_day demand is
state-step moves high done links j b are state here in_day new demand (Some i) is = state-some moves high done links j i b state here new is

-- what holds of all elements holds of one in the middle
all-middle : (P : ℕ → Type 0) (front : List ℕ) (x : ℕ) (rest : List ℕ) → AllByRecursion P (front ++ x ∷ rest) → P x
all-middle P [] x rest all = all.0
all-middle P (y ∷ front) x rest all = all-middle P front x rest all.1

-- those before a slot have no greater key
rise-front : (key : ℕ → ℕ) (front : List ℕ) (x : ℕ) (rest : List ℕ) → RiseBy key (front ++ x ∷ rest)
    → AllByRecursion (λ y. key y ≤ key x) (front ++ x ∷ [])
rise-front key [] x rest rise = ((let le : key x ≤ key x = omega arith in le), tt)
rise-front key (y ∷ front) x rest rise = (all-middle (λ z. key y ≤ key z) front x rest rise.0, rise-front key front x rest rise.1)

sum-le-all : (f g : ℕ → ℕ) (P : ℕ → Type 0) → ((s : ℕ) → P s → f s ≤ g s) → (xs : List ℕ) → AllByRecursion P xs → sum_by f xs ≤ sum_by g xs
sum-le-all f g P le [] all = omega arith
sum-le-all f g P le (x ∷ xs) all = omega (arith, sum_by-cons f x xs, sum_by-cons g x xs, le x all.0, sum-le-all f g P le xs all.1)

-- a move that has left by a minute
begins-leaves : (k t : ℕ) (m : Option Move) → minute_left m ≤ t → over (begins_at k) m ≤ over (leaves_by k t) m
begins-leaves k t None h = omega arith
begins-leaves k t (Some a) h = by (a.from == k) (nat_le a.leaves t) (le-leb a.leaves t h)
  where
    by : (x y : Bool) → y ≡ true → ◌≤◌ (cond x 1 0) (cond (x && y) 1 0)
    by true true e = omega arith
    by true false e = absurd (false≢true e)
    by false y e = omega arith

live-move : (m : Option Move) → is_some m ≡ true → (b : Move) × (m ≡ Some b)
live-move None e = absurd (false≢true e)
live-move (Some b) e = (b, refl)

live-one : (live : Bool) → 0 < cond live 1 0 → live ≡ true
live-one true h = refl
live-one false h = absurd (omega arith)

-- trip by trip, to the end of the order
state-run : (places : ℕ) (moves : List (Option Move)) (high : ℕ → ℕ) → AreMoves places moves → AreMaxima (made moves) high
    → (rest done : List ℕ) (links : List (Option ℕ))
    → by_departure moves ≡ done ++ rest → IsState moves high done links
    → IsState moves high (by_departure moves) (fold (λ links j. with_link links (forerunner moves links j) j) links rest)
state-run places moves high moving are [] done links is state = subst (λ xs. IsState moves high xs links) (sym (is ∙ append-nil done)) state
state-run places moves high moving are (j ∷ rest) done links is state =
    let stands = StandsOnce-by_departure moves in
    let count : times j (by_departure moves) ≡ times j done + times j (j ∷ rest) = ap (times j) is
    ∙ sum_by-append (λ x. cond (x == j) 1 0) done (j ∷ rest) in
    let mine : ◌≡◌ {A = ℕ} (cond (j == j) 1 0) 1 = ap (λ t. cond t 1 0) (eq-eqb j j refl) in
    let here = sum_by-cons (λ x. cond (x == j) 1 0) j rest in
    let live = live-one (is_some (move_at moves j)) (omega (arith, stands.once j, count, mine, here)) in
    let b = live-move (move_at moves j) live in
    let one : ◌≡◌ {A = ℕ} (cond (is_some (move_at moves j)) 1 0) 1 = ap (λ t. cond t 1 0) live in
    let new : times j done ≡ 0 = omega (arith, stands.once j, count, mine, here, one) in
    let move = moving.each j b.0 b.1 in
    let minute : minute_left (move_at moves j) ≡ b.0.leaves = ap minute_left b.1 in
    let rise = rise-front (λ s. minute_left (move_at moves s)) done j rest
    (subst (RiseBy (λ s. minute_left (move_at moves s))) is (RiseBy-by_departure moves)) in
    let so_far = sum-le-all (λ s. over (begins_at b.0.from) (move_at moves s))
    (λ s. over (leaves_by b.0.from b.0.leaves) (move_at moves s)) (λ s. minute_left (move_at moves s) ≤ minute_left (move_at moves j))
    (λ s h. begins-leaves b.0.from b.0.leaves (move_at moves s) (omega (arith, h, minute))) (done ++ j ∷ []) rise in
    let all = sum_by-made_standing (leaves_by b.0.from b.0.leaves) moves (by_departure moves) stands in
    let regroup : by_departure moves ≡ (done ++ j ∷ []) ++ rest = is ∙ sym (append_assoc done (j ∷ []) rest) in
    let split = ap (sum_by (λ s. over (leaves_by b.0.from b.0.leaves) (move_at moves s))) regroup
    ∙ sum_by-append (λ s. over (leaves_by b.0.from b.0.leaves) (move_at moves s)) (done ++ j ∷ []) rest in
    let in_day : b.0.leaves ≤ 8191 = omega (arith, move.forward, move.in_day) in
    let demand : sum_by (λ s. over (begins_at b.0.from) (move_at moves s)) (done ++ j ∷ []) ≤ departures (made moves) b.0.from b.0.leaves =
    omega (arith, so_far, all, split) in
    state-run places moves high moving are rest (done ++ j ∷ []) (with_link links (forerunner moves links j) j) regroup
    (state-step moves high done links j b.0 are state b.1 in_day new demand (forerunner moves links j)
    (IsForerunner-forerunner moves links j))

pub none-linked : (n i : ℕ) → next_of (replicate n None) i ≡ None
none-linked n i = ⊎_elim
    (λ (h : i < n). get_or-replicate n i None None h)
    (λ (h : n ≤ i). get_or_past (replicate n None) i None (omega (arith, length-replicate {A = Option ℕ} n None)))
    (cases_lt i n)

-- the links of the rule
fifo-state : (places : ℕ) (moves : List (Option Move)) (high : ℕ → ℕ) → AreMoves places moves → AreMaxima (made moves) high
    → IsState moves high (by_departure moves) (first_in_first_out moves)
unfolding first_in_first_out
fifo-state places moves high moving are =
    state-run places moves high moving are (by_departure moves) [] (replicate (length moves) None) refl (record {
      len = length-replicate (length moves) None;
      fits = λ i j e. absurd (none-some j (sym (none-linked (length moves) i) ∙ e));
      once = λ h i j e f. absurd (none-some j (sym (none-linked (length moves) h) ∙ e));
      linked = λ i j e. absurd (none-some j (sym (none-linked (length moves) i) ∙ e));
      supply = λ k. omega arith;
    })

-- links of trips that meet, none of which is the next of two
pub AreLinks-fifo : (places : ℕ) (moves : List (Option Move)) (high : ℕ → ℕ) → AreMoves places moves → AreMaxima (made moves) high
    → AreLinks (plain_network moves) (first_in_first_out moves)
AreLinks-fifo places moves high moving are =
    let state = fifo-state places moves high moving are in record { fits = state.fits; once = state.once }

-- the sums over places and slots, either way round
sum_below-swap : (f : ℕ → ℕ → ℕ) (m n : ℕ) → sum_below (λ k. sum_below (f k) n) m ≡ sum_below (λ s. sum_below (λ k. f k s) m) n
sum_below-swap f m zero = sum_below-zero (λ k. 0) m (λ s h. refl)
sum_below-swap f m (suc n) = sum_below-add (λ k. sum_below (f k) n) (λ k. f k n) m
    ∙ ap (λ x. x + sum_below (λ k. f k n) m) (sum_below-swap f m n)

one_stop : (a n : ℕ) → sum_below (λ k. cond (a == k) 1 0) n ≤ 1
one_stop a zero = omega arith
one_stop a (suc n) = ⊎_elim
    (λ (e : a ≡ n).
    let none = sum_below-zero (λ k. cond (a == k) 1 0) n (λ k h. ap (λ t. cond t 1 0) (ne_eqb a k (let ne : a ≢ k = omega arith in ne))) in
    let one : ◌≡◌ {A = ℕ} (cond (a == n) 1 0) 1 = ap (λ t. cond t 1 0) (eq-eqb a n e) in
    omega (arith, none, one))
    (λ (ne : a ≡ n → ⊥).
    let none : ◌≡◌ {A = ℕ} (cond (a == n) 1 0) 0 = ap (λ t. cond t 1 0) (ne_eqb a n ne) in
    omega (arith, one_stop a n, none))
    (cases_eq a n)

stops-below : (n : ℕ) (next : Option ℕ) (m : Option Move)
    → sum_below (λ k. cond (is_some next) (over (stops_at k) m) 0) n ≤ cond (is_some next) 1 0
stops-below n None m = omega (arith, sum_below-zero (λ k. 0) n (λ s h. refl))
stops-below n (Some j) None = omega (arith, sum_below-zero (λ k. 0) n (λ s h. refl))
stops-below n (Some j) (Some a) = one_stop a.to n

-- as many slots are used, over all places, as there are links
used-all : (moves : List (Option Move)) (links : List (Option ℕ)) (places : ℕ) → length links ≡ length moves
    → sum_below (used moves links) places ≤ link_count links
used-all moves links places len =
    let each = sum_below-le (λ s. sum_below (λ k. cond (is_some (next_of links s)) (over (stops_at k) (move_at moves s)) 0) places)
    (λ s. cond (is_some (next_of links s)) 1 0) (length moves)
    (λ s h. stops-below places (next_of links s) (move_at moves s)) in
    let count : sum_below (λ s. cond (is_some (next_of links s)) 1 0) (length moves) ≡ link_count links =
    ap (sum_below (λ s. cond (is_some (next_of links s)) 1 0)) (sym len) ∙ sum_below-list (λ n. cond (is_some n) 1 0) links None in
    omega (
      arith,
      sum_below-swap (λ k s. cond (is_some (next_of links s)) (over (stops_at k) (move_at moves s)) 0) places (length moves),
      each,
      count,
    )

-- a slot that stands in a list
all-standing : (P : ℕ → Type 0) (xs : List ℕ) → ((s : ℕ) → 0 < times s xs → P s) → AllByRecursion P xs
all-standing P [] each = tt
all-standing P (x ∷ xs) each =
    let mine : ◌≡◌ {A = ℕ} (cond (x == x) 1 0) 1 = ap (λ t. cond t 1 0) (eq-eqb x x refl) in (
      each x (omega (arith, sum_by-cons (λ y. cond (y == x) 1 0) x xs, mine)),
      all-standing P xs (λ s h. each s (omega (arith, sum_by-cons (λ y. cond (y == s) 1 0) x xs, h))),
    )

term-below : (f : ℕ → ℕ) (n i : ℕ) → i < n → f i ≤ sum_below f n
term-below f zero i h = absurd (omega arith)
term-below f (suc n) i h = ⊎_elim
    (λ (e : i ≡ n). let same : f i ≡ f n = ap f e in omega (arith, same))
    (λ (ne : i ≡ n → ⊥). omega (arith, term-below f n i (omega arith)))
    (cases_eq i n)

begins-once : (places : ℕ) (m : Option Move) (b : Move) → m ≡ Some b → b.from < places → 1 ≤ sum_below (λ k. over (begins_at k) m) places
begins-once places m b is within =
    let mine : over (begins_at b.from) m ≡ 1 = ap (over (begins_at b.from)) is ∙ ap (λ t. cond t 1 0) (eq-eqb b.from b.from refl) in
    omega (arith, term-below (λ k. over (begins_at k) m) places b.from within, mine)

-- each slot begins at one of the places
begins-all : (moves : List (Option Move)) (places : ℕ) (xs : List ℕ)
    → AllByRecursion (λ s. 1 ≤ sum_below (λ k. over (begins_at k) (move_at moves s)) places) xs
    → length xs ≤ sum_below (λ k. sum_by (λ s. over (begins_at k) (move_at moves s)) xs) places
begins-all moves places [] all = omega arith
begins-all moves places (x ∷ xs) all =
    let same = sum_below-same (λ k. sum_by (λ s. over (begins_at k) (move_at moves s)) (x ∷ xs))
    (λ k. over (begins_at k) (move_at moves x) + sum_by (λ s. over (begins_at k) (move_at moves s)) xs) places
    (λ k h. sum_by-cons (λ s. over (begins_at k) (move_at moves s)) x xs) in
    omega (
      arith,
      same,
      sum_below-add (λ k. over (begins_at k) (move_at moves x))
          (λ k. sum_by (λ s. over (begins_at k) (move_at moves s)) xs) places,
      all.0,
      begins-all moves places xs all.1,
    )

-- there are at most as many trips as links and the sum of the maxima
trips-le : (places : ℕ) (moves : List (Option Move)) (high : ℕ → ℕ) → AreMoves places moves → AreMaxima (made moves) high
    → length (by_departure moves) ≤ link_count (first_in_first_out moves) + sum_below high places
trips-le places moves high moving are =
    let state = fifo-state places moves high moving are in
    let order = by_departure moves in
    let stands = StandsOnce-by_departure moves in
    let begin = all-standing (λ s. 1 ≤ sum_below (λ k. over (begins_at k) (move_at moves s)) places) order (λ s h.
    let b = live-move (move_at moves s) (live-one (is_some (move_at moves s)) (omega (arith, stands.once s, h))) in
    begins-once places (move_at moves s) b.0 b.1 (moving.each s b.0 b.1).from) in
    omega (
      arith,
      begins-all moves places order begin,
      sum_below-le (λ k. sum_by (λ s. over (begins_at k) (move_at moves s)) order) (λ k. used moves (first_in_first_out moves) k + high k)
          places (λ k h. state.supply k),
      sum_below-add (used moves (first_in_first_out moves)) high places,
      used-all moves (first_in_first_out moves) places state.len,
    )

-- the blocks of the rule, and how many there are
pub blocks-fifo : (places : ℕ) (moves : List (Option Move)) (high : ℕ → ℕ) → AreMoves places moves → AreMaxima (made moves) high
    → IsBlocking (plain_network moves) (blocks_along (first_in_first_out moves) (by_departure moves))
    × (length (blocks_along (first_in_first_out moves) (by_departure moves)) ≡ sum_below high places)
    × (length (blocks_along (first_in_first_out moves) (by_departure moves)) + link_count (first_in_first_out moves) ≡ length
    (by_departure moves))
blocks-fifo places moves high moving are =
    let state = fifo-state places moves high moving are in
    let links = AreLinks-fifo places moves high moving are in
    let clock = AreDepartures-plain places moves moving in
    let stands = StandsOnce-by_departure moves in
    let blocking = IsBlocking-blocks_along (plain_network moves) (λ s. minute_left (move_at moves s)) (first_in_first_out moves)
    (by_departure moves) clock links stands in
    let count = blocks-and-links (plain_network moves) (λ s. minute_left (move_at moves s)) (first_in_first_out moves) (by_departure moves)
    clock links stands (λ s live. omega (arith, runs-within moves s live, state.len)) in
    let few = sum-le-blocks places moves high (blocks_along (first_in_first_out moves) (by_departure moves)) are blocking in (
      blocking,
      omega (arith, few, count, trips-le places moves high moving are),
      count,
    )
