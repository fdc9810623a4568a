use Rattle.std.proofs.Common.{◌≡◌, ℕ, ◌+◌, ◌-◌, ◌*◌, ◌≤◌, ◌∙◌, List, Option, drop, length, get_or, false, None, refl, sym, ap}
use Rattle.std.proofs.Common.{subst, ⊎_elim, arith}
use Rattle.std.proofs.lemmas.Bool.{cases_eq}
use Rattle.std.proofs.lemmas.List.{drop_all, get_or_default, length-replicate}
use Rattle.pair_search.specs.Arranged.{slots_of, bare}
use Rattle.pair_search.specs.Assignment.{IsMatched, Covers}
use Rattle.pair_search.specs.Determined.{found, found_each}
use Rattle.pair_search.specs.Order.{no_column, slot_at, stands_before}
use Rattle.pair_search.specs.Side.{side_slots, place_weight}
use Rattle.pair_search.specs.declared.order.Column.{Column}
use Rattle.pair_search.proofs.AddLemmas.{IsMatched-none, IsMatched-all, MayBegin-added, covers-none, Covers-all}
use Rattle.pair_search.proofs.ArrangedLemmas.{slots-length, slots-at}
use Rattle.pair_search.proofs.LentLemmas.{plan-same}
use Rattle.pair_search.proofs.PlacedLemmas.{found_each-more}
use Rattle.pair_search.specs.Visits.{AreSearches, SearchesOnce, Takes}
use Rattle.pair_search.proofs.VisitLemmas.{AreSearches-more, Takes-append, Takes-none}
use Rattle.pair_search.proofs.ShiftLemmas.{AreNextTrips-matched}
use Rattle.pair_search.proofs.search.link_rows.Goals as goal

pub invert-requires-clause-links : goal.invert-requires-clause-links
invert-requires-clause-links g c =
    let w = place_weight c.args.side.now in
    let n = side_slots c.args.side.now in
    AreNextTrips-matched w n (λ _. false) None None c.args.next.now c.args.leave.now c.args.enter.now c.requires.sound
    (ap length c.requires.next ∙ length-replicate {A = Option ℕ} n None)
    (IsMatched-none w n (λ _. false) c.args.next.now c.args.leave.now c.args.enter.now c.requires.next c.requires.leave c.requires.enter)

pub loop-added-init : goal.loop-added-init
loop-added-init g c =
    let side = c.args.side.now in
    let n = side_slots side in
    let all : n ≡ n - 0 = omega arith in
    let turn : ℕ → ℕ = c.requires.renaming.0 in
    record {
      turn = turn;
      renaming = c.requires.renaming.1;
      matched =
          IsMatched-none (place_weight side) n (stands_before turn (n - 0)) c.args.next.now c.args.leave.now c.args.enter.now
          c.requires.next c.requires.leave c.requires.enter;
      covers = subst (λ m. Covers (place_weight side) (stands_before turn m) None c.args.leave.now c.args.enter.now) all
          (covers-none (place_weight side) n turn c.args.leave.now c.args.enter.now c.requires.sound c.requires.renaming.1.place_within);
      plan = plan-same (found_each (place_weight side) (drop (n - 0) (slots_of c.args.departures.now)) (bare n)) _ c.args.next.now _
          c.args.leave.now _ c.args.enter.now
          c.requires.next c.requires.leave c.requires.enter
          (sym (ap (λ rows. found_each (place_weight side) rows (bare n))
          (drop_all (n - 0) (slots_of c.args.departures.now) (omega (arith, slots-length c.args.departures.now, c.requires.all)))));
      visited = Takes-none (AreSearches 0 side) refl c.args.looks.now.list c.args.steps.now;
      inverse = c.invert.ensures;
      begun = λ _. (c.requires.next, refl);
      counted = λ lt. omega (arith, lt);
    }

pub search-requires-clause-begins : goal.search-requires-clause-begins
search-requires-clause-begins g c =
    let side = c.args.side.now in
    let loop = c.loop-added in
    let none : Column = record { post = None; minute = 0; slot = 0 } in (
      stands_before loop.invariant.turn (side_slots side - (loop.added + 1)),
      None,
      MayBegin-added (place_weight side) (side_slots side) (slot_at (side_slots side) c.args.departures.now) loop.invariant.turn loop.added
          (c.slots-slots.result - 1 - loop.added) (get_or c.args.departures.now (c.slots-slots.result - 1 - loop.added) none).slot
          loop.next loop.leave loop.enter
          (ap (λ (x : Column). x.slot) (get_or_default c.args.departures.now (c.slots-slots.result - 1 - loop.added) none
          (no_column (side_slots side)) (omega (arith, c.loop-added-test.true, c.slots-slots.ensures.count, c.requires.all))))
          loop.invariant.renaming (omega (arith, c.loop-added-test.true, c.slots-slots.ensures.count))
          loop.invariant.matched loop.invariant.covers,
    )

pub loop-added-preserved : goal.loop-added-preserved
loop-added-preserved g c =
    let side = c.args.side.now in
    let loop = c.loop-added in
    let none : Column = record { post = None; minute = 0; slot = 0 } in
    let begins =
    MayBegin-added (place_weight side) (side_slots side) (slot_at (side_slots side) c.args.departures.now) loop.invariant.turn loop.added
    (c.slots-slots.result - 1 - loop.added) (get_or c.args.departures.now (c.slots-slots.result - 1 - loop.added) none).slot
    loop.next loop.leave loop.enter
    (ap (λ (x : Column). x.slot) (get_or_default c.args.departures.now (c.slots-slots.result - 1 - loop.added) none
    (no_column (side_slots side)) (omega (arith, c.loop-added-test.true, c.slots-slots.ensures.count, c.requires.all))))
    loop.invariant.renaming (omega (arith, c.loop-added-test.true, c.slots-slots.ensures.count)) loop.invariant.matched
    loop.invariant.covers in
    let done = c.search.ensures in
    let n = side_slots side in
    let w = place_weight side in
    let rows : List ℕ = slots_of c.args.departures.now in
    let last = n - (loop.added + 1) in
    let below : loop.added + 1 ≤ n = omega (arith, c.loop-added-test.true, c.slots-slots.ensures.count) in
    let read = c.slots-slots.result - 1 - loop.added in
    let row : get_or rows last n ≡ (get_or c.args.departures.now read none).slot =
    slots-at n c.args.departures.now last
    ∙ ap (slot_at n c.args.departures.now) (omega (arith, below, c.slots-slots.ensures.count))
    ∙ ap (λ (x : Column). x.slot) (get_or_default c.args.departures.now read (no_column n) none
    (omega (arith, below, c.slots-slots.ensures.count, c.requires.all))) in
    record {
      turn = loop.invariant.turn;
      renaming = loop.invariant.renaming;
      matched = done.matched (stands_before loop.invariant.turn (side_slots side - (loop.added + 1))) None begins;
      covers = done.covers (stands_before loop.invariant.turn (side_slots side - (loop.added + 1))) None begins;
      plan = done.plan
          ∙ ap (found w _) (loop.invariant.plan ∙ ap (λ k. found_each w (drop k rows) (bare n)) (omega (arith, below)))
          ∙ found_each-more w rows (bare n) last _ n (omega (arith, below, slots-length c.args.departures.now, c.requires.all)) row;
      visited =
          Takes-append (AreSearches loop.added side) (SearchesOnce side) (AreSearches (loop.added + 1) side)
          (AreSearches-more side loop.added) c.args.looks.now.list loop.looks.list c.search.new.looks.list c.args.steps.now loop.steps
          c.search.new.steps loop.invariant.visited done.visited;
      inverse = done.inverse;
      begun = λ none. absurd (omega (arith, none));
      counted = λ _. ⊎_elim
          (λ (first : loop.added ≡ 0).
          omega (arith, first, (loop.invariant.begun first).1, done.alone (loop.invariant.begun first).0))
          (λ (more : loop.added ≡ 0 → ⊥).
          omega (arith, done.counted, loop.invariant.counted (omega (arith, more))))
          (cases_eq loop.added 0);
    }

pub returns-clause-matched : goal.returns-clause-matched
returns-clause-matched g c =
    let side = c.args.side.now in
    let loop = c.loop-added in
    let none : side_slots side - loop.added ≡ 0 = omega (arith, c.loop-added-test.false, c.slots-slots.ensures.count) in
    IsMatched-all (place_weight side) loop.invariant.turn loop.next loop.leave loop.enter
    (subst (λ m. IsMatched (place_weight side) (stands_before loop.invariant.turn m) None None loop.next loop.leave loop.enter) none
    loop.invariant.matched)

pub returns-clause-covers : goal.returns-clause-covers
returns-clause-covers g c =
    let side = c.args.side.now in
    let loop = c.loop-added in
    let none : side_slots side - loop.added ≡ 0 = omega (arith, c.loop-added-test.false, c.slots-slots.ensures.count) in
    Covers-all (place_weight side) loop.invariant.turn loop.leave loop.enter
    (subst (λ m. Covers (place_weight side) (stands_before loop.invariant.turn m) None loop.leave loop.enter) none loop.invariant.covers)

pub returns-clause-plan : goal.returns-clause-plan
returns-clause-plan g c =
    let side = c.args.side.now in
    let loop = c.loop-added in
    let none : side_slots side - loop.added ≡ 0 = omega (arith, c.loop-added-test.false, c.slots-slots.ensures.count) in
    loop.invariant.plan ∙ ap (λ k. found_each (place_weight side) (drop k (slots_of c.args.departures.now)) (bare (side_slots side))) none

pub returns-clause-visited : goal.returns-clause-visited
returns-clause-visited g c =
    let side = c.args.side.now in
    let loop = c.loop-added in
    subst (λ n. Takes (AreSearches n side) c.args.looks.now.list loop.looks.list c.args.steps.now loop.steps)
    (omega (arith, c.loop-added-test.false, loop.auto.added-end, c.slots-slots.ensures.count)) loop.invariant.visited

pub returns-clause-counted : goal.returns-clause-counted
returns-clause-counted g c =
    let loop = c.loop-added in
    let all : loop.added ≡ side_slots c.args.side.now =
    omega (arith, c.loop-added-test.false, loop.auto.added-end, c.slots-slots.ensures.count) in
    ⊎_elim
    (λ (none : loop.added ≡ 0). omega (arith, (loop.invariant.begun none).1))
    (λ (some : loop.added ≡ 0 → ⊥).
    fewer (side_slots c.args.side.now) loop.added c.args.steps.now loop.steps all (loop.invariant.counted (omega (arith, some))))
    (cases_eq loop.added 0)
  where
    fewer : (n added had steps : ℕ) → added ≡ n → steps + n * n ≤ had + added * (n * n + n) → steps ≤ had + n * n * n
    fewer n added had steps all counted = omega (arith, ap (λ m. m * (n * n + n)) all, counted)
