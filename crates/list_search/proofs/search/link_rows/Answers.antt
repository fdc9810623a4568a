use Rattle.std.proofs.Common.{◌≡◌, ℕ, Option, ◌+◌, ◌-◌, ◌≤◌, ◌∙◌, drop, get_or, length, replicate, false, None, sym, ap, subst, arith}
use Rattle.std.proofs.lemmas.List.{drop_all, get_or_default, length-replicate}
use Rattle.pair_search.specs.Arranged.{slot_in, bare}
use Rattle.pair_search.specs.Assignment.{IsMatched, Covers}
use Rattle.pair_search.specs.Determined.{found, found_each}
use Rattle.pair_search.specs.Order.{stands_before}
use Rattle.pair_search.proofs.AddLemmas.{IsMatched-none, IsMatched-all, MayBegin-added, covers-none, Covers-all}
use Rattle.pair_search.proofs.LentLemmas.{plan-same}
use Rattle.pair_search.proofs.PlacedLemmas.{found_each-more}
use Rattle.pair_search.proofs.ShiftLemmas.{AreNextTrips-matched}
use Rattle.list_search.specs.Lists.{listed}
use Rattle.list_search.proofs.search.link_rows.Goals as goal

pub invert-requires-clause-links : goal.invert-requires-clause-links
invert-requires-clause-links c =
    let w = listed c.args.lists.now in
    let n = c.args.lists.now.slots in
    AreNextTrips-matched w n (λ _. false) None None c.args.next.now c.args.leave.now c.args.enter.now
    (c.slots-slots.ensures.sound (omega (arith, c.requires.rows)))
    (ap length c.requires.next ∙ length-replicate {A = Option ℕ} n None)
    (IsMatched-none w n (λ _. false) c.args.next.now c.args.leave.now c.args.enter.now c.requires.next c.requires.leave c.requires.enter)

pub loop-added-init : goal.loop-added-init
loop-added-init c =
    let w = listed c.args.lists.now in
    let n = c.args.lists.now.slots in
    let rows = c.args.rows.now in
    let all : n ≡ n - 0 = omega arith in
    let turn : ℕ → ℕ = c.requires.renaming.0 in
    record {
      slots = c.clear.ensures.slots ∙ c.requires.slots;
      dist = c.clear.ensures.dist ∙ ap (λ (m : ℕ). replicate m 4503599627370497) c.requires.slots;
      done = c.clear.ensures.done ∙ ap (λ (m : ℕ). replicate m false) c.requires.slots;
      inverse = c.invert.ensures;
      turn = turn;
      renaming = c.requires.renaming.1;
      matched =
          IsMatched-none w n (stands_before turn (n - 0)) c.args.next.now c.args.leave.now c.args.enter.now c.requires.next
          c.requires.leave c.requires.enter;
      covers = subst (λ m. Covers w (stands_before turn m) None c.args.leave.now c.args.enter.now) all
          (covers-none w n turn c.args.leave.now c.args.enter.now (c.slots-slots.ensures.sound (omega (arith, c.requires.rows)))
          c.requires.renaming.1.place_within);
      plan = plan-same (found_each w (drop (n - 0) rows) (bare n)) _ c.args.next.now _ c.args.leave.now _ c.args.enter.now
          c.requires.next c.requires.leave c.requires.enter
          (sym (ap (λ rows. found_each w rows (bare n)) (drop_all (n - 0) rows (omega (arith, c.requires.all)))));
    }

pub search-requires-clause-begins : goal.search-requires-clause-begins
search-requires-clause-begins c =
    let w = listed c.args.lists.now in
    let n = c.args.lists.now.slots in
    let rows = c.args.rows.now in
    let loop = c.loop-added in
    let last = c.slots-slots.result - 1 - loop.added in
    let below : loop.added + 1 ≤ n = omega (arith, c.loop-added-test.true, c.slots-slots.ensures.count) in (
      stands_before loop.invariant.turn (n - (loop.added + 1)),
      MayBegin-added w n (slot_in rows) loop.invariant.turn loop.added last (get_or rows last 0) loop.next loop.leave loop.enter
          (get_or_default rows last 0 (length rows) (omega (arith, below, c.slots-slots.ensures.count, c.requires.all)))
          loop.invariant.renaming (omega (arith, below, c.slots-slots.ensures.count)) loop.invariant.matched loop.invariant.covers,
    )

pub loop-added-preserved : goal.loop-added-preserved
loop-added-preserved c =
    let w = listed c.args.lists.now in
    let n = c.args.lists.now.slots in
    let rows = c.args.rows.now in
    let loop = c.loop-added in
    let read = c.slots-slots.result - 1 - loop.added in
    let last = n - (loop.added + 1) in
    let below : loop.added + 1 ≤ n = omega (arith, c.loop-added-test.true, c.slots-slots.ensures.count) in
    let begins =
    MayBegin-added w n (slot_in rows) loop.invariant.turn loop.added read (get_or rows read 0) loop.next loop.leave loop.enter
    (get_or_default rows read 0 (length rows) (omega (arith, below, c.slots-slots.ensures.count, c.requires.all)))
    loop.invariant.renaming (omega (arith, below, c.slots-slots.ensures.count)) loop.invariant.matched loop.invariant.covers in
    let done = c.search.ensures in
    record {
      slots = done.slots ∙ loop.invariant.slots;
      dist = done.dist;
      done = done.done;
      inverse = done.inverse;
      turn = loop.invariant.turn;
      renaming = loop.invariant.renaming;
      matched = done.matched (stands_before loop.invariant.turn (n - (loop.added + 1))) begins;
      covers = done.covers (stands_before loop.invariant.turn (n - (loop.added + 1))) begins;
      plan = done.plan
          ∙ ap (found w _) (loop.invariant.plan ∙ ap (λ k. found_each w (drop k rows) (bare n)) (omega (arith, below)))
          ∙ found_each-more w rows (bare n) last _ 0 (omega (arith, below, c.requires.all))
          (ap (λ k. get_or rows k 0) (omega (arith, below, c.slots-slots.ensures.count)));
    }

pub returns-clause-matched : goal.returns-clause-matched
returns-clause-matched c =
    let loop = c.loop-added in
    let n = c.args.lists.now.slots in
    let none : n - loop.added ≡ 0 = omega (arith, c.loop-added-test.false, c.slots-slots.ensures.count) in
    IsMatched-all (listed c.args.lists.now) loop.invariant.turn loop.next loop.leave loop.enter
    (subst (λ m. IsMatched (listed c.args.lists.now) (stands_before loop.invariant.turn m) None None loop.next loop.leave loop.enter) none
    loop.invariant.matched)

pub returns-clause-covers : goal.returns-clause-covers
returns-clause-covers c =
    let loop = c.loop-added in
    let n = c.args.lists.now.slots in
    let none : n - loop.added ≡ 0 = omega (arith, c.loop-added-test.false, c.slots-slots.ensures.count) in
    Covers-all (listed c.args.lists.now) loop.invariant.turn loop.leave loop.enter
    (subst (λ m. Covers (listed c.args.lists.now) (stands_before loop.invariant.turn m) None loop.leave loop.enter) none
    loop.invariant.covers)

pub returns-clause-plan : goal.returns-clause-plan
returns-clause-plan c =
    let loop = c.loop-added in
    let n = c.args.lists.now.slots in
    let none : n - loop.added ≡ 0 = omega (arith, c.loop-added-test.false, c.slots-slots.ensures.count) in
    loop.invariant.plan ∙ ap (λ k. found_each (listed c.args.lists.now) (drop k c.args.rows.now) (bare n)) none
