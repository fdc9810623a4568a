use Rattle.std.proofs.Common.{◌≡◌, ◌≢◌, ℕ, true, ◌+◌, ◌<◌, ◌≤◌, ◌+ℤ◌, length, get_or, set, replicate, Some, None, sym, ap, subst, ◌∙◌, pos}
use Rattle.std.proofs.Common.{arith}
use Rattle.std.proofs.lemmas.List.{take_all, length-map, length-set, length-replicate, get_or_default}
use Rattle.trip_model.specs.Blocking.{IsFewest}
use Rattle.trip_model.specs.Deficit.{deficit}
use Rattle.trip_model.specs.Links.{AreLinks, link_count, blocks_along}
use Rattle.trip_model.specs.Maximum.{sum_of_maxima}
use Rattle.trip_model.specs.Order.{by_departure}
use Rattle.trip_model.specs.Plain.{plain_network, trip_moves, move_of_slot}
use Rattle.trip_model.specs.Timetable.{slot_at}
use Rattle.trip_model.specs.declared.trip.Trip.{Trip}
use Rattle.fixed_fleet.proofs.Fronts.{IsFront, AreFronts, IsByEnd-by_end, AreNext-on, AreFronts-start, AreFronts-taken, forerunner-front}
use Rattle.fixed_fleet.proofs.Fronts.{forerunner-late, linked-more}
use Rattle.fixed_fleet.proofs.PlainBlocks.{fifo-from_order}
use Rattle.fixed_fleet.proofs.fixed.fixed_links.Goals as goal
use Rattle.fixed_fleet.proofs.fixed.fixed_links.Goals.{in-Some, in_default}

pub returns-clause-rule : goal.returns-clause-rule
returns-clause-rule c =
    let order = take_all c.loop-slot.slot-index c.deref-slot-items.result.now (omega arith) ∙ c.deref-slot-items.ensures.value
    ∙ c.in_ok-order.ensures.order in
    c.loop-slot.invariant.linked ∙ fifo-from_order (trip_moves c.args.timetable.now.slots) _ order

pub returns-clause-links : goal.returns-clause-links
returns-clause-links c =
    let moves = trip_moves c.args.timetable.now.slots in
    let valid = c.plain_law.ensures.moves c.args.timetable.now c.slots.ensures.valid in
    subst (AreLinks (plain_network moves)) (sym (returns-clause-rule c))
    (c.rule_law.ensures.links (length c.args.timetable.now.places) moves valid)

pub returns-clause-count : goal.returns-clause-count
returns-clause-count c =
    let moves = trip_moves c.args.timetable.now.slots in
    let places = length c.args.timetable.now.places in
    let valid = c.plain_law.ensures.moves c.args.timetable.now c.slots.ensures.valid in
    c.rule_law.ensures.count places moves valid
    ∙ (λ i. pos (link_count (sym (returns-clause-rule c) i)) +ℤ sum_of_maxima
    (deficit (c.plain_law.ensures.made c.args.timetable.now.slots i)) places)

pub returns-clause-fewest : goal.returns-clause-fewest
returns-clause-fewest c =
    let moves = trip_moves c.args.timetable.now.slots in
    let valid = c.plain_law.ensures.moves c.args.timetable.now c.slots.ensures.valid in
    subst (λ links. IsFewest (plain_network moves) (blocks_along links (by_departure moves))) (sym (returns-clause-rule c))
    (c.plain_blocks_law.ensures.reached (length c.args.timetable.now.places) moves valid).0

pub returns-clause-number : goal.returns-clause-number
returns-clause-number c =
    let moves = trip_moves c.args.timetable.now.slots in
    let places = length c.args.timetable.now.places in
    let valid = c.plain_law.ensures.moves c.args.timetable.now c.slots.ensures.valid in
    ap (λ links. pos (length (blocks_along links (by_departure moves)))) (returns-clause-rule c)
    ∙ (c.plain_blocks_law.ensures.reached places moves valid).1
    ∙ ap (λ ms. sum_of_maxima (deficit ms) places) (c.plain_law.ensures.made c.args.timetable.now.slots)

pub loop-slot-init : goal.loop-slot-init
loop-slot-init c =
    let t = c.args.timetable.now in
    let links = c.in_ok-links.ensures in
    let fronts = c.in_ok-fronts.ensures.items_if_clones_equal (λ y h. h) in
    record {
      linked = links ∙ ap (λ n. replicate n None) (c.slots.ensures.count ∙ sym (length-map t.slots move_of_slot));
      slots = ap length links ∙ length-replicate c.slots.result None ∙ c.slots.ensures.count;
      places = ap length fronts ∙ length-replicate c.from.result 0 ∙ c.from.ensures ∙ c.places.ensures.count;
      fronts = subst (λ links. AreFronts t links c.in_ok-ended.ended.items c.in_ok-fronts.fronts.items) (sym links)
          (subst (AreFronts t (replicate c.slots.result None) c.in_ok-ended.ended.items) (sym fronts)
          (AreFronts-start t c.slots.result c.from.result c.in_ok-ended.ended.items));
    }

pub next_to-at-requires-clause-from : goal.next_to-at-requires-clause-from
next_to-at-requires-clause-from c =
    let place = c.from-place.result in
    let within : place < length c.loop-slot.fronts.items =
    omega (arith, c.from-place.ensures, c.trip-trip.ensures.valid.from, c.loop-slot.invariant.places) in
    let end = (c.loop-slot.invariant.fronts.each place within).end in
    omega (
      arith,
      end,
      c.index.ensures,
      get_or_default c.loop-slot.fronts.items place c.index.result.now 0 within,
      ap length
          c.deref.ensures.value,
    )

pub loop-slot-preserved : goal.loop-slot-preserved
loop-slot-preserved c =
    let t = c.args.timetable.now in
    let ended = c.in_ok-ended.ended.items in
    let fronts = c.loop-slot.fronts.items in
    let place = c.from-place.result in
    let at = c.next_to-at.result in
    let j = get_or c.deref-slot-items.result.now c.loop-slot.slot-index 0 in
    let are = IsByEnd-by_end t ended c.in_ok-ended.ensures.order c.in_ok-ended.ensures.live in
    let from : c.trip-trip.result.from ≡ (slot_at t j).trip.from = ap (λ (trip : Trip). trip.from) c.trip-trip.ensures.value in
    let departs : c.trip-trip.result.departs ≡ (slot_at t j).trip.departs = ap (λ (trip : Trip). trip.departs) c.trip-trip.ensures.value in
    let is : place ≡ (slot_at t j).trip.from = c.from-place.ensures ∙ from in
    let within : place < length fronts =
    omega (arith, c.from-place.ensures, c.trip-trip.ensures.valid.from, c.loop-slot.invariant.places) in
    let first : c.index.result.now ≡ get_or fronts place 0 = c.index.ensures ∙ get_or_default fronts place c.index.result.now 0 within in
    let same : c.deref.result.now ≡ ended = c.deref.ensures.value in
    let passed : (k : ℕ) → get_or fronts place 0 ≤ k → k < at → (slot_at t (get_or ended k 0)).trip.to ≢ place = λ k le lt.
    subst (λ xs. (slot_at t (get_or xs k 0)).trip.to ≢ place) same
    (λ e. c.next_to-at.ensures.passed k (omega (arith, first)) lt (e ∙ c.from-place.ensures)) in
    let next = AreNext-on t c.loop-slot.links ended fronts j place at c.loop-slot.invariant.fronts within is
    (omega (arith, c.next_to-at.ensures.on, first)) (omega (arith, c.next_to-at.ensures.end, ap length same)) passed in
    let lt : c.loop-slot.slot-index < length c.deref-slot-items.result.now = c.loop-slot-test.true in
    let runs : (slot_at t j).trip.live ≡ true =
    subst (λ xs. (slot_at t (get_or xs c.loop-slot.slot-index 0)).trip.live ≡ true) (sym c.deref-slot-items.ensures.value)
    (c.in_ok-order.ensures.live c.loop-slot.slot-index 0 (omega (arith, lt, ap length c.deref-slot-items.ensures.value))) in
    let same_still : c.deref-in-loop-slot.result.now ≡ ended = c.deref-in-loop-slot.ensures.value in
    let more = linked-more (trip_moves t.slots) (replicate (length (trip_moves t.slots)) None) c.loop-slot.links
    c.deref-slot-items.result.now c.loop-slot.slot-index lt c.loop-slot.invariant.linked in
    elim c.match-ended_by.branch [
      | in-Some w ↦
          let i = w.in-Some.before in
          let links : c.match-ended_by.links ≡ set c.loop-slot.links i (Some j) = w.links-is ∙ w.set.ensures in
          let after : c.match-ended_by.fronts.items ≡ set (set fronts place at) place (at + 1) = ap (λ v. v.items) w.fronts-is in
          let in_list : at < length ended = omega (arith, w.in-Some.ensures.at.0, ap length same_still) in
          let slot : i ≡ get_or ended at 0 = w.in-Some.ensures.at.1 ∙ ap (λ xs. get_or xs at 0) same_still in
          let in_range : i < length t.slots = omega (arith, slot, c.in_ok-ended.ensures.within at 0 in_list) in
          let to : (slot_at t i).trip.to ≡ (slot_at t j).trip.from =
          ap (λ s. (slot_at t s).trip.to) slot
          ∙ subst (λ xs. (slot_at t (get_or xs at 0)).trip.to ≡ c.trip-trip.result.from) same
          (c.next_to-at.ensures.found (omega (arith, in_list, ap length same)))
          ∙ from in
          let in_time : (slot_at t i).trip.ends ≤ (slot_at t j).trip.departs = omega (arith, w.in-Some.ensures.in_time, departs) in
          let taken = AreFronts-taken t c.loop-slot.links ended (set fronts place at) place at i j are next.all
          (omega (arith, within, length-set fronts place at))
          (subst (λ p. IsFront t c.loop-slot.links ended p at) (sym is) next.front) in_list slot
          (omega (arith, in_range, c.loop-slot.invariant.slots)) (to ∙ sym is) in
          record {
            linked = links ∙ more (Some i)
                (forerunner-front t c.loop-slot.links ended j i at are next.front runs in_range in_list slot to in_time);
            slots = ap length links ∙ length-set c.loop-slot.links i (Some j) ∙ c.loop-slot.invariant.slots;
            places = ap length after ∙ length-set (set fronts place at) place (at + 1) ∙ length-set fronts place at
                ∙ c.loop-slot.invariant.places;
            fronts = subst (λ ls. AreFronts t ls ended c.match-ended_by.fronts.items) (sym links)
                (subst (AreFronts t (set c.loop-slot.links i (Some j)) ended) (sym after) taken);
          }
      | in_default w ↦
          let links : c.match-ended_by.links ≡ c.loop-slot.links = w.links-is in
          let after : c.match-ended_by.fronts.items ≡ set fronts place at = ap (λ v. v.items) w.fronts-is in
          let late : at < length ended → (slot_at t j).trip.departs < (slot_at t (get_or ended at 0)).trip.ends = λ h.
          let none = w.in_default.ensures.none (omega (arith, h, ap length same_still)) in
          omega (arith, none, departs, ap (λ xs. (slot_at t (get_or xs at 0)).trip.ends) same_still) in
          record {
            linked = links ∙ more None (forerunner-late t c.loop-slot.links ended j at are next.front late);
            slots = ap length links ∙ c.loop-slot.invariant.slots;
            places = ap length after ∙ length-set fronts place at ∙ c.loop-slot.invariant.places;
            fronts = subst (λ ls. AreFronts t ls ended c.match-ended_by.fronts.items) (sym links)
                (subst (AreFronts t c.loop-slot.links ended) (sym after) next.all);
          }
    ]
