use Rattle.std.proofs.Common.{◌≡◌, ℕ, ◌<◌, true, length, rules, of_calls}
use Rattle.std.proofs.lemmas.Fn.{always_returns_same}
use Rattle.std.proofs.lemmas.List.Sorted.{IsNonDecreasingBy-from_sort_by_key, All-permutation}
use Rattle.trip_model.specs.Timetable.{slot_at}
use Rattle.trip_model.proofs.OrderLemmas.{by_departure-sorted}
use Rattle.trip_model.proofs.order.by_departure.Goals as goal

pub returns-clause-order : goal.returns-clause-order
returns-clause-order c =
    let minute = λ (s : ℕ). (slot_at c.args.timetable.now s).trip.departs in
    let up = IsNonDecreasingBy-from_sort_by_key minute _ c.in_ok-sort_by_key.ensures.sorted (λ a r q k. search rules) in
    let stable = c.in_ok-sort_by_key.ensures.stable minute (always_returns_same _ _ _ (λ a r q k. search (rules, of_calls))) in
    by_departure-sorted c.args.timetable.now _ _ up stable c.in_ok-order.ensures.slots c.in_ok-order.ensures.live

pub returns-clause-within : goal.returns-clause-within
returns-clause-within c =
    All-permutation (λ s. s < length c.args.timetable.now.slots) _ _ c.in_ok-sort_by_key.ensures.permutation c.in_ok-order.ensures.within

pub returns-clause-live : goal.returns-clause-live
returns-clause-live c =
    All-permutation (λ s. (slot_at c.args.timetable.now s).trip.live ≡ true) _ _ c.in_ok-sort_by_key.ensures.permutation
    c.in_ok-order.ensures.live
