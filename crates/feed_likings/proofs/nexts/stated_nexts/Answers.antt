use Rattle.std.proofs.Common.{◌≡◌, ℕ, ◌<◌, List, Option, Some, length, map, Result, Ok, Err, Vec, sym, ap, subst, ◌∙◌, arith}
use Rattle.std.specs.Prelude.{All, IfOk}
use Rattle.std.specs.List.{range_with_len}
use Rattle.std.proofs.lemmas.List.FromFn.{length-map-range_with_len}
use Rattle.trip_model.specs.Order.{by_departure}
use Rattle.trip_model.specs.Plain.{trip_moves}
use Rattle.feed_likings.specs.Alike.{first_alike}
use Rattle.feed_likings.specs.Likings.{nexts_by}
use Rattle.feed_likings.specs.Numbered.{next_numbered, number_at}
use Rattle.feed_likings.proofs.NumberedLemmas.{numbers_to, numbers-within, nexts-stated}
use Rattle.feed_likings.proofs.nexts.stated_nexts.Goals as goal

pub nexts_numbered-requires-clause-within : goal.nexts_numbered-requires-clause-within
nexts_numbered-requires-clause-within c =
    let names = c.args.names.now in
    let count = ap (λ (xs : List (Option ℕ)). length xs) (c.deref.ensures.value ∙ c.in_ok-numbers.ensures)
    ∙ length-map-range_with_len (first_alike names) 0 c.slots.result ∙ c.slots.ensures.count in
    let all : All (λ s. s < length c.args.timetable.now.slots) c.deref-2.result.now =
    subst (All (λ s. s < length c.args.timetable.now.slots)) (sym c.deref-2.ensures.value) c.in_ok-order.ensures.within in
    λ k d lt. let inside = all k d lt in omega (arith, inside, count)

pub nexts_numbered-requires-clause-numbers : goal.nexts_numbered-requires-clause-numbers
nexts_numbered-requires-clause-numbers c =
    let names = c.args.names.now in
    let Within : List (Option ℕ) → Type 0 = λ numbers. (s b : ℕ) → number_at numbers s ≡ Some b → b < length numbers in
    subst Within (sym (c.deref.ensures.value ∙ c.in_ok-numbers.ensures)) (numbers-within names c.slots.result)

pub returns : goal.returns
returns c =
    let names = c.args.names.now in
    let slots = c.args.timetable.now.slots in
    let n = length slots in
    let order = c.deref-2.ensures.value ∙ c.in_ok-order.ensures.order in
    let numbers : c.deref.result.now ≡ numbers_to names n =
    c.deref.ensures.value ∙ c.in_ok-numbers.ensures ∙ ap (numbers_to names) c.slots.ensures.count in
    let count : length c.deref.result.now ≡ n =
    ap (λ (xs : List (Option ℕ)). length xs) numbers ∙ length-map-range_with_len (first_alike names) 0 n in
    let all : All (λ s. s < n) (by_departure (trip_moves slots)) =
    subst (All (λ s. s < n)) c.in_ok-order.ensures.order c.in_ok-order.ensures.within in
    let is : map (next_numbered c.deref.result.now c.deref-2.result.now) (range_with_len 0 (length c.deref.result.now))
    ≡ nexts_by names c.args.timetable.now =
    (λ i. map (next_numbered (numbers i) (order i)) (range_with_len 0 (count i)))
    ∙ nexts-stated names n (by_departure (trip_moves slots)) all in
    so c.nexts_numbered.result _ _ is c.nexts_numbered.ensures
  where
    so : {E A : Type 0} (result : Result (Vec (Option ℕ) A) E) (xs ys : List (Option ℕ)) → xs ≡ ys
        → IfOk result (λ nexts. nexts.items ≡ xs)
        → IfOk result (λ nexts. nexts.items ≡ ys)
    so (Ok nexts) xs ys is found = found ∙ is
    so (Err e) xs ys is found = tt
