use Rattle.std.proofs.Common.{◌≡◌, ℕ, ◌∷◌, ◌++◌, [], sym, ap, subst, ◌∙◌, arith}
use Rattle.std.specs.List.Sorted.{IsStrictlySortedBy}
use Rattle.std.proofs.lemmas.Grind.{common_steps}
use Rattle.toml.specs.View.{members_view}
use Rattle.trip_model.specs.declared.limits.TheConstants.{MOST_LAYOVER}
use Rattle.desk_settings.specs.Desk.{entries_from, minutes_in}
use Rattle.desk_settings.proofs.DeskLemmas.{AreNew, AreNew-none, AreNew-push, entries_go_on}
use Rattle.desk_settings.proofs.desk.layovers_from.Goals as goal

pub loop-place-init : goal.loop-place-init
loop-place-init c =
    let same = c.into_iter-place-iterator.ensures.into_iter_gives ∙ c.iter-place-items.ensures.rest in
    record {
      gives = λ i. entries_from (minutes_in MOST_LAYOVER) (c.new-layovers.ensures i) (members_view (same i));
      rising = rw same c.iter-place-items.ensures.ordered;
      new = rw c.new-layovers.ensures (AreNew-none ℕ c.into_iter-place-iterator.result);
    }

pub loop-place-preserved : goal.loop-place-preserved
unfolding IsStrictlySortedBy
loop-place-preserved c =
    let iter : c.loop-place.place-iterator ≡ (c.in-Some.place.now, c.in-Some.value.now) ∷ c.next.new.self = grind (arith, common_steps) in
    let rising = rw iter at c.loop-place.invariant.rising in
    let new = rw iter at c.loop-place.invariant.new in
    let pushed = c.in_ok-push.ensures.pushed in
    record {
      gives = entries_go_on (minutes_in MOST_LAYOVER) c.loop-place.layovers c.push.new.self c.in-Some.place.now c.in-Some.value.now
          c.next.new.self c.as_str.result.now c.in-Some-minutes_in.layover _
          (sym c.in-Some-minutes_in.ensures) c.as_str.ensures.value pushed
          (sym (ap (λ es. entries_from (minutes_in MOST_LAYOVER) c.loop-place.layovers (members_view es)) iter)
          ∙ c.loop-place.invariant.gives);
      rising = rising.1;
      new = subst (λ entries. AreNew entries c.next.new.self)
          (sym (pushed ∙ ap (λ bytes. c.loop-place.layovers ++ (bytes, c.in-Some-minutes_in.layover) ∷ []) c.as_str.ensures.value))
          (AreNew-push c.loop-place.layovers c.in-Some.place.now c.in-Some-minutes_in.layover c.next.new.self rising.0 new.1);
    }
