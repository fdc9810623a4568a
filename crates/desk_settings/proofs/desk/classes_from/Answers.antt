use Rattle.std.proofs.Common.{◌≡◌, ◌∷◌, ◌++◌, [], sym, ap, subst, ◌∙◌, arith}
use Rattle.std.specs.List.Sorted.{IsStrictlySortedBy}
use Rattle.std.proofs.lemmas.Grind.{common_steps}
use Rattle.toml.specs.View.{members_view}
use Rattle.gtfs_tables.specs.Entries.{Name}
use Rattle.desk_settings.specs.Desk.{class_in, entries_from}
use Rattle.desk_settings.proofs.DeskLemmas.{AreNew, AreNew-none, AreNew-push, entries_go_on}
use Rattle.desk_settings.proofs.desk.classes_from.Goals as goal

pub loop-route-init : goal.loop-route-init
loop-route-init c =
    let same = c.into_iter-route-iterator.ensures.into_iter_gives ∙ c.iter-route-items.ensures.rest in
    record {
      gives = λ i. entries_from class_in (c.new-classes.ensures i) (members_view (same i));
      rising = rw same c.iter-route-items.ensures.ordered;
      new = rw c.new-classes.ensures (AreNew-none Name c.into_iter-route-iterator.result);
    }

pub loop-route-preserved : goal.loop-route-preserved
unfolding IsStrictlySortedBy
loop-route-preserved c =
    let iter : c.loop-route.route-iterator ≡ (c.in-Some.route.now, c.in-Some.value.now) ∷ c.next.new.self = grind (arith, common_steps) in
    let rising = rw iter at c.loop-route.invariant.rising in
    let new = rw iter at c.loop-route.invariant.new in
    let pushed : c.push.new.self ≡ c.loop-route.classes ++ (c.as_str.result.now, c.in-Some-2.class) ∷ [] = c.in_ok-push.ensures.pushed in
    record {
      gives = entries_go_on class_in c.loop-route.classes c.push.new.self c.in-Some.route.now c.in-Some.value.now c.next.new.self
          c.as_str.result.now c.in-Some-2.class _
          (sym c.in_ok-class.ensures ∙ c.in-Some-2.is) c.as_str.ensures.value pushed
          (sym (ap (λ es. entries_from class_in c.loop-route.classes (members_view es)) iter) ∙ c.loop-route.invariant.gives);
      rising = rising.1;
      new = subst (λ entries. AreNew entries c.next.new.self)
          (sym (pushed ∙ ap (λ bytes. c.loop-route.classes ++ (bytes, c.in-Some-2.class) ∷ []) c.as_str.ensures.value))
          (AreNew-push c.loop-route.classes c.in-Some.route.now c.in-Some-2.class c.next.new.self rising.0 new.1);
    }
