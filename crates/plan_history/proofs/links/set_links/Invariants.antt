use Rattle.std.proofs.Common.{◌≡◌, ℕ, ◌<◌, length}
use Rattle.trip_model.specs.Links.{next_of}
use Rattle.plan_history.proofs.links.set_links.Given as goal

abbrev pub invariant-loop-slot : goal.invariant-loop-slot
invariant-loop-slot l = record {
  count : length l.solver.next ≡ length l.next;
  links : (i : ℕ) → i < l.slot → next_of l.solver.next i ≡ next_of l.next i;
  leave : l.solver.leave ≡ l.initial.solver.leave;
  enter : l.solver.enter ≡ l.initial.solver.enter;
}
