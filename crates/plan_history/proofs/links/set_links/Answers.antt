use Rattle.std.proofs.Common.{◌≡◌, ◌∙◌, ℕ, List, length, Option, None, ap, arith}
use Rattle.std.proofs.lemmas.List.{ext_get_or}
use Rattle.assignment_model.specs.Prices.{Plan}
use Rattle.plan_history.proofs.links.set_links.Goals as goal

pub returns : goal.returns
returns c =
    let loop = c.loop-slot in
    let was : Plan = c.args.solver.now in
    let links : loop.solver.next ≡ c.args.next.now =
    ext_get_or None loop.solver.next c.args.next.now loop.invariant.count
    (λ i lt. loop.invariant.links i
    (omega (
      arith,
      lt,
      loop.invariant.count,
      c.requires.count,
      c.loop-slot-test.false,
      c.slots-slot-end.ensures.count,
      ap (λ (xs : List (Option ℕ)). length xs) c.links.ensures,
      ap (λ (p : Plan). length p.next) c.plan.ensures,
    ))) in
    ap (λ (next : List (Option ℕ)). plan_of next loop.solver.leave loop.solver.enter) links
    ∙ ap (λ (leave : List ℕ). plan_of c.args.next.now leave loop.solver.enter) loop.invariant.leave
    ∙ ap (plan_of c.args.next.now was.leave) loop.invariant.enter
  where
    plan_of : List (Option ℕ) → List ℕ → List ℕ → Plan
    plan_of next leave enter = record { next = next; leave = leave; enter = enter }
