use Rattle.std.proofs.Common.{◌≤◌, subst, arith}
use Rattle.plan_choice.specs.Likings.{LikingsView, liking}
use Rattle.plan_choice.proofs.LikingsLemmas.{liking-most}
use Rattle.plan_choice.proofs.likings.Likings.likes_nothing.Goals as goal

pub returns-clause-most : goal.returns-clause-most
returns-clause-most c i j wait =
    let was = c.self.inside in
    let view : LikingsView =
    record { stated = was.stated; line = was.line; waiting = was.waiting; nexts = was.nexts.items; lines = was.lines.items } in
    subst (λ (v : LikingsView). liking v i j wait ≤ 274877906943) c.self.view_is
    (omega (arith, liking-most view i j wait, c.self.invariant))
