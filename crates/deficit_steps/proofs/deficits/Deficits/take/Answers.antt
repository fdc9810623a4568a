use Rattle.std.proofs.Common.{◌≤◌, ◌++◌, length, pos, neg_ℤ, set, sym, ap, subst, ◌∙◌, arith}
use Rattle.deficit_steps.specs.Changes.{IsDeficits, with_change}
use Rattle.deficit_steps.specs.Holds.{Holds}
use Rattle.deficit_steps.proofs.DeficitsLemmas.{row_written, length-with_change, IsDeficits-without_move, Holds-without_move}
use Rattle.deficit_steps.proofs.deficits.Deficits.take.Goals as goal

pub returns-clause-changed : goal.returns-clause-changed
returns-clause-changed g c =
    let now = c.args.self.now in
    let m = c.args.taken.now in
    let departed = row_written now c.self.inside.rows.items m.from c.from.result c.index_mut.result.now c.change.new.self m.leaves
    (neg_ℤ (pos 1)) c.self.view_is c.from.ensures c.requires.from c.index_mut.ensures.value c.change.ensures.changed in
    row_written (with_change now m.from m.leaves (neg_ℤ (pos 1))) (set c.self.inside.rows.items c.from.result c.change.new.self) m.to
    c.from-2.result c.index_mut-2.result.now c.change-2.new.self m.arrives (pos 1)
    departed c.from-2.ensures (omega (arith, length-with_change now m.from m.leaves (neg_ℤ (pos 1)), c.requires.to))
    c.index_mut-2.ensures.value c.change-2.ensures.changed

pub invariant_of-self : goal.invariant_of-self
invariant_of-self g c =
    let valid = subst IsDeficits c.self.view_is c.self.invariant in
    subst IsDeficits (sym (returns-clause-changed g c))
    (IsDeficits-without_move c.args.self.now c.args.taken.now valid c.requires.from c.requires.to c.requires.forward c.requires.in_day
    c.requires.lowered c.requires.raised c.requires.begins).1

pub returns-clause-held : goal.returns-clause-held
returns-clause-held g c = λ before after held.
    let valid = subst IsDeficits c.self.view_is c.self.invariant in
    let kept = IsDeficits-without_move c.args.self.now c.args.taken.now valid c.requires.from c.requires.to c.requires.forward
    c.requires.in_day c.requires.lowered c.requires.raised c.requires.begins in
    let leaves : c.args.taken.now.leaves ≤ 8191 = omega arith in
    subst (λ d. Holds d (before ++ after)) (sym (returns-clause-changed g c))
    (Holds-without_move c.args.self.now before after c.args.taken.now kept.0 valid c.requires.from c.requires.to leaves c.requires.in_day
    held)

pub returns-clause-places : goal.returns-clause-places
returns-clause-places g c =
    let now = c.args.self.now in
    let m = c.args.taken.now in
    ap length (returns-clause-changed g c) ∙ length-with_change (with_change now m.from m.leaves (neg_ℤ (pos 1))) m.to m.arrives (pos 1)
    ∙ length-with_change now m.from m.leaves (neg_ℤ (pos 1))
