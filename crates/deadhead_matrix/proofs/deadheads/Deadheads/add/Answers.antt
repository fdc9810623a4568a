use Rattle.std.proofs.Common.{◌≡◌, ℕ, List, [], ◌∷◌, ◌++◌, length, set, get_or, take, drop, sym, ap, subst, ◌∙◌}
use Rattle.std.proofs.lemmas.List.{length-set}
use Rattle.deadhead_matrix.specs.declared.entry.Entry.{Entry}
use Rattle.deadhead_matrix.specs.Deadheads.{has_entry}
use Rattle.deadhead_matrix.specs.Rows.{AreTold}
use Rattle.deadhead_matrix.proofs.WaysLemmas.{AreTold-push, given-back}
use Rattle.deadhead_matrix.proofs.deadheads.Deadheads.add.Goals as goal

pub invariant_of-self-2 : goal.invariant_of-self-2
invariant_of-self-2 c =
    let ways = c.self.inside.ways.items in
    let entry = c.args.entry in
    let set_to : c.set_way.new.ways ≡ set ways entry.from (set (get_or ways entry.from []) entry.to entry.minutes) =
    c.set_way.ensures
    ∙ (λ i. set (c.deref_mut.ensures.value i) (c.from.ensures i)
    (set (get_or (c.deref_mut.ensures.value i) (c.from.ensures i) []) (c.from-2.ensures i) entry.minutes)) in
    let same = ap length set_to ∙ length-set ways entry.from (set (get_or ways entry.from []) entry.to entry.minutes) in
    let len = ap length (sym c.deref_mut.ensures.value) ∙ c.deref_mut.ensures.len in
    let back = given-back c.self.inside.ways.len c.set_way.new.ways ways same len ∙ set_to in
    let new = ap (λ entries. has_entry entries entry.from entry.to) c.self.view_is ∙ sym c.if-has.ensures in
    let told = AreTold-push c.self.inside.entries.items ways entry c.self.invariant c.requires.from c.requires.to c.requires.lasting
    c.requires.short new in
    subst (λ (entries : List Entry). AreTold entries
    (take c.self.inside.ways.len (c.set_way.new.ways ++ drop (length c.set_way.new.ways) ways))) (sym c.in_ok-push.ensures.items)
    (subst (λ (rows : List (List ℕ)). AreTold (c.self.inside.entries.items ++ entry ∷ []) rows) (sym back) told)
