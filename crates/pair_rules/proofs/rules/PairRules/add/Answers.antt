use Rattle.std.proofs.Common.{◌≡◌, [], ◌∷◌, ◌++◌, length, ap, sym, subst, ◌∙◌, arith}
use Rattle.std.proofs.lemmas.List.{length-map}
use Rattle.std.specs.List.{position_or_len}
use Rattle.std.specs.Str.{bytes_eq}
use Rattle.pair_rules.specs.Rules.{PairRule, clashes}
use Rattle.pair_rules.specs.Marks.{AreHeld, names_in, marked_in, with_marks, rules_in}
use Rattle.pair_rules.proofs.Entries.{count-held, count-first, held-push}
use Rattle.pair_rules.proofs.rules.PairRules.add.Goals as goal

pub mark-first-requires-clause-count : goal.mark-first-requires-clause-count
mark-first-requires-clause-count c =
    let count = count-held c.self.inside.names.entries c.self.inside.rules.entries c.self.invariant in
    let rules = sym (length-map c.self.inside.rules.entries _) ∙ ap length c.self.view_is in
    omega (arith, ap length c.reserve.ensures.entries, count.1, rules, c.requires.room)

pub mark-second-requires-clause-count : goal.mark-second-requires-clause-count
mark-second-requires-clause-count c =
    let count = count-held c.self.inside.names.entries c.self.inside.rules.entries c.self.invariant in
    let rules = sym (length-map c.self.inside.rules.entries _) ∙ ap length c.self.view_is in
    let first = count-first c.self.inside.names.entries c.mark-first.new.names.entries c.self.inside.rules.entries
    (record { before = c.args.before.now; after = c.args.after.now; kind = c.args.kind }) c.self.invariant
    (c.mark-first.ensures.marked
    ∙ (λ i. with_marks (marked_in (c.reserve.ensures.entries i)) (c.in_ok-first.ensures.ok i) (c.before-2.ensures i))) in
    omega (arith, first, count.1, rules, c.requires.room)

-- the rules with one more, and that they are held
pushed : (c : goal.In_ok-insert)
    → (rules_in c.mark-second.new.names.entries c.insert.new.self.entries
    ≡ c.args.self.now ++ record { before = c.args.before.now; after = c.args.after.now; kind = c.args.kind } ∷ [])
    × AreHeld c.mark-second.new.names.entries c.insert.new.self.entries
pushed c =
    let rule : PairRule = record { before = c.args.before.now; after = c.args.after.now; kind = c.args.kind } in
    let names = c.self.inside.names.entries in
    let first = c.mark-first.new.names.entries in
    let count = sym (length-map c.self.inside.rules.entries _) ∙ ap length c.self.view_is in
    let kept = ap (rules_in names) c.reserve-2.ensures.entries ∙ c.self.view_is in
    let held = held-push names first c.mark-second.new.names.entries c.reserve-2.new.self c.insert.new.self rule
    c.mark-first.result c.mark-second.result
    (subst (AreHeld names) (sym c.reserve-2.ensures.entries) c.self.invariant)
    c.requires.two
    (ap (λ rules. clashes rules rule) kept ∙ c.requires.apart)
    (omega (arith, ap length c.reserve-2.ensures.entries, count, c.requires.room))
    (c.mark-first.ensures.marked
    ∙ (λ i. with_marks (marked_in (c.reserve.ensures.entries i)) (c.in_ok-first.ensures.ok i) (c.before-2.ensures i)))
    (c.mark-second.ensures.marked
    ∙ (λ i. with_marks (marked_in first) (c.in_ok-second.ensures.ok i) (c.after.ensures i)))
    (c.mark-first.ensures.number
    ∙ (λ i. position_or_len (bytes_eq (c.in_ok-first.ensures.ok i)) (names_in (c.reserve.ensures.entries i))))
    (c.mark-second.ensures.number
    ∙ (λ i. position_or_len (bytes_eq (c.in_ok-second.ensures.ok i)) (names_in first)))
    c.in_ok-insert.ensures.entries in
    (held.0 ∙ ap (λ rules. rules ++ rule ∷ []) kept, held.1)

pub invariant_of-self-2 : goal.invariant_of-self-2
invariant_of-self-2 c = (pushed c).1

pub returns-clause-added : goal.returns-clause-added
returns-clause-added c = (pushed c).0
