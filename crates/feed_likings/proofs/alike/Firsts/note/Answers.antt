use Rattle.std.proofs.Common.{◌≡◌, ◌∷◌, ◌++◌, ◌||◌, [], cond, None, is_some, sym, ap, ◌∙◌}
use Rattle.gtfs_tables.specs.Entries.{value_of}
use Rattle.feed_likings.proofs.AlikeLemmas.{value_of-itself}
use Rattle.feed_likings.proofs.FieldLemmas.{seen, seen-new}
use Rattle.feed_likings.proofs.alike.Firsts.note.Goals as goal

pub returns-in_ok-insert-in-None-clause-noted : goal.returns-in_ok-insert-in-None-clause-noted
returns-in_ok-insert-in-None-clause-noted c =
    let firsts = c.args.self.now in
    let field = c.args.field.now in
    let none : value_of field firsts ≡ None = sym c.find.ensures ∙ c.in-None.is in
    seen-new (λ k. k.now) c.self.inside.slots c.insert.new.self c.args.field c.args.slot firsts c.self.view_is none
    c.in_ok-insert-in-None.ensures.entries
    ∙ sym (ap (λ b. cond (b || is_some (value_of field firsts)) firsts (firsts ++ (field, c.args.slot) ∷ []))
    (sym c.is_empty.ensures ∙ c.if-is_empty.false)
    ∙ ap (λ o. cond (is_some o) firsts (firsts ++ (field, c.args.slot) ∷ [])) none)

pub returns-in_ok-insert-in-None-clause-number : goal.returns-in_ok-insert-in-None-clause-number
returns-in_ok-insert-in-None-clause-number c =
    let firsts = c.args.self.now in
    let field = c.args.field.now in
    let none : value_of field firsts ≡ None = sym c.find.ensures ∙ c.in-None.is in
    let new = seen-new (λ k. k.now) c.self.inside.slots c.insert.new.self c.args.field c.args.slot firsts c.self.view_is none
    c.in_ok-insert-in-None.ensures.entries in
    sym (ap (λ b. cond b None (value_of field (seen (λ k. k.now) c.insert.new.self.entries)))
    (sym c.is_empty.ensures ∙ c.if-is_empty.false)
    ∙ ap (value_of field) new ∙ value_of-itself field c.args.slot firsts none)
