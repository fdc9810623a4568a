use Rattle.std.proofs.Common.{sym, ap, ◌∙◌}
use Rattle.gtfs_tables.specs.Entries.{value_of}
use Rattle.feed_likings.proofs.FieldLemmas.{value_of-seen}
use Rattle.feed_likings.proofs.alike.Firsts.find.Goals as goal

pub returns : goal.returns
returns c = c.copied.ensures ∙ c.get.ensures.value ∙ sym (value_of-seen (λ k. k.now) c.args.field.now c.self.inside.slots.entries)
    ∙ ap (value_of c.args.field.now) c.self.view_is
