use Rattle.std.proofs.Common.{sym, ap, ◌∙◌}
use Rattle.gtfs_tables.specs.Entries.{value_of}
use Rattle.gtfs_tables.proofs.EntriesLemmas.{value_of-entries_of}
use Rattle.gtfs_tables.proofs.entries.Entries.find.Goals as goal

pub returns : goal.returns
returns g c = c.get.ensures.value ∙ sym (value_of-entries_of c.args.name.now c.self.inside.map.entries)
    ∙ ap (value_of c.args.name.now) c.self.view_is
