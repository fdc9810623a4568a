use Rattle.gtfs_tables.proofs.EntriesLemmas.{pushed}
use Rattle.gtfs_tables.proofs.entries.Entries.push.Goals as goal

pub returns-clause-pushed : goal.returns-clause-pushed
returns-clause-pushed g c =
    pushed c.self.inside.map c.insert.new.self c.in_ok-name.name c.args.value c.args.self.now c.args.name.now c.self.view_is
    c.in_ok-name.ensures.ok c.requires c.in_ok-insert.ensures.entries
