use Rattle.desk_settings.proofs.NamesLemmas.{keys-distinct}
use Rattle.desk_settings.proofs.names.Names.len.Goals as goal

pub returns-clause-distinct : goal.returns-clause-distinct
returns-clause-distinct c = keys-distinct c.self.inside.set.keys c.args.self.now c.self.view_is c.len.ensures.unique
