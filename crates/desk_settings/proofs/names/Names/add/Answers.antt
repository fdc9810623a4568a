use Rattle.desk_settings.proofs.NamesLemmas.{added}
use Rattle.desk_settings.proofs.names.Names.add.Goals as goal

pub returns-clause-added : goal.returns-clause-added
returns-clause-added c = added c.self.inside.set.keys c.insert.new.self.keys c.in_ok-name.name c.args.self.now c.args.name.now
    c.self.view_is c.in_ok-name.ensures.ok c.in_ok-insert.ensures.keys
