use Rattle.std.proofs.Common.{ap, ◌∙◌}
use Rattle.desk_settings.specs.Names.{is_among}
use Rattle.desk_settings.proofs.NamesLemmas.{is_among-keys}
use Rattle.desk_settings.proofs.names.Names.has.Goals as goal

pub returns : goal.returns
returns c = c.contains.ensures ∙ is_among-keys c.args.name.now c.self.inside.set.keys ∙ ap (is_among c.args.name.now) c.self.view_is
