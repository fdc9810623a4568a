use Rattle.std.proofs.Common.{ap, ◌∙◌}
use Rattle.desk_settings.specs.Names.{is_among}
use Rattle.desk_settings.specs.Settings.{SettingsView, kept_services}
use Rattle.desk_settings.proofs.SettingsLemmas.{chosen-kept}
use Rattle.desk_settings.proofs.settings.Settings.keep_services.Goals as goal

pub returns-clause-chosen : goal.returns-clause-chosen
returns-clause-chosen c = λ service.
    let running = c.args.services.now in
    ap (is_among service) (c.in_ok-kept_services.ensures
    ∙ ap (λ (settings : SettingsView). kept_services settings.services running) c.self.view_is)
    ∙ chosen-kept c.args.self.now running service
