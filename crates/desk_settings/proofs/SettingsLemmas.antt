-- The services that are kept of those that are selected.
use Rattle.std.proofs.Common.{◌≡◌, ◌&&◌, List, Option, Some, None, ap, ◌∙◌}
use Rattle.gtfs_tables.specs.Entries.{Name}
use Rattle.desk_settings.specs.Names.{each_once, is_among}
use Rattle.desk_settings.specs.Settings.{SettingsView, is_chosen, is_in, kept_services, with_services_kept}
use Rattle.desk_settings.proofs.NamesLemmas.{among-kept, among-once}

kept-in : (services : Option (List Name)) (running : List Name) (service : Name)
    → is_among service (kept_services services running) ≡ (is_in services service && is_among service running)
kept-in None running service = among-once service running
kept-in (Some services) running service = among-kept service (each_once running) services
    ∙ ap (λ b. is_among service services && b) (among-once service running)

-- a service is chosen where it was and runs
pub chosen-kept : (settings : SettingsView) (running : List Name) (service : Name)
    → is_chosen (with_services_kept settings running) service ≡ (is_chosen settings service && is_among service running)
chosen-kept settings running service = kept-in settings.services running service
