-- The parts of what `audit` does: terms of the functions inside.
use Rattle.std.specs.Prelude.{◌≡◌, Bool, List, Result, Ok, Err}
use Rattle.gtfs_tables.specs.Table.{TableView}
use Rattle.gtfs_tables.specs.declared.fault.FeedFault.{FeedFault}
use Rattle.desk_settings.specs.Selected.{chosen_in}
use Rattle.desk_settings.specs.Settings.{SettingsView}
use Rattle.deadhead_matrix.specs.Matrix.{MatrixView}
use Rattle.block_audit.specs.Misfits.{misfits_in}
use Rattle.block_audit.specs.Stated.{AreNames, stated_in}
use Rattle.desk_run.specs.Outcome.{OutcomeView}
use Rattle.desk_feed.specs.declared.script.Edited.{Edited}
use Rattle.desk_feed.specs.Judging.{refusing}
use Rattle.audit_command.specs.Audit.{JudgesStated, IsRefusedName}
use Rattle.audit_command.specs.declared.audit.Auditable.{Auditable}
use Rattle.audit_command.specs.declared.audit.Auditable.TheVariants.{Trips, Refused}

-- the table with its selected records, where the `block_id` of each is text; else the first that is not is refused
abbrev pub IsAuditable : SettingsView → Result TableView FeedFault → Auditable → Type 0
IsAuditable settings (Ok trips) (Trips table chosen) = (table ≡ trips) × (chosen.items ≡ chosen_in settings trips)
    × AreNames trips (chosen_in settings trips)
IsAuditable settings (Ok trips) (Refused outcome) = IsRefusedName trips (chosen_in settings trips) outcome
IsAuditable settings (Err refused) (Trips table chosen) = ⊥
IsAuditable settings (Err refused) (Refused outcome) = outcome ≡ refusing refused

-- the blocks that selected trips state of a timetable after its script are judged
abbrev pub Judges : Edited → MatrixView → TableView → List Bool → OutcomeView → Type 0
Judges edited matrix trips chosen outcome =
    JudgesStated edited.refused edited.ending edited.script.timetable matrix (stated_in trips edited.script.timetable chosen)
    (misfits_in edited.script.timetable matrix (stated_in trips edited.script.timetable chosen)) outcome
