-- What `audit` gives of an accepted feed is what it asks.
use Rattle.std.proofs.Common.{◌≡◌, ◌≢◌, inl, inr, ℕ, Bool, true, false, List, [], ◌∷◌, length, None, Result, Ok, Err, Global, Vec}
use Rattle.std.proofs.Common.{if◌then◌else◌, refl, sym, ap, subst, ◌∙◌}
use Rattle.std.specs.Prelude.{IfOk}
use Rattle.std.proofs.lemmas.List.{length-map}
use Rattle.gtfs_tables.specs.Table.{TableView}
use Rattle.gtfs_tables.specs.declared.paper.Column.TheVariants as column
use Rattle.gtfs_tables.specs.declared.fault.FeedFault.{FeedFault}
use Rattle.gtfs_tables.specs.Reading.{place_of}
use Rattle.trip_model.specs.Timetable.{TimetableView}
use Rattle.deadhead_matrix.specs.Matrix.{MatrixView}
use Rattle.desk_settings.specs.Selected.{chosen_in, is_selected}
use Rattle.desk_settings.specs.Settings.{SettingsView}
use Rattle.block_audit.specs.declared.misfit.Misfit.{Misfit}
use Rattle.block_audit.specs.Misfits.{misfits_in}
use Rattle.block_audit.specs.Stated.{AreNames, NamedBlock, stated_in}
use Rattle.block_audit.proofs.StatedLemmas.{are-blocking, have-no-misfit}
use Rattle.desk_run.specs.Outcome.{OutcomeView}
use Rattle.desk_run.specs.Reading.{ReadView}
use Rattle.desk_run.specs.declared.status.Ending.{Ending}
use Rattle.desk_run.specs.declared.status.Ending.TheVariants as ending
use Rattle.desk_feed.specs.declared.script.Edited.{Edited}
use Rattle.desk_feed.specs.Edited.{IsEdited}
use Rattle.desk_feed.specs.Feed.{FeedView, standing}
use Rattle.desk_feed.specs.Judging.{IsGivenOf, ending_of, refused_of}
use Rattle.desk_feed.specs.Schedule.{IsMatrixFor}
use Rattle.desk_feed.specs.Script.{some_refused}
use Rattle.audit_command.specs.declared.audit.Auditable.TheVariants.{Trips, Refused}
use Rattle.audit_command.specs.Audit.{AuditEndsBy, AuditsBy, IsAudited, IsRefusedName, JudgesStated, audit_does, ending_with_misfits}
use Rattle.audit_command.specs.Audit.{stated_of, trips_table}
use Rattle.audit_command.specs.Auditable.{IsAuditable, Judges}
use Rattle.desk_feed.proofs.OneMatrix.{matrix-same}

-- a record is not judged where its `block_id` is refused
refused-names : (trips : TableView) (chosen : List Bool) (outcome : OutcomeView) → IsRefusedName trips chosen outcome
    → ¬ AreNames trips chosen
refused-names trips chosen outcome is names = is.first.bad (names is.record_before is.first.within is.first.selected)

-- what is done where nothing is judged
refused-by : (said : FeedView) (trips : Result TableView FeedFault) (outcome : OutcomeView)
    → IsAuditable said.settings trips (Refused outcome)
    → AuditsBy said trips outcome × AuditEndsBy said trips outcome.ending × (outcome.lines ≡ None)
refused-by said (Err refused) outcome is = (is, ap (λ (o : OutcomeView). o.ending) is, ap (λ (o : OutcomeView). o.lines) is)
refused-by said (Ok trips) outcome is = (
  inl is,
  record {
    judged = λ names. absurd (refused-names trips (chosen_in said.settings trips) outcome is names);
    refused = λ no. ap (λ (o : OutcomeView). o.ending) is.done;
  },
  ap (λ (o : OutcomeView). o.lines) is.done,
)

pub refused-given : (read : ReadView) (said : FeedView) (outcome : OutcomeView)
    → IsAuditable said.settings (trips_table read) (Refused outcome) → IsGivenOf audit_does read said outcome
refused-given read said outcome is =
    let does = refused-by said (trips_table read) outcome is in
    record { gives = does.0; ends = does.1; unkept = λ _. does.2 }

-- an ending after a script is not that of a no
abbrev is-no : Ending → Type 0
is-no ending.No = Unit {0}
is-no end = ⊥

script-ends : (some : Bool) → (if some then ending.EditsRefused else ending.Done) ≢ ending.No
script-ends true e = subst is-no (sym e) tt
script-ends false e = subst is-no (sym e) tt

module _ (refused : List ℕ) (end : Ending) (timetable : TimetableView) (matrix : MatrixView) (stated : List NamedBlock)
    (outcome : OutcomeView) where
  judged-ends : (misfits : List Misfit) → JudgesStated refused end timetable matrix stated misfits outcome
      → outcome.ending ≡ ending_with_misfits misfits end
  judged-ends [] is = ap (λ (o : OutcomeView). o.ending) is.done
  judged-ends (misfit ∷ misfits) is = ap (λ (o : OutcomeView). o.ending) is

  judged-lines : (misfits : List Misfit) → JudgesStated refused end timetable matrix stated misfits outcome → outcome.lines ≡ None
  judged-lines [] is = ap (λ (o : OutcomeView). o.lines) is.done
  judged-lines (misfit ∷ misfits) is = ap (λ (o : OutcomeView). o.lines) is

-- a run that does not end as no has no misfit, and one that does has one
none-by : (misfits : List Misfit) (end : Ending) → ending_with_misfits misfits end ≢ ending.No → misfits ≡ []
none-by [] end not = refl
none-by (misfit ∷ misfits) end not = absurd (not refl)

module _ (said : FeedView) (trips : TableView) where
  abbrev here : List NamedBlock
  here = stated_of said trips

  pub audited-by : AreNames trips (chosen_in said.settings trips) → (matrix : MatrixView) → IsMatrixFor said matrix
      → (outcome : OutcomeView) → JudgesStated (refused_of said) (ending_of said) (standing said) matrix here
      (misfits_in (standing said) matrix here) outcome
      → AuditsBy said (Ok trips) outcome × AuditEndsBy said (Ok trips) outcome.ending × (outcome.lines ≡ None)
  audited-by names matrix is outcome judged =
      let ends = judged-ends (refused_of said) (ending_of said) (standing said) matrix here outcome
      (misfits_in (standing said) matrix here) judged in
      let of : IsAudited said trips outcome = record {
        matrix = matrix;
        matrix_is = is;
        judged = judged;
        no = λ ended are.
            let none = have-no-misfit (standing said) matrix here are in
            script-ends (some_refused said.base said.lines (length said.lines))
            (sym (ends ∙ ap (λ misfits. ending_with_misfits misfits (ending_of said)) none) ∙ ended);
        blocking = λ other.
            are-blocking trips (standing said) (chosen_in said.settings trips) matrix
            (none-by (misfits_in (standing said) matrix here) (ending_of said) (λ e. other (ends ∙ e)));
      } in (
        inr (names, of),
        record {
          judged = λ _ other other_is.
              ends
              ∙ ap (λ m. ending_with_misfits (misfits_in (standing said) m here) (ending_of said))
              (matrix-same said.entries said.pulls said.rules (length said.base.places) matrix other is other_is);
          refused = λ no. absurd (no names);
        },
        judged-lines (refused_of said) (ending_of said) (standing said) matrix here outcome (misfits_in (standing said) matrix here) judged,
      )

-- what is put of the timetable after the script
module _ (said : FeedView) (matrix : MatrixView) (edited : Edited) (table : TableView) (chosen : Vec Bool Global) where
  audited-read : IsMatrixFor said matrix → IsEdited said.base said.lines edited → (read : Result TableView FeedFault)
      → IsAuditable said.settings read (Trips table chosen) → (outcome : OutcomeView) → Judges edited matrix table chosen.items outcome
      → AuditsBy said read outcome × AuditEndsBy said read outcome.ending × (outcome.lines ≡ None)
  audited-read is stands (Err refused) may outcome judged = absurd may
  audited-read is stands (Ok trips) may outcome judged =
      let judge : List ℕ → Ending → TimetableView → TableView → List Bool → Type 0 = λ refused end t trips chosen.
      JudgesStated refused end t matrix (stated_in trips t chosen) (misfits_in t matrix (stated_in trips t chosen)) outcome in
      let by-refused : judge (refused_of said) edited.ending edited.script.timetable table chosen.items =
      subst (λ r. judge r edited.ending edited.script.timetable table chosen.items) stands.refused judged in
      let by-ending : judge (refused_of said) (ending_of said) edited.script.timetable table chosen.items =
      subst (λ e. judge (refused_of said) e edited.script.timetable table chosen.items) stands.ending by-refused in
      let by-timetable : judge (refused_of said) (ending_of said) (standing said) table chosen.items =
      subst (λ t. judge (refused_of said) (ending_of said) t table chosen.items) stands.timetable by-ending in
      let by-trips : judge (refused_of said) (ending_of said) (standing said) trips chosen.items =
      subst (λ t. judge (refused_of said) (ending_of said) (standing said) t chosen.items) may.0 by-timetable in
      let by-chosen : judge (refused_of said) (ending_of said) (standing said) trips (chosen_in said.settings trips) =
      subst (λ c. judge (refused_of said) (ending_of said) (standing said) trips c) may.1 by-trips in
      audited-by said trips may.2 matrix is outcome by-chosen

  pub audited-given : {E : Type 0} (read : ReadView) → IsMatrixFor said matrix → IsEdited said.base said.lines edited
      → IsAuditable said.settings (trips_table read) (Trips table chosen) → (result : Result OutcomeView E)
      → IfOk result (Judges edited matrix table chosen.items) → IfOk result (IsGivenOf audit_does read said)
  audited-given read is stands may (Err e) judged = tt
  audited-given read is stands may (Ok outcome) judged =
      let does = audited-read is stands (trips_table read) may outcome judged in
      record { gives = does.0; ends = does.1; unkept = λ _. does.2 }

-- trips that may be judged have the `block_id` of each selected record as text, and a mark for each record
pub names-of : (settings : SettingsView) (read : Result TableView FeedFault) (table : TableView) (chosen : Vec Bool Global)
    → IsAuditable settings read (Trips table chosen)
    → (length chosen.items ≡ length table.rows) × AreNames table chosen.items
names-of settings (Err refused) table chosen may = absurd may
names-of settings (Ok trips) table chosen may =
    let count : length (chosen_in settings trips) ≡ length trips.rows =
    length-map trips.rows (is_selected settings (place_of column.ServiceId trips.header)) in (
      ap length may.1 ∙ count ∙ sym (ap (λ (t : TableView). length t.rows) may.0),
      subst (λ (t : TableView). AreNames t chosen.items) (sym may.0) (subst (AreNames trips) (sym may.1) may.2),
    )
