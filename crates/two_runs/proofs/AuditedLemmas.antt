-- What `audit` finds of the written feed, by what it says.
use Rattle.std.proofs.Common.{◌≡◌, inl, inr, ℕ, List, [], ◌++◌, length, Option, Ok, sym, ap, subst, ◌∙◌, arith}
use Rattle.std.specs.Prelude.{codes}
use Rattle.csv.specs.Reading.{strip_bom}
use Rattle.desk_io.specs.declared.shelf.Found.{Found}
use Rattle.desk_io.specs.declared.shelf.Found.TheVariants.{File}
use Rattle.gtfs_tables.specs.Reading.{table_in}
use Rattle.gtfs_tables.specs.Table.{TableView, table_of}
use Rattle.gtfs_tables.specs.declared.paper.Paper.{Paper}
use Rattle.gtfs_tables.specs.declared.paper.Paper.TheVariants as paper
use Rattle.desk_settings.specs.Selected.{chosen_in}
use Rattle.desk_settings.specs.Settings.{SettingsView}
use Rattle.trip_model.specs.Blocking.{IsLeast, empty_minutes}
use Rattle.trip_model.specs.Links.{blocks_along}
use Rattle.trip_model.specs.Order.{by_departure}
use Rattle.trip_model.specs.Plain.{trip_moves}
use Rattle.trip_model.specs.Timetable.{TimetableView, IsTimetable}
use Rattle.edit_script.specs.declared.edit.Line.{Line}
use Rattle.edit_script.specs.Machine.{machine, timetable_at}
use Rattle.feed_read.specs.Base.{base_of}
use Rattle.pair_rules.specs.Rules.{PairRule}
use Rattle.deadhead_matrix.specs.declared.entry.Entry.{Entry}
use Rattle.deadhead_matrix.specs.declared.pulls.Pull.{Pull}
use Rattle.deadhead_matrix.specs.Matrix.{MatrixView}
use Rattle.deadhead_matrix.specs.Fitting.{network_of}
use Rattle.block_build.specs.Names.{AreBlockNames}
use Rattle.block_names.specs.Names.{NamingView, names_of}
use Rattle.block_writer.specs.StopTimes.{stop_times_written}
use Rattle.block_writer.specs.Trips.{trips_written, with_blocks}
use Rattle.block_writer.proofs.ReadAgain as writer
use Rattle.block_audit.specs.declared.cost.Above.TheVariants.{Nothing}
use Rattle.block_audit.specs.Above.{above_by}
use Rattle.block_audit.specs.Misfits.{misfits_in}
use Rattle.block_audit.specs.Stated.{slots_by, stated_in}
use Rattle.block_audit.proofs.StatedLemmas.{have-no-misfit}
use Rattle.written_laws.specs.Follows.{IsEditedFrom}
use Rattle.written_laws.specs.Written.{as_written}
use Rattle.written_laws.proofs.Edits.{standing-follows}
use Rattle.written_laws.proofs.ReadBack.{base-forward, written-back}
use Rattle.written_laws.specs.Found.{StatesPlan}
use Rattle.written_laws.specs.PlanLaws.{WrittenFeedStatesPlan}
use Rattle.written_laws.specs.Planned.{AreReadable, IsFeed, IsWhole}
use Rattle.written_laws.proofs.Chosen.{of-feed}
use Rattle.written_laws.proofs.Moves.{same-moves}
use Rattle.plan_choice.specs.Likings.{LikingsView}
use Rattle.desk_run.specs.Outcome.{OutcomeView, putting}
use Rattle.desk_run.specs.declared.status.Ending.TheVariants as ending
use Rattle.desk_feed.specs.Feed.{FeedView, said_by, said_with, standing}
use Rattle.desk_feed.specs.Judging.{Does, ending_of, refused_of}
use Rattle.deadhead_matrix.specs.Plans.{IsScheduled}
use Rattle.desk_feed.specs.Script.{ending_by, first_records}
use Rattle.desk_feed.proofs.OneMatrix.{matrix-same}
use Rattle.desk_feed.proofs.ScriptLemmas.{first-none, refused-none, some-none}
use Rattle.feed_desk.proofs.DrawnLemmas.{drawn-scheduled, drawn-valid}
use Rattle.write_command.specs.Write.{IsWritten}
use Rattle.audit_command.specs.Audit.{AuditsBy, AuditsOf, IsAudited, IsCosted, JudgesStated}
use Rattle.audit_command.specs.Lines.{above_line, cost_line, costs_text}
use Rattle.two_runs.specs.Audited.{IsWholeAfter, least_text}
use Rattle.two_runs.proofs.DeadheadsOver.{with_slots}

-- the text of the cost of blocks that are least, beside that of least ones
least-costs : (vehicles minutes other_vehicles other_minutes : ℕ) → other_vehicles ≡ vehicles → other_minutes ≡ minutes
    → above_by vehicles minutes other_vehicles other_minutes ≡ Nothing
    → costs_text vehicles minutes other_vehicles other_minutes ≡ least_text vehicles minutes
unfolding costs_text
least-costs vehicles minutes other_vehicles other_minutes as_many as_long none =
    λ k. cost_line vehicles minutes ++ (codes "least " ++ (cost_line (as_many k) (as_long k) ++ above_line (none k)))

-- blocks that are least are told as such
pub record TellsLeast (outcome : OutcomeView) : Type 0 where
  pub vehicles : ℕ
  pub minutes : ℕ
  pub done : outcome ≡ putting (least_text vehicles minutes) ending.Done

-- the plan is stated, whichever blocks it is said to have
stated-plan : WrittenFeedStatesPlan
    → (settings : SettingsView) (trips_bytes stop_times_bytes : List ℕ) (trips stop_times : TableView) (read now : TimetableView)
    (matrix : MatrixView) (next : List (Option ℕ)) (names blocks : List (List ℕ))
    → blocks ≡ blocks_along next (by_departure (trip_moves now.slots))
    → IsFeed settings trips_bytes stop_times_bytes trips stop_times read
    → IsTimetable now
    → IsWhole read now
    → AreReadable trips stop_times now (length read.slots) (chosen_in settings trips) blocks names
    → IsLeast (network_of now matrix) blocks
    → AreBlockNames (length blocks) names
    → (table : TableView) (again : TimetableView)
    → table_of (trips_written trips now (chosen_in settings trips) blocks names) ≡ Ok table
    → base_of settings (File (trips_written trips now (chosen_in settings trips) blocks names))
    (File (stop_times_written stop_times now (length read.slots))) ≡ Ok again
    → StatesPlan table again (chosen_in settings table) matrix names blocks
stated-plan states settings trips_bytes stop_times_bytes trips stop_times read now matrix next names blocks along feed valid whole =
    subst
    (λ blocks. AreReadable trips stop_times now (length read.slots) (chosen_in settings trips) blocks names
    → IsLeast (network_of now matrix) blocks
    → AreBlockNames (length blocks) names
    → (table : TableView) (again : TimetableView)
    → table_of (trips_written trips now (chosen_in settings trips) blocks names) ≡ Ok table
    → base_of settings (File (trips_written trips now (chosen_in settings trips) blocks names))
    (File (stop_times_written stop_times now (length read.slots))) ≡ Ok again
    → StatesPlan table again (chosen_in settings table) matrix names blocks)
    (sym along)
    (λ readable least named table again table_read base_read.
    states settings trips_bytes stop_times_bytes trips stop_times read now matrix next names feed valid whole readable least named
    table again table_read base_read)

-- A feed whose timetable was read, between the places of another that knows more, and what was written of it after its script.
module _ (states : WrittenFeedStatesPlan) (settings : SettingsView) (read more : TimetableView) (entries : List Entry) (pulls : List Pull)
    (rules : List PairRule) (lines : List Line) (trips_bytes stop_times_bytes : List ℕ) (trips stop_times : TableView)
    (outcome : OutcomeView)
    (feed : IsFeed settings trips_bytes stop_times_bytes trips stop_times read) (likings : LikingsView) (naming : NamingView)
    (written : IsWritten likings naming (said_with settings (with_slots read.slots more) entries pulls rules lines) trips stop_times
    outcome)
    (whole : IsWholeAfter (said_with settings (with_slots read.slots more) entries pulls rules lines) stop_times) where
  abbrev said : FeedView
  said = said_with settings (with_slots read.slots more) entries pulls rules lines

  abbrev now : TimetableView
  now = standing said

  -- the names of the blocks
  abbrev names : List (List ℕ)
  names = names_of naming written.blocks

  abbrev trips_text : List ℕ
  trips_text = trips_written trips now (chosen_in settings trips) written.blocks names

  abbrev stop_times_text : List ℕ
  stop_times_text = stop_times_written stop_times now (length read.slots)

  -- the table and the timetable that are read again, and what the feed then says
  abbrev table : TableView
  table = with_blocks trips now (chosen_in settings trips) written.blocks names

  abbrev again : TimetableView
  again = as_written read now

  abbrev base_again : TimetableView
  base_again = with_slots again.slots more

  abbrev said_again : FeedView
  said_again = said_with settings base_again entries pulls rules []

  valid : IsTimetable now
  valid = drawn-valid said.base lines written.matrix likings written.plan written.blocks written.drawn

  scheduled : IsScheduled now written.matrix written.plan written.blocks
  scheduled = drawn-scheduled said.base lines written.matrix likings written.plan written.blocks written.drawn

  follows : IsEditedFrom read now
  follows =
      let on = standing-follows said.base (first_records lines (length lines))
      (base-forward settings (File trips_bytes) (File stop_times_bytes) read feed.read) in
      record { names = on.names; trips = on.trips }

  is_whole : IsWhole read now
  is_whole = record { follows = follows; no_extras = whole.no_extras; runs = whole.runs }

  same_moves : trip_moves again.slots ≡ trip_moves now.slots
  same_moves = same-moves read now (of-feed settings (File trips_bytes) (File stop_times_bytes) read feed.read).runs is_whole

  -- no script, no change
  standing_again : standing said_again ≡ base_again
  standing_again = ap (λ records. timetable_at base_again (machine base_again records)) (first-none [])

  -- an audit of stated blocks that are least
  costed-least : (matrix : MatrixView)
      → IsLeast (network_of base_again matrix) (slots_by (stated_in table base_again (chosen_in settings table)))
      → (audit : OutcomeView) → IsCosted [] ending.Done base_again matrix (stated_in table base_again (chosen_in settings table)) audit
      → TellsLeast audit
  costed-least matrix least audit costed =
      let network = network_of base_again matrix in
      let stated = slots_by (stated_in table base_again (chosen_in settings table)) in
      let other = costed.scheduled.least in
      let as_many : length costed.least ≡ length stated =
      omega (arith, least.fewest.fewest costed.least other.fewest.blocking, other.fewest.fewest stated least.fewest.blocking) in
      let as_long : empty_minutes network costed.least ≡ empty_minutes network stated =
      omega (arith, least.shortest costed.least other.fewest.blocking as_many, other.shortest stated least.fewest.blocking (sym as_many)) in
      record {
        vehicles = length stated;
        minutes = empty_minutes network stated;
        done = costed.done ∙ ap (λ text. putting text ending.Done)
            (least-costs (length stated) (empty_minutes network stated) (length costed.least) (empty_minutes network costed.least) as_many
            as_long (costed.nothing least));
      }

  module _ (trips_unmarked : strip_bom trips_text ≡ trips_text) (stop_times_unmarked : strip_bom stop_times_text ≡ stop_times_text) where
    pub table_again : table_of trips_text ≡ Ok table
    table_again = writer.trips-back trips now (chosen_in settings trips) written.blocks names feed.trips_table trips_unmarked

    pub read_again : base_of settings (File trips_text) (File stop_times_text) ≡ Ok again
    read_again =
        written-back settings trips_bytes stop_times_bytes trips stop_times read now (chosen_in settings trips) written.blocks
        names feed.trips_are feed.stop_times_are feed.trips_table feed.stop_times_table feed.read
        follows whole.times trips_unmarked stop_times_unmarked

    plan : StatesPlan table again (chosen_in settings table) written.matrix names written.blocks
    plan =
        stated-plan states settings trips_bytes stop_times_bytes trips stop_times read now written.matrix written.plan.next names
        written.blocks
        scheduled.along feed valid is_whole
        (record { times = whole.times; trips_unmarked = trips_unmarked; stop_times_unmarked = stop_times_unmarked })
        scheduled.least written.named table again table_again read_again

    audited-least : (audit : OutcomeView) → IsAudited said_again table audit → TellsLeast audit
    audited-least audit audited =
        let chosen = chosen_in settings table in
        let stated = stated_in table base_again chosen in
        let network : network_of base_again written.matrix ≡ network_of base_again audited.matrix =
        ap (network_of base_again) (matrix-same entries pulls rules (length more.places) written.matrix audited.matrix written.matrix_is
        audited.matrix_is) in
        let least = subst (λ network. IsLeast network (slots_by stated)) network plan.stated.least in
        let quiet =
        subst (λ (t : TimetableView).
        JudgesStated (refused_of said_again) (ending_of said_again) t audited.matrix (stated_in table t chosen)
        (misfits_in t audited.matrix (stated_in table t chosen)) audit) standing_again audited.judged in
        let judged =
        subst (λ misfits. JudgesStated [] ending.Done base_again audited.matrix stated misfits audit)
        (have-no-misfit base_again audited.matrix stated least.fewest.blocking)
        (subst (λ end. JudgesStated [] end base_again audited.matrix stated (misfits_in base_again audited.matrix stated) audit)
        (ap ending_by (some-none base_again []))
        (subst (λ refused. JudgesStated refused (ending_of said_again) base_again audited.matrix stated
        (misfits_in base_again audited.matrix stated) audit) (refused-none base_again []) quiet)) in
        costed-least audited.matrix least audit judged

    pub tells-least : (audit : OutcomeView) → AuditsOf said_again table audit → TellsLeast audit
    tells-least audit (inl refused) =
        absurd (refused.first.bad (plan.text refused.record_before refused.first.within refused.first.selected))
    tells-least audit (inr audits) = audited-least audit audits.1

    -- so it is over papers that say this
    pub finds-least : (found : Paper → Found) → said_by found ≡ Ok said_again → table_in paper.Trips (found paper.Trips) ≡ Ok table
        → (audit : OutcomeView)
        → Does (λ said. AuditsBy said (table_in paper.Trips (found paper.Trips))) (said_by found) audit → TellsLeast audit
    finds-least found says trips audit does =
        tells-least audit
        (subst (λ read. AuditsBy said_again read audit) trips
        (subst (λ result. Does (λ said. AuditsBy said (table_in paper.Trips (found paper.Trips))) result audit) says does))
