-- What was read determines the outcome of a command: one after the other.
use Rattle.std.proofs.Common.{◌≡◌, ℕ, ◌+◌, ◌<◌, Bool, List, [], ◌∷◌, ◌++◌, length, None, Result, Ok, Err, sym, ap, subst, ◌∙◌, inl, inr}
use Rattle.std.proofs.Common.{⊎_elim, arith}
use Rattle.std.proofs.lemmas.Bool.{cases_lt}
use Rattle.std.proofs.lemmas.Int.{ints}
use Rattle.gtfs_tables.specs.Table.{TableView}
use Rattle.gtfs_tables.specs.declared.fault.FeedFault.{FeedFault}
use Rattle.gtfs_tables.specs.declared.fault.FeedFault.TheVariants as fault
use Rattle.gtfs_tables.specs.declared.paper.Column.TheVariants as column
use Rattle.gtfs_tables.specs.declared.paper.Paper.TheVariants as paper
use Rattle.trip_model.specs.Blocking.{empty_minutes}
use Rattle.trip_model.specs.Deficit.{live_moves}
use Rattle.trip_model.specs.Timetable.{TimetableView}
use Rattle.deadhead_matrix.specs.Fitting.{network_of}
use Rattle.deadhead_matrix.specs.Matrix.{MatrixView}
use Rattle.block_names.specs.Names.{NamingView, names_of}
use Rattle.block_writer.specs.StopTimes.{stop_time_columns}
use Rattle.plan_choice.specs.Likings.{LikingsView}
use Rattle.feed_likings.specs.Likings.{likings_in}
use Rattle.blocks_command.specs.Blocks.{blocks_asked, blocks_named, plans_outcome}
use Rattle.block_audit.specs.declared.misfit.Misfit.{Misfit}
use Rattle.block_audit.specs.Misfits.{misfits_in}
use Rattle.block_audit.specs.Stated.{NamedBlock, slots_by}
use Rattle.desk_feed.specs.Edited.{refusing_first}
use Rattle.desk_feed.specs.Feed.{FeedView, standing}
use Rattle.desk_feed.specs.Judging.{ending_of, refused_of, refusing}
use Rattle.desk_feed.specs.Numbers.{numbers_line}
use Rattle.desk_feed.proofs.OneMatrix.{matrix-same}
use Rattle.desk_program.specs.Commands.{asked_by}
use Rattle.desk_program.specs.declared.command.CommandName.{CommandName}
use Rattle.desk_program.specs.declared.command.CommandName.TheVariants.{Deficits, Fixed, Blocks, Check, Write, Chart, Chains, Shifts, Keep}
use Rattle.desk_program.specs.declared.command.CommandName.TheVariants.{Kept, Joined, Planners, Audit, Sample}
use Rattle.desk_run.specs.Outcome.{OutcomeView}
use Rattle.desk_run.specs.declared.status.Ending.{Ending}
use Rattle.desk_settings.specs.Selected.{chosen_in}
use Rattle.feed_commands.specs.Deficits.{deficits_asked, deficits_shown}
use Rattle.feed_commands.specs.Fixed.{fixed_asked, fixed_named, fixed_shown, fixed_text}
use Rattle.journal_commands.specs.Keep.{keep_asked, keep_does}
use Rattle.journal_commands.specs.Kept.{kept_asked}
use Rattle.lowering_commands.specs.Chains.{AreChains, chains_asked, chains_shown}
use Rattle.lowering_commands.specs.Shifts.{shifts_asked, shifts_shown, shifts_text}
use Rattle.joined_command.specs.Joined.{boards_outcome, joined_asked, joined_named}
use Rattle.plan_commands.specs.Chart.{chart_asked, chart_named, chart_text}
use Rattle.plan_commands.specs.Check.{check_asked, check_does, checked}
use Rattle.planner_desk.specs.declared.edit.PlannerLine.{PlannerLine}
use Rattle.planners_command.specs.Moments.{timetable_after}
use Rattle.planners_command.specs.Numbers.{IsNumbered}
use Rattle.planners_command.specs.Planners.{GivesBy, ending_behind, planners_asked, planners_does, planners_text}
use Rattle.planners_command.specs.Reading.{lines_in}
use Rattle.audit_command.specs.Audit.{AuditsBy, IsFirstBad, JudgesStated, audit_asked, audit_does, stated_of, trips_table}
use Rattle.audit_command.specs.Lines.{costs_text}
use Rattle.sample_command.specs.Sample.{HasSummary, numbered_by, sample_asked, sample_read, summary_does, summary_line}
use Rattle.write_command.specs.Write.{IsWritten, WritesBy, feed_files, stop_times_in, trip_columns, trips_table as write_trips_table}
use Rattle.write_command.specs.Write.{write_asked, write_named, written_line}
use Rattle.same_runs.specs.Same.{IsDetermined}
use Rattle.same_runs.proofs.ChainLemmas.{one-text}
use Rattle.same_runs.proofs.FeedLemmas.{determined-feed, determined-named, determined-text, one-given, one-put}
use Rattle.same_runs.proofs.LeastLemmas.{one-number, one-sum}
use Rattle.same_runs.proofs.PlanLemmas.{one-list, one-matrix}
use Rattle.same_runs.proofs.ShiftLemmas.{one-shifts}
use Rattle.same_runs.proofs.TextLemmas.{no-refusal, one-paper}

deficits-determined : IsDetermined deficits_asked
unfolding deficits_asked
deficits-determined = determined-text deficits_shown (λ stands one other is is'. is ∙ sym is')

fixed-determined : IsDetermined fixed_asked
unfolding fixed_asked
fixed-determined =
    determined-named fixed_named (λ read naming. one-put (fixed_shown naming) (λ stands one other is is'.
    is.printed ∙ ap (λ blocks. fixed_text stands.timetable stands.pulls (names_of naming blocks) blocks) (is.by_rule ∙ sym is'.by_rule)
    ∙ sym is'.printed))

chains-determined : IsDetermined chains_asked
unfolding chains_asked
chains-determined =
    determined-text chains_shown (λ stands one other is is'.
    let same = matrix-same stands.entries stands.pulls stands.rules
    (length stands.timetable.places) is.matrix is'.matrix is.matrix_is is'.matrix_is in
    let are = subst (λ matrix. AreChains matrix (live_moves stands.timetable.slots) is'.chains.chains) (sym same) is'.chains.are in
    is.chains.printed ∙ one-text stands.timetable is.matrix (live_moves stands.timetable.slots) 0 is.chains.chains is'.chains.chains
    is.chains.are are ∙ sym is'.chains.printed)

shifts-determined : IsDetermined shifts_asked
unfolding shifts_asked
shifts-determined =
    determined-text shifts_shown (λ stands one other is is'.
    is.printed ∙ ap (shifts_text stands.timetable 0) (one-shifts stands.timetable is.shifts is'.shifts is.are is'.are) ∙ sym is'.printed)

check-determined : IsDetermined check_asked
unfolding check_asked
check-determined =
    determined-feed check_does (λ read said one other is is'.
    is.done ∙ ap (checked read said)
    (matrix-same said.entries said.pulls said.rules (length said.base.places) is.matrix is'.matrix is.matrix_is is'.matrix_is)
    ∙ sym is'.done)

keep-determined : IsDetermined keep_asked
unfolding keep_asked
keep-determined = determined-feed keep_does (λ read said one other is is'. is.done ∙ sym is'.done)

kept-determined : IsDetermined kept_asked
kept-determined = λ read one other is is'. is.gives ∙ sym is'.gives

-- the numbers of a timetable, by whichever least plan
one-numbers : (timetable : TimetableView) (matrix : MatrixView) (one other : List ℕ) → IsNumbered timetable matrix one
    → IsNumbered timetable matrix other → one ≡ other
one-numbers timetable matrix one other is is' =
    let network = network_of timetable matrix in
    let without : length is.without ≡ length is'.without = omega (arith, ints, is.maxima, is'.maxima) in
    let number = one-number network is.blocks is'.blocks is.scheduled.least is'.scheduled.least in
    let sum = one-sum network is.blocks is'.blocks is.scheduled.least is'.scheduled.least in
    is.put ∙ (λ i. numbers_line (without i) (number i) (sum i)) ∙ sym is'.put

one-planners : (said : FeedView) (lines : Result (List PlannerLine) FeedFault) (one other : OutcomeView) → GivesBy said lines one
    → GivesBy said lines other → one ≡ other
one-planners said (Ok lines) one other is is' =
    let same = matrix-same said.entries said.pulls said.rules (length said.base.places) is.matrix is'.matrix is.matrix_is is'.matrix_is in
    let numbered = subst (λ matrix. IsNumbered (timetable_after (standing said) lines) matrix is'.planned.numbers) (sym same)
    is'.planned.numbered in
    let numbers = one-numbers (timetable_after (standing said) lines) is.matrix is.planned.numbers is'.planned.numbers is.planned.numbered
    numbered in
    is.planned.done
    ∙ ap (λ numbers. refusing_first (refused_of said) (planners_text (standing said) lines numbers)
    (ending_behind (standing said) lines (ending_of said))) numbers
    ∙ sym is'.planned.done
one-planners said (Err refused) one other is is' = is ∙ sym is'

planners-determined : IsDetermined planners_asked
unfolding planners_asked
planners-determined = determined-feed planners_does (λ read said one other. one-planners said (lines_in read) one other)

-- the cost of stated blocks beside whichever least ones
one-cost : (refused : List ℕ) (end : Ending) (timetable : TimetableView) (matrix : MatrixView) (stated : List NamedBlock)
    (misfits : List Misfit) (one other : OutcomeView)
    → JudgesStated refused end timetable matrix stated misfits one → JudgesStated refused end timetable matrix stated misfits other
    → one ≡ other
one-cost refused end timetable matrix stated [] one other is is' =
    let network = network_of timetable matrix in
    let number = one-number network is.least is'.least is.scheduled.least is'.scheduled.least in
    let sum = one-sum network is.least is'.least is.scheduled.least is'.scheduled.least in
    is.done
    ∙ (λ i. refusing_first refused (costs_text (length (slots_by stated)) (empty_minutes network (slots_by stated)) (number i) (sum i)) end)
    ∙ sym is'.done
one-cost refused end timetable matrix stated (misfit ∷ misfits) one other is is' = is ∙ sym is'

-- two first records whose name is not text are one
one-bad : (trips : TableView) (chosen : List Bool) (r s : ℕ) → IsFirstBad trips chosen r → IsFirstBad trips chosen s → r ≡ s
one-bad trips chosen r s is is' = ⊎_elim
    (λ (less : r < s). absurd (is.bad (is'.before r less is.selected)))
    (λ more. ⊎_elim (λ (less : s < r). absurd (is'.bad (is.before s less is'.selected))) (λ rest. omega (arith, more, rest)) (cases_lt s r))
    (cases_lt r s)

one-audit : (said : FeedView) (trips : Result TableView FeedFault) (one other : OutcomeView) → AuditsBy said trips one
    → AuditsBy said trips other → one ≡ other
one-audit said (Err refused) one other is is' = is ∙ sym is'
one-audit said (Ok trips) one other (inl is) (inl is') =
    is.done ∙ ap (λ r. refusing (fault.NotUtf8 paper.Trips (r + 1) column.BlockId))
    (one-bad trips (chosen_in said.settings trips) is.record_before is'.record_before is.first is'.first) ∙ sym is'.done
one-audit said (Ok trips) one other (inl is) (inr is') = absurd (is.first.bad (is'.0 is.record_before is.first.within is.first.selected))
one-audit said (Ok trips) one other (inr is) (inl is') = absurd (is'.first.bad (is.0 is'.record_before is'.first.within is'.first.selected))
one-audit said (Ok trips) one other (inr is) (inr is') =
    let same = matrix-same said.entries said.pulls said.rules
    (length said.base.places) is.1.matrix is'.1.matrix is.1.matrix_is is'.1.matrix_is in
    let judged = subst (λ matrix. JudgesStated (refused_of said) (ending_of said) (standing said) matrix (stated_of said trips)
    (misfits_in (standing said) matrix (stated_of said trips)) other) (sym same) is'.1.judged in
    one-cost (refused_of said) (ending_of said) (standing said) is.1.matrix (stated_of said trips)
    (misfits_in (standing said) is.1.matrix (stated_of said trips)) one other is.1.judged judged

audit-determined : IsDetermined audit_asked
unfolding audit_asked
audit-determined = determined-feed audit_does (λ read said one other. one-audit said (trips_table read) one other)

sample-determined : (trips : ℕ) → IsDetermined (sample_asked trips)
sample-determined trips = λ read one other given given'.
    one-given (summary_does trips) (λ read said one other is is'.
    let same = matrix-same said.entries said.pulls said.rules (length said.base.places) is.matrix is'.matrix is.matrix_is is'.matrix_is in
    let summary = subst (λ matrix. HasSummary (standing said) matrix (numbered_by said.settings) is'.fixed is'.vehicles is'.minutes)
    (sym same)
    is'.summary in
    let network = network_of (standing said) is.matrix in
    let fixed : is.fixed ≡ is'.fixed = omega (arith, ints, is.summary.fixed_is, summary.fixed_is) in
    let vehicles : is.vehicles ≡ is'.vehicles = is.summary.vehicles_is
    ∙ one-number network is.summary.blocks summary.blocks is.summary.scheduled.least summary.scheduled.least
    ∙ sym summary.vehicles_is in
    let minutes : is.minutes ≡ is'.minutes = is.summary.minutes_is
    ∙ one-sum network is.summary.blocks summary.blocks is.summary.scheduled.least summary.scheduled.least ∙ sym summary.minutes_is in
    is.done ∙ (λ i. refusing_first (refused_of said) (summary_line trips (fixed i) (vehicles i) (minutes i)) (ending_of said))
    ∙ sym is'.done)
    (sample_read trips) one other given.gives given'.gives

blocks-determined : IsDetermined blocks_asked
unfolding blocks_asked
blocks-determined =
    determined-named blocks_named (λ read naming said one other is is'.
    is.done ∙ ap (λ matrix. plans_outcome said.base said.lines matrix (likings_in read said.settings said.base) naming)
    (one-matrix said is.matrix is'.matrix is.matrix_is is'.matrix_is) ∙ sym is'.done)

chart-determined : IsDetermined chart_asked
unfolding chart_asked
chart-determined =
    determined-named chart_named (λ read naming said one other is is'.
    let matrix = one-matrix said is.matrix is'.matrix is.matrix_is is'.matrix_is in
    let blocks = one-list (likings_in read said.settings said.base) said is.matrix is'.matrix is.plan is'.plan is.blocks is'.blocks
    is.matrix_is is'.matrix_is is.drawn is'.drawn in
    is.done ∙ (λ i. refusing_first (refused_of said) (chart_text (standing said) (matrix i) (names_of naming (blocks i)) (blocks i))
    (ending_of said)) ∙ sym is'.done)

joined-determined : IsDetermined joined_asked
unfolding joined_asked
joined-determined =
    determined-named joined_named (λ read naming said one other is is'.
    let matrix = one-matrix said is.matrix is'.matrix is.matrix_is is'.matrix_is in
    let blocks = one-list (likings_in read said.settings said.base) said is.matrix is'.matrix is.plan is'.plan is.blocks is'.blocks
    is.matrix_is is'.matrix_is is.drawn is'.drawn in
    is.done ∙ (λ i. boards_outcome (refused_of said) (ending_of said) (names_of naming (blocks i)) (standing said) (matrix i)
    (blocks i))
    ∙ sym is'.done)

-- what is written of two papers that are tables of texts
one-written : (likings : LikingsView) (naming : NamingView) (said : FeedView) (trips stop_times : TableView) (one other : OutcomeView)
    → IsWritten likings naming said trips stop_times one
    → IsWritten likings naming said trips stop_times other → one ≡ other
one-written likings naming said trips stop_times one other is is' =
    let blocks = one-list likings said is.matrix is'.matrix is.plan is'.plan is.blocks is'.blocks is.matrix_is is'.matrix_is is.drawn
    is'.drawn in
    is.done
    ∙ (λ i. record {
      writes = feed_files naming said trips stop_times (blocks i);
      lines = None;
      text = refused_of said ++ written_line;
      ending = ending_of said;
    })
    ∙ sym is'.done

-- and where one of them is refused
one-write : (likings : LikingsView) (naming : NamingView) (said : FeedView) (trips stop_times : Result TableView FeedFault)
    (one other : OutcomeView)
    → WritesBy likings naming said trips stop_times one → WritesBy likings naming said trips stop_times other → one ≡ other
one-write likings naming said trips stop_times one other (inl is) (inl is') =
    is.done ∙ ap refusing (one-paper paper.Trips (trip_columns said.settings) trips is.refused is'.refused is.for is'.for) ∙ sym is'.done
one-write likings naming said trips stop_times one other (inl is) (inr (inl is')) =
    absurd (no-refusal paper.Trips (trip_columns said.settings) trips is.refused _ is.for is')
one-write likings naming said trips stop_times one other (inl is) (inr (inr is')) =
    absurd (no-refusal paper.Trips (trip_columns said.settings) trips is.refused _ is.for is')
one-write likings naming said trips stop_times one other (inr (inl is)) (inl is') =
    absurd (no-refusal paper.Trips (trip_columns said.settings) trips is'.refused _ is'.for is)
one-write likings naming said trips stop_times one other (inr (inr is)) (inl is') =
    absurd (no-refusal paper.Trips (trip_columns said.settings) trips is'.refused _ is'.for is)
one-write likings naming said (Err refused) stop_times one other (inr (inl is)) (inr is') = absurd is
one-write likings naming said (Err refused) stop_times one other (inr (inr is)) (inr is') = absurd is
one-write likings naming said (Ok trips) stop_times one other (inr (inl is)) (inr (inl is')) =
    is.1.done ∙ ap refusing (one-paper paper.StopTimes stop_time_columns stop_times is.1.refused is'.1.refused is.1.for is'.1.for)
    ∙ sym is'.1.done
one-write likings naming said (Ok trips) stop_times one other (inr (inl is)) (inr (inr is')) =
    absurd (no-refusal paper.StopTimes stop_time_columns stop_times is.1.refused _ is.1.for is'.1)
one-write likings naming said (Ok trips) stop_times one other (inr (inr is)) (inr (inl is')) =
    absurd (no-refusal paper.StopTimes stop_time_columns stop_times is'.1.refused _ is'.1.for is.1)
one-write likings naming said (Ok trips) (Err refused) one other (inr (inr is)) (inr (inr is')) = absurd is.1
one-write likings naming said (Ok trips) (Ok stop_times) one other (inr (inr is)) (inr (inr is')) =
    one-written likings naming said trips stop_times one other is.1.1 is'.1.1

write-determined : IsDetermined write_asked
unfolding write_asked
write-determined =
    determined-named write_named (λ read naming said one other.
    one-write (likings_in read said.settings said.base) naming said (write_trips_table read) (stop_times_in read) one other)

-- so each command's outcome is determined
pub determined : (command : CommandName) → IsDetermined (asked_by command)
determined Deficits = deficits-determined
determined Fixed = fixed-determined
determined Blocks = blocks-determined
determined Check = check-determined
determined Write = write-determined
determined Chart = chart-determined
determined Chains = chains-determined
determined Shifts = shifts-determined
determined Keep = keep-determined
determined Kept = kept-determined
determined Joined = joined-determined
determined Planners = planners-determined
determined Audit = audit-determined
determined (Sample trips) = sample-determined trips
