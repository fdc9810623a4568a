-- What `joined` gives of an accepted feed is what it asks.
use Rattle.std.proofs.Common.{◌≡◌, ℕ, ◌≤ℤ◌, List, [], length, pos, Result, Ok, Err, refl, sym, ap, subst, ◌∙◌}
use Rattle.std.specs.Prelude.{IfOk}
use Rattle.desk_io.specs.declared.shelf.Found.{Found}
use Rattle.gtfs_tables.specs.Reading.{◌>>=◌}
use Rattle.gtfs_tables.specs.declared.fault.FeedFault.{FeedFault}
use Rattle.gtfs_tables.specs.declared.paper.Paper.{Paper}
use Rattle.gtfs_tables.specs.declared.paper.Paper.TheVariants as paper
use Rattle.trip_model.specs.Blocking.{IsBlocking, IsLeast}
use Rattle.trip_model.specs.Deficit.{deficit}
use Rattle.trip_model.specs.Maximum.{sum_of_maxima}
use Rattle.trip_model.specs.Timetable.{TimetableView, IsTimetable}
use Rattle.deadhead_matrix.specs.declared.entry.Entry.{Entry}
use Rattle.deadhead_matrix.specs.Deadheads.{deadheads_of}
use Rattle.deadhead_matrix.specs.Fitting.{network_of}
use Rattle.deadhead_matrix.specs.Matrix.{MatrixView, AreLeastWalks}
use Rattle.plan_choice.specs.Likings.{LikingsView}
use Rattle.joined_deficits.specs.Joined.{TakeTime, joined_moves}
use Rattle.desk_run.specs.Outcome.{OutcomeView}
use Rattle.desk_run.specs.Reading.{ReadView, found_of}
use Rattle.edit_script.specs.declared.edit.Line.{Line}
use Rattle.desk_feed.specs.Edited.{standing_after}
use Rattle.desk_feed.specs.Feed.{FeedView, deadheads_in, lines_in, pulls_in, rules_in, said_by, said_with, settings_in}
use Rattle.desk_feed.specs.Feed.{standing, timetable_in}
use Rattle.desk_feed.specs.Judging.{ending_of, refused_of, said_in}
use Rattle.desk_feed.specs.Schedule.{IsMatrixFor}
use Rattle.desk_feed.proofs.ScriptLemmas.{standing-places}
use Rattle.feed_likings.specs.Likings.{likings_in}
use Rattle.block_names.specs.Names.{NamingView, names_of}
use Rattle.feed_naming.specs.Commands.{IsGivenNamed}
use Rattle.feed_desk.specs.Drawn.{HasDrawn, IsDrawn}
use Rattle.feed_desk.specs.declared.draw.Drawn.{Drawn}
use Rattle.feed_desk.proofs.DrawnLemmas.{drawn-scheduled, drawn-valid}
use Rattle.joined_command.specs.Joined.{boards_outcome, joined_named}

read-parts : {A B : Type 0} (read : Result A FeedFault) (next : A → Result B FeedFault) (x : B) → (read >>= next) ≡ Ok x
    → (y : A) × (read ≡ Ok y) × (next y ≡ Ok x)
read-parts (Ok y) next x e = (y, refl, e)
read-parts (Err refused) next x e = absurd (no e)
  where
    holds : {X : Type 0} → Result X FeedFault → Type 0
    holds (Ok x) = ⊥
    holds (Err refused) = Unit {0}

    no : Err refused ≡ Ok x → ⊥
    no e = subst holds e tt

same_Ok : {X : Type 0} (result : Result X FeedFault) (x y : X) → result ≡ Ok x → result ≡ Ok y → x ≡ y
same_Ok result x y one other = ap (or x) (sym one ∙ other)
  where
    or : {X : Type 0} → X → Result X FeedFault → X
    or d (Ok x) = x
    or d (Err refused) = d

-- what is needed of the laws
abbrev pub EntriesTakeTime : Type 0
EntriesTakeTime = (found : Found) (timetable after : TimetableView) (entries : List Entry)
    → deadheads_of found timetable ≡ Ok (after, entries) → TakeTime entries

abbrev pub JoinedIsLeast : Type 0
JoinedIsLeast = (timetable : TimetableView) (matrix : MatrixView) (blocks : List (List ℕ)) → IsTimetable timetable → AreLeastWalks matrix
    → length matrix.walks ≡ length timetable.places → TakeTime matrix.entries
    → matrix.rules ≡ []
    → IsLeast (network_of timetable matrix) blocks
    → sum_of_maxima (deficit (joined_moves timetable matrix blocks)) (length timetable.places) ≡ pos (length blocks)

abbrev pub JoinedIsMost : Type 0
JoinedIsMost = (timetable : TimetableView) (matrix : MatrixView) (blocks : List (List ℕ)) → IsTimetable timetable → AreLeastWalks matrix
    → length matrix.walks ≡ length timetable.places → TakeTime matrix.entries
    → IsBlocking (network_of timetable matrix) blocks
    → sum_of_maxima (deficit (joined_moves timetable matrix blocks)) (length timetable.places) ≤ℤ pos (length blocks)

-- the entries of an accepted feed take time
entries-said : EntriesTakeTime → (found : Paper → Found) (said : FeedView) → said_by found ≡ Ok said → TakeTime said.entries
unfolding said_by
entries-said law found said e =
    let settings = read-parts (settings_in found) _ said e in
    let base = read-parts (timetable_in found settings.0) _ said settings.2 in
    let entries = read-parts (deadheads_in found base.0) _ said base.2 in
    let pulls = read-parts (pulls_in found entries.0.0) _ said entries.2 in
    let rules = read-parts (rules_in found) _ said pulls.2 in
    let lines = read-parts (lines_in found) _ said rules.2 in
    let given = said_with settings.0 entries.0.0 entries.0.1 pulls.0 rules.0 lines.0 in
    subst (λ (s : FeedView). TakeTime s.entries) (same_Ok (Ok given) given said refl lines.2)
    (law (found paper.Deadheads) base.0 entries.0.0 entries.0.1 entries.1)

-- what is drawn is a blocking of the trips that run
pub drawn-blocking : {D : Type 0} (base : TimetableView) (lines : List Line) (matrix : MatrixView)
    (likings : LikingsView) (drawn : Drawn D) → HasDrawn base lines matrix likings drawn
    → IsBlocking (network_of drawn.desk.script.timetable drawn.desk.matrix) drawn.blocks
drawn-blocking base lines matrix likings drawn has =
    subst (λ (t : TimetableView). IsBlocking (network_of t drawn.desk.matrix) drawn.blocks) (sym has.timetable)
    (subst (λ matrix. IsBlocking (network_of (standing_after base lines) matrix) drawn.blocks) (sym has.matrix_is)
    (drawn-scheduled base lines matrix likings drawn.desk.plan drawn.blocks has.plan).least.fewest.blocking)

pub joined-given : {D E : Type 0} (read : ReadView) (naming : NamingView) (said : FeedView) (matrix : MatrixView) (likings : LikingsView)
    (drawn : Drawn D)
    → JoinedIsMost → JoinedIsLeast → EntriesTakeTime → said_in read ≡ Ok said → IsMatrixFor said matrix
    → HasDrawn said.base said.lines matrix likings drawn
    → likings ≡ likings_in read said.settings said.base
    → (result : Result OutcomeView E)
    → IfOk result (λ outcome. outcome ≡ boards_outcome drawn.refused drawn.ending (names_of naming drawn.blocks)
    drawn.desk.script.timetable drawn.desk.matrix drawn.blocks)
    → IfOk result (IsGivenNamed joined_named read naming said)
joined-given read naming said matrix likings drawn most least law says is has liked (Err e) done = tt
joined-given read naming said matrix likings drawn most least law says is has liked (Ok outcome) done =
    let scheduled = drawn-scheduled said.base said.lines matrix likings drawn.desk.plan drawn.blocks has.plan in
    let valid = drawn-valid said.base said.lines matrix likings drawn.desk.plan drawn.blocks has.plan in
    let here : outcome ≡ boards_outcome (refused_of said) (ending_of said) (names_of naming drawn.blocks)
    (standing said) matrix drawn.blocks =
    done ∙ (λ i. boards_outcome (has.refused i) (has.ending i) (names_of naming drawn.blocks) (has.timetable i)
    (has.matrix_is i) drawn.blocks) in
    let count : length matrix.walks ≡ length (standing said).places = is.count
    ∙ sym (ap length (standing-places said.base said.lines (length said.lines))) in
    let time = subst TakeTime (sym is.entries_are) (entries-said law (found_of read.pages) said says) in
    record {
      gives = record {
        matrix = matrix;
        matrix_is = is;
        plan = drawn.desk.plan;
        blocks = drawn.blocks;
        drawn = subst (λ l. IsDrawn said.base said.lines matrix l drawn.desk.plan drawn.blocks) liked has.plan;
        done = here;
        most = most (standing said) matrix drawn.blocks valid is.walks count time scheduled.least.fewest.blocking;
        sum = λ free. least (standing said) matrix drawn.blocks valid is.walks count time (is.rules_are ∙ free) scheduled.least;
      };
      ends = ap (λ (o : OutcomeView). o.ending) here;
      unkept = ap (λ (o : OutcomeView). o.lines) here;
    }
