-- `write`, and then `audit` over the written feed: it finds the written blocks least.
use Rattle.std.proofs.Common.{◌≡◌, ℕ, ◌≤◌, List, Option, Some, None, Ok, refl, sym, ap, subst, ◌∙◌, arith}
use Rattle.std.specs.Prelude.{IfSome}
use Rattle.std.proofs.lemmas.Option.{same_Some}
use Rattle.std.specs.FinMap.{get}
use Rattle.csv.specs.Reading.{strip_bom}
use Rattle.desk_io.specs.Shelf.{Files, found_as}
use Rattle.desk_io.specs.Sink.{put_bytes}
use Rattle.desk_io.specs.declared.shelf.Found.{Found}
use Rattle.desk_io.specs.declared.shelf.Found.TheVariants.{File}
use Rattle.gtfs_tables.specs.Papers.{file_name_of}
use Rattle.gtfs_tables.specs.Reading.{or_refused, table_in}
use Rattle.gtfs_tables.specs.Table.{TableView}
use Rattle.gtfs_tables.specs.declared.paper.Paper.{Paper}
use Rattle.gtfs_tables.specs.declared.paper.Paper.TheVariants as paper
use Rattle.gtfs_tables.specs.declared.paper.TheConstants.{MOST_BYTES}
use Rattle.feed_read.specs.Base.{base_of}
use Rattle.block_names.specs.Names.{NamingView}
use Rattle.written_laws.specs.PlanLaws.{WrittenFeedStatesPlan}
use Rattle.written_laws.specs.Planned.{IsFeed}
use Rattle.plan_choice.specs.Likings.{LikingsView}
use Rattle.desk_run.specs.Becomes.{with_writings}
use Rattle.desk_run.specs.Outcome.{OutcomeView, status_of}
use Rattle.desk_run.specs.Reading.{ReadView, AreRead, found_of, pages_in}
use Rattle.desk_run.specs.Runs.{HasEnded}
use Rattle.desk_run.specs.World.{World}
use Rattle.desk_run.specs.declared.status.TheConstants.{EDITS_REFUSED}
use Rattle.desk_run.proofs.EachStatus.{pages_told}
use Rattle.desk_feed.specs.Feed.{FeedView, feed_papers, said_by, said_with}
use Rattle.desk_feed.specs.Judging.{Does, said_in}
use Rattle.write_command.specs.Write.{IsWritten, stop_times_in, stop_times_name, stop_times_of, trips_name, trips_of, trips_table}
use Rattle.write_command.specs.Write.{write_asked}
use Rattle.audit_command.specs.Audit.{AuditsBy, audit_asked}
use Rattle.two_runs.specs.Audited.{CanBeAudited, FindsLeast, IsLaid, IsReadable, IsWholeAfter}
use Rattle.two_runs.proofs.AuditedLemmas.{TellsLeast, finds-least, read_again, table_again}
use Rattle.two_runs.proofs.LaidLemmas.{HasParts, HasWritten, file-of, found-fits, has-parts, is-table, laid-alike, says-again}
use Rattle.two_runs.proofs.LaidLemmas.{stop_times-stand, trips-stand, with_both, with_texts, written-files, written-said}
use Rattle.two_runs.proofs.TwoFiles.{found-short}

-- a readable file that stands is found as it is
found-readable : (files : Files) (name bytes : List ℕ) → get files name ≡ Some bytes → IsReadable files name
    → found_as MOST_BYTES (get files name) ≡ File bytes
found-readable files name bytes stands is =
    ap (found_as MOST_BYTES) stands ∙ found-short bytes (λ long. is.short (ap (found_as MOST_BYTES) stands ∙ long))

unmarked : (files : Files) (name bytes : List ℕ) → get files name ≡ Some bytes → IsReadable files name → strip_bom bytes ≡ bytes
unmarked files name bytes stands is = subst (λ stands. IfSome stands (λ bytes. strip_bom bytes ≡ bytes)) stands is.unmarked

module _ (states : WrittenFeedStatesPlan) (files laid : Files) (first second : TableView) (outcome audit : OutcomeView) where
  abbrev before : Paper → Found
  before = found_of (pages_in feed_papers files)

  abbrev after : Paper → Found
  after = found_of (pages_in feed_papers laid)

  -- what is to be shown of what a feed says
  abbrev TellsOf : FeedView → Type 0
  TellsOf said =
      (likings : LikingsView) (naming : NamingView) (written : IsWritten likings naming said first second outcome)
      → IsWholeAfter said second
      → IsLaid (with_both files (trips_of naming said first written.blocks) (stop_times_of said second)) laid
      → IsReadable (with_both files (trips_of naming said first written.blocks) (stop_times_of said second)) trips_name
      → IsReadable (with_both files (trips_of naming said first written.blocks) (stop_times_of said second)) stop_times_name
      → Does (λ said. AuditsBy said (table_in paper.Trips (after paper.Trips))) (said_by after) audit
      → TellsLeast audit

  -- of a feed by its parts
  tells-parts : (said : FeedView) → (parts : HasParts before said) → table_in paper.Trips (before paper.Trips) ≡ Ok first
      → table_in paper.StopTimes (before paper.StopTimes) ≡ Ok second
      → TellsOf (said_with parts.settings (record parts.more { slots = parts.read.slots }) parts.entries parts.pulls parts.rules
      parts.lines)
  tells-parts said parts first_is second_is likings naming written whole is trips_readable stop_times_readable does =
      let trips = file-of paper.Trips (before paper.Trips) first first_is in
      let stop_times = file-of paper.StopTimes (before paper.StopTimes) second second_is in
      let feed : IsFeed parts.settings trips.bytes stop_times.bytes first second parts.read = record {
        trips_are = trips.reads;
        stop_times_are = stop_times.reads;
        trips_table = is-table trips.bytes first trips.reads (found-fits (get files (file_name_of paper.Trips)) trips.bytes trips.is);
        stop_times_table = is-table stop_times.bytes second stop_times.reads
            (found-fits (get files (file_name_of paper.StopTimes)) stop_times.bytes stop_times.is);
        read = (λ i. base_of parts.settings (sym trips.is i) (sym stop_times.is i)) ∙ parts.read_is;
      } in
      let now = said_with parts.settings (record parts.more { slots = parts.read.slots }) parts.entries parts.pulls parts.rules
      parts.lines in
      let trips_text = trips_of naming now first written.blocks in
      let stop_times_text = stop_times_of now second in
      let both = with_both files trips_text stop_times_text in
      let trips_stand = trips-stand files trips_text stop_times_text in
      let stop_times_stand = stop_times-stand files trips_text stop_times_text in
      let trips_unmarked = unmarked both trips_name trips_text trips_stand trips_readable in
      let stop_times_unmarked = unmarked both stop_times_name stop_times_text stop_times_stand stop_times_readable in
      let trips_found : after paper.Trips ≡ File trips_text = ap (found_as MOST_BYTES) is.trips
      ∙ found-readable both trips_name trips_text trips_stand trips_readable in
      let stop_times_found : after paper.StopTimes ≡ File stop_times_text = ap (found_as MOST_BYTES) is.stop_times
      ∙ found-readable both stop_times_name stop_times_text stop_times_stand stop_times_readable in
      let read = read_again states parts.settings parts.read parts.more parts.entries parts.pulls parts.rules parts.lines trips.bytes
      stop_times.bytes
      first second outcome feed likings naming written whole trips_unmarked stop_times_unmarked in
      let table = table_again states parts.settings parts.read parts.more parts.entries parts.pulls parts.rules parts.lines trips.bytes
      stop_times.bytes first second outcome feed likings naming written whole trips_unmarked stop_times_unmarked in
      finds-least states parts.settings parts.read parts.more parts.entries parts.pulls parts.rules parts.lines trips.bytes
      stop_times.bytes first
      second outcome feed likings naming written whole trips_unmarked stop_times_unmarked after
      (says-again after before said (laid-alike files trips_text stop_times_text laid is) parts _
      ((λ i. base_of parts.settings (trips_found i) (stop_times_found i)) ∙ read) refl (ap (found_as MOST_BYTES) is.edits))
      (ap (table_in paper.Trips) trips_found ∙ ap (or_refused paper.Trips) table)
      audit does

  tells : (said : FeedView) → said_by before ≡ Ok said → table_in paper.Trips (before paper.Trips) ≡ Ok first
      → table_in paper.StopTimes (before paper.StopTimes) ≡ Ok second → TellsOf said
  tells said says first_is second_is =
      let parts = has-parts before said says in
      subst TellsOf (sym parts.said_is) (tells-parts said parts first_is second_is)

module _ (states : WrittenFeedStatesPlan) (seen heard : Option ReadView) (before middle again after : World) (first second : ℕ)
    (one : HasEnded write_asked seen before middle first) (two : HasEnded audit_asked heard again after second)
    (all : first ≤ EDITS_REFUSED) where
  abbrev said : (said : FeedView) × (said_in one.chosen.read ≡ Ok said)
      × HasWritten said (trips_table one.chosen.read) (stop_times_in one.chosen.read) one.chosen.outcome
  said = written-said one.chosen.read one.chosen.outcome one.chosen.given (omega (arith, all, one.answered))

  abbrev has : HasWritten said.0 (trips_table one.chosen.read) (stop_times_in one.chosen.read) one.chosen.outcome
  has = said.2

  abbrev trips_text : List ℕ
  trips_text = trips_of has.naming said.0 has.first has.written.blocks

  abbrev stop_times_text : List ℕ
  stop_times_text = stop_times_of said.0 has.second

  files_between : middle.shelf.files ≡ with_texts trips_text stop_times_text before.shelf.files
  files_between =
      ap (λ (w : World). w.shelf.files) one.carried
      ∙ ap (λ (o : OutcomeView). (with_writings o.writes before.shelf).files) has.written.done
      ∙ written-files has.naming said.0 has.first has.second has.written.blocks before.shelf

  module _ (files written laid : Files) (told : before.shelf.files ≡ Some files) (now : middle.shelf.files ≡ Some written)
      (there : again.shelf.files ≡ Some laid) where
    both : written ≡ with_both files trips_text stop_times_text
    both = same_Some written (with_both files trips_text stop_times_text)
        (sym now ∙ files_between ∙ ap (with_texts trips_text stop_times_text) told)

    read_first : one.chosen.read.pages ≡ pages_in feed_papers files
    unfolding write_asked
    read_first = pages_told files feed_papers one.chosen.read.pages
        (subst (λ fs. AreRead fs feed_papers one.chosen.read.pages) told one.chosen.told.pages)

    read_second : two.chosen.read.pages ≡ pages_in feed_papers laid
    unfolding audit_asked
    read_second = pages_told laid feed_papers two.chosen.read.pages
        (subst (λ fs. AreRead fs feed_papers two.chosen.read.pages) there two.chosen.told.pages)

    audited : Does (λ said. AuditsBy said (table_in paper.Trips (found_of (pages_in feed_papers laid) paper.Trips)))
        (said_by (found_of (pages_in feed_papers laid))) two.chosen.outcome
    unfolding audit_asked
    audited =
        subst (λ pages. Does (λ said. AuditsBy said (table_in paper.Trips (found_of pages paper.Trips))) (said_by (found_of pages))
        two.chosen.outcome) read_second two.chosen.given.gives

    least : IsLaid written laid → CanBeAudited files written → FindsLeast again.sink after.sink second
    least is can =
        let says = sym (ap (λ pages. said_by (found_of pages)) read_first) ∙ said.1 in
        let first_is = sym (ap (λ pages. table_in paper.Trips (found_of pages paper.Trips)) read_first) ∙ has.first_is in
        let second_is = sym (ap (λ pages. table_in paper.StopTimes (found_of pages paper.StopTimes)) read_first) ∙ has.second_is in
        let told =
        tells states files laid has.first has.second one.chosen.outcome two.chosen.outcome said.0 says first_is second_is has.likings
        has.naming has.written
        (can.whole said.0 has.second says second_is)
        (subst (λ written. IsLaid written laid) both is) (subst (λ written. IsReadable written trips_name) both can.trips)
        (subst (λ written. IsReadable written stop_times_name) both can.stop_times) audited in
        record {
          vehicles = told.vehicles;
          minutes = told.minutes;
          done = two.answered ∙ ap (λ (o : OutcomeView). status_of o.ending) told.done;
          put = ap (λ (w : World). w.sink) two.carried ∙ ap (λ (o : OutcomeView). put_bytes o.text again.sink) told.done;
        }

  pub finds-written-least : IfSome before.shelf.files
      (λ files. IfSome middle.shelf.files
      (λ written. IfSome again.shelf.files
      (λ laid. IsLaid written laid → CanBeAudited files written → FindsLeast again.sink after.sink second)))
  finds-written-least = by before.shelf.files middle.shelf.files again.shelf.files refl refl refl
    where
      by : (o p q : Option Files) → before.shelf.files ≡ o → middle.shelf.files ≡ p → again.shelf.files ≡ q
          → IfSome o (λ files. IfSome p (λ written. IfSome q
          (λ laid. IsLaid written laid → CanBeAudited files written → FindsLeast again.sink after.sink second)))
      by None p q told now there = tt
      by (Some files) None q told now there = tt
      by (Some files) (Some written) None told now there = tt
      by (Some files) (Some written) (Some laid) told now there = least files written laid told now there
