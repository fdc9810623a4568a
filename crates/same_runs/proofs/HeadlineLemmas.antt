-- The outcome of `blocks` has the headline.
use Rattle.std.proofs.Common.{◌≡◌, ℕ, suc, ◌+◌, ◌≤◌, List, [], length, Result, Ok, Err, refl, sym, ap, subst, ◌∙◌, arith, ◌∷◌, fold}
use Rattle.std.specs.Prelude.{IsSome}
use Rattle.std.proofs.lemmas.Bool.{false≢true}
use Rattle.std.proofs.lemmas.List.Sums.{fold-append}
use Rattle.desk_io.specs.declared.shelf.Found.{Found}
use Rattle.gtfs_tables.specs.declared.fault.FeedFault.{FeedFault}
use Rattle.gtfs_tables.specs.Reading.{table_in}
use Rattle.gtfs_tables.specs.declared.paper.Paper.{Paper}
use Rattle.gtfs_tables.specs.declared.paper.Paper.TheVariants as paper
use Rattle.edit_script.specs.Machine.{State, after_record, begun, or_stays, timetable_at, with_record}
use Rattle.edit_script.specs.declared.edit.Line.{Line}
use Rattle.edit_script.specs.declared.fault.EditFault.{EditFault}
use Rattle.trip_model.specs.Timetable.{TimetableView}
use Rattle.desk_feed.specs.Feed.{FeedView, said_by}
use Rattle.desk_feed.specs.Judging.{Does, refusing, said_in}
use Rattle.desk_feed.specs.Script.{first_records, gathered, record_at, refusal_in, standing_at, state_at, step_at}
use Rattle.desk_run.specs.Commands.{IsGiven}
use Rattle.desk_run.specs.Outcome.{OutcomeView, status_of}
use Rattle.desk_run.specs.Reading.{ReadView, found_of}
use Rattle.desk_run.specs.declared.status.TheConstants.{EDITS_REFUSED}
use Rattle.feed_likings.specs.Likings.{likings_by}
use Rattle.block_names.specs.Names.{NamingView}
use Rattle.feed_naming.specs.Commands.{DoesNamed}
use Rattle.feed_naming.specs.Naming.{naming_by, naming_in}
use Rattle.feed_desk.specs.Answers.{answers_by}
use Rattle.feed_desk.specs.Plans.{plan_at}
use Rattle.blocks_command.specs.Answers.{answer_text, numbers_text}
use Rattle.blocks_command.specs.Blocks.{WritesPlans, blocks_asked, blocks_does, blocks_named}
use Rattle.same_runs.specs.Headline.{Headline, IsPartOf, line_after}
use Rattle.same_runs.proofs.PutLemmas.{accepted_line, answers-part, part-before}

-- a refused record leaves the state as it is
state-stays : (base : TimetableView) (lines : List Line) (n : ℕ) → IsSome (refusal_in (step_at base lines n))
    → state_at base lines (suc n) ≡ state_at base lines n
unfolding first_records gathered
state-stays base lines n some =
    fold-append (with_record base) begun (first_records lines n) (record_at lines n ∷ []) ∙ by (step_at base lines n) some
  where
    by : (due : Result State EditFault) → IsSome (refusal_in due) → or_stays (state_at base lines n) due ≡ state_at base lines n
    by (Ok next) some = absurd (false≢true some)
    by (Err refused) some = refl

-- what `blocks` gives of an accepted feed
pub headline : (found : Paper → Found) (said : FeedView) (naming : NamingView) (outcome : OutcomeView) → said_by found ≡ Ok said
    → naming_by said.settings (table_in paper.Trips (found paper.Trips)) ≡ Ok naming
    → WritesPlans (likings_by said.settings said.base (table_in paper.Trips (found paper.Trips))) naming said outcome
    → Headline found outcome
headline found said naming outcome accepted named p =
    let base = said.base in
    let lines = said.lines in
    let are = p.are in
    let likings = likings_by said.settings said.base (table_in paper.Trips (found paper.Trips)) in
    let plan = plan_at base lines p.matrix likings in
    record {
      said = said;
      accepted = accepted;
      naming = naming;
      named = named;
      matrix = p.matrix;
      walks = p.matrix_is;
      plan = plan;
      put = λ n low none. (
          let line = line_after said p.matrix plan (suc n) in
          let before = answers_by (answer_text p.matrix naming) base lines plan (length lines) in
          let last = numbers_text (standing_at base lines (length lines)) p.matrix (plan (length lines)) in
          let numbers = numbers_text (standing_at base lines (suc n)) p.matrix (plan (suc n)) in
          let part : IsPartOf line before = subst (λ number. IsPartOf (accepted_line number numbers) before) (next n)
          (answers-part p.matrix naming base lines plan (length lines) n low none) in
          subst (λ (o : OutcomeView). IsPartOf line o.text) (sym p.done) (part-before line before last part));
      last = (answers_by (answer_text p.matrix naming) base lines plan (length lines), ap (λ (o : OutcomeView). o.text) p.done);
      without = λ m low. (let w = are.without m low in (w.blocks, w.fewest, w.count));
      least = λ m low. (are.scheduled m low).least;
      chosen = are.chosen;
      written = ap (λ (o : OutcomeView). o.writes) p.done;
      claimed = p.accepted;
      undone = λ m k low low' same. (ap (fold after_record base) same, are.restored m k low low' same);
      refused = λ n low some. (ap (timetable_at base) (state-stays base lines n some), are.unchanged n low some);
    }
  where
    next : (n : ℕ) → n + 1 ≡ suc n
    next n = omega arith

-- and a run that has done all has done so with an accepted feed
pub headline-of : (read : ReadView) (outcome : OutcomeView) → IsGiven blocks_asked read outcome → status_of outcome.ending ≤ EDITS_REFUSED
    → Headline (found_of read.pages) outcome
unfolding blocks_asked
headline-of read outcome given low = by (said_in read) refl given.gives
  where
    high : (refused : FeedFault) → outcome ≡ refusing refused → Headline (found_of read.pages) outcome
    high refused does = absurd (omega (arith, low, ap (λ (o : OutcomeView). status_of o.ending) does))

    by : (result : Result FeedView FeedFault) → said_in read ≡ result → Does (blocks_does.Gives read) result outcome
        → Headline (found_of read.pages) outcome
    by (Ok said) is does = named (naming_in read said.settings) refl does
      where
        named : (result : Result NamingView FeedFault) → naming_in read said.settings ≡ result
            → DoesNamed (λ naming. blocks_named.Gives read naming said) result outcome → Headline (found_of read.pages) outcome
        named (Ok naming) named_is does = headline (found_of read.pages) said naming outcome is named_is does
        named (Err refused) named_is does = high refused does
    by (Err refused) is does = high refused does
