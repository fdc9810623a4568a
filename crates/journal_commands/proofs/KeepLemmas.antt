-- What is done of the records of a journal, and then of those of a script.
use Rattle.std.proofs.Common.{◌≡◌, List, [], ◌++◌, length, ◌||◌, false, Result, Ok, Err, ap, ◌∙◌}
use Rattle.std.specs.Prelude.{IfOk, codes, string_bytes}
use Rattle.std.proofs.lemmas.Bool.{true≢false}
use Rattle.std.proofs.lemmas.List.{append_assoc}
use Rattle.trip_model.specs.Timetable.{TimetableView}
use Rattle.edit_script.specs.declared.edit.Line.{Line}
use Rattle.edit_script.specs.Laws.{EditReadsBack}
use Rattle.desk_keeper.specs.Keeper.{Journal}
use Rattle.desk_run.specs.Outcome.{OutcomeView}
use Rattle.desk_run.specs.Reading.{ReadView}
use Rattle.desk_feed.specs.Feed.{FeedView}
use Rattle.desk_feed.specs.Judging.{IsGivenOf}
use Rattle.desk_feed.specs.Script.{ending_by}
use Rattle.journal_commands.specs.declared.replay.Replay.{Replay}
use Rattle.journal_commands.specs.declared.replay.Source.TheVariants as source
use Rattle.journal_commands.specs.Journal.{script_with}
use Rattle.journal_commands.specs.Keep.{appending, keep_does, keeping, keeping_lines, kept_lines, answers, records_line, either_refused}
use Rattle.journal_commands.specs.Replay.{all_records, answers_to, kept_to, some_to}
use Rattle.journal_commands.specs.Replayed.{IsThrough}
use Rattle.journal_commands.proofs.ReplayLemmas.{kept-journal}
use Rattle.journal_commands.proofs.Replays.{replays}

-- after both, the answers are those to the journal and then to the script
module _ (base : TimetableView) (stored : Journal) (journal lines : List Line) (begun middle last : Replay)
    (one : IsThrough base [] source.Journal 0 journal (length journal) begun middle)
    (two : IsThrough base (all_records 0 journal) source.Edits (length journal) lines (length lines) middle last)
    (text : string_bytes begun.text ≡ records_line (codes "journal ") (length journal)) (kept : begun.kept.items ≡ [])
    (some : begun.some ≡ false) where
  text-both : string_bytes last.text ≡ answers base journal lines
  text-both =
      two.text
      ∙ (λ i. (one.text ∙ ap (λ t. t ++ answers_to base [] source.Journal 0 journal (length journal)) text) i
      ++ answers_to base (all_records 0 journal) source.Edits (length journal) lines (length lines))
      ∙ append_assoc (records_line (codes "journal ") (length journal)) (answers_to base [] source.Journal 0 journal (length journal))
      (answers_to base (all_records 0 journal) source.Edits (length journal) lines (length lines))

  kept-both : last.kept.items ≡ kept_lines base journal lines
  kept-both =
      two.kept
      ∙ ap (λ ks. ks ++ kept_to base (all_records 0 journal) source.Edits (length journal) lines (length lines))
      (one.kept ∙ (λ i. kept i ++ kept-journal base [] 0 journal (length journal) i))

  some-both : last.some ≡ either_refused base journal lines
  some-both =
      two.some
      ∙ ap (λ b. b || some_to base (all_records 0 journal) source.Edits (length journal) lines (length lines))
      (one.some ∙ ap (λ b. b || some_to base [] source.Journal 0 journal (length journal)) some)

  pub kept-done : {E : Type 0} (result : Result OutcomeView E)
      → IfOk result (λ outcome. outcome ≡ appending (string_bytes last.text) last.kept.items (ending_by last.some)
      (script_with stored last.kept.items))
      → IfOk result (λ outcome. outcome ≡ keeping_lines base stored journal lines)
  kept-done (Err e) done = tt
  kept-done (Ok outcome) done = done
      ∙ (λ i. appending (text-both i) (kept-both i) (ending_by (some-both i)) (script_with stored (kept-both i)))

-- what `keep` does of an accepted feed is what it asks
pub keep-given : {E : Type 0} → EditReadsBack → (read : ReadView) (said : FeedView) (result : Result OutcomeView E)
    → IfOk result (λ outcome. outcome ≡ keeping read said)
    → IfOk result (IsGivenOf keep_does read said)
keep-given reads read said (Err e) done = tt
keep-given reads read said (Ok outcome) done = record {
  gives = record { done = done; replays = replays reads said.base said.lines };
  ends = ap (λ (o : OutcomeView). o.ending) done;
  unkept = λ no. absurd (true≢false no);
}
