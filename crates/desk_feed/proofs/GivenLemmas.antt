-- What a command gives of an accepted feed is what it asks of a run.
use Rattle.std.proofs.Common.{◌≡◌, Result, Ok, Err, sym, ap, subst, ◌∙◌}
use Rattle.std.specs.Prelude.{IfOk}
use Rattle.trip_model.specs.Timetable.{TimetableView}
use Rattle.desk_run.specs.Commands.{IsGiven}
use Rattle.desk_run.specs.Outcome.{OutcomeView}
use Rattle.desk_run.specs.Reading.{ReadView}
use Rattle.desk_feed.specs.declared.command.Said.{Said}
use Rattle.desk_feed.specs.declared.feed.Feed.{Feed}
use Rattle.desk_feed.specs.declared.judging.Judged.{Judged}
use Rattle.desk_feed.specs.declared.judging.Judged.TheVariants.{Accepted}
use Rattle.desk_feed.specs.declared.script.Edited.{Edited}
use Rattle.desk_feed.specs.Commands.{said_to}
use Rattle.desk_feed.specs.Edited.{IsEdited, refusing_first}
use Rattle.desk_feed.specs.Feed.{FeedView, said_of}
use Rattle.desk_feed.specs.Judging.{Does, EndsBy, FeedAsked, IsGivenOf, Judges, ending_of, of_feed, refused_of, said_in}
use Rattle.desk_feed.specs.Showing.{PutsBehind, TextAsked, showing, stands_with}

-- an accepted feed says what was read
pub says-of : (read : ReadView) (judged : Judged) (feed : Feed) → judged ≡ Accepted feed → Judges read judged
    → said_in read ≡ Ok (said_of feed)
says-of read judged feed is judges = (subst (Judges read) is judges).0

-- what is given of an accepted feed is given of what was read
pub given-of : {E : Type 0} (asks : FeedAsked) (read : ReadView) (said : FeedView) → said_in read ≡ Ok said
    → (result : Result OutcomeView E)
    → IfOk result (IsGivenOf asks read said) → IfOk result (IsGiven (of_feed asks) read)
given-of asks read said says (Err e) given = tt
given-of asks read said says (Ok outcome) given = record {
  gives = subst (λ s. Does (asks.Gives read) s outcome) (sym says) given.gives;
  ends = subst (λ s. EndsBy (asks.Ends read) s outcome.ending) (sym says) given.ends;
  unkept = given.unkept;
}

-- a text behind the lines of refused records, of a timetable after its script
pub text-given : {E : Type 0} (asks : TextAsked) (said : Said) (edited : Edited) → IsEdited said.timetable said.lines.now edited
    → (result : Result OutcomeView E)
    → IfOk result (PutsBehind asks edited.refused edited.ending
    (stands_with edited.script.timetable said.deadheads.now said.pulls said.rules))
    → IfOk result (IsGivenOf (showing asks) said.read.now (said_to said))
text-given asks lent edited is (Err e) put = tt
text-given asks lent edited is (Ok outcome) put =
    let said = said_to lent in
    let here : outcome ≡ refusing_first (refused_of said) put.text (ending_of said) = put.alone
    ∙ (λ i. refusing_first (is.refused i) put.text (is.ending i)) in
    record {
      gives = record {
        text = put.text;
        shown = subst (λ (t : TimetableView). asks.Shows (stands_with t said.entries said.pulls said.rules) put.text) is.timetable
            put.shown;
        alone = here;
      };
      ends = ap (λ (o : OutcomeView). o.ending) here;
      unkept = λ _. ap (λ (o : OutcomeView). o.lines) here;
    }
