use Rattle.std.proofs.Common.{◌≡◌, ◌+◌, ◌++◌, ◌≤◌, sym, subst}
use Rattle.std.specs.Prelude.{IfOk}
use Rattle.desk_run.specs.Reading.{papers_of}
use Rattle.desk_feed.specs.Feed.{feed_papers, said_of}
use Rattle.desk_feed.specs.Judging.{IsGivenOf, most_of}
use Rattle.desk_feed.proofs.GivenLemmas.{given-of, says-of}
use Rattle.desk_feed.proofs.PapersLemmas.{has-papers}
use Rattle.desk_feed.proofs.command.OnFeedCommand.outcome.Goals as goal

pub judge_feed-requires : goal.judge_feed-requires
judge_feed-requires g c = has-papers (g.C.FeedCommand.asks c.args.self.now).further c.args.read.now.pages c.requires

pub outcome_of-requires-clause-papers : goal.outcome_of-requires-clause-papers
outcome_of-requires-clause-papers g c =
    subst (λ command. papers_of c.args.read.now.pages ≡ feed_papers ++ (g.C.FeedCommand.asks command).further) (sym c.self.view_is)
    c.requires

pub outcome_of-requires-clause-says : goal.outcome_of-requires-clause-says
outcome_of-requires-clause-says g c =
    says-of c.args.read.now c.in_ok-outcome.field-0 c.in-Accepted.feed c.in-Accepted.is c.in_ok-outcome.ensures

pub returns-in-Accepted-clause-given : goal.returns-in-Accepted-clause-given
returns-in-Accepted-clause-given g c =
    let feed = c.in-Accepted.feed in
    let read = c.args.read.now in
    given-of (g.C.FeedCommand.asks c.args.self.now) read (said_of feed)
    (says-of read c.in_ok-outcome.field-0 feed c.in-Accepted.is c.in_ok-outcome.ensures)
    c.outcome_of.result (subst (λ command. IfOk c.outcome_of.result (IsGivenOf (g.C.FeedCommand.asks command) read (said_of feed)))
    c.self.view_is c.outcome_of.ensures.given)

pub returns-in-Accepted-clause-counted : goal.returns-in-Accepted-clause-counted
returns-in-Accepted-clause-counted g c =
    let feed = c.in-Accepted.feed in
    let read = c.args.read.now in
    subst (λ due. c.outcome_of.new.steps ≤ c.args.steps.now + most_of ((g.C.FeedCommand.asks c.args.self.now).most read) due)
    (sym (says-of read c.in_ok-outcome.field-0 feed c.in-Accepted.is c.in_ok-outcome.ensures))
    (subst (λ command. c.outcome_of.new.steps ≤ c.args.steps.now + (g.C.FeedCommand.asks command).most read (said_of feed)) c.self.view_is
    c.outcome_of.ensures.counted)
