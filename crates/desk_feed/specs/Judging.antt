-- What is made of an accepted feed and of a refused one.
use Rattle.std.specs.Prelude.{◌≡◌, ℕ, Bool, false, List, [], ◌++◌, None, Result, Ok, Err}
use Rattle.gtfs_tables.specs.Faults.{feed_line_of}
use Rattle.gtfs_tables.specs.declared.fault.FeedFault.{FeedFault}
use Rattle.gtfs_tables.specs.declared.paper.Paper.{Paper}
use Rattle.desk_run.specs.Commands.{Asked}
use Rattle.desk_run.specs.Outcome.{OutcomeView, putting}
use Rattle.desk_run.specs.Reading.{ReadView, found_of}
use Rattle.desk_run.specs.declared.status.Ending.{Ending}
use Rattle.desk_run.specs.declared.status.Ending.TheVariants as ending
use Rattle.desk_feed.specs.Edited.{ending_after, refused_text}
use Rattle.desk_feed.specs.Feed.{FeedView, HavePulls, feed_papers, said_by, said_of}
use Rattle.desk_feed.specs.Script.{IsScript}
use Rattle.desk_feed.specs.declared.judging.Judged.{Judged}
use Rattle.desk_feed.specs.declared.judging.Judged.TheVariants.{Accepted, Refused}

-- what was read says
abbrev pub said_in : ReadView → Result FeedView FeedFault
said_in read = said_by (found_of read.pages)

-- what is done where a feed is refused: the line of its first refusal is put
abbrev pub refusing : FeedFault → OutcomeView
refusing refused = putting (feed_line_of refused) ending.FeedRefused

-- an accepted feed says what was read; a refused one has the outcome of the first refusal
abbrev pub Judges : ReadView → Judged → Type 0
Judges read (Accepted feed) = (said_in read ≡ Ok (said_of feed)) × HavePulls feed × IsScript feed.lines.items
Judges read (Refused outcome) = (refused : FeedFault) × (said_in read ≡ Err refused) × (outcome ≡ refusing refused)

-- how a run ends: of an accepted feed as the command says, and of a refused one as refused
abbrev pub EndsBy : (FeedView → Ending → Type 0) → Result FeedView FeedFault → Ending → Type 0
EndsBy accepted (Ok said) end = accepted said end
EndsBy accepted (Err refused) end = end ≡ ending.FeedRefused

-- what is done: of an accepted feed what the command may do of it, and of a refused one that its refusal is put
abbrev pub Does : (FeedView → OutcomeView → Type 0) → Result FeedView FeedFault → OutcomeView → Type 0
Does accepted (Ok said) outcome = accepted said outcome
Does accepted (Err refused) outcome = outcome ≡ refusing refused

-- the most steps: of an accepted feed as the command says, and of a refused one none
abbrev pub most_of : (FeedView → ℕ) → Result FeedView FeedFault → ℕ
most_of accepted (Ok said) = accepted said
most_of accepted (Err refused) = 0

-- What a command asks that works on a feed. The papers that it reads beyond those of the feed, and whether it reads the
-- journal. Then how it ends, what it may do, and how many steps it may count, by what it has read and what the feed says.
pub record FeedAsked : Type 1 where
  pub further : List Paper
  pub keeps : Bool
  pub Ends : ReadView → FeedView → Ending → Type 0
  pub Gives : ReadView → FeedView → OutcomeView → Type 0
  pub most : ReadView → FeedView → ℕ

-- what it asks of a run: of a refused feed the refusal is put
abbrev pub of_feed : FeedAsked → Asked
of_feed asks = record {
  papers = feed_papers ++ asks.further;
  keeps = asks.keeps;
  Ends = λ read end. EndsBy (asks.Ends read) (said_in read) end;
  Gives = λ read outcome. Does (asks.Gives read) (said_in read) outcome;
  most = λ read. most_of (asks.most read) (said_in read);
}

-- an outcome that such a command gives of what it has read and of an accepted feed
pub record IsGivenOf (asks : FeedAsked) (read : ReadView) (said : FeedView) (outcome : OutcomeView) : Type 0 where
  pub gives : asks.Gives read said outcome
  pub ends : asks.Ends read said outcome.ending
  pub unkept : asks.keeps ≡ false → outcome.lines ≡ None

-- how a run ends after the script of a feed, and the lines of its refused records
abbrev pub ending_of : FeedView → Ending
ending_of said = ending_after said.base said.lines

abbrev pub refused_of : FeedView → List ℕ
refused_of said = refused_text said.base said.lines

-- what a command asks that comes to its end with each accepted feed, by what was read
abbrev pub doing_by : (ReadView → FeedView → OutcomeView → Type 0) → (FeedView → ℕ) → FeedAsked
doing_by Accepts most = record {
  further = [];
  keeps = false;
  Ends = λ read said end. end ≡ ending_of said;
  Gives = Accepts;
  most = λ read. most;
}

-- and by what the feed says alone
abbrev pub doing : (FeedView → OutcomeView → Type 0) → (FeedView → ℕ) → FeedAsked
doing Accepts most = doing_by (λ read. Accepts) most
