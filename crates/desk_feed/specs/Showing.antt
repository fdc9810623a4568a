-- What a command asks that puts a text of the timetable after the script.
use Rattle.std.specs.Prelude.{◌≡◌, ℕ, List}
use Rattle.trip_model.specs.Timetable.{TimetableView}
use Rattle.pair_rules.specs.Rules.{PairRule}
use Rattle.deadhead_matrix.specs.declared.entry.Entry.{Entry}
use Rattle.deadhead_matrix.specs.declared.pulls.Pull.{Pull}
use Rattle.desk_run.specs.Outcome.{OutcomeView}
use Rattle.desk_run.specs.declared.status.Ending.{Ending}
use Rattle.desk_feed.specs.Edited.{refusing_first}
use Rattle.desk_feed.specs.Feed.{FeedView, standing}
use Rattle.desk_feed.specs.Judging.{FeedAsked, doing, ending_of, refused_of}

-- what stands after the script of a feed
pub record EditedView : Type 0 where
  pub timetable : TimetableView
  pub entries : List Entry
  pub pulls : List Pull
  pub rules : List PairRule

abbrev pub stands_with : TimetableView → List Entry → List Pull → List PairRule → EditedView
stands_with timetable entries pulls rules = record { timetable = timetable; entries = entries; pulls = pulls; rules = rules }

abbrev pub stands_after : FeedView → EditedView
stands_after said = stands_with (standing said) said.entries said.pulls said.rules

-- which texts a command may put of that, and how many steps it may count
pub record TextAsked : Type 1 where
  pub Shows : EditedView → List ℕ → Type 0
  pub most : TimetableView → ℕ

-- an outcome that puts these lines of refused records and then such a text, and nothing else
pub record PutsBehind (asks : TextAsked) (refused : List ℕ) (end : Ending) (stands : EditedView) (outcome : OutcomeView) : Type 0 where
  pub text : List ℕ
  pub shown : asks.Shows stands text
  pub alone : outcome ≡ refusing_first refused text end

-- the lines of the records that were refused, and a text of what stands after the script
abbrev pub Puts : TextAsked → FeedView → OutcomeView → Type 0
Puts asks said = PutsBehind asks (refused_of said) (ending_of said) (stands_after said)

-- what such a command asks of a feed
abbrev pub showing : TextAsked → FeedAsked
showing asks = doing (Puts asks) (λ said. asks.most (standing said))
