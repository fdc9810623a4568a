-- What a run that comes to its end does.
use Rattle.std.specs.Prelude.{ℕ, List, [], Option, None}
use Rattle.desk_keeper.specs.Keeper.{Journal}
use Rattle.desk_run.specs.declared.outcome.Writing.{Writing}
use Rattle.desk_run.specs.declared.status.Ending.{Ending}
use Rattle.desk_run.specs.declared.status.Ending.TheVariants as ending
use Rattle.desk_run.specs.declared.status.TheConstants.{DONE, EDITS_REFUSED, FEED_REFUSED, NO}

-- rule: the number of a status
-- the status that a run answers by its ending
abbrev pub status_of : Ending → ℕ
status_of ending.Done = DONE
status_of ending.EditsRefused = EDITS_REFUSED
status_of ending.FeedRefused = FEED_REFUSED
status_of ending.No = NO

-- the files that it writes, in their order; the lines that it appends to the journal, or none; the text that it puts; its
-- ending
pub record OutcomeView : Type 0 where
  pub writes : List Writing
  pub lines : Option Journal
  pub text : List ℕ
  pub ending : Ending

-- a text alone
abbrev pub putting : List ℕ → Ending → OutcomeView
putting text ending = record { writes = []; lines = None; text = text; ending = ending }
