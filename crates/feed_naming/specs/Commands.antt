-- What a command asks that names blocks.
use Rattle.std.specs.Prelude.{◌≡◌, ℕ, false, List, [], None, Result, Ok, Err}
use Rattle.gtfs_tables.specs.declared.fault.FeedFault.{FeedFault}
use Rattle.gtfs_tables.specs.declared.paper.Paper.{Paper}
use Rattle.block_names.specs.Names.{NamingView}
use Rattle.desk_run.specs.Outcome.{OutcomeView}
use Rattle.desk_run.specs.Reading.{ReadView}
use Rattle.desk_run.specs.declared.status.Ending.{Ending}
use Rattle.desk_run.specs.declared.status.Ending.TheVariants as ending
use Rattle.desk_feed.specs.Feed.{FeedView}
use Rattle.desk_feed.specs.Judging.{FeedAsked, ending_of, refusing}
use Rattle.feed_naming.specs.Naming.{naming_in}

-- The papers that it reads beyond those of a feed. Then how it ends, what it may do, and how many steps it may count, by what it
-- has read, how blocks are named, and what the feed says.
pub record NamingAsked : Type 1 where
  pub further : List Paper
  pub Ends : ReadView → NamingView → FeedView → Ending → Type 0
  pub Gives : ReadView → NamingView → FeedView → OutcomeView → Type 0
  pub most : ReadView → FeedView → ℕ

-- how it ends: as refused where a name is
abbrev pub EndsNamed : (NamingView → Ending → Type 0) → Result NamingView FeedFault → Ending → Type 0
EndsNamed named (Ok naming) end = named naming end
EndsNamed named (Err refused) end = end ≡ ending.FeedRefused

-- what it does: where a name is refused, its refusal is put
abbrev pub DoesNamed : (NamingView → OutcomeView → Type 0) → Result NamingView FeedFault → OutcomeView → Type 0
DoesNamed named (Ok naming) outcome = named naming outcome
DoesNamed named (Err refused) outcome = outcome ≡ refusing refused

-- what such a command asks of a feed
abbrev pub of_naming : NamingAsked → FeedAsked
of_naming asks = record {
  further = asks.further;
  keeps = false;
  Ends = λ read said end. EndsNamed (λ naming. asks.Ends read naming said) (naming_in read said.settings) end;
  Gives = λ read said outcome. DoesNamed (λ naming. asks.Gives read naming said) (naming_in read said.settings) outcome;
  most = asks.most;
}

-- what such a command asks that comes to its end with each accepted feed whose names are text
abbrev pub doing_named : (ReadView → NamingView → FeedView → OutcomeView → Type 0) → (FeedView → ℕ) → NamingAsked
doing_named Accepts most = record {
  further = [];
  Ends = λ read naming said end. end ≡ ending_of said;
  Gives = Accepts;
  most = λ read. most;
}

-- an outcome that such a command gives
pub record IsGivenNamed (asks : NamingAsked) (read : ReadView) (naming : NamingView) (said : FeedView) (outcome : OutcomeView) : Type 0 where
  pub gives : asks.Gives read naming said outcome
  pub ends : asks.Ends read naming said outcome.ending
  pub unkept : outcome.lines ≡ None
