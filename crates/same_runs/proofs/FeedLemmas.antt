-- When what a feed says determines the outcome.
use Rattle.std.proofs.Common.{◌≡◌, ℕ, List, Result, Ok, Err, sym, ap, ◌∙◌}
use Rattle.gtfs_tables.specs.declared.fault.FeedFault.{FeedFault}
use Rattle.desk_run.specs.Outcome.{OutcomeView}
use Rattle.desk_run.specs.Reading.{ReadView}
use Rattle.desk_feed.specs.Edited.{refusing_first}
use Rattle.desk_feed.specs.Feed.{FeedView}
use Rattle.desk_feed.specs.Judging.{Does, FeedAsked, ending_of, of_feed, refused_of, said_in}
use Rattle.desk_feed.specs.Showing.{EditedView, Puts, TextAsked, showing}
use Rattle.block_names.specs.Names.{NamingView}
use Rattle.feed_naming.specs.Commands.{DoesNamed, NamingAsked, of_naming}
use Rattle.feed_naming.specs.Naming.{naming_in}
use Rattle.same_runs.specs.Same.{IsDetermined}

-- an accepted feed by what it says, and a refused one by its first refusal
abbrev pub IsOne : FeedAsked → Type 0
IsOne asks = (read : ReadView) (said : FeedView) (one other : OutcomeView) → asks.Gives read said one → asks.Gives read said other
    → one ≡ other

pub one-given : (asks : FeedAsked) → IsOne asks → (read : ReadView) (one other : OutcomeView) → Does (asks.Gives read) (said_in read) one
    → Does (asks.Gives read) (said_in read) other → one ≡ other
one-given asks same read one other = by (said_in read)
  where
    by : (said : Result FeedView FeedFault) → Does (asks.Gives read) said one → Does (asks.Gives read) said other → one ≡ other
    by (Ok said) gives gives' = same read said one other gives gives'
    by (Err refused) is is' = is ∙ sym is'

pub determined-feed : (asks : FeedAsked) → IsOne asks → IsDetermined (of_feed asks)
determined-feed asks same read one other given given' = one-given asks same read one other given.gives given'.gives

-- a text of what stands after the script
abbrev pub IsOneText : TextAsked → Type 0
IsOneText asks = (stands : EditedView) (one other : List ℕ) → asks.Shows stands one → asks.Shows stands other → one ≡ other

pub one-put : (asks : TextAsked) → IsOneText asks → (said : FeedView) (one other : OutcomeView) → Puts asks said one → Puts asks said other
    → one ≡ other
one-put asks same said one other puts puts' =
    puts.alone ∙ ap (λ text. refusing_first (refused_of said) text (ending_of said)) (same _ puts.text puts'.text puts.shown puts'.shown)
    ∙ sym puts'.alone

pub determined-text : (asks : TextAsked) → IsOneText asks → IsDetermined (of_feed (showing asks))
determined-text asks same = determined-feed (showing asks) (λ read said one other. one-put asks same said one other)

-- a feed whose blocks are named, and one of whose names is refused
pub determined-named : (asks : NamingAsked)
    → ((read : ReadView) (naming : NamingView) (said : FeedView) (one other : OutcomeView) → asks.Gives read naming said one
    → asks.Gives read naming said other → one ≡ other)
    → IsDetermined (of_feed (of_naming asks))
determined-named asks same = determined-feed (of_naming asks) (λ read said one other. by read said one other (naming_in read said.settings))
  where
    by : (read : ReadView) (said : FeedView) (one other : OutcomeView) (naming : Result NamingView FeedFault)
        → DoesNamed (λ naming. asks.Gives read naming said) naming one → DoesNamed (λ naming. asks.Gives read naming said) naming other
        → one ≡ other
    by read said one other (Ok naming) gives gives' = same read naming said one other gives gives'
    by read said one other (Err refused) is is' = is ∙ sym is'
