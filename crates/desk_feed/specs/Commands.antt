-- What a command is lent of a feed, as contracts see it.
use Rattle.desk_feed.specs.Feed.{FeedView, said_with}
use Rattle.desk_feed.specs.Showing.{EditedView, stands_with}
use Rattle.desk_feed.specs.declared.command.Said.{Said}
use Rattle.desk_feed.specs.declared.command.Stands.{Stands}

-- what an accepted feed says
abbrev pub said_to : Said → FeedView
said_to said = said_with said.settings.now said.timetable said.deadheads.now said.pulls said.rules said.lines.now

-- what stands after its script
abbrev pub stands_for : Stands → EditedView
stands_for stands = stands_with stands.timetable.now stands.deadheads.now stands.pulls stands.rules
