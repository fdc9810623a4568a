use Rattle.std.proofs.Common.{refl}
use Rattle.desk_settings.specs.Settings.{settings_of}
use Rattle.feed_read.specs.Base.{base_of}
use Rattle.desk_feed.specs.Feed.{said_by}
use Rattle.examples_computed.proofs.feeds.a_refused_feed.Goals as goal

pub returns : goal.returns
unfolding said_by settings_of base_of
returns c = refl
