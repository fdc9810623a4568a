use Rattle.std.proofs.Common.{◌≡◌, Some, subst}
use Rattle.desk_io.specs.Shelf.{Files}
use Rattle.desk_run.specs.Reading.{AreRead, pages_in}
use Rattle.desk_run.proofs.EachStatus.{pages_told}
use Rattle.desk_feed.specs.Feed.{feed_papers}
use Rattle.feed_sample.specs.Sample.{sample_files}
use Rattle.sample_command.proofs.sample.read_sample.Goals as goal

pub returns-in-Ok : goal.returns-in-Ok
returns-in-Ok c =
    let files = sample_files c.args.trips in
    let pages : c.in-Ok.read.pages ≡ pages_in feed_papers files =
    pages_told files feed_papers c.in-Ok.read.pages
    (subst (λ (fs : Files). AreRead (Some fs) feed_papers c.in-Ok.read.pages) c.in_ok-shelf.ensures.files c.in-Ok.ensures.read) in
    λ i. record { pages = pages i; journal = c.in-Ok.ensures.journal i }
