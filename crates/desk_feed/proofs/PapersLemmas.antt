-- The papers of a feed are among those that were read for a command that works on one.
use Rattle.std.proofs.Common.{◌≡◌, List, ◌++◌, refl, sym, subst}
use Rattle.std.specs.List.{AllByRecursion}
use Rattle.gtfs_tables.specs.declared.paper.Paper.{Paper}
use Rattle.desk_run.specs.Reading.{IsAmong, papers_of}
use Rattle.desk_run.specs.declared.reading.Page.{Page}
use Rattle.desk_feed.specs.Feed.{HasPapers, feed_papers}

among-first : (further : List Paper) → AllByRecursion (IsAmong (feed_papers ++ further)) feed_papers
among-first further = (refl, (refl, (refl, (refl, (refl, (refl, (refl, (refl, (refl, (refl, (refl, tt)))))))))))

pub has-papers : (further : List Paper) (pages : List Page) → papers_of pages ≡ feed_papers ++ further → HasPapers pages
has-papers further pages read =
    subst (λ (papers : List Paper). AllByRecursion (IsAmong papers) feed_papers) (sym read) (among-first further)
