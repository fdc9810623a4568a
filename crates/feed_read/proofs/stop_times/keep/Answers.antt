use Rattle.feed_read.specs.StopTimes.{seen}
use Rattle.feed_read.proofs.KeptLemmas.{kept-set, on-ok}
use Rattle.feed_read.proofs.stop_times.keep.Goals as goal

pub returns-clause-kept : goal.returns-clause-kept
returns-clause-kept c =
    on-ok c.add.result (kept-set c.args.trip_ends.now (seen c.args.stop_time.now) c.index-trip_ends-stop_time.result c.add.new.self
    c.requires) c.add.ensures
