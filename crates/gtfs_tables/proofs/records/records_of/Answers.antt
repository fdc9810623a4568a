use Rattle.std.proofs.Common.{◌==◌}
use Rattle.gtfs_tables.proofs.PartLemmas.{bare-without-mark, none-passes}
use Rattle.gtfs_tables.proofs.records.records_of.Goals as goal

pub returns-in-None-clause-reading : goal.returns-in-None-clause-reading
returns-in-None-clause-reading c =
    rw c.without_mark.ensures (bare-without-mark c.args.bytes.now (none-passes (λ b. b == 34) c.args.bytes.now c.in-None.ensures))
