use Rattle.gtfs_tables.proofs.PartLemmas.{mark-off, no-mark}
use Rattle.gtfs_tables.proofs.records.without_mark.Goals as goal

pub returns-in-Some : goal.returns-in-Some
returns-in-Some c = rw c.in-Some.ensures.cases.1 (mark-off c.args.bytes.now c.in-Some.ensures.cases.0)

pub returns-in-None : goal.returns-in-None
returns-in-None c = no-mark c.args.bytes.now c.in-None.ensures.cases
