use Rattle.std.proofs.Common.{Err, length, ap, arith}
use Rattle.gtfs_tables.specs.Records.{records_left}
use Rattle.gtfs_tables.proofs.FoldLemmas.{columns-give, header-leaves, header-refused, header-split}
use Rattle.gtfs_tables.proofs.fold.read_from.Goals as goal

pub read_rest-requires-clause-count : goal.read_rest-requires-clause-count
read_rest-requires-clause-count g c =
    let next = rw c.if-not-branch.false at c.in_ok-read.ensures in
    omega (arith, ap length next.1, c.requires.count)

pub due_of-requires-clause-count : goal.due_of-requires-clause-count
due_of-requires-clause-count g c =
    let next = rw c.if-not-branch.false at c.in_ok-read.ensures in
    omega (arith, ap length next.1, c.requires.count)

pub returns-in-Ok-clause-gives : goal.returns-in-Ok-clause-gives
returns-in-Ok-clause-gives g c =
    let reads = g.R.TracedReader in
    let next = rw c.if-not-branch.false at c.in_ok-read.ensures in
    let split = header-split (records_left c.args.reader.now) (records_left c.read.new.reader) next.0 c.read.new.self next.1 next.2 in
    rw (
      columns-give c.args.paper reads.columns_in (reads.step (reads.kept c.args.records.now)) (reads.state c.args.records.now)
          (records_left c.args.reader.now) c.read.new.self (records_left c.read.new.reader) split c.in-Ok.columns c.in-Ok.ensures,
      ← c.len-width.ensures,
    )
    c.read_rest.ensures.gives

pub returns-in_ok-due_of-in-Err-clause-gives : goal.returns-in_ok-due_of-in-Err-clause-gives
returns-in_ok-due_of-in-Err-clause-gives g c =
    let reads = g.R.TracedReader in
    let next = rw c.if-not-branch.false at c.in_ok-read.ensures in
    let split = header-split (records_left c.args.reader.now) (records_left c.read.new.reader) next.0 c.read.new.self next.1 next.2 in
    header-refused c.args.paper reads.columns_in (reads.step (reads.kept c.args.records.now)) (reads.state c.args.records.now)
    (records_left c.args.reader.now) c.read.new.self (records_left c.read.new.reader) split c.in-Err.refused _ c.in-Err.ensures
    (rw c.len-width.ensures at c.in_ok-due_of-in-Err.ensures)

pub returns-in_ok-due_of-in-Err-clause-left : goal.returns-in_ok-due_of-in-Err-clause-left
returns-in_ok-due_of-in-Err-clause-left g c table is other =
    let reads = g.R.TracedReader in
    let next = rw c.if-not-branch.false at c.in_ok-read.ensures in
    let split = header-split (records_left c.args.reader.now) (records_left c.read.new.reader) next.0 c.read.new.self next.1 next.2 in
    header-leaves c.args.paper reads.columns_in (reads.step (reads.kept c.args.records.now)) (reads.state c.args.records.now)
    (records_left c.args.reader.now) c.read.new.self (records_left c.read.new.reader) split c.in-Err.refused _ c.in-Err.ensures
    (rw c.len-width.ensures at c.in_ok-due_of-in-Err.ensures) (reads.Leaves (reads.kept c.args.records.now)) table is
    (λ same. other (ap Err same))
