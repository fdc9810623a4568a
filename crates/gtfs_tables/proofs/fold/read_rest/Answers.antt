use Rattle.std.proofs.Common.{Err, ap, arith, length, ◌∙◌}
use Rattle.gtfs_tables.specs.Records.{records_left}
use Rattle.gtfs_tables.proofs.FoldLemmas.{changed-more, changed-record, changed-so_far}
use Rattle.gtfs_tables.proofs.FoldLemmas.{folded-long, folded-more, folded-refused, folded-refused-left}
use Rattle.gtfs_tables.proofs.FoldLemmas.{long-record, short-record}
use Rattle.gtfs_tables.proofs.fold.read_rest.Goals as goal

pub returns-in-Err-clause-gives : goal.returns-in-Err-clause-gives
returns-in-Err-clause-gives g c =
    let reads = g.R.TracedReader in
    let kept = reads.kept c.args.records.now in
    let next = rw c.if-branch.true at c.in_ok-read.ensures in
    let fits = short-record c.args.width c.read.new.self next.0 next.2 (omega (arith, c.len.ensures, c.if-len-width.false)) in
    folded-refused c.args.paper c.args.width (reads.step kept c.args.columns.now) (reads.Leaves kept c.args.columns.now)
    (reads.state c.args.records.now)
    (records_left c.args.reader.now) c.records.number (reads.state c.records.records) (records_left c.records.reader)
    (records_left c.read.new.reader)
    next.0 c.read.new.self c.records.invariant.folded next.1 c.in-Err.refused c.in_ok-due_of.field-0 fits next.2
    (rw c.records.invariant.kept at c.in-Err.ensures.gives) c.in_ok-due_of.ensures

pub returns-in_err-read-clause-changed : goal.returns-in_err-read-clause-changed
returns-in_err-read-clause-changed g c =
    let reads = g.R.TracedReader in
    changed-so_far (reads.Changes (reads.kept c.args.records.now) c.args.columns.now) c.args.width (reads.state c.args.records.now)
    (records_left c.args.reader.now)
    (reads.state c.records.records) (records_left c.records.reader) c.records.invariant.changed

pub returns-in_err-due_of-clause-changed : goal.returns-in_err-due_of-clause-changed
returns-in_err-due_of-clause-changed g c =
    let reads = g.R.TracedReader in
    let next = rw c.if-branch.true at c.in_ok-read.ensures in
    changed-record (reads.Changes (reads.kept c.args.records.now) c.args.columns.now) c.args.width (reads.state c.args.records.now)
    (records_left c.args.reader.now)
    (reads.state c.records.records) (records_left c.records.reader) c.records.invariant.changed
    (records_left c.read.new.reader) next.0 c.read.new.self (reads.state c.record.new.self) next.1 next.2
    (rw c.records.invariant.kept at c.in-Err.ensures.changes)

pub returns-in-Err-clause-changed : goal.returns-in-Err-clause-changed
returns-in-Err-clause-changed g c =
    let reads = g.R.TracedReader in
    let next = rw c.if-branch.true at c.in_ok-read.ensures in
    changed-record (reads.Changes (reads.kept c.args.records.now) c.args.columns.now) c.args.width (reads.state c.args.records.now)
    (records_left c.args.reader.now)
    (reads.state c.records.records) (records_left c.records.reader) c.records.invariant.changed
    (records_left c.read.new.reader) next.0 c.read.new.self (reads.state c.record.new.self) next.1 next.2
    (rw c.records.invariant.kept at c.in-Err.ensures.changes)

pub records-preserved : goal.records-preserved
records-preserved g c =
    let reads = g.R.TracedReader in
    let kept = reads.kept c.args.records.now in
    let next = rw c.if-branch.true at c.in_ok-read.ensures in
    let fits = short-record c.args.width c.read.new.self next.0 next.2 (omega (arith, c.len.ensures, c.if-len-width.false)) in
    record {
      reading = next.3;
      kept = c.in_default.ensures.kept ∙ c.records.invariant.kept;
      folded = folded-more c.args.paper c.args.width (reads.step kept c.args.columns.now) (reads.Leaves kept c.args.columns.now)
          (reads.state c.args.records.now) (records_left c.args.reader.now) c.records.number (reads.state c.records.records)
          (records_left c.records.reader) (records_left c.read.new.reader) next.0 c.read.new.self c.records.invariant.folded next.1
          (reads.state c.record.new.self) fits next.2 (rw c.records.invariant.kept at c.in_default.ensures.gives);
      changed = changed-more (reads.Changes kept c.args.columns.now) c.args.width (reads.state c.args.records.now)
          (records_left c.args.reader.now) (reads.state c.records.records) (records_left c.records.reader) c.records.invariant.changed
          (records_left c.read.new.reader) next.0 c.read.new.self (reads.state c.record.new.self) next.1 next.2
          (rw c.records.invariant.kept at c.in_default.ensures.changes);
      count = omega (arith, ap length next.1, c.records.invariant.count);
    }

pub returns-then-len-width-clause-left : goal.returns-then-len-width-clause-left
returns-then-len-width-clause-left g c other none =
    let reads = g.R.TracedReader in
    let kept = reads.kept c.args.records.now in
    let next = rw c.if-branch.true at c.in_ok-read.ensures in
    let long = long-record c.args.width c.read.new.self next.0 next.2 (omega (arith, c.len.ensures, c.if-len-width.true)) in
    let longer = folded-long c.args.paper c.args.width (reads.step kept c.args.columns.now) (reads.Leaves kept c.args.columns.now)
    (reads.state c.args.records.now) (records_left c.args.reader.now) c.records.number (reads.state c.records.records)
    (records_left c.records.reader) (records_left c.read.new.reader) next.0 c.read.new.self c.records.invariant.folded next.1 long in
    cc (longer, none)

pub returns-in-Err-clause-left : goal.returns-in-Err-clause-left
returns-in-Err-clause-left g c other none =
    let reads = g.R.TracedReader in
    let kept = reads.kept c.args.records.now in
    let next = rw c.if-branch.true at c.in_ok-read.ensures in
    let fits = short-record c.args.width c.read.new.self next.0 next.2 (omega (arith, c.len.ensures, c.if-len-width.false)) in
    folded-refused-left c.args.paper c.args.width (reads.step kept c.args.columns.now) (reads.Leaves kept c.args.columns.now)
    (reads.state c.args.records.now) (records_left c.args.reader.now) c.records.number (reads.state c.records.records)
    (records_left c.records.reader) (records_left c.read.new.reader) next.0 c.read.new.self c.records.invariant.folded next.1
    c.in-Err.refused c.in_ok-due_of.field-0 (reads.state c.record.new.self) fits next.2
    (rw c.records.invariant.kept at c.in-Err.ensures.gives) c.in_ok-due_of.ensures (λ same. other (ap Err same)) none
    (rw c.records.invariant.kept at c.in-Err.ensures.left)
