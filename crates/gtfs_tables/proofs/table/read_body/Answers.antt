use Rattle.std.proofs.Common.{◌≡◌, ◌<◌, ◌≤◌, length, arith, vec_len, rules}
use Rattle.gtfs_tables.proofs.Body.{body-end, body-long, body-more}
use Rattle.gtfs_tables.proofs.table.read_body.Goals as goal

pub returns-then-len-width-clause-fault : goal.returns-then-len-width-clause-fault
returns-then-len-width-clause-fault c =
    let next = rw c.if-branch.true at c.in_ok-next_record.ensures in
    let long : c.args.width < length c.next_record.new.fields = omega (arith, c.len.ensures) in
    let count : vec_len c.records.rows ≡ length c.records.rows.items = search rules in
    rw (c.len-then-len-width.ensures, count) (body-long c.args.width _ c.records.rows.items _ _ _ c.records.invariant.0 next.0 long)

pub records-preserved : goal.records-preserved
records-preserved c =
    let next = rw c.if-branch.true at c.in_ok-next_record.ensures in
    let fits : length c.next_record.new.fields ≤ c.args.width = omega (arith, c.len.ensures) in (
      body-more c.args.width _ c.records.rows.items _ _ _ _ _ c.records.invariant.0 next.0 fits c.in_ok-of.ensures
          c.in_ok-push.ensures.items,
      next.1,
    )

pub returns-clause-rows : goal.returns-clause-rows
returns-clause-rows c =
    let next = rw c.if-branch.false at c.in_ok-next_record.ensures in
    body-end c.args.width _ c.records.rows.items _ c.records.invariant.0 next
