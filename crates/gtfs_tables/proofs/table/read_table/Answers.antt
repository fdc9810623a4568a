use Rattle.std.proofs.Common.{◌≡◌, length, arith, ◌∙◌, ap, refl}
use Rattle.std.proofs.lemmas.Result.{err_from_is_err_and}
use Rattle.gtfs_tables.specs.Records.{records_left}
use Rattle.gtfs_tables.proofs.Fields.{padded-full}
use Rattle.gtfs_tables.proofs.Body.{body-rows, table-fault}
use Rattle.gtfs_tables.proofs.table.read_table.Goals as goal

pub read_body-requires-clause-count : goal.read_body-requires-clause-count
read_body-requires-clause-count c =
    let next = rw c.if-not-branch.false at c.in_ok-next_record.ensures in
    omega (arith, ap length next.0, c.requires.count)

pub returns-in_err-rows-clause-fault : goal.returns-in_err-rows-clause-fault
returns-in_err-rows-clause-fault c =
    let next = rw c.if-not-branch.false at c.in_ok-next_record.ensures in
    let left = records_left c.next_record.new.reader in
    let fields = c.next_record.new.fields in
    let header : c.in_ok-header.header ≡ fields = rw (c.in_ok-header.ensures, c.len.ensures) (padded-full fields) in
    let width : c.len-2.result ≡ length fields = rw (c.len-2.ensures, header) refl in
    let gives = err_from_is_err_and c.from_residual-in_err-rows.result c.from_residual-in_err-rows.ensures.1 in
    rw (gives.1, gives.2) (table-fault (records_left c.args.reader.now) fields left _ next.0 (rw width at c.in_err-rows.ensures.fault))

pub invariant_of-result : goal.invariant_of-result
invariant_of-result c =
    let next = rw c.if-not-branch.false at c.in_ok-next_record.ensures in
    let body = body-rows c.len-2.result _ c.in_ok-rows.rows.items c.in_ok-rows.ensures.rows in
    record {
      width = λ i within. body.0 i within ∙ c.len-2.ensures;
      count = omega (arith, body.1, ap length next.0, c.requires.count);
    }
