use Rattle.std.proofs.Common.{◌≡◌, ◌++◌, ◌∷◌, [], append_assoc}
use Rattle.gtfs_tables.specs.Records.{reader_left}
use Rattle.gtfs_tables.proofs.Fields.{padded-full}
use Rattle.gtfs_tables.proofs.records.rows_left.Goals as goal

pub records-preserved : goal.records-preserved
records-preserved c =
    let next = rw c.if-branch.true at c.in_ok-read_quoted.ensures in
    let fields = c.read_quoted.new.self in
    let row : c.in_ok-of.field-0 ≡ fields = rw (c.in_ok-of.ensures, c.len.ensures) (padded-full fields) in
    let pushed : c.push.new.self.items ≡ c.records.rows.items ++ fields ∷ [] = rw (c.in_ok-push.ensures.items, row) in (
      rw (pushed, append_assoc c.records.rows.items (fields ∷ []) (reader_left c.read_quoted.new.reader), ← next.0) c.records.invariant.0,
      next.1,
    )
