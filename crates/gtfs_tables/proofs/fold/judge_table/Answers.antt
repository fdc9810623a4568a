use Rattle.std.proofs.lemmas.Result.{err_from_is_err_and}
use Rattle.std.proofs.Common.{subst}
use Rattle.gtfs_tables.specs.Reading.{Fails}
use Rattle.gtfs_tables.proofs.FoldLemmas.{any_table}
use Rattle.gtfs_tables.proofs.fold.judge_table.Goals as goal

pub returns-in_err-read_records : goal.returns-in_err-read_records
returns-in_err-read_records c =
    let p = err_from_is_err_and c.from_residual.result c.from_residual.ensures.1 in
    rw (p.1, p.2) (subst (Fails {A = Unit {0}} c.in_err-read_records.field-0.0) (any_table c.args.paper c.args.found.now)
    c.in_err-read_records.ensures)

pub returns : goal.returns
returns c = rw (← any_table c.args.paper c.args.found.now) c.in_ok-read_records.ensures
