use Rattle.std.proofs.Common.{sym, ap, ◌∙◌, Ok}
use Rattle.gtfs_tables.proofs.ReadingLemmas.{text_in-utf8, text_in-other}
use Rattle.gtfs_tables.proofs.reading.text_in.Goals as goal

pub returns-in-Ok : goal.returns-in-Ok
returns-in-Ok c = text_in-utf8 c.args.paper c.args.number c.args.column c.args.bytes.now c.in-Ok.ensures.cases.1
    ∙ ap Ok (sym c.in-Ok.ensures.cases.0)

pub returns-in-Err : goal.returns-in-Err
returns-in-Err c = text_in-other c.args.paper c.args.number c.args.column c.args.bytes.now c.in-Err.ensures.cases.0
