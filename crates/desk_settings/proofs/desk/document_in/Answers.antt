use Rattle.std.proofs.Common.{ap, ◌∙◌}
use Rattle.std.specs.Option.{ok_or}
use Rattle.gtfs_tables.specs.declared.fault.FeedFault.TheVariants as fault
use Rattle.desk_settings.proofs.DeskLemmas.{document_in-utf8, document_in-other}
use Rattle.desk_settings.proofs.desk.document_in.Goals as goal

pub returns-in-Ok-table_from_str : goal.returns-in-Ok-table_from_str
returns-in-Ok-table_from_str c =
    document_in-utf8 c.args.bytes.now c.in-Ok.text.now c.in-Ok.ensures.cases.0 c.in-Ok.ensures.cases.1
    ∙ ap (λ o. ok_or o fault.NotToml) c.in-Ok-table_from_str.ensures.ok

pub returns-in-Err : goal.returns-in-Err
returns-in-Err c = document_in-other c.args.bytes.now c.in-Err.ensures.cases.0
