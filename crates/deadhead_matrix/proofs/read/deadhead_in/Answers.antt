use Rattle.std.proofs.Common.{◌∙◌}
use Rattle.gtfs_tables.specs.declared.paper.Column.TheVariants as column
use Rattle.deadhead_matrix.proofs.NamedLemmas.{text-field}
use Rattle.deadhead_matrix.proofs.read.deadhead_in.Goals as goal

pub returns-clause-short : goal.returns-clause-short
returns-clause-short c = c.in_ok-minutes-2.ensures.short

pub returns-clause-lasting : goal.returns-clause-lasting
returns-clause-lasting c = c.in_ok-minutes-2.ensures.lasting

pub returns-clause-from : goal.returns-clause-from
returns-clause-from c = text-field c.args.number column.From c.field.result.now c.in_ok-from.from.now c.in_ok-from.ensures ∙ c.field.ensures

pub returns-clause-to : goal.returns-clause-to
returns-clause-to c = text-field c.args.number column.To c.field-2.result.now c.in_ok-to.to.now c.in_ok-to.ensures ∙ c.field-2.ensures
