use Rattle.std.proofs.Common.{map, sym, ap, ◌∙◌}
use Rattle.std.proofs.lemmas.List.{take-map}
use Rattle.price_check.specs.Reasons.{stands}
use Rattle.price_check.proofs.RowLemmas.{named-map, repeats-some, repeats-none}
use Rattle.price_check.proofs.trips.repeats.Goals as goal

pub returns-in-Some : goal.returns-in-Some
returns-in-Some g c =
    let rows = c.args.rows.now in
    let here = named-map g.R.Record.slot_of rows c.args.at c.index-rows-at.result c.requires c.index-rows-at.is ∙ sym c.in-Some.ensures in
    c.stands.ensures
    ∙ ap (λ slots. stands slots c.in-Some.slot) (sym (take-map g.R.Record.slot_of c.args.at rows))
    ∙ sym (repeats-some (map g.R.Record.slot_of rows) c.args.at c.in-Some.slot here)

pub returns-in-None : goal.returns-in-None
returns-in-None g c =
    let rows = c.args.rows.now in
    sym (repeats-none (map g.R.Record.slot_of rows) c.args.at
    (named-map g.R.Record.slot_of rows c.args.at c.index-rows-at.result c.requires c.index-rows-at.is ∙ sym c.in-None.ensures))
