use Rattle.std.proofs.Common.{◌≡◌, false, nat_eq, map, Some, sym, ap, ◌∙◌, below_more, arith}
use Rattle.std.specs.Option.{option_eq}
use Rattle.std.proofs.lemmas.List.{length-map}
use Rattle.price_check.specs.Claim.{named}
use Rattle.price_check.proofs.RowLemmas.{named-map, stands-found, stands-none}
use Rattle.price_check.proofs.trips.stands.Goals as goal

pub returns-then-eq : goal.returns-then-eq
returns-then-eq g c =
    let rows = c.args.rows.now in
    let here = named-map g.R.Record.slot_of rows c.loop-row.row-index c.row-item.result c.loop-row-test.true c.row-item.is
    ∙ sym c.slot.ensures in
    stands-found (map g.R.Record.slot_of rows) c.args.slot c.loop-row.row-index
    (omega (arith, length-map rows g.R.Record.slot_of, c.loop-row-test.true))
    (ap (λ slot. option_eq nat_eq slot (Some c.args.slot)) here ∙ sym c.eq.ensures ∙ c.if-eq.true)

pub loop-row-preserved : goal.loop-row-preserved
loop-row-preserved g c =
    let rows = c.args.rows.now in
    let here = named-map g.R.Record.slot_of rows c.loop-row.row-index c.row-item.result c.loop-row-test.true c.row-item.is
    ∙ sym c.slot.ensures in
    below_more (λ k. option_eq nat_eq (named (map g.R.Record.slot_of rows) k) (Some c.args.slot) ≡ false) _ c.loop-row.invariant
    (ap (λ slot. option_eq nat_eq slot (Some c.args.slot)) here ∙ sym c.eq.ensures ∙ c.if-eq.false)

pub returns : goal.returns
returns g c = stands-none (map g.R.Record.slot_of c.args.rows.now) c.args.slot _ c.loop-row.invariant
    (omega (arith, length-map c.args.rows.now g.R.Record.slot_of, c.loop-row-test.false))
