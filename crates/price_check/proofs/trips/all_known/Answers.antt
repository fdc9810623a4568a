use Rattle.std.proofs.Common.{◌≡◌, false, map, not, ap, sym, ◌∙◌, below_more}
use Rattle.std.specs.Prelude.{is_some, IsSome}
use Rattle.price_check.specs.Claim.{named}
use Rattle.price_check.proofs.First.{none_first, found_first}
use Rattle.price_check.proofs.RowLemmas.{named-map, unknown-none, unknown-some}
use Rattle.price_check.proofs.trips.all_known.Goals as goal

pub returns-then-is_none-clause-first : goal.returns-then-is_none-clause-first
returns-then-is_none-clause-first g c =
    let slots = map g.R.Record.slot_of c.args.rows.now in
    let here = named-map g.R.Record.slot_of c.args.rows.now c.loop-at.at c.index-rows-at.result c.loop-at-test.true c.index-rows-at.is
    ∙ sym c.slot.ensures in
    let none : is_some (named slots c.loop-at.at) ≡ false = ap is_some here ∙ c.is_none.ensures ∙ ap not c.if-is_none.true in
    found_first _ _ c.loop-at.at _ (λ k lt. unknown-none c.args.paper slots k (c.loop-at.invariant k lt)) c.loop-at-test.true
    (unknown-some c.args.paper slots c.loop-at.at none)

pub loop-at-preserved : goal.loop-at-preserved
loop-at-preserved g c =
    let slots = map g.R.Record.slot_of c.args.rows.now in
    let here = named-map g.R.Record.slot_of c.args.rows.now c.loop-at.at c.index-rows-at.result c.loop-at-test.true c.index-rows-at.is
    ∙ sym c.slot.ensures in
    below_more (λ k. IsSome (named slots k)) _ c.loop-at.invariant (ap is_some here ∙ c.is_none.ensures ∙ ap not c.if-is_none.false)

pub returns-clause-first : goal.returns-clause-first
returns-clause-first g c =
    none_first _ _ c.loop-at.at (λ k lt. unknown-none c.args.paper (map g.R.Record.slot_of c.args.rows.now) k (c.loop-at.invariant k lt))
    c.loop-at-test.false
