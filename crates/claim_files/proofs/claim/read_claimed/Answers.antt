use Rattle.std.proofs.Common.{sym, subst}
use Rattle.price_check.specs.Claim.{ClaimedView, AreBlockRows, ArePriceRows}
use Rattle.claim_files.proofs.RowsRead.{blocks-rows, prices-rows}
use Rattle.claim_files.proofs.claim.read_claimed.Goals as goal

pub returns-clause-blocks : goal.returns-clause-blocks
returns-clause-blocks c =
    subst (λ (claimed : ClaimedView). AreBlockRows c.args.timetable.now claimed.blocks) (sym c.of.ensures)
    (blocks-rows c.args.timetable.now c.args.blocks.now c.in-Ok.rows.items c.in-Ok.ensures)

pub returns-clause-prices : goal.returns-clause-prices
returns-clause-prices c =
    subst (λ (claimed : ClaimedView). ArePriceRows c.args.timetable.now claimed.prices) (sym c.of.ensures)
    (prices-rows c.args.timetable.now c.args.prices.now c.in-Ok-prices_of.rows.items c.in-Ok-prices_of.ensures)
