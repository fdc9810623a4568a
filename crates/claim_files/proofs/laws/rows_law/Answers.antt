use Rattle.claim_files.proofs.RowsRead.{claim-rows}
use Rattle.claim_files.proofs.laws.rows_law.Goals as goal

pub returns-clause-blocks : goal.returns-clause-blocks
returns-clause-blocks c = λ t b p claimed e. (claim-rows t b p claimed e).0

pub returns-clause-prices : goal.returns-clause-prices
returns-clause-prices c = λ t b p claimed e. (claim-rows t b p claimed e).1
