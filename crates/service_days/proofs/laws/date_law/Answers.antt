use Rattle.service_days.proofs.DateLemmas.{date-tests}
use Rattle.service_days.proofs.laws.date_law.Goals as goal

pub returns : goal.returns
returns c = date-tests
