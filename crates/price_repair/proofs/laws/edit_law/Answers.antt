use Rattle.price_repair.proofs.EditLemmas.{IsCertifiedWith-left_out, IsCertifiedWith-cancelled, IsCertifiedWithout-restored}
use Rattle.price_repair.proofs.EditLemmas.{IsCertifiedWithout-appended, IsCertifiedWithout-replaced}
use Rattle.price_repair.proofs.laws.edit_law.Goals as goal

pub returns-clause-left_out : goal.returns-clause-left_out
returns-clause-left_out c = IsCertifiedWith-left_out

pub returns-clause-cancelled : goal.returns-clause-cancelled
returns-clause-cancelled c = IsCertifiedWith-cancelled

pub returns-clause-restored : goal.returns-clause-restored
returns-clause-restored c = IsCertifiedWithout-restored

pub returns-clause-appended : goal.returns-clause-appended
returns-clause-appended c = IsCertifiedWithout-appended

pub returns-clause-replaced : goal.returns-clause-replaced
returns-clause-replaced c = IsCertifiedWithout-replaced
