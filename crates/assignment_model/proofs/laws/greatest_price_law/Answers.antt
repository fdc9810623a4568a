use Rattle.assignment_model.proofs.GreatestPrice.{leave-most, enter-most, certified-most}
use Rattle.assignment_model.proofs.laws.greatest_price_law.Goals as goal

pub returns-clause-leave : goal.returns-clause-leave
returns-clause-leave c = leave-most

pub returns-clause-enter : goal.returns-clause-enter
returns-clause-enter c = enter-most

pub returns-clause-certified : goal.returns-clause-certified
returns-clause-certified c = certified-most
