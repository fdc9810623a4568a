use Rattle.assignment_model.proofs.ChoiceLemmas.{chosen, chosen-certified}
use Rattle.assignment_model.proofs.laws.choice_law.Goals as goal

pub returns-clause-certified : goal.returns-clause-certified
returns-clause-certified c network slots plan departs like next leave enter day plans certified clock bound slots_next most =
    chosen-certified network slots plan departs like next leave enter (record {
      day = day;
      plans = plans;
      certified = certified;
      clock = clock;
      bound = bound;
      slots_next = slots_next;
      most = most;
    })

pub returns-clause-chosen : goal.returns-clause-chosen
returns-clause-chosen c network slots plan departs like next leave enter day plans certified clock bound slots_next most =
    chosen network slots plan departs like next leave enter (record {
      day = day;
      plans = plans;
      certified = certified;
      clock = clock;
      bound = bound;
      slots_next = slots_next;
      most = most;
    })
