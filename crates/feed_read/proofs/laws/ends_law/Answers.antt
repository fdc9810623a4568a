use Rattle.feed_read.proofs.EndsLemmas.{first-IsFirst, last-IsLast, first-none, last-none}
use Rattle.feed_read.proofs.laws.ends_law.Goals as goal

pub returns-clause-first : goal.returns-clause-first
returns-clause-first c = first-IsFirst

pub returns-clause-last : goal.returns-clause-last
returns-clause-last c = last-IsLast

pub returns-clause-without_first : goal.returns-clause-without_first
returns-clause-without_first c = first-none

pub returns-clause-without_last : goal.returns-clause-without_last
returns-clause-without_last c = last-none
