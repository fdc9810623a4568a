use Rattle.desk_run.proofs.Answered.{answered}
use Rattle.desk_run.proofs.EachStatus.{has_cause, is_complete}
use Rattle.desk_run.proofs.running.perform.Goals as goal

pub returns : goal.returns
returns g c = record {
  found = c.answered.ensures.found;
  answered = answered _ _ _ _ _ c.answered.ensures.told c.answered.ensures.does.1;
  told = c.answered.ensures.told;
  run = c.answered.ensures.does.0;
  order = c.answered.ensures.does.1;
  cause = has_cause _ _ _ _ _ c.answered.ensures.does.0;
  complete = is_complete _ _ _ _ _ c.answered.ensures.does.0;
  counted = c.answered.ensures.counted;
}
