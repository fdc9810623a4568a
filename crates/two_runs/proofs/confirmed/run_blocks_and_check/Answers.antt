use Rattle.two_runs.proofs.confirmed.run_blocks_and_check.Goals as goal

pub returns : goal.returns
returns g c = record {
  between = _;
  steps = _;
  blocks = c.run_blocks-first.ensures;
  check = c.run_check-second.ensures;
  confirmed = c.later_law.ensures _ _ _ _ _ _ _ _ _ _ c.run_blocks-first.ensures c.run_check-second.ensures;
}
