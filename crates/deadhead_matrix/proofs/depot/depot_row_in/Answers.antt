use Rattle.deadhead_matrix.proofs.depot.depot_row_in.Goals as goal

pub returns-clause-valid : goal.returns-clause-valid
returns-clause-valid c = record { pull_out = c.in_ok-pull_out-2.ensures.short; pull_in = c.in_ok-pull_in-2.ensures.short }
