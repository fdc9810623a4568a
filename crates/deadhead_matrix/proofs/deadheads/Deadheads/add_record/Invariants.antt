use Rattle.std.proofs.Common.{◌≡◌, drop}
use Rattle.deadhead_matrix.specs.Deadheads.{with_entries}
use Rattle.deadhead_matrix.proofs.deadheads.Deadheads.add_record.Given as goal

abbrev pub invariant-loop-n : goal.invariant-loop-n
invariant-loop-n l =
    with_entries l.number l.minutes l.self (drop l.n l.from) (drop l.n l.to) ≡ with_entries l.number l.minutes l.initial.self l.from l.to
