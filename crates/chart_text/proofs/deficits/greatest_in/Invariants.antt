use Rattle.std.proofs.Common.{◌≡◌}
use Rattle.chart_text.specs.Deficits.{value_in}
use Rattle.chart_text.proofs.DeficitsLemmas.{greatest_so_far}
use Rattle.chart_text.proofs.deficits.greatest_in.Given as goal

abbrev pub invariant-loop-minute : goal.invariant-loop-minute
invariant-loop-minute l = l.high ≡ greatest_so_far (value_in l.values) l.column l.minute
