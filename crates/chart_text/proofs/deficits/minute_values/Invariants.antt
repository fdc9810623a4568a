use Rattle.deficit_steps.specs.Changes.{value}
use Rattle.chart_text.proofs.StepsLemmas.{IsReadBefore}
use Rattle.chart_text.proofs.deficits.minute_values.Given as goal

abbrev pub invariant-loop-minute : goal.invariant-loop-minute
invariant-loop-minute l = IsReadBefore (value l.deficits l.place) l.minute l.rest l.value l.values.items
