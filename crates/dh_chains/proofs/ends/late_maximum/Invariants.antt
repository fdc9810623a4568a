use Rattle.std.proofs.Common.{◌≡◌, ◌-◌, ◌<◌, ◌≤◌}
use Rattle.trip_model.specs.Maximum.{first_maximum}
use Rattle.deficit_steps.specs.Changes.{value}
use Rattle.dh_chains.proofs.ends.late_maximum.Given as goal

abbrev pub invariant-loop-past : goal.invariant-loop-past
invariant-loop-past l = record {
  earlier : l.late < l.past;
  within : l.past ≤ l.before;
  reached : value l.deficits l.place l.late ≡ (first_maximum (value l.deficits l.place)).0;
}

abbrev pub decreases-loop-past : goal.decreases-loop-past
decreases-loop-past l = l.past - l.late
