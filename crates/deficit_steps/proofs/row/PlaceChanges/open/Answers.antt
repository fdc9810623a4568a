use Rattle.std.proofs.Common.{◌∙◌}
use Rattle.std.proofs.lemmas.List.{length-map}
use Rattle.terminal_maxima.specs.declared.max_prefix.MaxPrefix.{MaxPrefix}
use Rattle.deficit_steps.proofs.LeavesLemmas.{no_changes, AreChanges-none}
use Rattle.deficit_steps.proofs.row.PlaceChanges.open.Goals as goal

pub returns-clause-empty : goal.returns-clause-empty
returns-clause-empty c = no_changes c.in_ok-open.field-0 c.in_ok-open.ensures.count c.in_ok-open.ensures.units

pub returns-clause-valid : goal.returns-clause-valid
returns-clause-valid c =
    let leaves = c.in_ok-open.field-0 in
    AreChanges-none _ (length-map leaves (λ (l : MaxPrefix). l.sum) ∙ c.in_ok-open.ensures.count)
    (no_changes leaves c.in_ok-open.ensures.count c.in_ok-open.ensures.units)
