use Rattle.std.proofs.Common.{◌≡◌, vec_len, All, pos}
use Rattle.deficit_steps.specs.Changes.{AreChanges}
use Rattle.deficit_steps.proofs.deficits.Deficits.open.Given as goal

abbrev pub invariant-loop : goal.invariant-loop
invariant-loop l =
    (vec_len l.rows ≡ l.counter) × All AreChanges l.rows.items × All (All (λ c. c ≡ pos 0)) l.rows.items
