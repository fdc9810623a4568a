use Rattle.std.proofs.Common.{◌≡◌, All, pos, arith}
use Rattle.std.proofs.lemmas.List.Elements.{All-push}
use Rattle.deficit_steps.specs.Changes.{AreChanges}
use Rattle.deficit_steps.proofs.deficits.Deficits.open.Goals as goal

pub loop-preserved : goal.loop-preserved
loop-preserved c =
    let rows = c.loop.rows.items in
    let row = c.in_ok-open.field-0 in (
      omega (arith, c.in_ok-push.ensures.len, c.loop.invariant.0),
      rw c.in_ok-push.ensures.items (All-push AreChanges rows row c.loop.invariant.1 c.in_ok-open.ensures.valid),
      rw c.in_ok-push.ensures.items (All-push (All (λ c. c ≡ pos 0)) rows row c.loop.invariant.2 c.in_ok-open.ensures.empty),
    )
