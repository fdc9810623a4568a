use Rattle.std.proofs.Common.{not, ap, ◌∙◌}
use Rattle.deadhead_matrix.proofs.UnplacedLemmas.{has_ends-keys}
use Rattle.deadhead_matrix.proofs.unplaced.Unplaced.add.Goals as goal

pub returns-clause-new : goal.returns-clause-new
returns-clause-new c =
    c.in_ok-insert.ensures.added
    ∙ ap not (has_ends-keys c.self.inside.ends.keys c.in_ok-from.from c.in_ok-to.to c.args.self.now c.args.from.now c.args.to.now
    c.self.view_is c.in_ok-from.ensures.ok c.in_ok-to.ensures.ok)
