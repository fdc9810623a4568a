use Rattle.std.proofs.Common.{subst, ◌∙◌}
use Rattle.std.proofs.lemmas.List.FromFn.{length-map-range_with_len}
use Rattle.deadhead_matrix.specs.Matrix.{AreLeastWalks}
use Rattle.deadhead_matrix.specs.Rows.{found_at}
use Rattle.deadhead_matrix.proofs.MatrixLemmas.{AreLeastWalks-from}
use Rattle.deadhead_matrix.proofs.matrix.Matrix.walks_from.Goals as goal

pub returns-clause-places : goal.returns-clause-places
returns-clause-places c = length-map-range_with_len (found_at c.index.result.now) 0 c.places.result ∙ c.places.ensures.count

pub returns-clause-least : goal.returns-clause-least
returns-clause-least c = λ b b_in.
    let inside = c.self.inside in
    subst AreLeastWalks c.self.view_is
    (AreLeastWalks-from inside.entries.items inside.rows.items inside.pulls inside.rules c.self.invariant.0) c.args.a b c.requires b_in
