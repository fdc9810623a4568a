use Rattle.std.proofs.Common.{◌≡◌, [], get_or, not, ◌==◌, ap, ◌∙◌, arith}
use Rattle.std.proofs.lemmas.List.{get_or_default}
use Rattle.deadhead_matrix.specs.Deadheads.{has_entry}
use Rattle.deadhead_matrix.specs.Rows.{way}
use Rattle.deadhead_matrix.proofs.WaysLemmas.{has_entry-told}
use Rattle.deadhead_matrix.proofs.deadheads.Deadheads.has.Goals as goal

pub returns : goal.returns
returns c =
    let ways = c.self.inside.ways.items in
    let from = c.from.ensures in
    let row : c.minutes.result.now ≡ get_or ways c.args.from [] =
    c.minutes.ensures
    ∙ c.index-row.ensures
    ∙ ap (λ a. get_or ways a c.index-row.result.now) c.from.ensures
    ∙ get_or_default ways c.args.from c.index-row.result.now [] (omega (arith, c.requires.from, c.self.invariant.rows.rows)) in
    let same : not (get_or c.minutes.result.now c.from-2.result 0 == 0) ≡ not (way ways c.args.from c.args.to == 0) =
    (λ i. not (get_or (row i) (c.from-2.ensures i) 0 == 0)) in
    same ∙ has_entry-told c.self.inside.entries.items ways c.args.from c.args.to c.self.invariant
    ∙ ap (λ entries. has_entry entries c.args.from c.args.to) c.self.view_is
