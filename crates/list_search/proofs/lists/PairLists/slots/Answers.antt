use Rattle.std.proofs.Common.{◌≤◌, drop, length, subst}
use Rattle.pair_search.specs.Assignment.{AreWeights}
use Rattle.list_search.specs.Lists.{ListsView, listed, rows_cut, cut_end}
use Rattle.list_search.proofs.ListLemmas.{view_with, AreWeights-listed}
use Rattle.list_search.proofs.lists.PairLists.slots.Goals as goal

pub returns-clause-sound : goal.returns-clause-sound
returns-clause-sound c =
    let was = c.self.inside in
    subst (λ (v : ListsView). length v.rows ≤ v.slots → AreWeights (listed v) v.slots) c.self.view_is
    (AreWeights-listed (view_with was.slots (rows_cut 0 was.ends.items was.pairs.items) (drop (cut_end 0 was.ends.items) was.pairs.items))
    c.self.invariant.2)
