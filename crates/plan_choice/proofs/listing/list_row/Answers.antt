use Rattle.std.proofs.Common.{◌≡◌, ◌∙◌, ◌++◌, [], ◌∷◌, List, length, ap}
use Rattle.std.proofs.lemmas.Result.{IfOk-weaker}
use Rattle.list_search.specs.Lists.{ListsView}
use Rattle.list_search.specs.declared.lists.Pair.{Pair}
use Rattle.plan_choice.specs.Listing.{pair_worths}
use Rattle.plan_choice.proofs.ListingLemmas.{AreListed-row, worths-past}
use Rattle.plan_choice.proofs.listing.list_row.Goals as goal

pub returns-clause-listed : goal.returns-clause-listed
returns-clause-listed g c =
    let pairs = c.args.pairs.now in
    let likings = c.args.likings.now in
    let plan = c.args.plan.now in
    let i = c.args.i in
    let was : ListsView = c.list_columns.new.lists in
    let now : ListsView = c.end_row-2.new.self in
    let listed = c.in_ok-list_columns.ensures in
    IfOk-weaker c.end_row-2.result (λ _. now ≡ record was { rows = was.rows ++ was.begun ∷ []; begun = [] }) _
    (λ _ e.
    AreListed-row (pair_worths pairs likings plan) (length pairs.moves) i c.args.lists.now now was.begun c.requires.listed
    listed.listed
    (λ j. worths-past pairs likings plan i j) (ap (λ (v : ListsView). v.slots) e ∙ listed.columns)
    (ap (λ (v : ListsView). v.rows) e ∙ ap (λ (rows : List (List Pair)). rows ++ was.begun ∷ []) listed.rows)
    (ap (λ (v : ListsView). v.begun) e))
    c.end_row-2.ensures.ok
