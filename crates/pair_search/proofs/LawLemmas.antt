-- What the laws of a search say.
use Rattle.std.proofs.Common.{◌≡◌, ℕ, Bool, false, List, length, Option, None, refl, sym, ◌∙◌, arith}
use Rattle.std.proofs.lemmas.Option.{none-some, same_Some}
use Rattle.assignment_model.specs.Prices.{Plan}
use Rattle.pair_graph.specs.Pairs.{PairsView}
use Rattle.pair_search.specs.Arranged.{arranged, departing, slots_of, AreInOrder}
use Rattle.pair_search.specs.Determined.{dist_from, leave_after, enter_after}
use Rattle.pair_search.specs.Order.{IsOrder}
use Rattle.pair_search.specs.Relinking.{IsShifted}
use Rattle.pair_search.specs.Search.{as_columns, AreLooked}
use Rattle.pair_search.specs.Side.{pairs_minute, pairs_post}
use Rattle.pair_search.specs.declared.order.Column.{Column}
use Rattle.pair_search.proofs.ArrangedLemmas.{slots-by_post, slots-by_minute}
use Rattle.pair_search.proofs.DeterminedLemmas.{dist_from-is}
use Rattle.pair_search.proofs.FrontLemmas.{leave_after-is, enter_after-is}

-- columns that a row has looked at are as far as is computed
pub looked-is : (w : ℕ → Option ℕ) (from start : ℕ) (enter : List ℕ) (done : List Bool) (dist parent dist' parent' : List ℕ)
    → length dist' ≡ length dist
    → AreLooked w (length dist) from start enter (as_columns dist parent done) (as_columns dist' parent' done)
    → dist' ≡ dist_from w start enter done dist
looked-is w from start enter done dist parent dist' parent' len are =
    dist_from-is w start enter done dist dist' len are.nearer are.covered (λ j lt. (are.reached j lt).undone)
    (λ j lt e. let r = are.reached j lt in none-some r.weight (sym e ∙ r.fits))
    (λ j k lt e. let r = are.reached j lt in let same = same_Some r.weight k (sym r.fits ∙ e) in omega (arith, r.exact, same))

-- prices after a shift are those that are computed
pub leaving-is : (a : ℕ) (plan : Plan) (dist : List ℕ) (fall : ℕ) (leave' enter' : List ℕ) → length leave' ≡ length plan.leave
    → IsShifted (length plan.enter) a plan.next dist fall plan.leave plan.enter leave' enter' → leave' ≡ leave_after a plan dist fall
leaving-is a plan dist fall leave' enter' len shifted = leave_after-is a plan dist fall leave' len shifted.root shifted.rows

pub entering-is : (a : ℕ) (plan : Plan) (dist : List ℕ) (fall : ℕ) (leave' enter' : List ℕ) → length enter' ≡ length plan.enter
    → IsShifted (length plan.enter) a plan.next dist fall plan.leave plan.enter leave' enter' → enter' ≡ enter_after plan dist fall
entering-is a plan dist fall leave' enter' len shifted = enter_after-is plan dist fall enter' len shifted.columns

-- columns in their order are those that are computed
pub arranged-is : (pairs : PairsView) (turned : Bool) (without : Option ℕ) (columns : List Column) (places : List ℕ)
    → IsOrder (length pairs.moves) (pairs_minute pairs turned) (pairs_post pairs turned without) columns places
    → AreInOrder (length pairs.moves) columns
    → slots_of columns ≡ arranged pairs turned without
unfolding arranged
arranged-is pairs turned without columns places is order =
    slots-by_post (length pairs.moves) (pairs_minute pairs turned) (pairs_post pairs turned without) columns places is order

-- and so are departures
pub departing-is : (pairs : PairsView) (columns : List Column) (places : List ℕ)
    → IsOrder (length pairs.moves) (pairs_minute pairs false) (λ _. None) columns places
    → AreInOrder (length pairs.moves) columns → slots_of columns ≡ departing pairs
unfolding departing
departing-is pairs columns places is order =
    slots-by_minute (length pairs.moves) (pairs_minute pairs false) (λ _. None) columns places is order (λ j. refl)
