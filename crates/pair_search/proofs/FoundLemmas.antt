-- What is left where a search has ended is the plan that it finds.
use Rattle.std.proofs.Common.{◌≡◌, ℕ, ◌+◌, Bool, List, length, set, Option, refl, ap, ◌∙◌}
use Rattle.assignment_model.specs.Prices.{Plan}
use Rattle.pair_search.specs.Determined.{Front, grown, opened, first_front, leave_after, enter_after, linked_back, found}
use Rattle.pair_search.specs.Fronts.{IsShown}
use Rattle.pair_search.specs.Relinking.{IsShifted}
use Rattle.pair_search.specs.Search.{at}
use Rattle.pair_search.specs.declared.limits.TheConstants.{GREATEST_PRICE}
use Rattle.pair_search.proofs.FrontLemmas.{found-is}
use Rattle.pair_search.proofs.LawLemmas.{leaving-is, entering-is}

module _ (w : ℕ → ℕ → Option ℕ) (a : ℕ) (plan : Plan) where
  -- where a search from the row ends
  abbrev pub last_front : Front
  last_front = grown w (opened a plan) (length plan.next) (first_front w a plan.enter (length plan.next))

  pub found-over : (dist parent : List ℕ) (done : List Bool) (rows : List ℕ) (place : ℕ) (to : Option ℕ) (fall : ℕ)
      (next' : List (Option ℕ)) (leave' enter' : List ℕ)
      → IsShown dist parent done rows place to fall last_front
      → next' ≡ linked_back last_front.from (length plan.next + 1) plan.next (at rows place) to
      → length leave' ≡ length (set plan.leave a GREATEST_PRICE) → length enter' ≡ length plan.enter
      → IsShifted (length plan.enter) a plan.next dist fall (set plan.leave a GREATEST_PRICE) plan.enter leave' enter'
      → ◌≡◌ {A = Plan} (record { next = next'; leave = leave'; enter = enter' }) (found w a plan)
  found-over dist parent done rows place to fall next' leave' enter' shown links len len' shifted =
      found-is w a plan last_front next' leave' enter' refl
      (links ∙ ap (λ (r : ℕ). linked_back last_front.from (length plan.next + 1) plan.next r to) shown.row
      ∙ ap (linked_back last_front.from (length plan.next + 1) plan.next last_front.row) shown.column)
      (leaving-is a (opened a plan) dist fall leave' enter' len shifted
      ∙ ap (λ (d : List ℕ). leave_after a (opened a plan) d fall) shown.far ∙ ap (leave_after a (opened a plan) last_front.dist) shown.best)
      (entering-is a (opened a plan) dist fall leave' enter' len' shifted
      ∙ ap (λ (d : List ℕ). enter_after (opened a plan) d fall) shown.far ∙ ap (enter_after (opened a plan) last_front.dist) shown.best)
