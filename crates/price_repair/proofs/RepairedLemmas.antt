-- What repairs do step by step is what is computed from the plan before them.
use Rattle.std.proofs.Common.{◌≡◌, ℕ, length, Option, Some, ap, ◌∙◌}
use Rattle.trip_model.specs.Links.{next_of, before_of}
use Rattle.assignment_model.specs.Prices.{Plan}
use Rattle.pair_graph.specs.Pairs.{PairsView}
use Rattle.price_assign.specs.Plans.{with_slots}
use Rattle.price_repair.specs.Cut.{plan_without}
use Rattle.price_repair.specs.Repaired.{left_added, right_added, plan_taken, plan_added, plan_replaced}

-- a trip that was cut out, and then the sides of its neighbours that were added
pub plan_taken-is : (pairs : PairsView) (slot : ℕ) (plan cut left new : Plan) (before next : Option ℕ) → cut ≡ plan_without plan slot
    → before ≡ before_of plan.next slot → next ≡ next_of plan.next slot
    → left ≡ left_added pairs before next cut → new ≡ right_added pairs next left → new ≡ plan_taken pairs slot plan
unfolding plan_taken
plan_taken-is pairs slot plan cut left new before next cuts befores nexts lefts rights =
    rights ∙ ap (right_added pairs next) (lefts ∙ ap (left_added pairs before next) cuts)
    ∙ ap (λ (b : Option ℕ). right_added pairs next (left_added pairs b next (plan_without plan slot))) befores
    ∙ ap (λ (b : Option ℕ). right_added pairs b (left_added pairs (before_of plan.next slot) b (plan_without plan slot))) nexts

-- and a trip whose own sides were added
pub plan_added-is : (pairs : PairsView) (slot : ℕ) (plan set left new : Plan) → set ≡ with_slots plan (length pairs.moves)
    → left ≡ left_added pairs (Some slot) (Some slot) set
    → new ≡ right_added pairs (Some slot) left → new ≡ plan_added pairs slot plan
unfolding plan_added
plan_added-is pairs slot plan set left new sets lefts rights =
    rights ∙ ap (right_added pairs (Some slot)) (lefts ∙ ap (left_added pairs (Some slot) (Some slot)) sets)

-- and a trip that was taken, and then another one added
pub plan_replaced-is : (without pairs : PairsView) (slot : ℕ) (plan mid new : Plan) → mid ≡ plan_taken without slot plan
    → new ≡ plan_added pairs slot mid → new ≡ plan_replaced without pairs slot plan
unfolding plan_replaced
plan_replaced-is without pairs slot plan mid new taken added = added ∙ ap (plan_added pairs slot) taken
