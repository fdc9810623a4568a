-- Loose plans of pairs, seen from one side.
use Rattle.std.proofs.Common.{◌≡◌, ℕ, Bool, true, false, List, length, Option, None, Some, refl, sym, ap, subst, ◌∙◌, arith}
use Rattle.std.proofs.lemmas.Option.{none-some}
use Rattle.trip_model.specs.Network.{AreDepartures}
use Rattle.assignment_model.specs.Prices.{Plan, IsCertified, IsDay, IsLoose}
use Rattle.assignment_model.proofs.Looseness.{IsCertified-loose}
use Rattle.pair_graph.specs.Pairs.{PairsView, pairs_network}
use Rattle.pair_search.specs.Assignment.{IsMatched, Covers, MayBegin}
use Rattle.pair_search.specs.declared.groups.Group.{Group}
use Rattle.pair_search.specs.declared.order.Column.{Column}
use Rattle.pair_search.specs.declared.look.Look.{Look}
use Rattle.pair_search.specs.Arranged.{arranged, departing, slots_of, weight_from, found_by, all_found, turned_plan}
use Rattle.pair_search.specs.Groups.{AreGroups}
use Rattle.pair_search.specs.Order.{IsOrder}
use Rattle.pair_search.specs.Side.{SideView, pairs_minute, pairs_post, side_slots, side_weight, IsSideOf}
use Rattle.pair_search.specs.Turned.{MayBeginTurned, IsFoundTurned}
use Rattle.pair_search.specs.Visits.{AreOfSide, Takes}
use Rattle.pair_search.proofs.SideLemmas.{IsWithout-side, weight-side}
use Rattle.price_assign.specs.Found.{found_left, found_right, solved}
use Rattle.price_assign.proofs.RightLemmas.{MayBegin-right, IsLoose-right}
use Rattle.pair_search.proofs.LooseLemmas.{MayBegin-left, IsLoose-matched, lives-after}

-- the leaving side
abbrev pub leaving : PairsView → Option ℕ → List Column → List ℕ → List Group → ℕ → SideView
leaving pairs without columns places groups count =
    record { pairs = pairs; turned = false; without = without; columns = columns; places = places; groups = groups; count = count }

-- a search from a leaving side of a loose plan may begin
pub MayBegin-leaving : (pairs : PairsView) (columns : List Column) (places : List ℕ) (groups : List Group) (count : ℕ) (side : SideView)
    (plan : Plan) (a : ℕ) (b : Option ℕ) → side ≡ leaving pairs b columns places groups count
    → IsDay (pairs_network pairs) (length pairs.moves)
    → IsLoose (pairs_network pairs) plan (Some a) b
    → MayBegin (side_weight side) (side_slots side) (λ _. false) a b plan.next plan.leave plan.enter
MayBegin-leaving pairs columns places groups count side plan a b is day loose =
    subst (λ (s : SideView). MayBegin (side_weight s) (side_slots s) (λ _. false) a b plan.next plan.leave plan.enter) (sym is)
    (MayBegin-left (pairs_network pairs) (length pairs.moves) plan a b (side_weight (leaving pairs b columns places groups count)) day
    (IsWithout-side (leaving pairs b columns places groups count)) loose)

-- and leaves the plan loose
pub IsLoose-leaving : (pairs : PairsView) (columns : List Column) (places : List ℕ) (groups : List Group) (count : ℕ) (departs : ℕ → ℕ)
    (side : SideView) (plan new : Plan) (a : ℕ) (b : Option ℕ) → side ≡ leaving pairs b columns places groups count
    → AreDepartures (pairs_network pairs) departs
    → IsLoose (pairs_network pairs) plan (Some a) b → length new.leave ≡ length new.next → length new.enter ≡ length new.next
    → IsMatched (side_weight side) (λ _. false) None b new.next new.leave new.enter
    → Covers (side_weight side) (λ _. false) None new.leave new.enter → IsLoose (pairs_network pairs) new None b
IsLoose-leaving pairs columns places groups count departs side plan new a b is clock loose leaves enters matched covers =
    IsLoose-matched (pairs_network pairs) departs new (λ _. false) b (side_weight (leaving pairs b columns places groups count)) clock
    (IsWithout-side (leaving pairs b columns places groups count)) (λ i _. refl)
    (lives-after (pairs_network pairs) plan (Some a) b loose) leaves enters
    (subst (λ (s : SideView). IsMatched (side_weight s) (λ _. false) None b new.next new.leave new.enter) is matched)
    (subst (λ (s : SideView). Covers (side_weight s) (λ _. false) None new.leave new.enter) is covers)

-- where all leaving sides are added, the plan is certified
pub IsCertified-leaving : (pairs : PairsView) (columns : List Column) (places : List ℕ) (groups : List Group) (count : ℕ) (departs : ℕ → ℕ)
    (side : SideView) (plan : Plan) → side ≡ leaving pairs None columns places groups count
    → IsDay (pairs_network pairs) (length pairs.moves)
    → AreDepartures (pairs_network pairs) departs → length plan.next ≡ side_slots side → length plan.leave ≡ length plan.next
    → length plan.enter ≡ length plan.next
    → IsMatched (side_weight side) (λ _. false) None None plan.next plan.leave plan.enter
    → Covers (side_weight side) (λ _. false) None plan.leave plan.enter
    → IsCertified (pairs_network pairs) plan
IsCertified-leaving pairs columns places groups count departs side plan is day clock slots leaves enters matched covers =
    let n = length pairs.moves in
    let all : length plan.next ≡ n = slots ∙ ap side_slots is in
    IsCertified-loose (pairs_network pairs) departs plan clock (λ s live. omega (arith, day.within s live, all))
    (IsLoose-matched (pairs_network pairs) departs plan (λ _. false) None (side_weight (leaving pairs None columns places groups count))
    clock (IsWithout-side (leaving pairs None columns places groups count)) (λ i _. refl)
    (λ s e. absurd (none-some s e)) leaves enters
    (subst (λ (s : SideView). IsMatched (side_weight s) (λ _. false) None None plan.next plan.leave plan.enter) is matched)
    (subst (λ (s : SideView). Covers (side_weight s) (λ _. false) None plan.leave plan.enter) is covers))

-- the entering side
abbrev pub entering : PairsView → Option ℕ → List Column → List ℕ → List Group → ℕ → SideView
entering pairs without columns places groups count =
    record { pairs = pairs; turned = true; without = without; columns = columns; places = places; groups = groups; count = count }

-- a search from an entering side of a loose plan may begin
pub MayBegin-entering : (pairs : PairsView) (columns : List Column) (places : List ℕ) (groups : List Group) (count : ℕ) (side : SideView)
    (plan : Plan) (a : Option ℕ) (b : ℕ) → side ≡ entering pairs a columns places groups count
    → IsDay (pairs_network pairs) (length pairs.moves)
    → IsLoose (pairs_network pairs) plan a (Some b)
    → MayBeginTurned (side_weight side) (side_slots side) b a plan.next plan.leave plan.enter
MayBegin-entering pairs columns places groups count side plan a b is day loose =
    subst (λ (s : SideView). MayBeginTurned (side_weight s) (side_slots s) b a plan.next plan.leave plan.enter) (sym is)
    (MayBegin-right (pairs_network pairs) (length pairs.moves) plan a b (side_weight (entering pairs a columns places groups count)) day
    (IsWithout-side (entering pairs a columns places groups count)) loose)

-- and leaves the plan loose
pub IsLoose-entering : (pairs : PairsView) (columns : List Column) (places : List ℕ) (groups : List Group) (count : ℕ) (departs : ℕ → ℕ)
    (side : SideView) (plan new : Plan) (a : Option ℕ) (b : ℕ) → side ≡ entering pairs a columns places groups count
    → AreDepartures (pairs_network pairs) departs
    → IsLoose (pairs_network pairs) plan a (Some b) → length new.leave ≡ length new.next → length new.enter ≡ length new.next
    → IsFoundTurned (side_weight side) b a plan.next new.next new.leave new.enter → IsLoose (pairs_network pairs) new a None
IsLoose-entering pairs columns places groups count departs side plan new a b is clock loose leaves enters found =
    IsLoose-right (pairs_network pairs) departs plan new a b (side_weight (entering pairs a columns places groups count)) clock
    (IsWithout-side (entering pairs a columns places groups count)) loose leaves enters
    (subst (λ (s : SideView). IsFoundTurned (side_weight s) b a plan.next new.next new.leave new.enter) is found)

-- what a search over the columns of a side finds is computed from the pairs
pub found-left : (pairs : PairsView) (side : SideView) (order : List ℕ) (plan new : Plan) (a : ℕ) (b : Option ℕ)
    → IsSideOf pairs false b side → order ≡ arranged pairs false b
    → new ≡ found_by order (side_weight side) a plan → new ≡ found_left pairs a b plan
unfolding found_left
found-left pairs side order plan new a b is by found =
    found ∙ ap (λ o. found_by o (side_weight side) a plan) by
    ∙ ap (λ (w : ℕ → ℕ → Option ℕ). found_by (arranged pairs false b) w a plan) (weight-side pairs false b side is)

pub found-right : (pairs : PairsView) (side : SideView) (order : List ℕ) (plan new : Plan) (b : ℕ) (a : Option ℕ)
    → IsSideOf pairs true a side → order ≡ arranged pairs true a
    → new ≡ turned_plan (found_by order (side_weight side) b (turned_plan plan)) → new ≡ found_right pairs b a plan
unfolding found_right
found-right pairs side order plan new b a is by found =
    found ∙ ap (λ o. turned_plan (found_by o (side_weight side) b (turned_plan plan))) by
    ∙ ap (λ (w : ℕ → ℕ → Option ℕ). turned_plan (found_by (arranged pairs true a) w b (turned_plan plan)))
    (weight-side pairs true a side is)

-- and so is what searches from all rows find
pub solved-is : (pairs : PairsView) (side : SideView) (order rows : List ℕ) (new : Plan) → IsSideOf pairs false None side
    → order ≡ arranged pairs false None → rows ≡ departing pairs
    → new ≡ all_found order (side_weight side) rows → new ≡ solved pairs
unfolding solved
solved-is pairs side order rows new is by turn found =
    found ∙ ap (λ o. all_found o (side_weight side) rows) by
    ∙ ap (λ (w : ℕ → ℕ → Option ℕ). all_found (arranged pairs false None) w rows) (weight-side pairs false None side is)
    ∙ ap (all_found (arranged pairs false None) (weight_from pairs false None)) turn

-- looks over a side are such over the pairs that it is of
pub Takes-of-side : (P : SideView → List Look → Type 0) (pairs : PairsView) (turned : Bool) (without : Option ℕ) (side : SideView)
    → IsSideOf pairs turned without side
    → IsOrder (length pairs.moves) (pairs_minute pairs turned) (pairs_post pairs turned without) side.columns side.places
    → slots_of side.columns ≡ arranged pairs turned without → AreGroups (side_slots side) side.columns side.count side.groups
    → (was now : List Look) (paid total : ℕ) → Takes (P side) was now paid total → Takes (AreOfSide P pairs turned without) was now paid total
Takes-of-side P pairs turned without side is columns slots groups was now paid total takes = record {
  looks = takes.looks;
  after = takes.after;
  steps = takes.steps;
  are = record { side = side; is = is; columns = columns; slots = slots; groups = groups; are = takes.are };
}
