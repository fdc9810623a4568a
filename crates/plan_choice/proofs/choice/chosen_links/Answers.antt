use Rattle.std.proofs.Common.{◌≡◌, ◌∙◌, ℕ, List, Option, length, sym, subst}
use Rattle.std.proofs.lemmas.Result.{IfOk-weaker}
use Rattle.assignment_model.specs.Choice.{AreWorthMost, IsChosen}
use Rattle.list_search.specs.Lists.{listed}
use Rattle.pair_graph.specs.Pairs.{pairs_network}
use Rattle.pair_search.specs.Arranged.{bare, departing}
use Rattle.pair_search.specs.Determined.{found_each}
use Rattle.plan_choice.specs.Chosen.{pair_liking, wait_between}
use Rattle.plan_choice.proofs.ChosenLemmas.{chosen-itself, chosen-most, AreWorthMost-listed, IfOk-both, IsChosen-unliked}
use Rattle.plan_choice.proofs.LikingsLemmas.{liking-nothing}
use Rattle.plan_choice.proofs.ListingLemmas.{listed-all}
use Rattle.plan_choice.proofs.choice.chosen_links.Goals as goal
use Rattle.trip_model.specs.Links.{blocks_along}
use Rattle.trip_model.specs.Order.{minute_left}
use Rattle.trip_model.specs.Plain.{move_at}

pub returns-then-likes_nothing-clause-plan : goal.returns-then-likes_nothing-clause-plan
returns-then-likes_nothing-clause-plan g c =
    let nothing = sym c.likes_nothing.ensures.nothing ∙ c.if-likes_nothing.true in
    IfOk-weaker c.copy_links.result (λ next. next.items ≡ c.links.result.now) _
    (λ next e. chosen-itself c.args.pairs.now c.args.likings.now c.args.plan.now next.items nothing (e ∙ c.links.ensures))
    c.copy_links.ensures

pub returns-then-likes_nothing-clause-chosen : goal.returns-then-likes_nothing-clause-chosen
returns-then-likes_nothing-clause-chosen g c =
    let pairs = c.args.pairs.now in
    let likings = c.args.likings.now in
    let plan = c.args.plan.now in
    let network = pairs_network pairs in
    let at = c.slots-slots.ensures in
    let nothing = sym c.likes_nothing.ensures.nothing ∙ c.if-likes_nothing.true in
    IfOk-weaker c.copy_links.result (λ next. next.items ≡ c.links.result.now) _
    (λ next e order stands.
    subst (λ (links : List (Option ℕ)). IsChosen network (pair_liking pairs likings) (blocks_along links order))
    (sym (e ∙ c.links.ensures))
    (IsChosen-unliked network (pair_liking pairs likings) (blocks_along plan.next order)
    (λ i j. liking-nothing likings nothing i j (wait_between pairs i j))
    (c.certified_law.ensures network c.slots-slots.result plan (λ s. minute_left (move_at pairs.moves s)) at.day
    (c.requires.slots ∙ sym at.count) c.requires.certified at.departures order stands)))
    c.copy_links.ensures

pub returns-clause-plan : goal.returns-clause-plan
returns-clause-plan g c =
    let pairs = c.args.pairs.now in
    let likings = c.args.likings.now in
    let plan = c.args.plan.now in
    let w = listed c.in_ok-lists.lists in
    let liked = sym c.likes_nothing.ensures.nothing ∙ c.if-likes_nothing.false in
    IfOk-weaker c.link_pairs.result (λ next. next.items ≡ (found_each w (departing pairs) (bare (length pairs.moves))).next) _
    (λ next e.
    chosen-most pairs likings plan next.items w liked (listed-all pairs likings plan c.in_ok-lists.lists c.in_ok-lists.ensures.listed) e)
    c.link_pairs.ensures.links

pub returns-clause-certified : goal.returns-clause-certified
returns-clause-certified g c =
    let pairs = c.args.pairs.now in
    let likings = c.args.likings.now in
    let plan = c.args.plan.now in
    let w = listed c.in_ok-lists.lists in
    let at = c.slots-slots.ensures in
    let found = found_each w (departing pairs) (bare (length pairs.moves)) in
    IfOk-both c.link_pairs.result (λ next. AreWorthMost w next.items found.leave found.enter)
    (λ next. length next.items ≡ length pairs.moves) _
    (λ next most long.
    c.choice_law.ensures.certified (pairs_network pairs) c.slots-slots.result plan (λ s. minute_left (move_at pairs.moves s))
    (pair_liking pairs likings) next.items found.leave found.enter at.day (c.requires.slots ∙ sym at.count) c.requires.certified
    at.departures (λ i j. c.likes_nothing.ensures.most i j (wait_between pairs i j)) (long ∙ sym at.count)
    (AreWorthMost-listed pairs likings plan next.items w found.leave found.enter
    (listed-all pairs likings plan c.in_ok-lists.lists c.in_ok-lists.ensures.listed) most))
    c.link_pairs.ensures.most c.link_pairs.ensures.slots

pub returns-clause-chosen : goal.returns-clause-chosen
returns-clause-chosen g c =
    let pairs = c.args.pairs.now in
    let likings = c.args.likings.now in
    let plan = c.args.plan.now in
    let w = listed c.in_ok-lists.lists in
    let at = c.slots-slots.ensures in
    let found = found_each w (departing pairs) (bare (length pairs.moves)) in
    IfOk-both c.link_pairs.result (λ next. AreWorthMost w next.items found.leave found.enter)
    (λ next. length next.items ≡ length pairs.moves) _
    (λ next most long.
    c.choice_law.ensures.chosen (pairs_network pairs) c.slots-slots.result plan (λ s. minute_left (move_at pairs.moves s))
    (pair_liking pairs likings) next.items found.leave found.enter at.day (c.requires.slots ∙ sym at.count) c.requires.certified
    at.departures (λ i j. c.likes_nothing.ensures.most i j (wait_between pairs i j)) (long ∙ sym at.count)
    (AreWorthMost-listed pairs likings plan next.items w found.leave found.enter
    (listed-all pairs likings plan c.in_ok-lists.lists c.in_ok-lists.ensures.listed) most))
    c.link_pairs.ensures.most c.link_pairs.ensures.slots
