-- Listed pairs are worth what pairs are, so links that are worth most of these are the chosen ones.
use Rattle.std.proofs.Common.{◌≡◌, ℕ, true, false, List, [], ◌∷◌, length, get_or, Option, None, refl, sym, ap}
use Rattle.std.proofs.Common.{subst, ◌∙◌, arith}
use Rattle.std.specs.Prelude.{Result, Ok, Err, IfOk}
use Rattle.std.proofs.Math.Path.{fun_ext}
use Rattle.std.proofs.lemmas.Bool.{cond-true, cond-false}
use Rattle.std.proofs.lemmas.List.Sums.{sum_by-cons}
use Rattle.std.proofs.lemmas.Option.{none-some}
use Rattle.assignment_model.specs.Choice.{block_liking, liked_after, liking, AreWorthMost, IsChosen}
use Rattle.assignment_model.specs.Prices.{Plan}
use Rattle.pair_graph.specs.Pairs.{PairsView}
use Rattle.pair_search.specs.Arranged.{bare, departing, slot_in, slots_of}
use Rattle.pair_search.specs.Assignment.{IsMatched, Covers}
use Rattle.pair_search.specs.Determined.{found_each}
use Rattle.pair_search.specs.Order.{slot_at, IsRenaming}
use Rattle.pair_search.specs.declared.order.Column.{Column}
use Rattle.pair_search.proofs.ArrangedLemmas.{slots-at, slots-length}
use Rattle.plan_choice.specs.Chosen.{chosen_plan, links_worth_most}
use Rattle.plan_choice.specs.Likings.{LikingsView, likes_nothing}
use Rattle.plan_choice.specs.Listing.{pair_worths}
use Rattle.trip_model.specs.Blocking.{IsLeast}
use Rattle.trip_model.specs.Network.{Network}

-- where no link is liked, no blocking is
unliked-after : (like : ℕ → ℕ → ℕ) → ((i j : ℕ) → like i j ≡ 0) → (i : ℕ) (js : List ℕ) → liked_after like i js ≡ 0
unliked-after like none i [] = refl
unliked-after like none i (j ∷ js) = omega (arith, none i j, unliked-after like none j js)

unliked-block : (like : ℕ → ℕ → ℕ) → ((i j : ℕ) → like i j ≡ 0) → (block : List ℕ) → block_liking like block ≡ 0
unliked-block like none [] = refl
unliked-block like none (i ∷ js) = unliked-after like none i js

pub unliked : (like : ℕ → ℕ → ℕ) → ((i j : ℕ) → like i j ≡ 0) → (blocks : List (List ℕ)) → liking like blocks ≡ 0
unliked like none [] = refl
unliked like none (block ∷ blocks) =
    omega (arith, sum_by-cons (block_liking like) block blocks, unliked-block like none block, unliked like none blocks)

-- and each least blocking may be chosen
pub IsChosen-unliked : (network : Network) (like : ℕ → ℕ → ℕ) (blocks : List (List ℕ)) → ((i j : ℕ) → like i j ≡ 0)
    → IsLeast network blocks → IsChosen network like blocks
IsChosen-unliked network like blocks none least = record {
  least = least;
  liked = λ others _. omega (arith, unliked like none others);
}

-- links that are matched to prices which cover all values are worth most
pub AreWorthMost-matched : (w : ℕ → ℕ → Option ℕ) (next : List (Option ℕ)) (leave enter : List ℕ)
    → IsMatched w (λ _. false) None None next leave enter → Covers w (λ _. false) None leave enter → AreWorthMost w next leave enter
AreWorthMost-matched w next leave enter matched covers = record {
  once = matched.once;
  tight = matched.tight;
  leave_zero = λ i. matched.leave_zero i (λ e. none-some i e);
  enter_zero = λ j. matched.enter_zero j (λ e. none-some j e);
  covers = λ i j k. covers i j k refl (λ e. none-some i e);
}

pub AreWorthMost-found : (w : ℕ → ℕ → Option ℕ) (next next' : List (Option ℕ)) (leave enter : List ℕ) (found : Plan) → next' ≡ next
    → ◌≡◌ {A = Plan} (record { next = next; leave = leave; enter = enter }) found → AreWorthMost w next leave enter
    → AreWorthMost w next' found.leave found.enter
AreWorthMost-found w next next' leave enter found same is most =
    subst (λ (p : Plan). AreWorthMost w next' p.leave p.enter) is
    (subst (λ (links : List (Option ℕ)). AreWorthMost w links leave enter) (sym same) most)

-- the slots of columns are a renaming where those of the columns are
pub IsRenaming-slots : (n : ℕ) (columns : List Column) (slots : List ℕ) (place : ℕ → ℕ) → length columns ≡ n
    → slots ≡ slots_of columns → IsRenaming n (slot_at n columns) place → IsRenaming n (slot_in slots) place
IsRenaming-slots n columns slots place count are renaming =
    subst (λ (slot : ℕ → ℕ). IsRenaming n slot place) (sym (fun_ext same)) renaming
  where
    same : (k : ℕ) → slot_in slots k ≡ slot_at n columns k
    same k = ap (λ (xs : List ℕ). slot_in xs k) are ∙ ap (get_or (slots_of columns) k) (slots-length columns ∙ count)
        ∙ slots-at n columns k

-- the plan with other next trips
abbrev pub with_next : Plan → List (Option ℕ) → Plan
with_next plan next = record plan { next = next }

-- where nothing is liked the plan itself is chosen
pub chosen-itself : (pairs : PairsView) (likings : LikingsView) (plan : Plan) (next : List (Option ℕ))
    → likes_nothing likings ≡ true → next ≡ plan.next → with_next plan next ≡ chosen_plan pairs likings plan
unfolding chosen_plan
chosen-itself pairs likings plan next nothing same =
    ap (with_next plan) same
    ∙ sym (cond-true (likes_nothing likings) plan (with_next plan (links_worth_most pairs likings plan).next) nothing)

-- listed pairs are worth what pairs are
worths-listed : (pairs : PairsView) (likings : LikingsView) (plan : Plan) (w : ℕ → ℕ → Option ℕ)
    → ((i j : ℕ) → w i j ≡ pair_worths pairs likings plan i j) → w ≡ pair_worths pairs likings plan
worths-listed pairs likings plan w each = fun_ext (λ i. fun_ext (each i))

-- else links that are worth most are chosen
pub chosen-most : (pairs : PairsView) (likings : LikingsView) (plan : Plan) (next : List (Option ℕ)) (w : ℕ → ℕ → Option ℕ)
    → likes_nothing likings ≡ false → ((i j : ℕ) → w i j ≡ pair_worths pairs likings plan i j)
    → next ≡ (found_each w (departing pairs) (bare (length pairs.moves))).next
    → with_next plan next ≡ chosen_plan pairs likings plan
unfolding chosen_plan
chosen-most pairs likings plan next w likes each found =
    ap (with_next plan) (found
    ∙ ap (λ (v : ℕ → ℕ → Option ℕ). (found_each v (departing pairs) (bare (length pairs.moves))).next)
    (worths-listed pairs likings plan w each))
    ∙ sym (cond-false (likes_nothing likings) plan (with_next plan (links_worth_most pairs likings plan).next) likes)

pub AreWorthMost-listed : (pairs : PairsView) (likings : LikingsView) (plan : Plan) (next : List (Option ℕ)) (w : ℕ → ℕ → Option ℕ)
    (leave enter : List ℕ) → ((i j : ℕ) → w i j ≡ pair_worths pairs likings plan i j) → AreWorthMost w next leave enter
    → AreWorthMost (pair_worths pairs likings plan) next leave enter
AreWorthMost-listed pairs likings plan next w leave enter each most =
    subst (λ (v : ℕ → ℕ → Option ℕ). AreWorthMost v next leave enter) (worths-listed pairs likings plan w each) most

-- two facts of the value in an `Ok` together
pub IfOk-both : {T E : Type 0} (r : Result T E) (P Q R : T → Type 0) → ((x : T) → P x → Q x → R x) → IfOk r P → IfOk r Q → IfOk r R
IfOk-both (Ok x) P Q R both p q = both x p q
IfOk-both (Err e) P Q R both p q = tt
