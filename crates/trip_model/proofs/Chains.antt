-- Links along which departures rise make blocks in which each live slot stands once.
use Rattle.std.proofs.Common.{◌≡◌, ◌≢◌, ℕ, zero, suc, ◌+◌, ◌<◌, ◌≤◌, ◌==◌, ◌||◌, Bool, true, false, not, cond, List, [], ◌∷◌, ◌++◌, length}
use Rattle.std.proofs.Common.{map, filter, sum_by, Option, None, Some, refl, sym, ap, subst, ◌∙◌, ⊎_elim, arith}
use Rattle.std.specs.List.{list_any, AllByRecursion}
use Rattle.std.specs.Option.{is_some}
use Rattle.std.proofs.lemmas.Bool.{cases_Bool, cases_eq, eq-eqb, ne_eqb, eqb-true, false≢true, or_parts}
use Rattle.std.proofs.lemmas.Option.{none-some, same_Some}
use Rattle.std.proofs.lemmas.List.{length-map, length-append}
use Rattle.std.proofs.lemmas.List.Sums.{sum_by-cons, sum_by-append}
use Rattle.trip_model.specs.Network.{Network, AreDepartures}
use Rattle.trip_model.specs.Blocking.{times, StandsOnce, Follow, IsBlock, slots_in, IsBlocking}
use Rattle.trip_model.specs.Links.{next_of, AreLinks, link_count, leads_to, is_first, along, block_from, blocks_along}
use Rattle.trip_model.proofs.Counting.{sum_below-list, sum_by-below, sum_by-standing, times-cons, length-ones}

-- the slots are those to which the links lead from i, one after the other to the end
abbrev pub GoesOn : List (Option ℕ) → ℕ → List ℕ → Type 0
GoesOn links i [] = next_of links i ≡ None
GoesOn links i (j ∷ js) = (next_of links i ≡ Some j) × GoesOn links j js

-- as many slots as there are minutes left are enough to come to the end
along-goes_on : (network : Network) (departs : ℕ → ℕ) (links : List (Option ℕ)) → AreDepartures network departs → AreLinks network links
    → (most i : ℕ) (next : Option ℕ) → next_of links i ≡ next → 8191 ≤ most + departs i → GoesOn links i (along links most next)
along-goes_on network departs links clock are zero i None e h = e
along-goes_on network departs links clock are zero i (Some j) e h =
    let fits = are.fits i j e in absurd (omega (arith, clock.rises i j fits, clock.within i j fits))
along-goes_on network departs links clock are (suc most) i None e h = e
along-goes_on network departs links clock are (suc most) i (Some j) e h = (
  e,
  along-goes_on network departs links clock are most j (next_of links j) refl (omega (arith, clock.rises i j (are.fits i j e))),
)

-- a block goes on from its first slot to the end
pub block_from-is : (links : List (Option ℕ)) (s : ℕ) → block_from links s ≡ s ∷ along links 8191 (next_of links s)
unfolding block_from
block_from-is links s = refl

follow : (network : Network) (links : List (Option ℕ)) → AreLinks network links → (i : ℕ) (js : List ℕ) → GoesOn links i js
    → Follow network i js
follow network links are i [] goes = tt
follow network links are i (j ∷ js) goes = (are.fits i j goes.0, follow network links are j js goes.1)

-- a slot stands after the first of a chain as often as the one before it stands in the chain
times-after : (links : List (Option ℕ)) (b s : ℕ) → next_of links b ≡ Some s → ((c : ℕ) → next_of links c ≡ Some s → c ≡ b)
    → (i : ℕ) (js : List ℕ) → GoesOn links i js → times s js ≡ times b (i ∷ js)
times-after links b s next once i [] goes =
    let ne : i ≢ b = λ e. none-some s (sym goes ∙ ap (next_of links) e ∙ next) in
    let zero_here : ◌≡◌ {A = ℕ} (cond (i == b) 1 0) 0 = ap (λ t. cond t 1 0) (ne_eqb i b ne) in
    omega (arith, times-cons b i [], zero_here)
times-after links b s next once i (j ∷ js) goes =
    let rest = times-after links b s next once j js goes.1 in
    let here : ◌≡◌ {A = ℕ} (cond (j == s) 1 0) (cond (i == b) 1 0) = ⊎_elim
    (λ (e : i ≡ b).
    let same : j ≡ s = same_Some j s (sym goes.0 ∙ ap (next_of links) e ∙ next) in
    λ k. cond ((eq-eqb j s same ∙ sym (eq-eqb i b e)) k) 1 0)
    (λ (ne : i ≡ b → ⊥).
    let other : j ≢ s = λ e. ne (once i (goes.0 ∙ ap Some e)) in
    λ k. cond ((ne_eqb j s other ∙ sym (ne_eqb i b ne)) k) 1 0)
    (cases_eq i b) in
    omega (arith, times-cons s j js, times-cons b i (j ∷ js), rest, here)

-- and never where it is the next of none
times-first : (links : List (Option ℕ)) (s : ℕ) → ((c : ℕ) → next_of links c ≡ Some s → ⊥) → (i : ℕ) (js : List ℕ) → GoesOn links i js
    → times s js ≡ 0
times-first links s first i [] goes = refl
times-first links s first i (j ∷ js) goes =
    let ne : j ≢ s = λ e. first i (goes.0 ∙ ap Some e) in
    let zero_here : ◌≡◌ {A = ℕ} (cond (j == s) 1 0) 0 = ap (λ t. cond t 1 0) (ne_eqb j s ne) in
    omega (arith, times-cons s j js, times-first links s first j js goes.1, zero_here)

or_second : (x y : Bool) → x ≡ false → (x || y) ≡ y
or_second true y e = absurd (false≢true (sym e))
or_second false y e = refl

-- what is the next of one
link_found : (links : List (Option ℕ)) (s : ℕ) → list_any (leads_to s) links ≡ true → (b : ℕ) × (next_of links b ≡ Some s)
link_found [] s any = absurd (false≢true any)
link_found (None ∷ links) s any = let rest = link_found links s any in (suc rest.0, rest.1)
link_found (Some j ∷ links) s any = ⊎_elim
    (λ (e : (j == s) ≡ true). (0, ap Some (eqb-true j s e)))
    (λ (e : (j == s) ≡ false).
    let rest = link_found links s (sym (or_second (j == s) (list_any (leads_to s) links) e) ∙ any) in
    (suc rest.0, rest.1))
    (cases_Bool (j == s))

link_none : (links : List (Option ℕ)) (s : ℕ) → list_any (leads_to s) links ≡ false → (c : ℕ) → next_of links c ≡ Some s → ⊥
link_none [] s any c next = none-some s next
link_none (None ∷ links) s any zero next = none-some s next
link_none (None ∷ links) s any (suc c) next = link_none links s any c next
link_none (Some j ∷ links) s any zero next =
    let e : j ≡ s = same_Some j s next in false≢true (sym (or_parts (j == s) (list_any (leads_to s) links) any).0 ∙ eq-eqb j s e)
link_none (Some j ∷ links) s any (suc c) next = link_none links s (or_parts (j == s) (list_any (leads_to s) links) any).1 c next

times-kept : (kept : Bool) (s x : ℕ) (xs : List ℕ) → times s (cond kept (x ∷ xs) xs) ≡ cond kept (cond (x == s) 1 0) 0 + times s xs
times-kept true s x xs = times-cons s x xs
times-kept false s x xs = omega arith

cond-add : (b : Bool) (m n : ℕ) → cond b m 0 + cond b n 0 ≡ cond b (m + n) 0
cond-add true m n = refl
cond-add false m n = refl

cond-zero : (b : Bool) → ◌≡◌ {A = ℕ} (cond b 0 0) 0
cond-zero true = refl
cond-zero false = refl

-- a slot stands among those that pass a test as often as before, or not at all
times-filter : (q : ℕ → Bool) (s : ℕ) (xs : List ℕ) → times s (filter q xs) ≡ cond (q s) (times s xs) 0
times-filter q s [] = sym (cond-zero (q s))
times-filter q s (x ∷ xs) =
    times-kept (q x) s x (filter q xs)
    ∙ (λ i. cond (q x) (cond (x == s) 1 0) 0 + times-filter q s xs i)
    ∙ (λ i. here i + cond (q s) (times s xs) 0)
    ∙ cond-add (q s) (cond (x == s) 1 0) (times s xs)
    ∙ (λ i. cond (q s) (sym (times-cons s x xs) i) 0)
  where
    here : ◌≡◌ {A = ℕ} (cond (q x) (cond (x == s) 1 0) 0) (cond (q s) (cond (x == s) 1 0) 0)
    here = ⊎_elim
        (λ (e : x ≡ s). (λ i. cond (q (e i)) (cond (x == s) 1 0) 0))
        (λ (ne : x ≡ s → ⊥).
        (λ i. cond (q x) (cond (ne_eqb x s ne i) 1 0) 0) ∙ cond-zero (q x) ∙ sym (cond-zero (q s))
        ∙ (λ i. cond (q s) (cond (sym (ne_eqb x s ne) i) 1 0) 0))
        (cases_eq x s)

-- what a chain owes, of all blocks that begin with these slots
pub record AreChains (links : List (Option ℕ)) : Type 0 where
  pub goes_on : (s : ℕ) → GoesOn links s (along links 8191 (next_of links s))

-- in the blocks from some slots, one that is the next of b stands as often as it is a first one and as b stands
times-blocks : (links : List (Option ℕ)) (b s : ℕ) → AreChains links → next_of links b ≡ Some s
    → ((c : ℕ) → next_of links c ≡ Some s → c ≡ b)
    → (firsts : List ℕ) → times s (slots_in (map (block_from links) firsts)) ≡ times s firsts + times b
    (slots_in (map (block_from links) firsts))
times-blocks links b s chains next once [] = refl
times-blocks links b s chains next once (i ∷ firsts) =
    let js = along links 8191 (next_of links i) in
    let rest = slots_in (map (block_from links) firsts) in
    let of_s = ap (λ block. times s (block ++ rest)) (block_from-is links i) ∙ sum_by-append (λ x. cond (x == s) 1 0) (i ∷ js) rest in
    let of_b = ap (λ block. times b (block ++ rest)) (block_from-is links i) ∙ sum_by-append (λ x. cond (x == b) 1 0) (i ∷ js) rest in
    omega (
      arith,
      of_s,
      of_b,
      times-cons s i js,
      times-after links b s next once i js (chains.goes_on i),
      times-blocks links b s chains
          next once firsts,
      times-cons s i firsts,
    )

-- and one that is the next of none as often as it is a first one
times-blocks_first : (links : List (Option ℕ)) (s : ℕ) → AreChains links → ((c : ℕ) → next_of links c ≡ Some s → ⊥)
    → (firsts : List ℕ) → times s (slots_in (map (block_from links) firsts)) ≡ times s firsts
times-blocks_first links s chains first [] = refl
times-blocks_first links s chains first (i ∷ firsts) =
    let js = along links 8191 (next_of links i) in
    let rest = slots_in (map (block_from links) firsts) in
    let of_s = ap (λ block. times s (block ++ rest)) (block_from-is links i) ∙ sum_by-append (λ x. cond (x == s) 1 0) (i ∷ js) rest in
    omega (
      arith,
      of_s,
      times-cons s i js,
      times-first links s first i js (chains.goes_on i),
      times-blocks_first links s chains first
          firsts,
      times-cons s i firsts,
    )

-- each slot stands in the blocks as it is live: by its departure, from the earliest on
times-all : (network : Network) (departs : ℕ → ℕ) (links : List (Option ℕ)) (order : List ℕ) → AreDepartures network departs
    → AreLinks network links → AreChains links
    → StandsOnce network.live order → (bound s : ℕ) → departs s < bound
    → times s (slots_in (blocks_along links order)) ≡ cond (network.live s) 1 0
times-all network departs links order clock are chains stands zero s h = absurd (omega arith)
times-all network departs links order clock are chains stands (suc bound) s h = ⊎_elim
    (λ (any : list_any (leads_to s) links ≡ true).
    let before = link_found links s any in
    let fits = are.fits before.0 s before.1 in
    let runs = clock.runs before.0 s fits in
    let earlier : departs before.0 < bound = omega (arith, clock.rises before.0 s fits) in
    let blocks = times-blocks links before.0 s chains before.1 (λ c e. are.once c before.0 s e before.1) (filter (is_first links) order) in
    let firsts : times s (filter (is_first links) order) ≡ 0 = times-filter (is_first links) s order
    ∙ ap (λ b. cond (not b) (times s order) 0) any in
    let rest = times-all network departs links order clock are chains stands bound before.0 earlier in
    let one : ◌≡◌ {A = ℕ} (cond (network.live before.0) 1 0) 1 = ap (λ b. cond b 1 0) runs.0 in
    let live : ◌≡◌ {A = ℕ} (cond (network.live s) 1 0) 1 = ap (λ b. cond b 1 0) runs.1 in
    omega (arith, blocks, firsts, rest, one, live))
    (λ (none : list_any (leads_to s) links ≡ false).
    times-blocks_first links s chains (link_none links s none) (filter (is_first links) order)
    ∙ times-filter (is_first links) s order
    ∙ ap (λ b. cond (not b) (times s order) 0) none
    ∙ stands.once s)
    (cases_Bool (list_any (leads_to s) links))

each-block : (network : Network) (links : List (Option ℕ)) → AreLinks network links → AreChains links → (firsts : List ℕ)
    → AllByRecursion (IsBlock network) (map (block_from links) firsts)
each-block network links are chains [] = tt
each-block network links are chains (i ∷ firsts) = (
  subst (IsBlock network) (sym (block_from-is links i)) (follow network links are i _ (chains.goes_on i)),
  each-block network links are chains firsts,
)

pub chains-of : (network : Network) (departs : ℕ → ℕ) (links : List (Option ℕ)) → AreDepartures network departs → AreLinks network links
    → AreChains links
chains-of network departs links clock are = record {
  goes_on = λ s. along-goes_on network departs links clock are 8191 s (next_of links s) refl (omega arith);
}

-- links along which departures rise make a blocking
pub IsBlocking-blocks_along : (network : Network) (departs : ℕ → ℕ) (links : List (Option ℕ)) (order : List ℕ)
    → AreDepartures network departs → AreLinks network links
    → StandsOnce network.live order → IsBlocking network (blocks_along links order)
IsBlocking-blocks_along network departs links order clock are stands =
    let chains = chains-of network departs links clock are in
    record {
      stands = record { once = λ s. times-all network departs links order clock are chains stands (suc (departs s)) s (omega arith) };
      each = each-block network links are chains (filter (is_first links) order);
    }

-- the trips of a chain that have a next one are all but the last
links-after : (links : List (Option ℕ)) (i : ℕ) (js : List ℕ) → GoesOn links i js
    → sum_by (λ s. cond (is_some (next_of links s)) 1 0) (i ∷ js) ≡ length js
links-after links i [] goes =
    let none : ◌≡◌ {A = ℕ} (cond (is_some (next_of links i)) 1 0) 0 = ap (λ n. cond (is_some n) 1 0) goes in
    omega (arith, sum_by-cons (λ s. cond (is_some (next_of links s)) 1 0) i [], none)
links-after links i (j ∷ js) goes =
    let one : ◌≡◌ {A = ℕ} (cond (is_some (next_of links i)) 1 0) 1 = ap (λ n. cond (is_some n) 1 0) goes.0 in
    omega (arith, sum_by-cons (λ s. cond (is_some (next_of links s)) 1 0) i (j ∷ js), one, links-after links j js goes.1)

links-blocks : (links : List (Option ℕ)) → AreChains links → (firsts : List ℕ)
    → sum_by (λ s. cond (is_some (next_of links s)) 1 0) (slots_in (map (block_from links) firsts)) + length firsts ≡ length
    (slots_in (map (block_from links) firsts))
links-blocks links chains [] = refl
links-blocks links chains (i ∷ firsts) =
    let has : ℕ → ℕ = λ s. cond (is_some (next_of links s)) 1 0 in
    let js = along links 8191 (next_of links i) in
    let rest = slots_in (map (block_from links) firsts) in
    let sums = ap (λ block. sum_by has (block ++ rest)) (block_from-is links i) ∙ sum_by-append has (i ∷ js) rest in
    let lengths = ap (λ block. length (block ++ rest)) (block_from-is links i) ∙ length-append (i ∷ js) rest in
    omega (arith, sums, lengths, links-after links i js (chains.goes_on i), links-blocks links chains firsts)

-- there are as many trips as blocks and links
pub blocks-and-links : (network : Network) (departs : ℕ → ℕ) (links : List (Option ℕ)) (order : List ℕ) → AreDepartures network departs
    → AreLinks network links
    → StandsOnce network.live order → ((s : ℕ) → network.live s ≡ true → s < length links)
    → length (blocks_along links order) + link_count links ≡ length order
blocks-and-links network departs links order clock are stands within =
    let chains = chains-of network departs links clock are in
    let blocking = IsBlocking-blocks_along network departs links order clock are stands in
    let has : ℕ → ℕ = λ s. cond (is_some (next_of links s)) 1 0 in
    let flat = slots_in (blocks_along links order) in
    let none : (s : ℕ) → network.live s ≡ false → has s ≡ 0 = λ s dead. unlinked s dead (next_of links s) refl in
    let counted = sum_by-below network.live has (length links) flat within none blocking.stands
    ∙ sum_below-list (λ n. cond (is_some n) 1 0) links None in
    let ones = sum_by-standing network.live (λ _. 1) flat order blocking.stands stands in
    omega (
      arith,
      links-blocks links chains (filter (is_first links) order),
      length-map (filter (is_first links) order) (block_from links),
      counted,
      ones,
      length-ones flat,
      length-ones order,
    )
  where
    unlinked : (s : ℕ) → network.live s ≡ false → (next : Option ℕ) → next_of links s ≡ next
        → ◌≡◌ {A = ℕ} (cond (is_some (next_of links s)) 1 0) 0
    unlinked s dead None e = ap (λ n. cond (is_some n) 1 0) e
    unlinked s dead (Some j) e = absurd (false≢true (sym dead ∙ (clock.runs s j (are.fits s j e)).0))
