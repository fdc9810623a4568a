-- How many blocks links make, and their empty minutes, as sums over slots.
use Rattle.std.proofs.Common.{◌≡◌, ℕ, ◌+◌, ◌<◌, ◌&&◌, Bool, true, false, not, cond, List, [], ◌∷◌, ◌++◌, length, map, filter, sum_by}
use Rattle.std.proofs.Common.{Option, None, Some, refl, sym, ap, subst, ◌∙◌, arith}
use Rattle.std.specs.List.{range_with_len}
use Rattle.std.specs.Option.{is_some, unwrap_or}
use Rattle.std.proofs.lemmas.Bool.{false≢true}
use Rattle.std.proofs.lemmas.List.Sums.{sum_by-cons, sum_by-append}
use Rattle.trip_model.specs.Blocking.{StandsOnce, slots_in, minutes_after, block_minutes, empty_minutes}
use Rattle.trip_model.specs.Links.{next_of, AreLinks, link_count, is_first, along, block_from, blocks_along}
use Rattle.trip_model.specs.Network.{Network, AreDepartures}
use Rattle.trip_model.proofs.Chains.{GoesOn, AreChains, chains-of, block_from-is, IsBlocking-blocks_along, blocks-and-links}
use Rattle.trip_model.proofs.Counting.{sum_below, sum_below-add, sum_below-list, sum_below-same, sum_by-below, sum_by-filter_range}
use Rattle.trip_model.proofs.Counting.{sum_by-standing, StandsOnce-filter_range, length-ones}
use Rattle.trip_model.specs.Order.{by_departure}
use Rattle.trip_model.specs.Plain.{move_at}
use Rattle.trip_model.specs.declared.trip.Move.{Move}
use Rattle.trip_model.proofs.OrderLemmas.{StandsOnce-by_departure}
use Rattle.deadhead_matrix.specs.Fitting.{out_before, home_after}
use Rattle.assignment_model.specs.Prices.{IsDay}
use Rattle.deadhead_matrix.specs.declared.pulls.Pull.{Pull}
use Rattle.pair_graph.specs.Pairs.{PairsView, pairs_network}
use Rattle.desk_core.specs.Counts.{minutes_to, minutes_out}

-- one for a slot whose trip is the last of its block
abbrev pub one_last : Network → List (Option ℕ) → ℕ → ℕ
one_last network links s = cond (network.live s && not (is_some (next_of links s))) 1 0

-- the empty minutes out to the trip of a slot and after it, and those out to the next one
abbrev pub round_of : Network → List (Option ℕ) → ℕ → ℕ
round_of network links s = network.out s + minutes_to network s (next_of links s)

abbrev pub ahead_of : Network → List (Option ℕ) → ℕ → ℕ
ahead_of network links s = minutes_out network (next_of links s)

-- a slot runs as the last of a block, or goes on, or does not run
either : (live : Bool) (next : Option ℕ) → (is_some next ≡ true → live ≡ true)
    → ◌≡◌ {A = ℕ} (cond live 1 0) (cond (live && not (is_some next)) 1 0 + cond (is_some next) 1 0)
either true None runs = refl
either true (Some j) runs = refl
either false None runs = refl
either false (Some j) runs = absurd (false≢true (runs refl))

-- there are as many blocks as trips that are the last of one
pub blocks-last : (network : Network) (departs : ℕ → ℕ) (links : List (Option ℕ)) (order : List ℕ) → AreDepartures network departs
    → AreLinks network links → StandsOnce network.live order
    → ((s : ℕ) → network.live s ≡ true → s < length links)
    → length (blocks_along links order) ≡ sum_below (one_last network links) (length links)
blocks-last network departs links order clock are stands within =
    let n = length links in
    let balance = blocks-and-links network departs links order clock are stands within in
    let all : length order ≡ sum_below (λ s. cond (network.live s) 1 0) n =
    length-ones order
    ∙ (sum_by-standing network.live (λ _. 1) order (filter network.live (range_with_len 0 n)) stands
    (StandsOnce-filter_range network.live n within) ∙ sum_by-filter_range network.live (λ _. 1) n) in
    let linked : sum_below (λ s. cond (is_some (next_of links s)) 1 0) n ≡ link_count links =
    sum_below-list (λ (o : Option ℕ). cond (is_some o) 1 0) links None in
    let split : sum_below (λ s. cond (network.live s) 1 0) n ≡ sum_below (one_last network links) n + sum_below
    (λ s. cond (is_some (next_of links s)) 1 0) n =
    sum_below-same (λ s. cond (network.live s) 1 0) (λ s. one_last network links s + cond (is_some (next_of links s)) 1 0) n
    (λ s h. either (network.live s) (next_of links s) (λ some. runs s (next_of links s) refl some))
    ∙ sum_below-add (one_last network links) (λ s. cond (is_some (next_of links s)) 1 0) n in
    omega (arith, balance, all, linked, split)
  where
    runs : (s : ℕ) (next : Option ℕ) → next_of links s ≡ next → is_some next ≡ true → network.live s ≡ true
    runs s None e some = absurd (false≢true some)
    runs s (Some j) e some = (clock.runs s j (are.fits s j e)).0

-- the empty minutes after the first trip of a chain, and those out to its trips
chain-after : (network : Network) (links : List (Option ℕ)) (i : ℕ) (js : List ℕ) → GoesOn links i js
    → minutes_after network i js ≡ sum_by (λ s. minutes_to network s (next_of links s)) (i ∷ js)
chain-after network links i [] goes =
    let here : minutes_to network i (next_of links i) ≡ network.home i = ap (minutes_to network i) goes in
    let sum = sum_by-cons (λ s. minutes_to network s (next_of links s)) i [] in
    omega (arith, here, sum)
chain-after network links i (j ∷ js) goes =
    let here : minutes_to network i (next_of links i) ≡ unwrap_or (network.empty i j) 0 = ap (minutes_to network i) goes.0 in
    let sum = sum_by-cons (λ s. minutes_to network s (next_of links s)) i (j ∷ js) in
    omega (arith, here, sum, chain-after network links j js goes.1)

chain-out : (network : Network) (links : List (Option ℕ)) (i : ℕ) (js : List ℕ) → GoesOn links i js
    → sum_by (ahead_of network links) (i ∷ js) + network.out i ≡ sum_by network.out (i ∷ js)
chain-out network links i [] goes =
    let here : ahead_of network links i ≡ 0 = ap (minutes_out network) goes in
    let a = sum_by-cons (ahead_of network links) i [] in
    let b = sum_by-cons network.out i [] in
    omega (arith, here, a, b)
chain-out network links i (j ∷ js) goes =
    let here : ahead_of network links i ≡ network.out j = ap (minutes_out network) goes.0 in
    let a = sum_by-cons (ahead_of network links) i (j ∷ js) in
    let b = sum_by-cons network.out i (j ∷ js) in
    omega (arith, here, a, b, chain-out network links j js goes.1)

sum-both : (f g : ℕ → ℕ) (slots : List ℕ) → sum_by (λ s. f s + g s) slots ≡ sum_by f slots + sum_by g slots
sum-both f g [] = refl
sum-both f g (s ∷ slots) =
    let a = sum_by-cons (λ s. f s + g s) s slots in
    let b = sum_by-cons f s slots in
    let d = sum_by-cons g s slots in
    omega (arith, a, b, d, sum-both f g slots)

-- of blocks
blocks-sums : (network : Network) (links : List (Option ℕ)) → AreChains links → (firsts : List ℕ)
    → empty_minutes network (map (block_from links) firsts) + sum_by (ahead_of network links)
    (slots_in (map (block_from links) firsts)) ≡ sum_by (round_of network links) (slots_in (map (block_from links) firsts))
blocks-sums network links chains [] = refl
blocks-sums network links chains (i ∷ firsts) =
    let js = along links 8191 (next_of links i) in
    let rest = slots_in (map (block_from links) firsts) in
    let goes : GoesOn links i js = chains.goes_on i in
    let minutes = sum_by-cons (block_minutes network) (block_from links i) (map (block_from links) firsts) in
    let first : block_minutes network (block_from links i) ≡ network.out i + minutes_after network i js =
    ap (block_minutes network) (block_from-is links i) in
    let aheads : sum_by (ahead_of network links) (block_from links i ++ rest) ≡ sum_by (ahead_of network links) (i ∷ js) + sum_by
    (ahead_of network links) rest =
    ap (λ block. sum_by (ahead_of network links) (block ++ rest)) (block_from-is links i)
    ∙ sum_by-append (ahead_of network links) (i ∷ js) rest in
    let rounds : sum_by (round_of network links) (block_from links i ++ rest) ≡ sum_by (round_of network links) (i ∷ js) + sum_by
    (round_of network links) rest =
    ap (λ block. sum_by (round_of network links) (block ++ rest)) (block_from-is links i)
    ∙ sum_by-append (round_of network links) (i ∷ js) rest in
    let both : sum_by (round_of network links) (i ∷ js) ≡ sum_by network.out (i ∷ js) + sum_by
    (λ s. minutes_to network s (next_of links s)) (i ∷ js) =
    sum-both network.out (λ s. minutes_to network s (next_of links s)) (i ∷ js) in
    omega (
      arith,
      minutes,
      first,
      aheads,
      rounds,
      both,
      chain-after network links i js goes,
      chain-out network links i js goes,
      blocks-sums
          network links chains firsts,
    )

-- the empty minutes of the blocks of links, as sums over all slots
pub minutes-sums : (network : Network) (departs : ℕ → ℕ) (links : List (Option ℕ)) (order : List ℕ) → AreDepartures network departs
    → AreLinks network links → StandsOnce network.live order
    → ((s : ℕ) → network.live s ≡ true → s < length links)
    → ((s : ℕ) → network.live s ≡ false → (network.out s ≡ 0) × (network.home s ≡ 0))
    → empty_minutes network (blocks_along links order) + sum_below (ahead_of network links) (length links) ≡ sum_below
    (round_of network links) (length links)
minutes-sums network departs links order clock are stands within idle =
    let n = length links in
    let blocking = IsBlocking-blocks_along network departs links order clock are stands in
    let slots = slots_in (blocks_along links order) in
    let sums = blocks-sums network links (chains-of network departs links clock are) (filter (is_first links) order) in
    let aheads : sum_by (ahead_of network links) slots ≡ sum_below (ahead_of network links) n =
    sum_by-below network.live (ahead_of network links) n slots within (λ s dead. ap (minutes_out network) (none s dead)) blocking.stands in
    let rounds : sum_by (round_of network links) slots ≡ sum_below (round_of network links) n =
    sum_by-below network.live (round_of network links) n slots within (λ s dead.
    let home : minutes_to network s (next_of links s) ≡ network.home s = ap (minutes_to network s) (none s dead) in
    omega (arith, home, (idle s dead).0, (idle s dead).1)) blocking.stands in
    omega (arith, sums, aheads, rounds)
  where
    none : (s : ℕ) → network.live s ≡ false → next_of links s ≡ None
    none s dead = by (next_of links s) refl
      where
        by : (next : Option ℕ) → next_of links s ≡ next → next ≡ None
        by None e = refl
        by (Some j) e = absurd (false≢true (sym dead ∙ (clock.runs s j (are.fits s j e)).0))

-- the next trip of a slot is a slot
pub next-within : (network : Network) (n : ℕ) (departs : ℕ → ℕ) (links : List (Option ℕ)) → IsDay network n → AreDepartures network departs
    → AreLinks network links → (i j : ℕ) → next_of links i ≡ Some j → j < n
next-within network n departs links day clock are i j e = day.within j (clock.runs i j (are.fits i j e)).1

-- of pairs
pub blocks-counted : (pairs : PairsView) (n : ℕ) (departs : ℕ → ℕ) (links : List (Option ℕ)) → IsDay (pairs_network pairs) n
    → AreDepartures (pairs_network pairs) departs → AreLinks (pairs_network pairs) links
    → length links ≡ n → length (blocks_along links (by_departure pairs.moves)) ≡ sum_below (one_last (pairs_network pairs) links) n
blocks-counted pairs n departs links day clock are same =
    let within : (s : ℕ) → (pairs_network pairs).live s ≡ true → s < length links = λ s live. let h = day.within s live in
    omega (arith, same) in
    blocks-last (pairs_network pairs) departs links (by_departure pairs.moves) clock are (StandsOnce-by_departure pairs.moves) within
    ∙ ap (sum_below (one_last (pairs_network pairs) links)) same

pub minutes-counted : (pairs : PairsView) (n : ℕ) (departs : ℕ → ℕ) (links : List (Option ℕ)) → IsDay (pairs_network pairs) n
    → AreDepartures (pairs_network pairs) departs → AreLinks (pairs_network pairs) links
    → length links ≡ n
    → empty_minutes (pairs_network pairs) (blocks_along links (by_departure pairs.moves)) + sum_below
    (ahead_of (pairs_network pairs) links) n ≡ sum_below (round_of (pairs_network pairs) links) n
minutes-counted pairs n departs links day clock are same =
    let within : (s : ℕ) → (pairs_network pairs).live s ≡ true → s < length links = λ s live. let h = day.within s live in
    omega (arith, same) in
    let sums =
    minutes-sums (pairs_network pairs) departs links (by_departure pairs.moves) clock are (StandsOnce-by_departure pairs.moves) within
    (λ s dead. (out pairs.matrix.pulls (move_at pairs.moves s) dead, home pairs.matrix.pulls (move_at pairs.moves s) dead)) in
    let P : ℕ → Type 0 = λ m. empty_minutes (pairs_network pairs) (blocks_along links (by_departure pairs.moves)) + sum_below
    (ahead_of (pairs_network pairs) links) m ≡ sum_below (round_of (pairs_network pairs) links) m in
    subst P same sums
  where
    out : (pulls : List Pull) (m : Option Move) → is_some m ≡ false → out_before pulls m ≡ 0
    out pulls None dead = refl
    out pulls (Some m) dead = absurd (false≢true (sym dead))

    home : (pulls : List Pull) (m : Option Move) → is_some m ≡ false → home_after pulls m ≡ 0
    home pulls None dead = refl
    home pulls (Some m) dead = absurd (false≢true (sym dead))
