-- Links and prices by the places of columns, and by their slots again, are those that are computed.
use Rattle.std.proofs.Common.{◌≡◌, ℕ, ◌+◌, ◌<◌, ◌≤◌, ◌==◌, true, false, List, ◌∷◌, length, map, get_or, drop, Option, None, Some, refl}
use Rattle.std.proofs.Common.{sym, ap, ◌∙◌, ⊎_elim, drop-cons, arith}
use Rattle.std.specs.Prelude.{position, unwrap_or}
use Rattle.std.specs.List.{range_with_len}
use Rattle.std.specs.Option.{option_map}
use Rattle.std.proofs.Math.ListN.{get_or-map}
use Rattle.std.proofs.Math.Numerals.{add-one}
use Rattle.std.proofs.Math.Path.{fun_ext}
use Rattle.std.proofs.lemmas.Bool.{cases_lt, eq-eqb, eqb-true}
use Rattle.std.proofs.lemmas.List as lists
use Rattle.std.proofs.lemmas.List.{ext_get_or, get_or_past, length-map}
use Rattle.std.proofs.lemmas.List.Quantifiers.{position-Some}
use Rattle.assignment_model.specs.Prices.{Plan, price}
use Rattle.trip_model.proofs.BeforeLemmas.{position-None}
use Rattle.trip_model.specs.Links.{next_of, before_of, AreApart}
use Rattle.pair_search.specs.Arranged.{bare, slots_of, slot_in, place_in, by_slots, found_by, all_found, turned_plan}
use Rattle.pair_search.specs.Determined.{found, found_each}
use Rattle.pair_search.specs.Inverse.{IsInverse}
use Rattle.pair_search.specs.Order.{slot_at, place_of, IsRenaming}
use Rattle.pair_search.specs.Search.{at}
use Rattle.pair_search.specs.declared.order.Column.{Column}
use Rattle.pair_search.proofs.ArrangedLemmas.{slots-length, slots-at}
use Rattle.pair_search.proofs.DeterminedLemmas.{map-is}
use Rattle.pair_search.proofs.InverseLemmas.{inverse-before}

-- links that are renamed one by one
pub links-renamed : (f : ℕ → ℕ) (next placed : List (Option ℕ)) → length placed ≡ length next
    → ((i : ℕ) → next_of placed i ≡ option_map f (next_of next i)) → placed ≡ map (option_map f) next
links-renamed f next placed len each =
    ext_get_or None placed (map (option_map f) next) (len ∙ sym (length-map next (option_map f)))
    (λ i lt. each i ∙ sym (get_or-map (option_map f) next i None))

-- prices that stand by an order
pub prices-placed : (order enter entering : List ℕ) → length entering ≡ length order
    → ((k : ℕ) → k < length order → at entering k ≡ at enter (slot_in order k)) → entering ≡ map (price enter) order
prices-placed order enter entering len each =
    ext_get_or 0 entering (map (price enter) order) (len ∙ sym (length-map order (price enter)))
    (λ k lt. each k (omega (arith, lt, len)) ∙ sym (lists.get_or-map (price enter) order k (length order) 0 (omega (arith, lt, len))))

-- and by slots
pub prices-by_slots : (order entering enter : List ℕ) → length enter ≡ length order
    → ((j : ℕ) → j < length order → at enter j ≡ at entering (place_in order j))
    → enter ≡ map (λ j. price entering (place_in order j)) (range_with_len 0 (length order))
prices-by_slots order entering enter len each = map-is (λ j. price entering (place_in order j)) (length order) 0 enter len each

module _ (n : ℕ) (columns : List Column) (places : List ℕ) (count : length columns ≡ n) (slots : length places ≡ n)
    (renaming : IsRenaming n (slot_at n columns) (place_of n places)) where
  -- the slot at a place of the order is that of the column there
  pub slot_in-is : (k : ℕ) → slot_in (slots_of columns) k ≡ slot_at n columns k
  slot_in-is k = ap (get_or (slots_of columns) k) (slots-length columns ∙ count) ∙ slots-at n columns k

  -- and the place of a slot is that of its column
  pub place_in-is : (j : ℕ) → place_in (slots_of columns) j ≡ place_of n places j
  place_in-is j = by (position (λ s. s == j) (slots_of columns)) refl
    where
      by : (found : Option ℕ) → position (λ s. s == j) (slots_of columns) ≡ found
          → unwrap_or found (length (slots_of columns)) ≡ place_of n places j
      by (Some k) e =
          let first = position-Some (λ s. s == j) (slots_of columns) k n e in
          let here : slot_at n columns k ≡ j = sym (slots-at n columns k) ∙ eqb-true (get_or (slots_of columns) k n) j first.1 in
          sym (renaming.back k (omega (arith, first.0, slots-length columns, count))) ∙ ap (place_of n places) here
      by None e = ⊎_elim
          (λ (lt : j < n).
          let no = position-None (λ s. s == j) (slots_of columns) (place_of n places j) n e
          (omega (arith, renaming.place_within j lt, slots-length columns, count)) in
          let yes = eq-eqb (get_or (slots_of columns) (place_of n places j) n) j
          (slots-at n columns (place_of n places j) ∙ renaming.there j lt) in
          let both : true ≡ false = sym yes ∙ no in cc both)
          (λ (past : n ≤ j). slots-length columns ∙ count ∙ sym (get_or_past places j n (omega (arith, past, slots))))
          (cases_lt j n)

-- the inverse of links, column by column
pub inverse-is : (next before : List (Option ℕ)) → AreApart next → IsInverse (length next) next before → length before ≡ length next
    → before ≡ map (before_of next) (range_with_len 0 (length next))
inverse-is next before once is len = map-is (before_of next) (length next) None before len (λ j lt. inverse-before next before once is j)

abbrev plan_of : List (Option ℕ) → List ℕ → List ℕ → Plan
plan_of next leave enter = record { next = next; leave = leave; enter = enter }

-- what a search over columns in an order leaves is the plan that it finds
pub found_by-is : (order : List ℕ) (w placed_w : ℕ → ℕ → Option ℕ) (a : ℕ) (plan : Plan) (placed : List (Option ℕ)) (entering : List ℕ)
    (placed' : List (Option ℕ)) (leave' entering' : List ℕ)
    (next' : List (Option ℕ)) (enter' : List ℕ)
    → ((i k : ℕ) → placed_w i k ≡ w i (slot_in order k))
    → placed ≡ map (option_map (place_in order)) plan.next → entering ≡ map (price plan.enter) order
    → ◌≡◌ {A = Plan} (record { next = placed'; leave = leave'; enter = entering' })
    (found placed_w a (record { next = placed; leave = plan.leave; enter = entering }))
    → next' ≡ map (option_map (slot_in order)) placed'
    → enter' ≡ map (λ j. price entering' (place_in order j)) (range_with_len 0 (length order))
    → ◌≡◌ {A = Plan} (record { next = next'; leave = leave'; enter = enter' }) (found_by order w a plan)
unfolding found_by
found_by-is order w placed_w a plan placed entering placed' leave' entering' next' enter' same links prices search links' prices' =
    ap (λ (l : List (Option ℕ)). plan_of l leave' enter') links'
    ∙ ap (plan_of (map (option_map (slot_in order)) placed') leave') prices'
    ∙ ap (by_slots order) search
    ∙ ap (λ (v : ℕ → ℕ → Option ℕ). by_slots order (found v a (plan_of placed plan.leave entering)))
    (fun_ext (λ i. fun_ext (λ k. same i k)))
    ∙ ap (λ (l : List (Option ℕ)). by_slots order (found (λ i k. w i (slot_in order k)) a (plan_of l plan.leave entering))) links
    ∙ ap (λ (l : List ℕ). by_slots order
    (found (λ i k. w i (slot_in order k)) a (plan_of (map (option_map (place_in order)) plan.next) plan.leave l))) prices

-- and what searches over all rows leave is the plan that they find
pub all_found-is : (order : List ℕ) (w placed_w : ℕ → ℕ → Option ℕ) (rows : List ℕ) (placed' : List (Option ℕ)) (leave' entering' : List ℕ)
    (next' : List (Option ℕ)) (enter' : List ℕ)
    → ((i k : ℕ) → placed_w i k ≡ w i (slot_in order k))
    → ◌≡◌ {A = Plan} (record { next = placed'; leave = leave'; enter = entering' }) (found_each placed_w rows (bare (length order)))
    → next' ≡ map (option_map (slot_in order)) placed'
    → enter' ≡ map (λ j. price entering' (place_in order j)) (range_with_len 0 (length order))
    → ◌≡◌ {A = Plan} (record { next = next'; leave = leave'; enter = enter' }) (all_found order w rows)
unfolding all_found
all_found-is order w placed_w rows placed' leave' entering' next' enter' same search links' prices' =
    ap (λ (l : List (Option ℕ)). plan_of l leave' enter') links'
    ∙ ap (plan_of (map (option_map (slot_in order)) placed') leave') prices'
    ∙ ap (by_slots order) search
    ∙ ap (λ (v : ℕ → ℕ → Option ℕ). by_slots order (found_each v rows (bare (length order)))) (fun_ext (λ i. fun_ext (λ k. same i k)))

-- one row more, before those from which searches went out
pub found_each-more : (w : ℕ → ℕ → Option ℕ) (rows : List ℕ) (plan : Plan) (k a d : ℕ) → k < length rows → get_or rows k d ≡ a
    → found w a (found_each w (drop (k + 1) rows) plan) ≡ found_each w (drop k rows) plan
found_each-more w rows plan k a d lt is = sym
    (ap (λ (l : List ℕ). found_each w l plan) (drop-cons rows k d lt ∙ ap (λ (i : ℕ). get_or rows k d ∷ drop i rows) (sym (add-one k)))
    ∙ ap (λ (s : ℕ). found w s (found_each w (drop (k + 1) rows) plan)) is)

-- what a search from the other side leaves is the plan that it finds, turned
pub turned-is : (find : Plan → Plan) (links : List (Option ℕ)) (leave enter : List ℕ) (next next' : List (Option ℕ))
    (leave' enter' : List ℕ) (links' : List (Option ℕ))
    → next ≡ map (before_of links) (range_with_len 0 (length links))
    → ◌≡◌ {A = Plan} (record { next = next'; leave = enter'; enter = leave' }) (find (record { next = next; leave = enter; enter = leave }))
    → links' ≡ map (before_of next') (range_with_len 0 (length next'))
    → ◌≡◌ {A = Plan} (record { next = links'; leave = leave'; enter = enter' })
    (turned_plan (find (turned_plan (record { next = links; leave = leave; enter = enter }))))
turned-is find links leave enter next next' leave' enter' links' inverse search inverse' =
    ap (λ (l : List (Option ℕ)). plan_of l leave' enter') inverse'
    ∙ ap (λ (p : Plan). turned_plan p) search
    ∙ ap (λ (l : List (Option ℕ)). turned_plan (find (plan_of l enter leave))) inverse
