-- The plan that a claim gives: its links and its prices, slot by slot and all together.
use Rattle.std.proofs.Common.{◌≡◌, ◌≢◌, ℕ, zero, suc, ◌+◌, ◌<◌, ◌≤◌, ◌==◌, ◌||◌, nat_eq, cond, inl, inr, ◌⊎◌, Bool, true, false, List, []}
use Rattle.std.proofs.Common.{◌∷◌, length, map, get_or, sum_by, Option, None, Some, if◌then◌else◌, refl, sym, ap, ◌∙◌, ⊎_elim, arith}
use Rattle.std.specs.Prelude.{IsSome}
use Rattle.std.specs.List.{AllByRecursion, range_with_len}
use Rattle.std.specs.Option.{option_eq}
use Rattle.std.proofs.lemmas.Bool.{cases_Bool, cases_lt, false≢true, eq-eqb, ne_eqb}
use Rattle.std.proofs.lemmas.List.{get_or_past}
use Rattle.std.proofs.lemmas.List.FromFn.{get_or-map-range_with_len, length-map-range_with_len}
use Rattle.std.proofs.lemmas.List.Sums.{sum_by-cons}
use Rattle.std.proofs.lemmas.Option.{none-some, same_Some}
use Rattle.trip_model.specs.Blocking.{times}
use Rattle.trip_model.specs.Network.{Network, Fits}
use Rattle.trip_model.proofs.Counting.{sum_below, sum_below-same, times-cons}
use Rattle.assignment_model.specs.Prices.{weight_to}
use Rattle.assignment_model.proofs.Duality.{sum_by-range}
use Rattle.price_check.specs.declared.claim.BlockRow.{BlockRow}
use Rattle.price_check.specs.declared.claim.PriceRow.{PriceRow}
use Rattle.price_check.specs.Claim.{block_slots, price_slots, block_row, price_row, slot_on}
use Rattle.price_check.specs.Certificate.{slots_named, slot_after, next_in, row_of}
use Rattle.price_check.specs.Reasons.{fit, stands, price_sum, link_weight, weight_before, weight_sum}
use Rattle.price_check.proofs.ChainLemmas.{Chained, before_rest, before_at, before_at-none, before_at-more}
use Rattle.price_check.proofs.CostLemmas.{slot-there}
use Rattle.price_check.proofs.NamedLemmas.{is-slot, slot-is, times-named}

-- functions that agree but at a number which does not stand in a list have the same sum over it
sum-but : (f g : ℕ → ℕ) (s : ℕ) (xs : List ℕ) → times s xs ≡ 0 → ((x : ℕ) → x ≢ s → f x ≡ g x) → sum_by f xs ≡ sum_by g xs
sum-but f g s [] none same = refl
sum-but f g s (x ∷ xs) none same =
    let differs : x ≢ s = λ e. (let one : ◌≡◌ {A = ℕ} (cond (x == s) 1 0) 1 = ap (λ b. cond b 1 0) (eq-eqb x s e) in
    absurd (omega (arith, one, none, times-cons s x xs))) in
    omega (arith, sum_by-cons f x xs, sum_by-cons g x xs, same x differs, sum-but f g s xs (omega (arith, times-cons s x xs, none)) same)

-- what the records bring, each with those after it
abbrev pub total : {X : Type 0} → (X → List X → ℕ) → List X → ℕ
total bring [] = 0
total bring (r ∷ rows) = bring r rows + total bring rows

-- what a value of the first record that names a slot comes to over all slots that are named, where none is twice
pub sum-picked : {X : Type 0} (slot_of : X → Option ℕ) (bring : X → List X → ℕ) (value : List X → ℕ → ℕ)
    → ((r : X) (rows : List X) (s : ℕ)
    → value (r ∷ rows) s ≡ (if option_eq nat_eq (slot_of r) (Some s) then bring r rows else value rows s))
    → (rows : List X) → AllByRecursion (λ r. IsSome (slot_of r)) rows → ((s : ℕ) → times s (slots_named (map slot_of rows)) ≤ 1)
    → sum_by (value rows) (slots_named (map slot_of rows)) ≡ total bring rows
sum-picked slot_of bring value is [] known few = refl
sum-picked slot_of bring value is (r ∷ rows) known few =
    let slot = slot-there (slot_of r) known.0 in
    let s = slot.0 in
    let xs = slots_named (map slot_of rows) in
    let head : slots_named (map slot_of (r ∷ rows)) ≡ s ∷ xs = ap (λ o. slots_named (o ∷ map slot_of rows)) slot.1 in
    let one : ◌≡◌ {A = ℕ} (cond (s == s) 1 0) 1 = ap (λ b. cond b 1 0) (eq-eqb s s refl) in
    let none : times s xs ≡ 0 = omega (arith, few s, ap (times s) head, times-cons s s xs, one) in
    let first : value (r ∷ rows) s ≡ bring r rows = is r rows s
    ∙ ap (λ b. if b then bring r rows else value rows s) (slot-is s (slot_of r) slot.1) in
    let others = sum-but (value (r ∷ rows)) (value rows) s xs none
    (λ x differs. is r rows x ∙ ap (λ b. if b then bring r rows else value rows x)
    (ap (λ o. option_eq nat_eq o (Some x)) slot.1 ∙ ne_eqb s x (λ e. differs (sym e)))) in
    let rest = sum-picked slot_of bring value is rows known.1 (λ t. omega (arith, few t, ap (times t) head, times-cons t s xs)) in
    ap (sum_by (value (r ∷ rows))) head ∙ sum_by-cons (value (r ∷ rows)) s xs ∙ (λ i. first i + (others ∙ rest) i)

-- the prices of all records
pub prices-total : (rows : List PriceRow) → total (λ r _. r.leave) rows + total (λ r _. r.enter) rows ≡ price_sum rows
prices-total [] = refl
prices-total (r ∷ rows) = omega (arith, prices-total rows, sum_by-cons (λ (r : PriceRow). r.leave + r.enter) r rows)

-- the weights of all links, by the records from which they lead
abbrev pub weight_after : Network → BlockRow → List BlockRow → ℕ
weight_after network r rows = link_weight network r.slot (slot_after r rows)

link_weight-none : (network : Network) (slot : Option ℕ) → link_weight network slot None ≡ 0
link_weight-none network None = refl
link_weight-none network (Some i) = refl

first_weight : Network → Option ℕ → List BlockRow → ℕ
first_weight network before [] = 0
first_weight network before (r ∷ rows) = link_weight network before r.slot

first_weight-none : (network : Network) (rows : List BlockRow) → first_weight network None rows ≡ 0
unfolding first_weight
first_weight-none network [] = refl
first_weight-none network (r ∷ rows) = by r.slot
  where
    by : (slot : Option ℕ) → link_weight network None slot ≡ 0
    by None = refl
    by (Some j) = refl

first_weight-after : (network : Network) (r : BlockRow) (rows : List BlockRow)
    → first_weight network (before_rest r rows) rows ≡ weight_after network r rows
unfolding first_weight
first_weight-after network r [] = sym (link_weight-none network r.slot)
first_weight-after network r (q ∷ rows) = by (r.block == q.block) q.slot
  where
    by : (same : Bool) (slot : Option ℕ)
        → link_weight network (if same then r.slot else None) slot ≡ link_weight network r.slot (if same then slot else None)
    by true slot = refl
    by false None = sym (link_weight-none network r.slot)
    by false (Some j) = sym (link_weight-none network r.slot)

sum_below-first : (f : ℕ → ℕ) (n : ℕ) → sum_below f (suc n) ≡ f 0 + sum_below (λ k. f (suc k)) n
sum_below-first f zero = omega arith
sum_below-first f (suc n) = omega (arith, sum_below-first f n)

weights-total : (network : Network) (before : Option ℕ) (rows : List BlockRow)
    → sum_below (λ at. link_weight network (before_at before rows at) (block_row rows at).slot) (length rows) ≡ first_weight network before
    rows + total (weight_after network) rows
unfolding first_weight
weights-total network before [] = refl
weights-total network before (r ∷ rows) =
    let front = sum_below-first (λ at. link_weight network (before_at before (r ∷ rows) at) (block_row (r ∷ rows) at).slot) (length rows) in
    let shift = sum_below-same (λ at. link_weight network (before_at before (r ∷ rows) (suc at)) (block_row rows at).slot)
    (λ at. link_weight network (before_at (before_rest r rows) rows at) (block_row rows at).slot) (length rows)
    (λ at lt. ap (λ b. link_weight network b (block_row rows at).slot) (before_at-more before r rows at lt)) in
    omega (arith, front, shift, weights-total network (before_rest r rows) rows, first_weight-after network r rows)

pub weight_sum-is : (network : Network) (rows : List BlockRow) → weight_sum network rows ≡ total (weight_after network) rows
weight_sum-is network rows =
    sum_by-range (weight_before network rows) (length rows)
    ∙ sum_below-same (weight_before network rows) (λ at. link_weight network (before_at None rows at) (block_row rows at).slot)
    (length rows) (λ at lt. ap (λ b. link_weight network b (block_row rows at).slot) (sym (before_at-none rows at)))
    ∙ weights-total network None rows
    ∙ (let none = first_weight-none network rows in omega (arith, none))

-- the weight of the link from a slot, by its record
pub weight-picked : (network : Network) (r : BlockRow) (rows : List BlockRow) (s : ℕ)
    → weight_to network s (next_in (r ∷ rows) s) ≡ (if option_eq nat_eq r.slot (Some s) then weight_after network r rows
    else weight_to network s (next_in rows s))
weight-picked network r rows s = by (option_eq nat_eq r.slot (Some s)) refl
  where
    same : (next : Option ℕ) → weight_to network s next ≡ link_weight network (Some s) next
    same None = refl
    same (Some j) = refl

    by : (b : Bool) → option_eq nat_eq r.slot (Some s) ≡ b
        → weight_to network s (if option_eq nat_eq r.slot (Some s) then slot_after r rows
        else next_in rows s) ≡ (if option_eq nat_eq r.slot (Some s) then weight_after network r rows
        else weight_to network s (next_in rows s))
    by true e =
        ap (λ b. weight_to network s (if b then slot_after r rows else next_in rows s)) e ∙ same (slot_after r rows)
        ∙ ap (λ slot. link_weight network slot (slot_after r rows)) (sym (is-slot s r.slot e))
        ∙ sym (ap (λ b. if b then weight_after network r rows else weight_to network s (next_in rows s)) e)
    by false e =
        ap (λ b. weight_to network s (if b then slot_after r rows else next_in rows s)) e
        ∙ sym (ap (λ b. if b then weight_after network r rows else weight_to network s (next_in rows s)) e)

-- where a next trip comes from: the record of the slot is the first, or a later one
pub next-cases : (r : BlockRow) (rows : List BlockRow) (i j : ℕ) → next_in (r ∷ rows) i ≡ Some j
    → ((r.slot ≡ Some i) × (slot_after r rows ≡ Some j)) ⊎ (next_in rows i ≡ Some j)
next-cases r rows i j e = ⊎_elim
    (λ (here : option_eq nat_eq r.slot (Some i) ≡ true). inl
    (is-slot i r.slot here, sym (ap (λ b. if b then slot_after r rows else next_in rows i) here) ∙ e))
    (λ (later : option_eq nat_eq r.slot (Some i) ≡ false). inr (sym (ap (λ b. if b then slot_after r rows else next_in rows i) later) ∙ e))
    (cases_Bool (option_eq nat_eq r.slot (Some i)))

-- the trip after that of a record is that of the next one
pub after-next : (r q : BlockRow) (rows : List BlockRow) (j : ℕ) → slot_after r (q ∷ rows) ≡ Some j
    → (q.slot ≡ Some j) × (slot_on r q ≡ r.slot)
after-next r q rows j e = by (r.block == q.block) e
  where
    by : (same : Bool) → (if same then q.slot else None) ≡ Some j → (q.slot ≡ Some j) × ((if same then r.slot else None) ≡ r.slot)
    by true e = (e, refl)
    by false e = absurd (none-some j e)

pub times-more : (r : BlockRow) (rows : List BlockRow) (j : ℕ)
    → times j (slots_named (block_slots rows)) ≤ times j (slots_named (block_slots (r ∷ rows)))
times-more r rows j = omega (arith, times-named j r.slot (block_slots rows))

pub times-head : (r : BlockRow) (rows : List BlockRow) (j : ℕ) → r.slot ≡ Some j
    → times j (slots_named (block_slots (r ∷ rows))) ≡ 1 + times j (slots_named (block_slots rows))
times-head r rows j is =
    let head : times j (slots_named (block_slots (r ∷ rows))) ≡ times j (j ∷ slots_named (block_slots rows)) =
    ap (λ o. times j (slots_named (o ∷ block_slots rows))) is in
    let one : ◌≡◌ {A = ℕ} (cond (j == j) 1 0) 1 = ap (λ b. cond b 1 0) (eq-eqb j j refl) in
    omega (arith, head, times-cons j j (slots_named (block_slots rows)), one)

-- a slot to which the records lead stands in those after the first
stands-later : (r : BlockRow) (rows : List BlockRow) (i j : ℕ) → next_in (r ∷ rows) i ≡ Some j
    → 0 < times j (slots_named (block_slots rows))
stands-later r [] i j e = ⊎_elim
    (λ (here : (r.slot ≡ Some i) × (slot_after r [] ≡ Some j)). absurd (none-some j here.1))
    (λ (later : next_in [] i ≡ Some j). absurd (none-some j later))
    (next-cases r [] i j e)
stands-later r (q ∷ rows) i j e = ⊎_elim
    (λ (here : (r.slot ≡ Some i) × (slot_after r (q ∷ rows) ≡ Some j)). omega (arith, times-head q rows j (after-next r q rows j here.1).0))
    (λ (later : next_in (q ∷ rows) i ≡ Some j). omega (arith, stands-later q rows i j later, times-more q rows j))
    (next-cases r (q ∷ rows) i j e)

-- a slot that follows a record follows no later one, where none stands twice
once-after : (r : BlockRow) (rows : List BlockRow) (i j : ℕ) → times j (slots_named (block_slots rows)) ≤ 1 → slot_after r rows ≡ Some j
    → next_in rows i ≡ Some j → ⊥
once-after r [] i j few here later = none-some j here
once-after r (q ∷ rows) i j few here later =
    absurd (omega (arith, few, times-head q rows j (after-next r q rows j here).0, stands-later q rows i j later))

-- no trip is the next of two
pub next-once : (rows : List BlockRow) (h i j : ℕ) → times j (slots_named (block_slots rows)) ≤ 1 → next_in rows h ≡ Some j
    → next_in rows i ≡ Some j → h ≡ i
next-once [] h i j few a b = absurd (none-some j a)
next-once (r ∷ rows) h i j few a b =
    let rest : times j (slots_named (block_slots rows)) ≤ 1 = omega (arith, few, times-more r rows j) in
    ⊎_elim
    (λ (first : (r.slot ≡ Some h) × (slot_after r rows ≡ Some j)). ⊎_elim
    (λ (second : (r.slot ≡ Some i) × (slot_after r rows ≡ Some j)). same_Some h i (sym first.0 ∙ second.0))
    (λ (later : next_in rows i ≡ Some j). absurd (once-after r rows i j rest first.1 later))
    (next-cases r rows i j b))
    (λ (later : next_in rows h ≡ Some j). ⊎_elim
    (λ (second : (r.slot ≡ Some i) × (slot_after r rows ≡ Some j)). absurd (once-after r rows h j rest second.1 later))
    (λ (also : next_in rows i ≡ Some j). next-once rows h i j rest later also)
    (next-cases r rows i j b))
    (next-cases r rows h j a)

-- the next trip fits, where each record fits after the one before it
after-fits : (network : Network) (r : BlockRow) (rows : List BlockRow) (i j : ℕ) → Chained network (before_rest r rows) rows
    → r.slot ≡ Some i → slot_after r rows ≡ Some j → Fits network i j
after-fits network r [] i j chained is e = absurd (none-some j e)
after-fits network r (q ∷ rows) i j chained is e =
    let next = after-next r q rows j e in
    sym (λ k. fit network ((next.1 ∙ is) k) (next.0 k)) ∙ chained.0

pub next-fits : (network : Network) (before : Option ℕ) (rows : List BlockRow) (i j : ℕ) → Chained network before rows
    → next_in rows i ≡ Some j → Fits network i j
next-fits network before [] i j chained e = absurd (none-some j e)
next-fits network before (r ∷ rows) i j chained e = ⊎_elim
    (λ (here : (r.slot ≡ Some i) × (slot_after r rows ≡ Some j)). after-fits network r rows i j chained.1 here.0 here.1)
    (λ (later : next_in rows i ≡ Some j). next-fits network (before_rest r rows) rows i j chained.1 later)
    (next-cases r rows i j e)

-- the record of the prices of a slot that some record names, and of one that none names
pub row-there : (rows : List PriceRow) (s : ℕ) → stands (price_slots rows) s ≡ true
    → (at : ℕ) × (at < length rows) × ((price_row rows at).slot ≡ Some s) × (row_of rows s ≡ price_row rows at)
row-there [] s e = absurd (false≢true e)
row-there (r ∷ rows) s e = ⊎_elim
    (λ (here : option_eq nat_eq r.slot (Some s) ≡ true). (
      0,
      omega arith,
      is-slot s r.slot here,
      ap (λ b. if b then r else row_of rows s)
          here,
    ))
    (λ (later : option_eq nat_eq r.slot (Some s) ≡ false).
    let found = row-there rows s (sym (ap (λ b. b || stands (price_slots rows) s) later) ∙ e) in
    (suc found.0, omega (arith, found.1), found.2, ap (λ b. if b then r else row_of rows s) later ∙ found.3))
    (cases_Bool (option_eq nat_eq r.slot (Some s)))

pub row-none : (rows : List PriceRow) (s : ℕ) → stands (price_slots rows) s ≡ false → row_of rows s ≡ row_of [] s
row-none [] s e = refl
row-none (r ∷ rows) s e = ⊎_elim
    (λ (here : option_eq nat_eq r.slot (Some s) ≡ true). absurd (false≢true (sym e ∙ ap (λ b. b || stands (price_slots rows) s) here)))
    (λ (later : option_eq nat_eq r.slot (Some s) ≡ false).
    ap (λ b. if b then r else row_of rows s) later ∙ row-none rows s (sym (ap (λ b. b || stands (price_slots rows) s) later) ∙ e))
    (cases_Bool (option_eq nat_eq r.slot (Some s)))

-- what the plan has for a slot
pub at-plan : {Y : Type 0} (f : ℕ → Y) (n s : ℕ) (d : Y) → s < n → get_or (map f (range_with_len 0 n)) s d ≡ f s
at-plan f n s d lt = get_or-map-range_with_len f 0 n s s d lt (omega arith)

pub past-plan : {Y : Type 0} (f : ℕ → Y) (n s : ℕ) (d : Y) → n ≤ s → get_or (map f (range_with_len 0 n)) s d ≡ d
past-plan f n s d le = get_or_past (map f (range_with_len 0 n)) s d (omega (arith, le, length-map-range_with_len f 0 n))

-- the next trip of a plan is that of the records
pub next-plan : (f : ℕ → Option ℕ) (n i j : ℕ) → get_or (map f (range_with_len 0 n)) i None ≡ Some j → f i ≡ Some j
next-plan f n i j e = ⊎_elim
    (λ (lt : i < n). sym (at-plan f n i None lt) ∙ e)
    (λ (le : n ≤ i). absurd (none-some j (sym (past-plan f n i None le) ∙ e)))
    (cases_lt i n)
