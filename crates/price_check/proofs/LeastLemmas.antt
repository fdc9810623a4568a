-- The blocks along the links of a claim's plan are the claim's blocks.
use Rattle.std.proofs.Common.{◌≡◌, ℕ, zero, suc, ◌<◌, ◌≤◌, ◌==◌, ◌||◌, not, nat_eq, Bool, true, false, List, [], ◌∷◌, length, map, filter}
use Rattle.std.proofs.Common.{All, Option, None, Some, if◌then◌else◌, refl, sym, ap, subst, ◌∙◌, ⊎_elim, arith}
use Rattle.std.specs.Prelude.{is_none, ⊤}
use Rattle.std.specs.List.{AllByRecursion, list_any, range_with_len}
use Rattle.std.specs.Option.{option_eq}
use Rattle.std.proofs.lemmas.Bool.{cases_Bool, eq-eqb, ne_eqb}
use Rattle.std.proofs.lemmas.List.{get_or-map, length-append, length-map}
use Rattle.std.proofs.lemmas.List.FromFn.{length-map-range_with_len}
use Rattle.std.proofs.lemmas.Option.{none-some}
use Rattle.trip_model.specs.Blocking.{times, slots_in, IsLeast}
use Rattle.trip_model.specs.Order.{minute_left}
use Rattle.trip_model.specs.Plain.{move_at, move_of_slot, trip_moves}
use Rattle.trip_model.specs.Timetable.{TimetableView, IsTimetable, slot_names}
use Rattle.trip_model.proofs.PlainLemmas.{AreMoves-trips}
use Rattle.deadhead_matrix.specs.Matrix.{MatrixView}
use Rattle.assignment_model.specs.Prices.{IsDay}
use Rattle.deadhead_matrix.specs.Pulls.{IsPull}
use Rattle.deadhead_matrix.proofs.Days.{IsDay-ruled}
use Rattle.assignment_model.proofs.Duality.{IsLeast-certified}
use Rattle.deadhead_matrix.specs.Fitting.{network_of}
use Rattle.trip_model.specs.Links.{next_of, leads_to, is_first, along, block_from, blocks_along}
use Rattle.trip_model.proofs.Chains.{GoesOn, block_from-is}
use Rattle.price_check.specs.declared.claim.BlockRow.{BlockRow}
use Rattle.price_check.specs.Claim.{ClaimedView, block_slots, block_row, slot_on, begin_with, with_trip_before, blocks_in}
use Rattle.price_check.specs.Certificate.{slots_named, slot_after, next_in, NameOnce, plan_of, IsCertificate}
use Rattle.price_check.proofs.CertificateLemmas.{network-departures, network-within}
use Rattle.price_check.proofs.ChainLemmas.{slots_in-blocks, before_rest, before_rest-is, before_at, before_at-more}
use Rattle.price_check.proofs.CostLemmas.{EachNames, names-known, slot-there}
use Rattle.price_check.proofs.NamedLemmas.{named-stands, is-slot, slot-is, named-once, standing-live}
use Rattle.price_check.proofs.PlanLemmas.{next-cases, after-next, times-more, times-head, at-plan, next-plan}

-- a slot that a record names stands in those that are named
at-stands : (rows : List BlockRow) (at s : ℕ) → at < length rows → (block_row rows at).slot ≡ Some s
    → 0 < times s (slots_named (block_slots rows))
at-stands rows at s lt is =
    named-stands (block_slots rows) at s (omega (arith, lt, length-map rows (λ (r : BlockRow). r.slot)))
    (get_or-map (λ (r : BlockRow). r.slot) rows at _ None lt ∙ is)

-- where no slot is named twice, one record alone names it
one-record : (rows : List BlockRow) (a b s : ℕ) → times s (slots_named (block_slots rows)) ≤ 1 → a < length rows → b < length rows
    → (block_row rows a).slot ≡ Some s → (block_row rows b).slot ≡ Some s → a ≡ b
one-record [] a b s few a_in b_in is_a is_b = absurd (omega arith)
one-record (r ∷ rows) zero zero s few a_in b_in is_a is_b = refl
one-record (r ∷ rows) zero (suc b) s few a_in b_in is_a is_b =
    absurd (omega (arith, few, times-head r rows s is_a, at-stands rows b s (omega (arith, b_in)) is_b))
one-record (r ∷ rows) (suc a) zero s few a_in b_in is_a is_b =
    absurd (omega (arith, few, times-head r rows s is_b, at-stands rows a s (omega (arith, a_in)) is_a))
one-record (r ∷ rows) (suc a) (suc b) s few a_in b_in is_a is_b =
    ap suc (one-record rows a b s (omega (arith, few, times-more r rows s)) (omega (arith, a_in)) (omega (arith, b_in)) is_a is_b)

-- where the next trip of a slot stands, that slot is before it
after-record : (before : Option ℕ) (r : BlockRow) (rows : List BlockRow) (h s : ℕ) → r.slot ≡ Some h → slot_after r rows ≡ Some s
    → (at : ℕ) × (at < length (r ∷ rows)) × ((block_row (r ∷ rows) at).slot ≡ Some s) × (before_at before (r ∷ rows) at ≡ Some h)
after-record before r [] h s is e = absurd (none-some s e)
after-record before r (q ∷ rows) h s is e = let next = after-next r q rows s e in (1, omega arith, next.0, next.1 ∙ is)

next-record : (before : Option ℕ) (rows : List BlockRow) (h s : ℕ) → next_in rows h ≡ Some s
    → (at : ℕ) × (at < length rows) × ((block_row rows at).slot ≡ Some s) × (before_at before rows at ≡ Some h)
next-record before [] h s e = absurd (none-some s e)
next-record before (r ∷ rows) h s e = ⊎_elim
    (λ (here : (r.slot ≡ Some h) × (slot_after r rows ≡ Some s)). after-record before r rows h s here.0 here.1)
    (λ (later : next_in rows h ≡ Some s).
    let found = next-record (before_rest r rows) rows h s later in
    (suc found.0, omega (arith, found.1), found.2, before_at-more before r rows found.0 found.1 ∙ found.3))
    (next-cases r rows h s e)

-- the next trip of the slot of a record is that of the record after it, where that is of the same block
LinkedAs : (ℕ → Option ℕ) → List BlockRow → Type 0
LinkedAs next [] = ⊤
LinkedAs next (r ∷ rows) = ((s : ℕ) → r.slot ≡ Some s → next s ≡ slot_after r rows) × LinkedAs next rows

linked-same : (f g : ℕ → Option ℕ) (rows : List BlockRow) → ((s : ℕ) → 0 < times s (slots_named (block_slots rows)) → f s ≡ g s)
    → LinkedAs f rows → LinkedAs g rows
unfolding LinkedAs
linked-same f g [] same linked = tt
linked-same f g (r ∷ rows) same linked = (
  λ s is. sym (same s (omega (arith, times-head r rows s is))) ∙ linked.0 s is,
  linked-same f g rows (λ s there. same s (omega (arith, there, times-more r rows s))) linked.1,
)

linked-next : (rows : List BlockRow) → ((s : ℕ) → times s (slots_named (block_slots rows)) ≤ 1) → LinkedAs (next_in rows) rows
unfolding LinkedAs
linked-next [] few = tt
linked-next (r ∷ rows) few = (
  λ s is. ap (λ b. if b then slot_after r rows else next_in rows s) (slot-is s r.slot is),
  linked-same (next_in rows) (next_in (r ∷ rows)) rows
      (λ s there. sym (ap (λ b. if b then slot_after r rows else next_in rows s) (not-first s there)))
      (linked-next rows (λ s. omega (arith, few s, times-more r rows s))),
)
  where
    not-first : (s : ℕ) → 0 < times s (slots_named (block_slots rows)) → option_eq nat_eq r.slot (Some s) ≡ false
    not-first s there = ⊎_elim
        (λ (here : option_eq nat_eq r.slot (Some s) ≡ true). absurd
        (omega (arith, few s, times-head r rows s (is-slot s r.slot here), there)))
        (λ (no : option_eq nat_eq r.slot (Some s) ≡ false). no)
        (cases_Bool (option_eq nat_eq r.slot (Some s)))

-- the links go along a block to its end
Goes : List (Option ℕ) → List ℕ → Type 0
Goes links [] = ⊥
Goes links (i ∷ js) = GoesOn links i js

first_slot : List (List ℕ) → Option ℕ
first_slot [] = None
first_slot ([] ∷ blocks) = None
first_slot ((i ∷ js) ∷ blocks) = Some i

first_slot-is : (rows : List BlockRow) (q : BlockRow) (s : ℕ) → q.slot ≡ Some s → first_slot (blocks_in (q ∷ rows)) ≡ Some s
unfolding first_slot
first_slot-is rows q s is = ap (λ slot. first_slot (with_trip_before (blocks_in rows) (begin_with rows q.block) slot)) is
    ∙ by (blocks_in rows) (begin_with rows q.block)
  where
    by : (blocks : List (List ℕ)) (joins : Bool) → first_slot (with_trip_before blocks joins (Some s)) ≡ Some s
    by [] joins = refl
    by (block ∷ blocks) true = refl
    by (block ∷ blocks) false = refl

after-first : (r : BlockRow) (rows : List BlockRow) → EachNames rows
    → slot_after r rows ≡ (if begin_with rows r.block then first_slot (blocks_in rows) else None)
unfolding first_slot
after-first r [] known = refl
after-first r (q ∷ rows) known =
    let slot = slot-there q.slot known.0 in
    ap (λ o. if r.block == q.block then o else None) (slot.1 ∙ sym (first_slot-is rows q slot.0 slot.1))

goes-more : (links : List (Option ℕ)) (s : ℕ) (blocks : List (List ℕ)) (joins : Bool) → AllByRecursion (Goes links) blocks
    → next_of links s ≡ (if joins then first_slot blocks else None)
    → AllByRecursion (Goes links) (with_trip_before blocks joins (Some s))
unfolding Goes first_slot
goes-more links s [] true each next = (next, tt)
goes-more links s [] false each next = (next, tt)
goes-more links s ([] ∷ blocks) joins each next = absurd each.0
goes-more links s ((j ∷ js) ∷ blocks) true each next = ((next, each.0), each.1)
goes-more links s ((j ∷ js) ∷ blocks) false each next = (next, each)

goes-blocks : (links : List (Option ℕ)) (rows : List BlockRow) → EachNames rows → LinkedAs (next_of links) rows
    → AllByRecursion (Goes links) (blocks_in rows)
unfolding LinkedAs
goes-blocks links [] known linked = tt
goes-blocks links (r ∷ rows) known linked =
    let slot = slot-there r.slot known.0 in
    subst (λ s. AllByRecursion (Goes links) (with_trip_before (blocks_in rows) (begin_with rows r.block) s)) (sym slot.1)
    (goes-more links slot.0 (blocks_in rows) (begin_with rows r.block) (goes-blocks links rows known.1 linked.1)
    (linked.0 slot.0 slot.1 ∙ after-first r rows known.1))

-- the slots from which the blocks begin, of which the first goes on or begins
heads : List (List ℕ) → List ℕ
heads [] = []
heads ([] ∷ blocks) = heads blocks
heads ((i ∷ js) ∷ blocks) = i ∷ heads blocks

heads_on : Option ℕ → List (List ℕ) → List ℕ
heads_on None blocks = heads blocks
heads_on (Some i) [] = []
heads_on (Some i) (block ∷ blocks) = heads blocks

-- a slot is the next of none exactly where no slot is before it
FirstsAre : List (Option ℕ) → Option ℕ → List BlockRow → Type 0
FirstsAre links before [] = ⊤
FirstsAre links before (r ∷ rows) = ((s : ℕ) → r.slot ≡ Some s → is_first links s ≡ is_none before)
    × FirstsAre links (before_rest r rows) rows

heads-more : (before : Option ℕ) (s : ℕ) (blocks : List (List ℕ)) (joins : Bool)
    → (if is_none before then s ∷ heads_on (if joins then Some s else None) blocks
    else heads_on (if joins then Some s else None) blocks) ≡ heads_on before (with_trip_before blocks joins (Some s))
unfolding heads heads_on
heads-more None s [] true = refl
heads-more None s [] false = refl
heads-more None s (block ∷ blocks) true = refl
heads-more None s (block ∷ blocks) false = refl
heads-more (Some i) s [] true = refl
heads-more (Some i) s [] false = refl
heads-more (Some i) s (block ∷ blocks) true = refl
heads-more (Some i) s (block ∷ blocks) false = refl

filter-heads : (links : List (Option ℕ)) (before : Option ℕ) (rows : List BlockRow) → EachNames rows → FirstsAre links before rows
    → filter (is_first links) (slots_named (block_slots rows)) ≡ heads_on before (blocks_in rows)
unfolding FirstsAre heads heads_on
filter-heads links None [] known firsts = refl
filter-heads links (Some i) [] known firsts = refl
filter-heads links before (r ∷ rows) known firsts =
    let slot = slot-there r.slot known.0 in
    let s = slot.0 in
    let xs = slots_named (block_slots rows) in
    let joins = begin_with rows r.block in
    let rest = filter-heads links (before_rest r rows) rows known.1 firsts.1
    ∙ ap (λ b. heads_on b (blocks_in rows)) (before_rest-is r rows s slot.1) in
    ap (λ o. filter (is_first links) (slots_named (o ∷ block_slots rows))) slot.1
    ∙ (λ k. if firsts.0 s slot.1 k then s ∷ rest k else rest k)
    ∙ heads-more before s (blocks_in rows) joins
    ∙ ap (λ o. heads_on before (with_trip_before (blocks_in rows) joins o)) (sym slot.1)

-- the links from the head of a block give the block
along-is : (links : List (Option ℕ)) (most i : ℕ) (js : List ℕ) → GoesOn links i js → length js ≤ most
    → along links most (next_of links i) ≡ js
along-is links zero i [] goes le = refl
along-is links (suc most) i [] goes le = ap (along links (suc most)) goes
along-is links zero i (j ∷ js) goes le = absurd (omega arith)
along-is links (suc most) i (j ∷ js) goes le = ap (along links (suc most)) goes.0
    ∙ ap (λ xs. j ∷ xs) (along-is links most j js goes.1 (omega (arith, le)))

blocks-heads : (links : List (Option ℕ)) (blocks : List (List ℕ)) → AllByRecursion (Goes links) blocks → length (slots_in blocks) ≤ 8191
    → map (block_from links) (heads blocks) ≡ blocks
unfolding Goes heads
blocks-heads links [] each le = refl
blocks-heads links ([] ∷ blocks) each le = absurd each.0
blocks-heads links ((i ∷ js) ∷ blocks) each le =
    let size = length-append (i ∷ js) (slots_in blocks) in
    let here = block_from-is links i ∙ ap (λ xs. i ∷ xs) (along-is links 8191 i js each.0 (omega (arith, le, size))) in
    λ k. here k ∷ blocks-heads links blocks each.1 (omega (arith, le, size)) k

-- which slots are the next of none
any-none : (links : List (Option ℕ)) (s : ℕ) → ((h : ℕ) → next_of links h ≡ Some s → ⊥) → list_any (leads_to s) links ≡ false
any-none [] s none = refl
any-none (None ∷ links) s none = any-none links s (λ h. none (suc h))
any-none (Some j ∷ links) s none = ap (λ b. b || list_any (leads_to s) links) (ne_eqb j s (λ e. none 0 (ap Some e)))
    ∙ any-none links s (λ h. none (suc h))

any-some : (links : List (Option ℕ)) (s h : ℕ) → next_of links h ≡ Some s → list_any (leads_to s) links ≡ true
any-some [] s h e = absurd (none-some s e)
any-some (link ∷ links) s zero e = ap (λ b. b || list_any (leads_to s) links) (ap (leads_to s) e ∙ eq-eqb s s refl)
any-some (link ∷ links) s (suc h) e = or-true (leads_to s link) (list_any (leads_to s) links) (any-some links s h e)
  where
    or-true : (a b : Bool) → b ≡ true → (a || b) ≡ true
    or-true true b e = refl
    or-true false b e = e

-- a slot before a record is linked to its trip
slot_on-parts : (r q : BlockRow) (i : ℕ) → slot_on r q ≡ Some i
    → (r.slot ≡ Some i) × ((if r.block == q.block then q.slot else None) ≡ q.slot)
slot_on-parts r q i e = by (r.block == q.block) e
  where
    by : (same : Bool) → (if same then r.slot else None) ≡ Some i → (r.slot ≡ Some i) × ((if same then q.slot else None) ≡ q.slot)
    by true e = (e, refl)
    by false e = absurd (none-some i e)

linked-at : (next : ℕ → Option ℕ) (rows : List BlockRow) (at i s : ℕ) → LinkedAs next rows → suc at < length rows
    → slot_on (block_row rows at) (block_row rows (suc at)) ≡ Some i
    → (block_row rows (suc at)).slot ≡ Some s → next i ≡ Some s
unfolding LinkedAs
linked-at next [] at i s linked lt before is = absurd (omega arith)
linked-at next (r ∷ []) at i s linked lt before is = absurd (omega arith)
linked-at next (r ∷ q ∷ rows) zero i s linked lt before is =
    let parts = slot_on-parts r q i before in linked.0 i parts.0 ∙ parts.1 ∙ is
linked-at next (r ∷ q ∷ rows) (suc at) i s linked lt before is = linked-at next (q ∷ rows) at i s linked.1 (omega (arith, lt)) before is

firsts-from : (links : List (Option ℕ)) (before : Option ℕ) (rows : List BlockRow)
    → ((at s : ℕ) → at < length rows → (block_row rows at).slot ≡ Some s → is_first links s ≡ is_none (before_at before rows at))
    → FirstsAre links before rows
unfolding FirstsAre
firsts-from links before [] each = tt
firsts-from links before (r ∷ rows) each = (
  λ s is. each 0 s (omega arith) is,
  firsts-from links (before_rest r rows) rows
      (λ at s lt is. each (suc at) s (omega (arith, lt)) is ∙ ap is_none (before_at-more before r rows at lt)),
)

-- the first trips of blocks are the next of none, and the others of those before them
firsts-are : (n : ℕ) (rows : List BlockRow) → ((s : ℕ) → times s (slots_named (block_slots rows)) ≤ 1)
    → LinkedAs (next_of (map (next_in rows) (range_with_len 0 n))) rows
    → FirstsAre (map (next_in rows) (range_with_len 0 n)) None rows
firsts-are n rows few linked = firsts-from links None rows (λ at s lt is. by at s lt is (before_at None rows at) refl)
  where
    links : List (Option ℕ)
    links = map (next_in rows) (range_with_len 0 n)

    by : (at s : ℕ) → at < length rows → (block_row rows at).slot ≡ Some s → (before : Option ℕ) → before_at None rows at ≡ before
        → is_first links s ≡ is_none (before_at None rows at)
    by at s lt is None e =
        ap not (any-none links s (λ h leads. (let found = next-record None rows h s (next-plan (next_in rows) n h s leads) in
        let same = one-record rows found.0 at s (few s) found.1 lt found.2 is in
        none-some h (sym e ∙ sym (ap (before_at None rows) same) ∙ found.3))))
        ∙ sym (ap is_none e)
    by zero s lt is (Some i) e = absurd (none-some i e)
    by (suc at) s lt is (Some i) e = ap not (any-some links s i (linked-at (next_of links) rows at i s linked lt e is)) ∙ sym (ap is_none e)

length-named : (slots : List (Option ℕ)) → length (slots_named slots) ≤ length slots
length-named [] = omega arith
length-named (None ∷ slots) = omega (arith, length-named slots)
length-named (Some s ∷ slots) = omega (arith, length-named slots)

-- the blocks along the links of the plan are those of the claim
blocks-along : (live : ℕ → Bool) (n : ℕ) (rows : List BlockRow) → ((s : ℕ) → live s ≡ true → s < n) → NameOnce live (block_slots rows)
    → length rows ≤ 4096
    → blocks_along (map (next_in rows) (range_with_len 0 n)) (slots_named (block_slots rows)) ≡ blocks_in rows
unfolding heads_on
blocks-along live n rows within names few =
    let links = map (next_in rows) (range_with_len 0 n) in
    let known = names-known rows names.known in
    let once = named-once live (block_slots rows) names in
    let linked = linked-same (next_in rows) (next_of links) rows
    (λ s there. sym (at-plan (next_in rows) n s None (within s (standing-live live (block_slots rows) names s there))))
    (linked-next rows once) in
    let size : length (slots_in (blocks_in rows)) ≤ 8191 =
    omega (arith, ap length (slots_in-blocks rows), length-named (block_slots rows), length-map rows (λ (r : BlockRow). r.slot), few) in
    ap (map (block_from links)) (filter-heads links None rows known (firsts-are n rows once linked))
    ∙ blocks-heads links (blocks_in rows) (goes-blocks links rows known linked) size

-- the blocks of a certificate are least
pub certificate-least : (t : TimetableView) (m : MatrixView) (claimed : ClaimedView) → IsTimetable t → All IsPull m.pulls
    → length claimed.blocks ≤ 4096
    → IsCertificate (network_of t m) (length t.slots) claimed → IsLeast (network_of t m) (blocks_in claimed.blocks)
certificate-least t m claimed valid pulls few proved =
    let network = network_of t m in
    let moves = trip_moves t.slots in
    let size = length-map t.slots move_of_slot in
    let day = subst (IsDay network) size
    (IsDay-ruled (length t.places) (slot_names t) moves m (AreMoves-trips t valid) pulls (omega (arith, size, valid.slots))) in
    subst (IsLeast network) (blocks-along network.live (length t.slots) claimed.blocks (network-within t m) proved.blocks few)
    (IsLeast-certified network (length t.slots) (plan_of (length t.slots) claimed) (λ s. minute_left (move_at moves s)) day
    (length-map-range_with_len (next_in claimed.blocks) 0 (length t.slots)) proved.certified (network-departures t m valid)
    (slots_named (block_slots claimed.blocks)) proved.blocks.once)
