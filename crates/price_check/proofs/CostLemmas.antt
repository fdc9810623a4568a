-- What the records of blocks come to, record by record: the blocks that they make, and their empty minutes.
use Rattle.std.proofs.Common.{◌≡◌, ℕ, zero, suc, ◌+◌, ◌<◌, Bool, true, false, List, [], ◌∷◌, length, map, get_or, drop, Option, None, Some}
use Rattle.std.proofs.Common.{if◌then◌else◌, refl, sym, ap, subst, ◌∙◌, drop-cons, add-one, arith}
use Rattle.std.specs.Prelude.{IsSome, unwrap_or}
use Rattle.std.specs.List.{AllByRecursion}
use Rattle.std.proofs.lemmas.Bool.{false≢true}
use Rattle.std.proofs.lemmas.List.{get_or-drop}
use Rattle.std.proofs.lemmas.List.Sums.{sum_by-cons}
use Rattle.trip_model.proofs.Counting.{sum_below}
use Rattle.trip_model.specs.Blocking.{minutes_after, block_minutes, empty_minutes}
use Rattle.trip_model.specs.Network.{Network}
use Rattle.price_check.specs.declared.claim.BlockRow.{BlockRow}
use Rattle.price_check.specs.Claim.{AreKnown, block_slots, block_row, slot_on, slot_before, begin_with, with_trip_before, blocks_in}
use Rattle.price_check.specs.Reasons.{minutes_before}

pub sum_below-more : (f : ℕ → ℕ) (n : ℕ) → sum_below f (n + 1) ≡ sum_below f n + f n
sum_below-more f n = let e : n + 1 ≡ suc n = omega arith in ap (sum_below f) e

-- each record names a slot
abbrev pub EachNames : List BlockRow → Type 0
EachNames rows = AllByRecursion (λ r. IsSome r.slot) rows

-- also those from a number on
names-drop : (rows : List BlockRow) (n : ℕ) → EachNames rows → EachNames (drop n rows)
names-drop rows zero known = known
names-drop [] (suc n) known = known
names-drop (r ∷ rows) (suc n) known = names-drop rows n known.1

pub known-each : {X : Type 0} (slot_of : X → Option ℕ) (rows : List X) → AreKnown (map slot_of rows)
    → AllByRecursion (λ r. IsSome (slot_of r)) rows
known-each slot_of [] known = tt
known-each slot_of (r ∷ rows) known = (known 0 (omega arith), known-each slot_of rows (λ at lt. known (suc at) (omega (arith, lt))))

pub names-known : (rows : List BlockRow) → AreKnown (block_slots rows) → EachNames rows
names-known = known-each (λ (r : BlockRow). r.slot)

-- the slot that is there
pub slot-there : (slot : Option ℕ) → IsSome slot → (s : ℕ) × (slot ≡ Some s)
slot-there None known = absurd (false≢true known)
slot-there (Some s) known = (s, refl)

-- the empty minutes of records after a trip of the same block, or of none
abbrev pub minutes_of : Network → Option ℕ → List BlockRow → ℕ
minutes_of network before [] = 0
minutes_of network before (r ∷ rows) =
    minutes_before network before (unwrap_or r.slot 0)
    + (if begin_with rows r.block then minutes_of network (Some (unwrap_or r.slot 0)) rows
    else network.home (unwrap_or r.slot 0) + minutes_of network None rows)

-- the empty minutes of blocks, of which the first goes on after a trip, or begins
go_on : Network → Option ℕ → List ℕ → ℕ
go_on network None block = block_minutes network block
go_on network (Some s) block = minutes_after network s block

minutes_on : Network → Option ℕ → List (List ℕ) → ℕ
minutes_on network before [] = 0
minutes_on network before (block ∷ blocks) = go_on network before block + empty_minutes network blocks

minutes_on-none : (network : Network) (blocks : List (List ℕ)) → minutes_on network None blocks ≡ empty_minutes network blocks
unfolding minutes_on go_on
minutes_on-none network [] = refl
minutes_on-none network (block ∷ blocks) = sym (sum_by-cons (block_minutes network) block blocks)

go_on-more : (network : Network) (before : Option ℕ) (s : ℕ) (block : List ℕ)
    → go_on network before (s ∷ block) ≡ minutes_before network before s + minutes_after network s block
unfolding go_on
go_on-more network None s block = refl
go_on-more network (Some i) s block = refl

-- one more trip before blocks
minutes_on-more : (network : Network) (before : Option ℕ) (s : ℕ) (blocks : List (List ℕ)) (joins : Bool) → (blocks ≡ [] → joins ≡ false)
    → minutes_before network before
    s + (if joins then minutes_on network (Some s) blocks else network.home s + minutes_on network None blocks) ≡ minutes_on network
    before (with_trip_before blocks joins (Some s))
unfolding minutes_on go_on
minutes_on-more network before s [] true apart = absurd (false≢true (sym (apart refl)))
minutes_on-more network before s [] false apart = let more = go_on-more network before s [] in omega (arith, more)
minutes_on-more network before s (block ∷ blocks) true apart = let more = go_on-more network before s block in omega (arith, more)
minutes_on-more network before s (block ∷ blocks) false apart =
    let more = go_on-more network before s [] in
    let one = sum_by-cons (block_minutes network) block blocks in
    omega (arith, more, one)

-- records that name slots make a block, so that where there is none no record goes on
pub filled : (rows : List BlockRow) (number : ℕ) → EachNames rows → blocks_in rows ≡ [] → begin_with rows number ≡ false
filled [] number known none = refl
filled (r ∷ rows) number known none = absurd (by (blocks_in rows) (begin_with rows r.block) r.slot known.0 none)
  where
    by : (blocks : List (List ℕ)) (joins : Bool) (slot : Option ℕ) → IsSome slot → with_trip_before blocks joins slot ≡ [] → ⊥
    by blocks joins None known none = absurd (false≢true known)
    by [] joins (Some s) known none = cc
    by (block ∷ blocks) true (Some s) known none = cc
    by (block ∷ blocks) false (Some s) known none = cc

-- the minutes of records that begin with one that names s
minutes_of-first : (network : Network) (before : Option ℕ) (r : BlockRow) (rows : List BlockRow) (s : ℕ) → r.slot ≡ Some s
    → minutes_of network before (r ∷ rows)
    ≡ minutes_before network before
    s + (if begin_with rows r.block then minutes_of network (Some s) rows else network.home s + minutes_of network None rows)
minutes_of-first network before r rows s is =
    ap (λ slot. minutes_before network before (unwrap_or slot 0)
    + (if begin_with rows r.block then minutes_of network (Some (unwrap_or slot 0)) rows
    else network.home (unwrap_or slot 0) + minutes_of network None rows)) is

-- the records' minutes are those of their blocks
minutes_of-is : (network : Network) (before : Option ℕ) (rows : List BlockRow) → EachNames rows
    → minutes_of network before rows ≡ minutes_on network before (blocks_in rows)
unfolding minutes_on
minutes_of-is network before [] known = refl
minutes_of-is network before (r ∷ rows) known =
    let slot = slot-there r.slot known.0 in
    let joins = begin_with rows r.block in
    let same = minutes_of-is network (Some slot.0) rows known.1 in
    let none = minutes_of-is network None rows known.1 in
    minutes_of-first network before r rows slot.0 slot.1
    ∙ (λ i. minutes_before network before slot.0 + (if joins then same i else network.home slot.0 + none i))
    ∙ minutes_on-more network before slot.0 (blocks_in rows) joins (filled rows r.block known.1)
    ∙ ap (λ s. minutes_on network before (with_trip_before (blocks_in rows) joins s)) (sym slot.1)

-- the records of a claim come to the empty minutes of the blocks that they make
pub minutes_of-blocks : (network : Network) (rows : List BlockRow) → EachNames rows
    → minutes_of network None rows ≡ empty_minutes network (blocks_in rows)
minutes_of-blocks network rows known = minutes_of-is network None rows known ∙ minutes_on-none network (blocks_in rows)

-- after a record the next one goes on from its trip, or begins
goes_on : (network : Network) (r : BlockRow) (rows : List BlockRow) (d : BlockRow) (s : ℕ) (joins : Bool) → r.slot ≡ Some s
    → begin_with rows r.block ≡ joins
    → minutes_of network (slot_on r (get_or rows 0 d)) rows ≡ minutes_of network (if joins then Some s else None) rows
goes_on network r [] d s joins is e = refl
goes_on network r (q ∷ rows) d s joins is e = let slot : slot_on r q ≡ (if joins then Some s else None) = λ i. if e i then is i
    else None in ap (λ before. minutes_of network before (q ∷ rows)) slot

-- the first of the records after one is the next one
first-after : (rows : List BlockRow) (at : ℕ) → get_or (drop (suc at) rows) 0 (block_row [] 0) ≡ block_row rows (suc at)
first-after rows at = get_or-drop (suc at) rows 0 _ ∙ (let e : suc at + 0 ≡ suc at = omega arith in ap (block_row rows) e)

-- what the record of a number brings, and what those after it do
minutes-step : (network : Network) (before : Option ℕ) (rows : List BlockRow) (at s : ℕ) → at < length rows
    → (block_row rows at).slot ≡ Some s
    → (joins : Bool) → begin_with (drop (suc at) rows) (block_row rows at).block ≡ joins
    → minutes_of network before (drop at rows) ≡ minutes_before network before s + (if joins then 0 else network.home s) + minutes_of
    network (slot_before rows (suc at)) (drop (suc at) rows)
minutes-step network before rows at s lt is joins e =
    ap (minutes_of network before) (drop-cons rows at _ lt)
    ∙ minutes_of-first network before (block_row rows at) (drop (suc at) rows) s is
    ∙ ap (λ j. minutes_before network before
    s + (if j then minutes_of network (Some s) (drop (suc at) rows)
    else network.home s + minutes_of network None (drop (suc at) rows))) e
    ∙ by joins (sym (goes_on network (block_row rows at) (drop (suc at) rows) (block_row [] 0) s joins is e)
    ∙ ap (λ q. minutes_of network (slot_on (block_row rows at) q) (drop (suc at) rows)) (first-after rows at))
  where
    by : (joins : Bool) → minutes_of network (if joins then Some s else None) (drop (suc at) rows) ≡ minutes_of network
        (slot_before rows (suc at)) (drop (suc at) rows)
        → minutes_before network before
        s + (if joins then minutes_of network (Some s) (drop (suc at) rows)
        else network.home s + minutes_of network None (drop (suc at) rows))
        ≡ minutes_before network before s + (if joins then 0 else network.home s) + minutes_of network (slot_before rows (suc at))
        (drop (suc at) rows)
    by true same = omega (arith, same)
    by false same = omega (arith, same)

pub minutes-next : (network : Network) (before : Option ℕ) (rows : List BlockRow) (at s : ℕ) → at < length rows
    → (block_row rows at).slot ≡ Some s
    → (joins : Bool) → begin_with (drop (at + 1) rows) (block_row rows at).block ≡ joins
    → minutes_of network before (drop at rows) ≡ minutes_before network before s + (if joins then 0 else network.home s) + minutes_of
    network (slot_before rows (at + 1)) (drop (at + 1) rows)
minutes-next network before rows at s lt is =
    subst (λ next. (joins : Bool) → begin_with (drop next rows) (block_row rows at).block ≡ joins
    → minutes_of network before (drop at rows) ≡ minutes_before network before s + (if joins then 0 else network.home s) + minutes_of
    network (slot_before rows next) (drop next rows))
    (sym (add-one at)) (minutes-step network before rows at s lt is)

-- a record brings a block exactly where the next one does not go on from it
blocks_in-first : (blocks : List (List ℕ)) (joins : Bool) (s : ℕ) → (blocks ≡ [] → joins ≡ false)
    → length (with_trip_before blocks joins (Some s)) ≡ (if joins then 0 else 1) + length blocks
blocks_in-first [] true s apart = absurd (false≢true (sym (apart refl)))
blocks_in-first [] false s apart = omega arith
blocks_in-first (block ∷ blocks) true s apart = omega arith
blocks_in-first (block ∷ blocks) false s apart = omega arith

blocks-step : (rows : List BlockRow) (at s : ℕ) → at < length rows → (block_row rows at).slot ≡ Some s → EachNames (drop (suc at) rows)
    → (joins : Bool) → begin_with (drop (suc at) rows) (block_row rows at).block ≡ joins
    → length (blocks_in (drop at rows)) ≡ (if joins then 0 else 1) + length (blocks_in (drop (suc at) rows))
blocks-step rows at s lt is known joins e =
    let rest = drop (suc at) rows in
    let number = (block_row rows at).block in
    ap (λ rs. length (blocks_in rs)) (drop-cons rows at _ lt)
    ∙ ap (λ slot. length (with_trip_before (blocks_in rest) (begin_with rest number) slot)) is
    ∙ blocks_in-first (blocks_in rest) (begin_with rest number) s (filled rest number known)
    ∙ ap (λ j. (if j then 0 else 1) + length (blocks_in rest)) e

pub blocks-next : (rows : List BlockRow) (at s : ℕ) → at < length rows → (block_row rows at).slot ≡ Some s → EachNames rows
    → (joins : Bool) → begin_with (drop (at + 1) rows) (block_row rows at).block ≡ joins
    → length (blocks_in (drop at rows)) ≡ (if joins then 0 else 1) + length (blocks_in (drop (at + 1) rows))
blocks-next rows at s lt is known =
    subst (λ next. (joins : Bool) → begin_with (drop next rows) (block_row rows at).block ≡ joins
    → length (blocks_in (drop at rows)) ≡ (if joins then 0 else 1) + length (blocks_in (drop next rows)))
    (sym (add-one at)) (blocks-step rows at s lt is (names-drop rows (suc at) known))
