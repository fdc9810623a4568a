-- The blocks of a claim are chains of trips that fit exactly where each record fits after the one before it.
use Rattle.std.proofs.Common.{◌≡◌, ℕ, zero, suc, ◌<◌, ◌==◌, Bool, true, false, List, [], ◌∷◌, length, Option, None, Some, if◌then◌else◌}
use Rattle.std.proofs.Common.{refl, sym, ap, subst, ◌∙◌, arith}
use Rattle.std.specs.Prelude.{⊤}
use Rattle.std.specs.List.{AllByRecursion}
use Rattle.std.proofs.lemmas.Bool.{false≢true}
use Rattle.trip_model.specs.Blocking.{Follow, IsBlock, slots_in}
use Rattle.trip_model.specs.Network.{Network}
use Rattle.price_check.specs.declared.claim.BlockRow.{BlockRow}
use Rattle.price_check.specs.Claim.{block_slots, block_row, slot_on, slot_before, begin_with, with_trip_before, blocks_in}
use Rattle.price_check.specs.Certificate.{slots_named}
use Rattle.price_check.specs.Reasons.{fit}
use Rattle.price_check.proofs.CostLemmas.{EachNames, slot-there, filled}

-- the slots of the blocks are those that the records name
pub slots_in-blocks : (rows : List BlockRow) → slots_in (blocks_in rows) ≡ slots_named (block_slots rows)
slots_in-blocks [] = refl
slots_in-blocks (r ∷ rows) = by (blocks_in rows) (begin_with rows r.block) r.slot (slots_in-blocks rows)
  where
    by : (blocks : List (List ℕ)) (joins : Bool) (slot : Option ℕ) → slots_in blocks ≡ slots_named (block_slots rows)
        → slots_in (with_trip_before blocks joins slot) ≡ slots_named (slot ∷ block_slots rows)
    by blocks joins None same = same
    by [] joins (Some s) same = ap (λ xs. s ∷ xs) same
    by (block ∷ blocks) true (Some s) same = ap (λ xs. s ∷ xs) same
    by (block ∷ blocks) false (Some s) same = ap (λ xs. s ∷ xs) same

-- the slot of a record, where the first of those after it is of the same block
abbrev pub before_rest : BlockRow → List BlockRow → Option ℕ
before_rest r [] = None
before_rest r (q ∷ rows) = slot_on r q

-- each record fits after the one before it, the first after a slot or none
abbrev pub Chained : Network → Option ℕ → List BlockRow → Type 0
Chained network before [] = ⊤
Chained network before (r ∷ rows) = (fit network before r.slot ≡ true) × Chained network (before_rest r rows) rows

-- the slot before a record by number, after a slot or none
abbrev pub before_at : Option ℕ → List BlockRow → ℕ → Option ℕ
before_at before rows zero = before
before_at before rows (suc at) = slot_on (block_row rows at) (block_row rows (suc at))

pub before_at-none : (rows : List BlockRow) (at : ℕ) → before_at None rows at ≡ slot_before rows at
before_at-none rows zero = refl
before_at-none rows (suc at) = refl

pub before_at-more : (before : Option ℕ) (r : BlockRow) (rows : List BlockRow) (at : ℕ) → at < length rows
    → before_at before (r ∷ rows) (suc at) ≡ before_at (before_rest r rows) rows at
before_at-more before r [] at lt = absurd (omega arith)
before_at-more before r (q ∷ rows) zero lt = refl
before_at-more before r (q ∷ rows) (suc at) lt = refl

abbrev pub FitAt : Network → Option ℕ → List BlockRow → ℕ → Type 0
FitAt network before rows at = fit network (before_at before rows at) (block_row rows at).slot ≡ true

pub chained-from : (network : Network) (before : Option ℕ) (rows : List BlockRow)
    → ((at : ℕ) → at < length rows → FitAt network before rows at) → Chained network before rows
chained-from network before [] each = tt
chained-from network before (r ∷ rows) each = (
  each 0 (omega arith),
  chained-from network (before_rest r rows) rows
      (λ at lt. sym (ap (λ b. fit network b (block_row rows at).slot) (before_at-more before r rows at lt))
      ∙ each (suc at) (omega (arith, lt))),
)

chained-at : (network : Network) (before : Option ℕ) (rows : List BlockRow) → Chained network before rows → (at : ℕ) → at < length rows
    → FitAt network before rows at
chained-at network before [] chained at lt = absurd (omega arith)
chained-at network before (r ∷ rows) chained zero lt = chained.0
chained-at network before (r ∷ rows) chained (suc at) lt =
    ap (λ b. fit network b (block_row rows at).slot) (before_at-more before r rows at (omega (arith, lt)))
    ∙ chained-at network (before_rest r rows) rows chained.1 at (omega (arith, lt))

-- blocks of which the first goes on after a trip, or begins
GoesOnAs : Network → Option ℕ → List ℕ → Type 0
GoesOnAs network None block = IsBlock network block
GoesOnAs network (Some i) block = Follow network i block

BlocksOn : Network → Option ℕ → List (List ℕ) → Type 0
BlocksOn network before [] = ⊤
BlocksOn network before (block ∷ blocks) = GoesOnAs network before block × AllByRecursion (IsBlock network) blocks

goes-more : (network : Network) (before : Option ℕ) (s : ℕ) (js : List ℕ) → fit network before (Some s) ≡ true → Follow network s js
    → GoesOnAs network before (s ∷ js)
unfolding GoesOnAs
goes-more network None s js fits follows = follows
goes-more network (Some i) s js fits follows = (fits, follows)

goes-parts : (network : Network) (before : Option ℕ) (s : ℕ) (js : List ℕ) → GoesOnAs network before (s ∷ js)
    → (fit network before (Some s) ≡ true) × Follow network s js
unfolding GoesOnAs
goes-parts network None s js goes = (refl, goes)
goes-parts network (Some i) s js goes = (goes.0, goes.1)

-- one more trip before blocks
blocks-more : (network : Network) (before : Option ℕ) (s : ℕ) (blocks : List (List ℕ)) (joins : Bool) → (blocks ≡ [] → joins ≡ false)
    → fit network before (Some s) ≡ true
    → BlocksOn network (if joins then Some s else None) blocks → BlocksOn network before (with_trip_before blocks joins (Some s))
unfolding BlocksOn GoesOnAs
blocks-more network before s [] true apart fits on = absurd (false≢true (sym (apart refl)))
blocks-more network before s [] false apart fits on = (goes-more network before s [] fits tt, tt)
blocks-more network before s (block ∷ blocks) true apart fits on = (goes-more network before s block fits on.0, on.1)
blocks-more network before s (block ∷ blocks) false apart fits on = (goes-more network before s [] fits tt, on)

blocks-parts : (network : Network) (before : Option ℕ) (s : ℕ) (blocks : List (List ℕ)) (joins : Bool)
    → BlocksOn network before (with_trip_before blocks joins (Some s))
    → (fit network before (Some s) ≡ true) × BlocksOn network (if joins then Some s else None) blocks
unfolding BlocksOn GoesOnAs
blocks-parts network before s [] joins on = ((goes-parts network before s [] on.0).0, tt)
blocks-parts network before s (block ∷ blocks) true on = let parts = goes-parts network before s block on.0 in (parts.0, (parts.1, on.1))
blocks-parts network before s (block ∷ blocks) false on = ((goes-parts network before s [] on.0).0, on.1)

pub before_rest-is : (r : BlockRow) (rows : List BlockRow) (s : ℕ) → r.slot ≡ Some s
    → before_rest r rows ≡ (if begin_with rows r.block then Some s else None)
before_rest-is r [] s is = refl
before_rest-is r (q ∷ rows) s is = ap (λ slot. if r.block == q.block then slot else None) is

blocks-from : (network : Network) (before : Option ℕ) (rows : List BlockRow) → EachNames rows → Chained network before rows
    → BlocksOn network before (blocks_in rows)
unfolding BlocksOn
blocks-from network before [] known chained = tt
blocks-from network before (r ∷ rows) known chained =
    let slot = slot-there r.slot known.0 in
    let rest = subst (λ b. BlocksOn network b (blocks_in rows)) (before_rest-is r rows slot.0 slot.1)
    (blocks-from network (before_rest r rows) rows known.1 chained.1) in
    subst (λ s. BlocksOn network before (with_trip_before (blocks_in rows) (begin_with rows r.block) s)) (sym slot.1)
    (blocks-more network before slot.0 (blocks_in rows) (begin_with rows r.block) (filled rows r.block known.1)
    (ap (fit network before) (sym slot.1) ∙ chained.0) rest)

blocks-to : (network : Network) (before : Option ℕ) (rows : List BlockRow) → EachNames rows → BlocksOn network before (blocks_in rows)
    → Chained network before rows
blocks-to network before [] known on = tt
blocks-to network before (r ∷ rows) known on =
    let slot = slot-there r.slot known.0 in
    let parts = blocks-parts network before slot.0 (blocks_in rows) (begin_with rows r.block)
    (subst (λ s. BlocksOn network before (with_trip_before (blocks_in rows) (begin_with rows r.block) s)) slot.1 on) in (
      ap (fit network before) slot.1 ∙ parts.0,
      blocks-to network (before_rest r rows) rows known.1
          (subst (λ b. BlocksOn network b (blocks_in rows)) (sym (before_rest-is r rows slot.0 slot.1)) parts.1),
    )

blocks_on-none : (network : Network) (blocks : List (List ℕ)) → BlocksOn network None blocks → AllByRecursion (IsBlock network) blocks
unfolding BlocksOn GoesOnAs
blocks_on-none network [] on = tt
blocks_on-none network (block ∷ blocks) on = (on.0, on.1)

none-blocks_on : (network : Network) (blocks : List (List ℕ)) → AllByRecursion (IsBlock network) blocks → BlocksOn network None blocks
unfolding BlocksOn GoesOnAs
none-blocks_on network [] each = tt
none-blocks_on network (block ∷ blocks) each = (each.0, each.1)

-- where each record fits, the blocks are blocks, and the other way round
pub blocks-fit : (network : Network) (rows : List BlockRow) → EachNames rows
    → ((at : ℕ) → at < length rows → fit network (slot_before rows at) (block_row rows at).slot ≡ true)
    → AllByRecursion (IsBlock network) (blocks_in rows)
blocks-fit network rows known each =
    blocks_on-none network (blocks_in rows) (blocks-from network None rows known (chained-from network None rows
    (λ at lt. ap (λ b. fit network b (block_row rows at).slot) (before_at-none rows at) ∙ each at lt)))

pub fit-blocks : (network : Network) (rows : List BlockRow) → EachNames rows → AllByRecursion (IsBlock network) (blocks_in rows)
    → (at : ℕ) → at < length rows → fit network (slot_before rows at) (block_row rows at).slot ≡ true
fit-blocks network rows known each at lt =
    sym (ap (λ b. fit network b (block_row rows at).slot) (before_at-none rows at))
    ∙ chained-at network None rows (blocks-to network None rows known (none-blocks_on network (blocks_in rows) each)) at lt
