-- What the rows of written blocks claim: the blocks, and the links along them.
use Rattle.std.proofs.Common.{◌≡◌, ℕ, zero, suc, ◌+◌, ◌==◌, ◌||◌, nat_eq, cond, Bool, true, false, List, [], ◌∷◌, ◌++◌, map, Option, None}
use Rattle.std.proofs.Common.{Some, refl, sym, ap, ◌∙◌, arith}
use Rattle.std.specs.Prelude.{IsSome}
use Rattle.std.specs.List.{AllByRecursion, list_any}
use Rattle.std.specs.Option.{option_eq}
use Rattle.std.proofs.lemmas.Bool.{eqb-true}
use Rattle.deadhead_matrix.specs.Matrix.{MatrixView}
use Rattle.price_check.specs.declared.claim.BlockRow.{BlockRow}
use Rattle.price_check.specs.Claim.{AreKnown, begin_with, block_slots, blocks_in}
use Rattle.price_check.specs.Certificate.{next_in, slot_after}
use Rattle.trip_model.specs.Blocking.{slots_in}
use Rattle.trip_model.specs.Links.{next_of}
use Rattle.trip_model.specs.Timetable.{TimetableView}
use Rattle.trip_model.proofs.Chains.{GoesOn}
use Rattle.claim_files.proofs.ChainRows.{IsChain, chain, row, rows_on, later-block, chain-block, after-first}
use Rattle.claim_files.proofs.Numbered.{each-append}

-- the blocks
pub blocks-claimed : (t : TimetableView) (m : MatrixView) (links : List (Option ℕ)) (k : ℕ) (blocks : List (List ℕ))
    → AllByRecursion (IsChain links) blocks → blocks_in (rows_on t m k blocks) ≡ blocks
blocks-claimed t m links k [] are = refl
blocks-claimed t m links k ([] ∷ blocks) are = absurd are.0
blocks-claimed t m links k ((s ∷ js) ∷ blocks) are =
    chain-block t m k None s js (rows_on t m (k + 1) blocks) (later-block t m links k blocks are.1)
    ∙ ap (λ rest. (s ∷ js) ∷ rest) (blocks-claimed t m links (k + 1) blocks are.1)

-- a slot stands among slots
abbrev pub among : ℕ → List ℕ → Bool
among s xs = list_any (λ x. x == s) xs

-- the next trip of s, where that stands among slots
abbrev pub next_among : List (Option ℕ) → List ℕ → ℕ → Option ℕ
next_among links xs s = cond (among s xs) (next_of links s) None

next-more : (links : List (Option ℕ)) (r : BlockRow) (rows : List BlockRow) (i s : ℕ) (xs : List ℕ) → r.slot ≡ Some i
    → slot_after r rows ≡ next_of links i → next_in rows s ≡ next_among links xs s
    → next_in (r ∷ rows) s ≡ next_among links (i ∷ xs) s
next-more links r rows i s xs is after rest =
    ap (λ slot. cond (option_eq nat_eq slot (Some s)) (slot_after r rows) (next_in rows s)) is ∙ by (i == s) refl
  where
    by : (b : Bool) → (i == s) ≡ b
        → cond (i == s) (slot_after r rows) (next_in rows s) ≡ cond ((i == s) || among s xs) (next_of links s) None
    by true e =
        ap (λ b. cond b (slot_after r rows) (next_in rows s)) e ∙ after ∙ ap (next_of links) (eqb-true i s e)
        ∙ sym (ap (λ b. cond (b || among s xs) (next_of links s) None) e)
    by false e =
        ap (λ b. cond b (slot_after r rows) (next_in rows s)) e ∙ rest
        ∙ sym (ap (λ b. cond (b || among s xs) (next_of links s) None) e)

chain-next : (t : TimetableView) (m : MatrixView) (links : List (Option ℕ)) (k s : ℕ) (before : Option ℕ) (i : ℕ) (js : List ℕ)
    (rest : List BlockRow) (xs : List ℕ)
    → begin_with rest k ≡ false → GoesOn links i js → next_in rest s ≡ next_among links xs s
    → next_in (chain t m k before (i ∷ js) ++ rest) s ≡ next_among links ((i ∷ js) ++ xs) s
chain-next t m links k s before i [] rest xs apart goes later =
    next-more links (row t m k before i) rest i s xs refl (after-first t m k links before i [] rest apart goes) later
chain-next t m links k s before i (j ∷ js) rest xs apart goes later =
    next-more links (row t m k before i) (chain t m k (Some i) (j ∷ js) ++ rest) i s ((j ∷ js) ++ xs) refl
    (after-first t m k links before i (j ∷ js) rest apart goes)
    (chain-next t m links k s (Some i) j js rest xs apart goes.1 later)

-- the links
pub next-claimed : (t : TimetableView) (m : MatrixView) (links : List (Option ℕ)) (k s : ℕ) (blocks : List (List ℕ))
    → AllByRecursion (IsChain links) blocks
    → next_in (rows_on t m k blocks) s ≡ next_among links (slots_in blocks) s
next-claimed t m links k s [] are = refl
next-claimed t m links k s ([] ∷ blocks) are = absurd are.0
next-claimed t m links k s ((i ∷ js) ∷ blocks) are =
    chain-next t m links k s None i js (rows_on t m (k + 1) blocks) (slots_in blocks) (later-block t m links k blocks are.1) are.0
    (next-claimed t m links (k + 1) s blocks are.1)

-- each row names a slot
chain-known : (t : TimetableView) (m : MatrixView) (k : ℕ) (before : Option ℕ) (js : List ℕ)
    → AllByRecursion (λ (r : BlockRow). IsSome r.slot) (chain t m k before js)
chain-known t m k before [] = tt
chain-known t m k before (s ∷ js) = (refl, chain-known t m k (Some s) js)

rows-known : (t : TimetableView) (m : MatrixView) (k : ℕ) (blocks : List (List ℕ))
    → AllByRecursion (λ (r : BlockRow). IsSome r.slot) (rows_on t m k blocks)
rows-known t m k [] = tt
rows-known t m k (block ∷ blocks) =
    each-append (λ (r : BlockRow). IsSome r.slot) (chain t m k None block) (rows_on t m (k + 1) blocks) (chain-known t m k None block)
    (rows-known t m (k + 1) blocks)

pub known-at : {X : Type 0} (slot_of : X → Option ℕ) (rows : List X) → AllByRecursion (λ r. IsSome (slot_of r)) rows
    → AreKnown (map slot_of rows)
known-at slot_of [] known at lt = absurd (omega arith)
known-at slot_of (r ∷ rows) known zero lt = known.0
known-at slot_of (r ∷ rows) known (suc at) lt = known-at slot_of rows known.1 at (omega (arith, lt))

pub known-claimed : (t : TimetableView) (m : MatrixView) (k : ℕ) (blocks : List (List ℕ)) → AreKnown (block_slots (rows_on t m k blocks))
known-claimed t m k blocks = known-at (λ (r : BlockRow). r.slot) (rows_on t m k blocks) (rows-known t m k blocks)
