-- The rows of written blocks, slot after slot, and what they claim: the blocks, the links along them, and the empty minutes.
use Rattle.std.proofs.Common.{◌≡◌, ℕ, zero, suc, ◌+◌, ◌<◌, ◌==◌, cond, true, false, List, [], ◌∷◌, ◌++◌, length, get_or, map, Option, None}
use Rattle.std.proofs.Common.{Some, refl, sym, ap, ◌∙◌, add-one, arith}
use Rattle.std.specs.Prelude.{unwrap_or}
use Rattle.std.specs.List.{AllByRecursion, range_with_len}
use Rattle.std.proofs.lemmas.Bool.{eq-eqb, ne_eqb}
use Rattle.deadhead_matrix.specs.Matrix.{MatrixView, walk}
use Rattle.deadhead_matrix.specs.Pulls.{pull_at}
use Rattle.price_check.specs.declared.claim.BlockRow.{BlockRow}
use Rattle.price_check.specs.Claim.{begin_with, blocks_in, with_trip_before}
use Rattle.price_check.specs.Certificate.{slot_after}
use Rattle.trip_model.specs.Links.{next_of}
use Rattle.trip_model.specs.Timetable.{TimetableView, slot_at}
use Rattle.trip_model.proofs.Chains.{GoesOn}
use Rattle.block_build.specs.Lines.{walk_between}
use Rattle.claim_files.specs.Written.{written_trip, written_block}
use Rattle.claim_files.proofs.Numbered.{on}

-- the empty minutes before a trip after one, or before the first of a block
abbrev pub minutes : TimetableView → MatrixView → Option ℕ → ℕ → ℕ
minutes t m None s = (pull_at m.pulls (slot_at t s).trip.from).pull_out
minutes t m (Some i) s = unwrap_or (walk_between t (walk m) i s) 0

-- the row of a slot
abbrev pub row : TimetableView → MatrixView → ℕ → Option ℕ → ℕ → BlockRow
row t m k before s = record { block = k; trip = (slot_at t s).name; slot = Some s; deadhead = minutes t m before s }

-- the rows of slots one after the other, the first after one or at the beginning
abbrev pub chain : TimetableView → MatrixView → ℕ → Option ℕ → List ℕ → List BlockRow
chain t m k before [] = []
chain t m k before (s ∷ js) = row t m k before s ∷ chain t m k (Some s) js

-- the slot before a trip of a block
before_trip : List ℕ → ℕ → Option ℕ
before_trip block zero = None
before_trip block (suc n) = Some (get_or block n 0)

row-is : (t : TimetableView) (m : MatrixView) (k : ℕ) (block : List ℕ) (n s : ℕ) → get_or block n 0 ≡ s
    → written_trip t m k block n ≡ row t m k (before_trip block n) s
unfolding before_trip
row-is t m k block zero s is =
    λ i. record {
      block = k;
      trip = (slot_at t (is i)).name;
      slot = Some (is i);
      deadhead = (pull_at m.pulls (slot_at t (is i)).trip.from).pull_out;
    }
row-is t m k block (suc n) s is =
    λ i. record {
      block = k;
      trip = (slot_at t (is i)).name;
      slot = Some (is i);
      deadhead = unwrap_or (walk_between t (walk m) (get_or block n 0) (is i)) 0;
    }

before-more : (block : List ℕ) (n s : ℕ) → get_or block n 0 ≡ s → before_trip block (n + 1) ≡ Some s
unfolding before_trip
before-more block n s is = ap (before_trip block) (add-one n) ∙ ap Some is

rest-chain : (t : TimetableView) (m : MatrixView) (k : ℕ) (block rest : List ℕ) (a : ℕ)
    → ((j : ℕ) → j < length rest → get_or block (a + j) 0 ≡ get_or rest j 0)
    → map (written_trip t m k block) (range_with_len a (length rest)) ≡ chain t m k (before_trip block a) rest
rest-chain t m k block [] a same = refl
rest-chain t m k block (s ∷ rest) a same =
    let at : a ≡ a + 0 = omega arith in
    let here : get_or block a 0 ≡ s = ap (λ n. get_or block n 0) at ∙ same 0 (omega arith) in
    let later = rest-chain t m k block rest (a + 1)
    (λ j lt. (let next : a + 1 + j ≡ a + suc j = omega arith in ap (λ n. get_or block n 0) next ∙ same (suc j) (omega (arith, lt)))) in
    (λ i. row-is t m k block a s here i ∷ (later ∙ ap (λ before. chain t m k before rest) (before-more block a s here)) i)

-- the rows of a written block are those of its slots
pub block-chain : (t : TimetableView) (m : MatrixView) (k : ℕ) (block : List ℕ) → written_block t m k block ≡ chain t m k None block
unfolding before_trip
block-chain t m k block = rest-chain t m k block block 0 (λ j lt. (let same : 0 + j ≡ j = omega arith in ap (λ n. get_or block n 0) same))

-- the rows of blocks, the first of this number
abbrev pub rows_on : TimetableView → MatrixView → ℕ → List (List ℕ) → List BlockRow
rows_on t m k [] = []
rows_on t m k (block ∷ blocks) = chain t m k None block ++ rows_on t m (k + 1) blocks

pub on-rows : (t : TimetableView) (m : MatrixView) (k : ℕ) (blocks : List (List ℕ)) → on (written_block t m) k blocks ≡ rows_on t m k blocks
on-rows t m k [] = refl
on-rows t m k (block ∷ blocks) = λ i. block-chain t m k block i ++ on-rows t m (k + 1) blocks i

-- a block of which each trip is the next of the one before it, and the last has none
abbrev pub IsChain : List (Option ℕ) → List ℕ → Type 0
IsChain links [] = ⊥
IsChain links (i ∷ js) = GoesOn links i js

-- the rows of later blocks are of no block before
pub later-block : (t : TimetableView) (m : MatrixView) (links : List (Option ℕ)) (k : ℕ) (blocks : List (List ℕ))
    → AllByRecursion (IsChain links) blocks → begin_with (rows_on t m (k + 1) blocks) k ≡ false
later-block t m links k [] are = refl
later-block t m links k ([] ∷ blocks) are = absurd are.0
later-block t m links k ((i ∷ js) ∷ blocks) are = ne_eqb k (k + 1) (λ e. absurd (omega (arith, e)))

-- one block, and then others
with-alone : (blocks : List (List ℕ)) (s : ℕ) → with_trip_before blocks false (Some s) ≡ (s ∷ []) ∷ blocks
with-alone [] s = refl
with-alone (block ∷ blocks) s = refl

module _ (t : TimetableView) (m : MatrixView) (k : ℕ) where
  pub same-block : (k == k) ≡ true
  same-block = eq-eqb k k refl

  -- the block of a chain before later rows
  pub chain-block : (before : Option ℕ) (s : ℕ) (js : List ℕ) (rest : List BlockRow) → begin_with rest k ≡ false
      → blocks_in (chain t m k before (s ∷ js) ++ rest) ≡ (s ∷ js) ∷ blocks_in rest
  chain-block before s [] rest apart = ap (λ joins. with_trip_before (blocks_in rest) joins (Some s)) apart ∙ with-alone (blocks_in rest) s
  chain-block before s (j ∷ js) rest apart =
      (λ i. with_trip_before (chain-block (Some s) j js rest apart i) (same-block i) (Some s))

  -- the trip after the first of a chain
  pub after-first : (links : List (Option ℕ)) (before : Option ℕ) (s : ℕ) (js : List ℕ) (rest : List BlockRow) → begin_with rest k ≡ false
      → GoesOn links s js
      → slot_after (row t m k before s) (chain t m k (Some s) js ++ rest) ≡ next_of links s
  after-first links before s [] [] apart goes = sym goes
  after-first links before s [] (q ∷ rest) apart goes = ap (λ joins. cond joins q.slot None) apart ∙ sym goes
  after-first links before s (j ∷ js) rest apart goes = ap (λ joins. cond joins (Some j) None) same-block ∙ sym goes.0
