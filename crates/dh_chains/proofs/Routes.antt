-- A chain as its first deadhead with what follows, and the chains to one place and to all.
use Rattle.std.proofs.Common.{◌≡◌, ◌≢◌, ℕ, suc, ◌<◌, ◌≤◌, List, [], ◌∷◌, length, get_or, refl, sym, ap, subst, ◌∙◌, ⊎_elim, arith}
use Rattle.std.specs.Prelude.{All, AllPairs, Contains, ℤ, pos, ◌<ℤ◌}
use Rattle.std.proofs.lemmas.Int.{ints}
use Rattle.std.proofs.lemmas.List.Elements.{All-cons, All-contains, All-head, All-nil, All-tail, Contains-get_or}
use Rattle.std.proofs.lemmas.List.Kept.{AllPairs-cons}
use Rattle.trip_model.specs.Maximum.{first_maximum}
use Rattle.dh_chains.specs.declared.chain.Deadhead.{Deadhead}
use Rattle.dh_chains.specs.Chains.{GoesOn, IsBefore, IsDeadhead, IsUnitChain, Places, left}
use Rattle.dh_chains.specs.Search.{IsBranch, IsFirstBranch, IsFirstChainTo, IsTail, NoBranch, NoChainTo}

-- a place is none of these
abbrev pub IsApart : List ℕ → ℕ → Type 0
IsApart qs p = All (λ q. p ≢ q) qs

pairs-head : (p : ℕ) (ps : List ℕ) → AllPairs (λ p q. p ≢ q) (p ∷ ps) → IsApart ps p
pairs-head p ps pairs = λ k d within. pairs 0 (suc k) d (omega arith) (omega arith)

pairs-tail : (p : ℕ) (ps : List ℕ) → AllPairs (λ p q. p ≢ q) (p ∷ ps) → AllPairs (λ p q. p ≢ q) ps
pairs-tail p ps pairs = λ i j d below within. pairs (suc i) (suc j) d (omega arith) (omega arith)

pub to-tail : (places : Places) (had : List ℕ) (last : Deadhead) (rest : List Deadhead) → All (IsDeadhead places) rest
    → AllPairs (λ p q. p ≢ q) (left rest)
    → All (IsApart (left rest)) had → GoesOn places last rest → IsTail places had last rest
to-tail places had last [] deadheads distinct apart goes = goes
to-tail places had last (next ∷ rest) deadheads distinct apart goes = (
  goes.1,
  record {
    deadhead = All-head (IsDeadhead places) next rest deadheads;
    into = goes.0;
    on_time = refl;
    fresh = λ has. All-head (λ q. next.from ≢ q) next.from (left rest)
        (All-contains (IsApart (left (next ∷ rest))) had next.from apart has) refl;
  },
  to-tail places (next.from ∷ had) next rest (All-tail (IsDeadhead places) next rest deadheads) (pairs-tail next.from (left rest) distinct)
      (All-cons (IsApart (left rest)) next.from had (pairs-head next.from (left rest) distinct)
      (λ k d within. All-tail (λ q. get_or had k d ≢ q) next.from (left rest) (apart k d within))) goes.2,
)

-- what a chain is behind a deadhead, each part by itself
pub record IsFlat (places : Places) (had : List ℕ) (last : Deadhead) (rest : List Deadhead) : Type 0 where
  pub deadheads : All (IsDeadhead places) rest
  pub distinct : AllPairs (λ p q. p ≢ q) (left rest)
  pub apart : All (IsApart (left rest)) had
  pub goes_on : GoesOn places last rest

pub from-tail : (places : Places) (had : List ℕ) (last : Deadhead) (rest : List Deadhead) → IsTail places had last rest
    → IsFlat places had last rest
from-tail places had last [] tail = record {
  deadheads = All-nil (IsDeadhead places);
  distinct = λ i j d below within. absurd (omega arith);
  apart = λ k d within. All-nil (λ q. get_or had k d ≢ q);
  goes_on = tail;
}
from-tail places had last (next ∷ rest) tail =
    let flat = from-tail places (next.from ∷ had) next rest tail.2 in
    let others = All-tail (IsApart (left rest)) next.from had flat.apart in
    record {
      deadheads = All-cons (IsDeadhead places) next rest tail.1.deadhead flat.deadheads;
      distinct = AllPairs-cons (λ p q. p ≢ q) next.from (left rest) (All-head (IsApart (left rest)) next.from had flat.apart) flat.distinct;
      apart = λ k d within. All-cons (λ q. get_or had k d ≢ q) next.from (left rest)
          (λ same. tail.1.fresh (subst (Contains had) same (Contains-get_or had k d within))) (others k d within);
      goes_on = (tail.1.into, tail.0, flat.goes_on);
    }

-- a chain is its first deadhead, which arrives at the first minute of the maximum, and how it goes on behind that one
pub branch-of-chain : (places : Places) (first : Deadhead) (rest : List Deadhead) → IsUnitChain places first rest
    → IsBranch places (first.to ∷ []) first.to (first_maximum (places.deficit first.to)).1 first rest
branch-of-chain places first rest chain =
    let behind = pairs-tail first.to (left (first ∷ rest)) chain.distinct in
    let apart = pairs-head first.to (left (first ∷ rest)) chain.distinct in
    record {
      arriving = record {
        deadhead = All-head (IsDeadhead places) first rest chain.deadheads;
        into = refl;
        on_time = chain.in_time;
        fresh = λ has. All-head (λ q. first.to ≢ q) first.from (left rest) apart (only first.to first.from has);
      };
      tail = to-tail places (first.from ∷ first.to ∷ []) first rest (All-tail (IsDeadhead places) first rest chain.deadheads)
          (pairs-tail first.from (left rest) behind)
          (All-cons (IsApart (left rest)) first.from (first.to ∷ []) (pairs-head first.from (left rest) behind)
          (All-cons (IsApart (left rest)) first.to [] (All-tail (λ q. first.to ≢ q) first.from (left rest) apart)
          (All-nil (IsApart (left rest))))) chain.goes_on;
    }
  where
    only : (p q : ℕ) → Contains (p ∷ []) q → p ≡ q
    only p q has = All-contains (λ x. p ≡ x) (p ∷ []) q (All-cons (λ x. p ≡ x) p [] refl (All-nil (λ x. p ≡ x))) has

pub chain-of-branch : (places : Places) (target : ℕ) (first : Deadhead) (rest : List Deadhead) → target < places.count
    → pos 0 <ℤ (first_maximum (places.deficit target)).0 → length rest ≤ 2
    → IsBranch places (target ∷ []) target (first_maximum (places.deficit target)).1 first rest → IsUnitChain places first rest
chain-of-branch places target first rest within wanting few branch =
    let into = branch.arriving.into in
    let flat = from-tail places (first.from ∷ target ∷ []) first rest branch.tail in
    let apart = All-head (IsApart (left rest)) target [] (All-tail (IsApart (left rest)) first.from (target ∷ []) flat.apart) in
    let other : target ≢ first.from = λ same. branch.arriving.fresh (0, omega arith, same) in
    record {
      few = few;
      deadheads = All-cons (IsDeadhead places) first rest branch.arriving.deadhead flat.deadheads;
      distinct = subst (λ k. AllPairs (λ p q. p ≢ q) (k ∷ left (first ∷ rest))) (sym into)
          (AllPairs-cons (λ p q. p ≢ q) target (left (first ∷ rest)) (All-cons (λ q. target ≢ q) first.from (left rest) other apart)
          (AllPairs-cons (λ p q. p ≢ q) first.from (left rest) (All-head (IsApart (left rest)) first.from (target ∷ []) flat.apart)
          flat.distinct));
      target = subst (λ k. k < places.count) (sym into) within;
      wanting = subst (λ k. pos 0 <ℤ (first_maximum (places.deficit k)).0) (sym into) wanting;
      in_time = branch.arriving.on_time ∙ ap (λ k. (first_maximum (places.deficit k)).1) (sym into);
      goes_on = flat.goes_on;
    }

branch-to : (places : Places) (target : ℕ) (first : Deadhead) (rest : List Deadhead) → first.to ≡ target → IsUnitChain places first rest
    → IsBranch places (target ∷ []) target (first_maximum (places.deficit target)).1 first rest
branch-to places target first rest to chain =
    subst (λ k. IsBranch places (k ∷ []) k (first_maximum (places.deficit k)).1 first rest) to (branch-of-chain places first rest chain)

-- the first chain to a place, where the maximum and its first minute are these
pub first-to : (places : Places) (target high at : ℕ) (first : Deadhead) (rest : List Deadhead) → target < places.count
    → first_maximum (places.deficit target) ≡ (pos high, at) → 0 < high
    → IsFirstBranch places 2 (target ∷ []) target at first rest → IsFirstChainTo places target first rest
first-to places target high at first rest within maximum wanting is =
    let value : (first_maximum (places.deficit target)).0 ≡ pos high = ap (λ (m : ℤ × ℕ). m.0) maximum in
    let minute : (first_maximum (places.deficit target)).1 ≡ at = ap (λ (m : ℤ × ℕ). m.1) maximum in
    record {
      to = is.branch.arriving.into;
      chain = chain-of-branch places target first rest within (omega (arith, ints, value, wanting)) is.few
          (subst (λ t. IsBranch places (target ∷ []) target t first rest) (sym minute) is.branch);
      least = λ m ms to chain before.
          is.least m ms chain.few (subst (λ t. IsBranch places (target ∷ []) target t m ms) minute (branch-to places target m ms to chain))
          (⊎_elim
          (λ (less : m.to < first.to). absurd (let into = is.branch.arriving.into in omega (arith, less, to, into)))
          (λ (same : (m.to ≡ first.to) × IsBefore (left (m ∷ ms)) (left (first ∷ rest))). same.1)
          before);
    }

pub none-to : (places : Places) (target high at : ℕ) → first_maximum (places.deficit target) ≡ (pos high, at)
    → NoBranch places 2 (target ∷ []) target at → NoChainTo places target
none-to places target high at maximum none = λ first rest to chain.
    none first rest chain.few (subst (λ t. IsBranch places (target ∷ []) target t first rest) (ap (λ (m : ℤ × ℕ). m.1) maximum)
    (branch-to places target first rest to chain))
