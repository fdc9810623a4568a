-- How a chain goes on, place by place, and that the first way which is found is the first of all.
use Rattle.std.proofs.Common.{◌≡◌, ℕ, suc, ◌+◌, ◌<◌, ◌≤◌, List, [], ◌∷◌, length, Option, None, Some, refl, sym, subst, ◌∙◌, ⊎_elim, arith}
use Rattle.std.specs.Prelude.{ℤ, is_some, IfNone, IfSome, true, false}
use Rattle.std.proofs.lemmas.Bool.{cases_lt, false≢true}
use Rattle.std.proofs.lemmas.Int.{ints}
use Rattle.std.proofs.lemmas.Option.{same_Some}
use Rattle.deficit_steps.specs.NextMaximum.{IsNextMaximum, NoNextMaximum}
use Rattle.dh_chains.specs.declared.chain.Deadhead.{Deadhead}
use Rattle.dh_chains.specs.Chains.{IsBefore, Places, following, left}
use Rattle.dh_chains.specs.Search.{IsBranch, IsFirstBranch, IsFirstTail, IsNext, IsTail, NoBranch, NoBranchBelow, NoTail, listed}

-- there is one next minute of a maximum, or none
pub some-not-none : (d : ℕ → ℤ) (from at : ℕ) → IsNextMaximum d from at → NoNextMaximum d from → ⊥
some-not-none d from at is none = let below = none at is.not_before is.within in let reached = is.reached in
    omega (arith, ints, below, reached)

pub one-next : (d : ℕ → ℤ) (from a b : ℕ) → IsNextMaximum d from a → IsNextMaximum d from b → a ≡ b
one-next d from a b is other = ⊎_elim
    (λ (less : a < b). let below = other.first a is.not_before less in let reached = is.reached in
    absurd (omega (arith, ints, below, reached)))
    (λ (h : b ≤ a). ⊎_elim
    (λ (less : b < a). let below = is.first b other.not_before less in let reached = other.reached in
    absurd (omega (arith, ints, below, reached)))
    (λ (k : a ≤ b). let same : a ≡ b = omega arith in same)
    (cases_lt b a))
    (cases_lt a b)

-- a next deadhead from one place is the same as any other from there
pub same-next : (places : Places) (had : List ℕ) (to arrives : ℕ) (m n : Deadhead) → IsNext places had to arrives m
    → IsNext places had to arrives n → m.from ≡ n.from → m ≡ n
same-next places had to arrives m n is other from =
    let into : m.to ≡ n.to = is.into ∙ sym other.into in
    let on_time : m.arrives ≡ n.arrives = is.on_time ∙ sym other.on_time in
    let minutes : is.deadhead.minutes ≡ other.deadhead.minutes =
    same_Some _ _ (sym is.deadhead.walk ∙ (λ i. places.walk (from i) (into i)) ∙ other.deadhead.walk) in
    let leaves : m.leaves ≡ n.leaves = omega (arith, is.deadhead.leaves, other.deadhead.leaves, minutes, on_time) in
    λ i. record { from = from i; to = into i; leaves = leaves i; arrives = on_time i }

-- one place more, from which no deadhead leads there
pub below-absent : (places : Places) (most : ℕ) (had : List ℕ) (to arrives from : ℕ) → NoBranchBelow places most had to arrives from
    → ((next : Deadhead) → next.from ≡ from → IsNext places had to arrives next → ⊥) → NoBranchBelow places most had to arrives (from + 1)
below-absent places most had to arrives from below absent = λ next rest h few branch. ⊎_elim
    (λ (less : next.from < from). below next rest less few branch)
    (λ (here : from ≤ next.from). absent next (let same : next.from ≡ from = omega arith in same) branch.arriving)
    (cases_lt next.from from)

-- one place more, from which one leads there, but the chain goes on in no way behind it
pub below-dead : (places : Places) (most : ℕ) (had : List ℕ) (to arrives from : ℕ) (m : Deadhead)
    → NoBranchBelow places most had to arrives from
    → m.from ≡ from → IsNext places had to arrives m → NoTail places most (m.from ∷ had) m
    → NoBranchBelow places most had to arrives (from + 1)
below-dead places most had to arrives from m below is next dead = λ n rest h few branch. ⊎_elim
    (λ (less : n.from < from). below n rest less few branch)
    (λ (here : from ≤ n.from).
    let same : n ≡ m = same-next places had to arrives n m branch.arriving next
    (let from_same : n.from ≡ m.from = omega arith in from_same) in
    dead rest few (subst (λ (x : Deadhead). IsTail places (x.from ∷ had) x rest) same branch.tail))
    (cases_lt n.from from)

-- the first way behind the first deadhead that has one
pub first-branch : (places : Places) (most : ℕ) (had : List ℕ) (to arrives from : ℕ) (m : Deadhead) (rest : List Deadhead)
    → NoBranchBelow places most had to arrives from
    → m.from ≡ from → IsNext places had to arrives m → IsFirstTail places most (m.from ∷ had) m rest
    → IsFirstBranch places most had to arrives m rest
first-branch places most had to arrives from m rest below is next first = record {
  few = first.few;
  branch = record { arriving = next; tail = first.tail };
  least = λ n ns few branch before. ⊎_elim
      (λ (less : n.from < m.from). below n ns (omega (arith, less, is)) few branch)
      (λ (same : (n.from ≡ m.from) × IsBefore (left ns) (left rest)).
      let one : n ≡ m = same-next places had to arrives n m branch.arriving next same.0 in
      first.least ns few (subst (λ (x : Deadhead). IsTail places (x.from ∷ had) x ns) one branch.tail) same.1)
      before;
}

-- past the last place there is none
pub none-below-all : (places : Places) (most : ℕ) (had : List ℕ) (to arrives from : ℕ) → places.count ≤ from
    → NoBranchBelow places most had to arrives from → NoBranch places most had to arrives
none-below-all places most had to arrives from all below =
    λ next rest few branch. below next rest (omega (arith, branch.arriving.deadhead.from)) few branch

-- where the place is below its maximum from then on, the chain ends there
pub first-end : (places : Places) (most : ℕ) (had : List ℕ) (m : Deadhead) → NoNextMaximum (places.deficit m.from) m.leaves
    → IsFirstTail places most had m []
first-end places most had m none = record { few = omega arith; tail = none; least = λ other few tail before. nothing (left other) before }
  where
    nothing : (ps : List ℕ) → IsBefore ps [] → ⊥
    nothing ps before = before

-- where it is not, it does not end there
pub no-end : (places : Places) (had : List ℕ) (m : Deadhead) (at : ℕ) → IsNextMaximum (places.deficit m.from) m.leaves at
    → NoTail places 0 had m
no-end places had m at is [] few tail = some-not-none (places.deficit m.from) m.leaves at is tail
no-end places had m at is (next ∷ rest) few tail = absurd (omega arith)

moved : (places : Places) (had : List ℕ) (to a b : ℕ) (m : Deadhead) → a ≡ b → IsNext places had to a m → IsNext places had to b m
moved places had to a b m same is = subst (λ t. IsNext places had to t m) same is

-- how a chain goes on behind a deadhead is how it goes on with the next one, which arrives at that minute
branch-of : (places : Places) (had : List ℕ) (m : Deadhead) (at : ℕ) (next : Deadhead) (rest : List Deadhead)
    → IsNextMaximum (places.deficit m.from) m.leaves at
    → IsTail places had m (next ∷ rest) → IsBranch places had m.from at next rest
branch-of places had m at next rest is tail = record {
  arriving = moved places had m.from next.arrives at next (one-next (places.deficit m.from) m.leaves next.arrives at tail.0 is) tail.1;
  tail = tail.2;
}

tail-of : (places : Places) (had : List ℕ) (m : Deadhead) (at : ℕ) (next : Deadhead) (rest : List Deadhead)
    → IsNextMaximum (places.deficit m.from) m.leaves at
    → IsBranch places had m.from at next rest → IsTail places had m (next ∷ rest)
tail-of places had m at next rest is branch =
    let on_time : at ≡ next.arrives = sym branch.arriving.on_time in (
      subst (IsNextMaximum (places.deficit m.from) m.leaves) on_time is,
      moved places had m.from at next.arrives next on_time
          branch.arriving,
      branch.tail,
    )

pub first-onward : (places : Places) (most : ℕ) (had : List ℕ) (m : Deadhead) (at : ℕ) (next : Deadhead) (rest : List Deadhead)
    → IsNextMaximum (places.deficit m.from) m.leaves at
    → IsFirstBranch places most had m.from at next rest → IsFirstTail places (suc most) had m (next ∷ rest)
first-onward places most had m at next rest is first = record {
  few = omega (arith, first.few);
  tail = tail-of places had m at next rest is first.branch;
  least = least;
}
  where
    least : (other : List Deadhead) → length other ≤ suc most → IsTail places had m other → IsBefore (left other) (left (next ∷ rest)) → ⊥
    least [] few tail before = some-not-none (places.deficit m.from) m.leaves at is tail
    least (n ∷ ns) few tail before = first.least n ns (omega arith) (branch-of places had m at n ns is tail) before

pub none-onward : (places : Places) (most : ℕ) (had : List ℕ) (m : Deadhead) (at : ℕ) → IsNextMaximum (places.deficit m.from) m.leaves at
    → NoBranch places most had m.from at → NoTail places (suc most) had m
none-onward places most had m at is none [] few tail = some-not-none (places.deficit m.from) m.leaves at is tail
none-onward places most had m at is none (n ∷ ns) few tail = none n ns (omega arith) (branch-of places had m at n ns is tail)

-- the second deadhead and the third, if there is one, in a list
pub following-some : (second : Deadhead) (third : Option Deadhead) → following (Some second) third ≡ second ∷ listed third
following-some second None = refl
following-some second (Some third) = refl

-- what is known of a minute that was found, or was not
pub at-none : (N : Type 0) (found : Option ℕ) → is_some found ≡ false → IfNone found N → N
at-none N None test none = none
at-none N (Some at) test none = absurd (false≢true (sym test))

pub at-some : (P : ℕ → Type 0) (found : Option ℕ) → is_some found ≡ true → IfSome found P → (at : ℕ) × P at
at-some P None test some = absurd (false≢true test)
at-some P (Some at) test some = (at, some)

-- what holds holds where nothing was found
pub if-none : {X : Type 0} (N : Type 0) (found : Option X) → N → IfNone found N
if-none N None holds = holds
if-none N (Some x) holds = tt
