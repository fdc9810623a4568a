-- From when on deadheads have to leave a place if their chain is to end, found from the last deadhead on.
use Rattle.std.proofs.Common.{◌≡◌, ◌≢◌, ℕ, suc, ◌+◌, ◌<◌, ◌≤◌, min, List, [], ◌∷◌, length, get_or, set, inl, inr, refl, sym, ap, subst}
use Rattle.std.proofs.Common.{◌∙◌, ⊎_elim, arith}
use Rattle.std.specs.Prelude.{Contains}
use Rattle.std.proofs.lemmas.Bool.{cases_eq, cases_lt}
use Rattle.std.proofs.lemmas.Int.{ints}
use Rattle.std.proofs.lemmas.List.{get_or-set_other, get_or-set_same, get_or_past}
use Rattle.dh_chains.specs.declared.chain.Deadhead.{Deadhead}
use Rattle.dh_chains.specs.Chains.{Places}
use Rattle.dh_chains.specs.Ends.{AreEarliest, AreEarliestBelow, ArriveFrom, EndsFrom, IsMaximumBetween, IsOnward, PassedArriveFrom}
use Rattle.dh_chains.specs.Search.{NoTail}

-- with one deadhead more a chain goes on to its end only by one that leaves late enough
pub leaves-from : (places : Places) (most leaves : ℕ) (m : Deadhead) → EndsFrom places most m.from leaves → IsOnward places (suc most) m
    → leaves ≤ m.leaves
leaves-from places most leaves m ends is = ⊎_elim
    (λ (early : m.leaves < leaves). absurd (ends m is.had refl early is.has is.rest (omega (arith, is.few)) is.tail))
    (λ (h : leaves ≤ m.leaves). h)
    (cases_lt m.leaves leaves)

-- one deadhead more has passed, and the minute of its place is lowered
pub passed-more : (places : Places) (most : ℕ) (minutes : List ℕ) (from to new : ℕ) → to < length minutes
    → PassedArriveFrom places most minutes from to
    → ((m : Deadhead) → m.from ≡ from → m.to ≡ to → IsOnward places most m → new ≤ m.arrives)
    → PassedArriveFrom places most (set minutes to (min (get_or minutes to 0) new)) from (to + 1)
passed-more places most minutes from to new within before lower = λ m passed is. ⊎_elim
    (λ (here : m.to ≡ to).
    let lowered = set minutes to (min (get_or minutes to 0) new) in
    let same : get_or lowered m.to 0 ≡ min (get_or minutes to 0) new = ap (λ k. get_or lowered k 0) here
    ∙ get_or-set_same minutes to _ 0 within in
    ⊎_elim
    (λ (less : m.from < from). let old = before m (inl less) is in let place = ap (λ k. get_or minutes k 0) here in
    omega (arith, same, old, place))
    (λ (now : (m.from ≡ from) × (m.to < to + 1)). let le = lower m now.0 here is in omega (arith, same, le))
    passed)
    (λ (other : m.to ≡ to → ⊥).
    let same : get_or (set minutes to (min (get_or minutes to 0) new)) m.to 0 ≡ get_or minutes m.to 0 =
    get_or-set_other minutes to m.to _ 0 other in
    let old = before m (⊎_elim
    (λ (less : m.from < from). inl less)
    (λ (now : (m.from ≡ from) × (m.to < to + 1)). inr (now.0, (let apart : m.to ≢ to = other in omega (arith, now.1))))
    passed) is in
    omega (arith, same, old))
    (cases_eq m.to to)

-- past the places for which there are minutes there is nothing to say
pub passed-past : (places : Places) (most : ℕ) (minutes : List ℕ) (from to : ℕ) → length minutes ≤ to
    → PassedArriveFrom places most minutes from to → PassedArriveFrom places most minutes from (to + 1)
passed-past places most minutes from to past before = λ m passed is. ⊎_elim
    (λ (less : m.from < from). before m (inl less) is)
    (λ (now : (m.from ≡ from) × (m.to < to + 1)). ⊎_elim
    (λ (less : m.to < to). before m (inr (now.0, less)) is)
    (λ (here : to ≤ m.to). let none = get_or_past minutes m.to 0 (omega arith) in omega (arith, none))
    (cases_lt m.to to))
    passed

-- all deadheads from one place have passed
pub passed-from : (places : Places) (most : ℕ) (minutes : List ℕ) (from to : ℕ) → places.count ≤ to
    → PassedArriveFrom places most minutes from to → PassedArriveFrom places most minutes (from + 1) 0
passed-from places most minutes from to all before = λ m passed is. ⊎_elim
    (λ (less : m.from < from + 1). ⊎_elim
    (λ (below : m.from < from). before m (inl below) is)
    (λ (here : from ≤ m.from). before m (inr ((let same : m.from ≡ from = omega arith in same), omega (arith, is.to, all))) is)
    (cases_lt m.from from))
    (λ (none : (m.from ≡ from + 1) × (m.to < 0)). absurd (omega (arith, none.1)))
    passed

pub passed-all : (places : Places) (most : ℕ) (minutes : List ℕ) (from : ℕ) → places.count ≤ from
    → PassedArriveFrom places most minutes from 0 → ArriveFrom places most minutes
passed-all places most minutes from all before = λ m is. before m (inl (omega (arith, is.deadhead.from, all))) is

-- where a place is at its maximum once more before any deadhead arrives there, none leaves it so early
pub ends-from : (places : Places) (most place minute before : ℕ)
    → ((t : ℕ) → t < minute → IsMaximumBetween (places.deficit place) t before) → place < places.count
    → ((m : Deadhead) → m.to ≡ place → IsOnward places most m → before ≤ m.arrives) → EndsFrom places most place minute
ends-from places most place minute before reached within arrive m had from early has = none
  where
    is : IsMaximumBetween (places.deficit m.from) m.leaves before
    is = subst (λ k. IsMaximumBetween (places.deficit k) m.leaves before) (sym from) (reached m.leaves early)

    none : NoTail places most had m
    none [] few tail = let below = tail is.at is.not_before is.in_day in let equal = is.reached in omega (arith, ints, below, equal)
    none (next ∷ rest) few tail =
        let soon : next.arrives ≤ is.at = ⊎_elim
        (λ (less : is.at < next.arrives). let below = tail.0.first is.at is.not_before less in let equal = is.reached in
        absurd (omega (arith, ints, below, equal)))
        (λ (le : next.arrives ≤ is.at). le)
        (cases_lt is.at next.arrives) in
        let into : next.to ≡ place = tail.1.into ∙ from in
        let late = arrive next into (record {
          deadhead = tail.1.deadhead;
          to = omega (arith, into, within);
          apart = λ same. tail.1.fresh (subst (Contains had) (sym (same ∙ into)) has);
          had = next.from ∷ had;
          has = (0, omega arith, refl);
          rest = rest;
          few = omega (arith, few);
          tail = tail.2;
        }) in
        omega (arith, late, soon, is.within)

-- from minute 0 on there is nothing to say
ends-from_start : (places : Places) (most place : ℕ) → EndsFrom places most place 0
ends-from_start places most place = λ m had from early. absurd (omega arith)

-- of one place more it is
pub earliest-more : (places : Places) (most : ℕ) (minutes : List ℕ) (place new : ℕ) → place < length minutes → place < places.count
    → AreEarliestBelow places most minutes place
    → ((t : ℕ) → t < new → IsMaximumBetween (places.deficit place) t (get_or minutes place 0))
    → AreEarliestBelow places most (set minutes place new) (place + 1)
earliest-more places most minutes place new within in_places are reached = record {
  below = λ p less there. ⊎_elim
      (λ (here : p ≡ place).
      let same : get_or (set minutes place new) p 0 ≡ new = ap (λ k. get_or (set minutes place new) k 0) here
      ∙ get_or-set_same minutes place new 0 within in
      let from : EndsFrom places most place new =
      ends-from places most place new (get_or minutes place 0) reached in_places
      (λ m to is. let le = are.above m (omega (arith, to)) is in let at = ap (λ k. get_or minutes k 0) to in omega (arith, le, at)) in
      subst (EndsFrom places most p) (sym same) (subst (λ k. EndsFrom places most k new) (sym here) from))
      (λ (other : p ≡ place → ⊥).
      subst (EndsFrom places most p) (sym (get_or-set_other minutes place p new 0 other))
      (are.below p (let apart : p ≢ place = other in omega arith) there))
      (cases_eq p place);
  above = λ m past is.
      let same = get_or-set_other minutes place m.to new 0 (let apart : m.to ≢ place = omega arith in apart) in
      let le = are.above m (omega arith) is in
      omega (arith, same, le);
}

-- past the places for which there are minutes nothing is changed
pub earliest-past : (places : Places) (most : ℕ) (minutes : List ℕ) (place : ℕ) → length minutes ≤ place
    → AreEarliestBelow places most minutes place → AreEarliestBelow places most minutes (place + 1)
earliest-past places most minutes place past are = record {
  below = λ p less there. ⊎_elim
      (λ (before : p < place). are.below p before there)
      (λ (here : place ≤ p). subst (EndsFrom places most p) (sym (get_or_past minutes p 0 (omega arith))) (ends-from_start places most p))
      (cases_lt p place);
  above = λ m h is. are.above m (omega arith) is;
}

-- of all places it is
pub earliest-all : (places : Places) (most : ℕ) (minutes : List ℕ) (place : ℕ) → places.count ≤ place
    → AreEarliestBelow places most minutes place → AreEarliest places most minutes
earliest-all places most minutes place all are = λ p within. are.below p (omega arith) within
