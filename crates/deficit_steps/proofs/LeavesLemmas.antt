-- The leaves of a tree as the changes of a place: what is read and written there, and what its greatest prefix sum is.
use Rattle.std.proofs.Common.{◌≡◌, ℕ, ◌+◌, ◌<◌, List, length, get_or, set, take, fold, All, ℤ, pos, ◌+ℤ◌, ◌≤ℤ◌, ◌<ℤ◌, sym, ap, subst, ◌∙◌}
use Rattle.std.proofs.Common.{⊎_elim, arith}
use Rattle.std.specs.Prelude.{Option, Some, None, IfNone, option_map, slice_get}
use Rattle.std.specs.Int.{int_max}
use Rattle.std.proofs.lemmas.Int.{ints, clamps}
use Rattle.std.proofs.lemmas.List.{length-map, get_or-map, map-set, take-map}
use Rattle.std.proofs.lemmas.List.Folds.{fold-map}
use Rattle.std.proofs.lemmas.Option.{slice_get-map, get_or_from_slice_get}
use Rattle.terminal_maxima.specs.declared.max_prefix.MaxPrefix.{MaxPrefix}
use Rattle.terminal_maxima.specs.MaxPrefix.{SumsLeaves, no_leaf}
use Rattle.terminal_maxima.specs.Reaching.{prefix_sum, IsGreatestPrefix, IsFirstReaching, NoneReaches}
use Rattle.trip_model.specs.Maximum.{first_maximum}
use Rattle.trip_model.proofs.MaximumLemmas.{IsFirstMaximum-first_maximum, first_maximum-le, first_maximum-unique}
use Rattle.deficit_steps.specs.Changes.{IsChange, AreChanges, value_in, with_change_in}
use Rattle.deficit_steps.specs.Leaves.{sums}
use Rattle.deficit_steps.specs.NextMaximum.{IsNextMaximum, NoNextMaximum}
use Rattle.deficit_steps.proofs.RowLemmas.{value-first, same_number}

-- a leaf that is read sums the change of its minute
leaf_read : (leaves : List MaxPrefix) (n : ℕ) (leaf : MaxPrefix) → slice_get leaves n ≡ Some leaf
    → get_or (sums leaves) n (pos 0) ≡ leaf.sum
leaf_read leaves n leaf read =
    get_or_from_slice_get (sums leaves) n leaf.sum (pos 0)
    (slice_get-map (λ (l : MaxPrefix). l.sum) leaves n ∙ ap (λ (o : Option MaxPrefix). option_map (λ (l : MaxPrefix). l.sum) o) read)

-- the same, of the changes that the leaves sum
pub change_read : (leaves : List MaxPrefix) (changes : List ℤ) (n : ℕ) (leaf : MaxPrefix) → sums leaves ≡ changes
    → slice_get leaves n ≡ Some leaf → get_or changes n (pos 0) ≡ leaf.sum
change_read leaves changes n leaf same read = sym (ap (λ xs. get_or xs n (pos 0)) same) ∙ leaf_read leaves n leaf read

-- the prefix sums of the leaves are the values
pub prefix_value : (leaves : List MaxPrefix) (n : ℕ) → prefix_sum leaves n ≡ value_in (sums leaves) n
prefix_value leaves n =
    sym (ap (λ xs. fold ◌+ℤ◌ (pos 0) xs) (take-map (λ (l : MaxPrefix). l.sum) (n + 1) leaves)
    ∙ fold-map ◌+ℤ◌ (λ (l : MaxPrefix). l.sum) (pos 0) (take (n + 1) leaves))

-- leaves that are all units have no changes
pub no_changes : (leaves : List MaxPrefix) → length leaves ≡ 8192 → All (λ leaf. leaf ≡ no_leaf) leaves → All (λ c. c ≡ pos 0) (sums leaves)
no_changes leaves len units = λ n d h.
    let l = length-map leaves (λ (l : MaxPrefix). l.sum) in
    let there : n < length leaves = omega arith in
    get_or-map (λ (l : MaxPrefix). l.sum) leaves n no_leaf d there ∙ ap (λ (l : MaxPrefix). l.sum) (units n no_leaf there)

pub AreChanges-none : (changes : List ℤ) → length changes ≡ 8192 → All (λ c. c ≡ pos 0) changes → AreChanges changes
AreChanges-none changes len none = record {
  minutes = len;
  bounded = λ n d h. rw (none n d h) (omega (arith, ints), omega (arith, ints));
  begins = rw (none 0 (pos 0) (omega arith)) (omega (arith, ints));
}

-- the greatest prefix sum is the greatest value, since the first change is not below 0
pub greatest_value : (leaves : List MaxPrefix) (high : ℤ) → AreChanges (sums leaves) → IsGreatestPrefix leaves high
    → (first_maximum (value_in (sums leaves))).0 ≡ high
greatest_value leaves high valid greatest =
    let d = value_in (sums leaves) in
    let top = IsFirstMaximum-first_maximum d in
    let w = top.within in
    let len : length leaves ≡ 8192 = sym (length-map leaves (λ (l : MaxPrefix). l.sum)) ∙ valid.minutes in
    let below : prefix_sum leaves (first_maximum d).1 ≤ℤ high = greatest.above_all (first_maximum d).1 (omega arith) in
    same_number _ _ (subst (λ v. v ≤ℤ high) (prefix_value leaves (first_maximum d).1 ∙ top.reached) below)
    (⊎_elim
    (λ (zero_high : high ≡ pos 0). subst (λ v. v ≤ℤ (first_maximum d).0) (sym zero_high)
    (first_maximum-le d (subst (λ v. pos 0 ≤ℤ v) (sym (value-first (sums leaves) valid)) valid.begins)))
    (λ (there : (place : ℕ) × (place < length leaves) × (prefix_sum leaves place ≡ high)). subst (λ v. v ≤ℤ (first_maximum d).0)
    (sym (prefix_value leaves there.0) ∙ there.2) (top.greatest there.0 (let h = there.1 in omega arith)))
    greatest.attained)

-- the first place from some minute on that reaches the greatest prefix sum is the first one with the greatest value
pub IsNextMaximum-reaching : (leaves : List MaxPrefix) (high : ℤ) (from at : ℕ) → AreChanges (sums leaves) → IsGreatestPrefix leaves high
    → IsFirstReaching leaves from high at
    → IsNextMaximum (value_in (sums leaves)) from at
IsNextMaximum-reaching leaves high from at valid greatest found =
    let d = value_in (sums leaves) in
    let top = greatest_value leaves high valid greatest in
    let len : length leaves ≡ 8192 = sym (length-map leaves (λ (l : MaxPrefix). l.sum)) ∙ valid.minutes in
    record {
      not_before = found.not_before;
      within = (let r = found.in_range in omega arith);
      reached = sym (prefix_value leaves at) ∙ same_number _ _ (greatest.above_all at found.in_range) found.reaches ∙ sym top;
      first = λ t after before. subst (λ h. d t <ℤ h) (sym top)
          (subst (λ v. v <ℤ high) (prefix_value leaves t) (found.first t after before));
    }

pub NoNextMaximum-reaching : (leaves : List MaxPrefix) (high : ℤ) (from : ℕ) → AreChanges (sums leaves) → IsGreatestPrefix leaves high
    → NoneReaches leaves from high
    → NoNextMaximum (value_in (sums leaves)) from
NoNextMaximum-reaching leaves high from valid greatest none = λ t after within.
    let d = value_in (sums leaves) in
    let len : length leaves ≡ 8192 = sym (length-map leaves (λ (l : MaxPrefix). l.sum)) ∙ valid.minutes in
    subst (λ h. d t <ℤ h) (sym (greatest_value leaves high valid greatest))
    (subst (λ v. v <ℤ high) (prefix_value leaves t) (none t after (omega arith)))

-- some place reaches it
pub some_reach : (leaves : List MaxPrefix) (high : ℤ) → AreChanges (sums leaves) → IsGreatestPrefix leaves high → NoneReaches leaves 0 high
    → ⊥
some_reach leaves high valid greatest none =
    let d = value_in (sums leaves) in
    let top = IsFirstMaximum-first_maximum d in
    let below = NoNextMaximum-reaching leaves high 0 valid greatest none (first_maximum d).1 (omega arith) top.within in
    let reached = top.reached in
    absurd (grind (arith, ints))

-- and the first of all that does is the first maximum
pub first_maximum-reaching : (leaves : List MaxPrefix) (high : ℤ) (at : ℕ) → AreChanges (sums leaves) → IsGreatestPrefix leaves high
    → IsFirstReaching leaves 0 high at
    → first_maximum (value_in (sums leaves)) ≡ (high, at)
first_maximum-reaching leaves high at valid greatest found =
    let d = value_in (sums leaves) in
    let top = greatest_value leaves high valid greatest in
    let next = IsNextMaximum-reaching leaves high 0 at valid greatest found in
    first_maximum-unique d high at (record {
      within = next.within;
      reached = next.reached ∙ top;
      greatest = λ t h. subst (λ m. d t ≤ℤ m) top ((IsFirstMaximum-first_maximum d).greatest t h);
      first = λ t h. subst (λ m. d t <ℤ m) top (next.first t (omega arith) h);
    })

-- one leaf changed changes one change
pub leaf_written : (leaves : List MaxPrefix) (changes : List ℤ) (n : ℕ) (by : ℤ) (leaf : MaxPrefix) → sums leaves ≡ changes
    → leaf.sum ≡ get_or changes n (pos 0) +ℤ by
    → sums (set leaves n leaf) ≡ with_change_in changes n by
leaf_written leaves changes n by leaf same raised =
    map-set (λ (l : MaxPrefix). l.sum) leaves n leaf ∙ (λ i. set (same i) n (raised i))

-- the leaf of a change sums that one leaf
pub SumsLeaves-change : (leaf : MaxPrefix) → IsChange leaf.sum → leaf.high ≡ int_max leaf.sum (pos 0) → SumsLeaves leaf 1
SumsLeaves-change leaf change high =
    let low = change.0 in
    let up = change.1 in
    record {
      above = omega (arith, ints);
      below = omega (arith, ints, clamps);
      from_zero = omega (arith, ints, clamps);
      high_below = omega (arith, ints, clamps);
      of_one = λ few. omega (arith, ints, clamps);
    }

-- what follows from what a clause says of `None`
pub IfNone_then : {X : Type 0} (r : Option X) {P Q : Type 0} → IfNone r P → (P → Q) → IfNone r Q
IfNone_then None none then = then none
IfNone_then (Some x) none then = tt
