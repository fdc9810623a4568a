-- Looks that are taken one after the other: no two of them are alike.
use Rattle.std.proofs.Common.{◌≡◌, ◌≢◌, ℕ, ◌+◌, ◌-◌, ◌<◌, ◌≤◌, List, [], ◌∷◌, ◌++◌, length, length-append, append_assoc, append-nil, set, None}
use Rattle.std.proofs.Common.{refl, sym, ap, subst, ◌∙◌, arith}
use Rattle.std.specs.Prelude.{zero, suc, map}
use Rattle.std.specs.List.{All, range_with_len}
use Rattle.std.proofs.lemmas.List.{append_cancel_left, get_or-set_same, get_or-set_other}
use Rattle.std.proofs.lemmas.List.Elements.{All-nil, All-cons, All-head, All-tail, All-append, All-weaker}
use Rattle.std.proofs.lemmas.List.FromFn.{map-range_with_len_more, length-map-range_with_len}
use Rattle.pair_search.specs.declared.look.Look.{Look}
use Rattle.pair_search.specs.declared.look.Look.TheVariants.{Visited, Passed}
use Rattle.pair_search.specs.Groups.{group_at, begins, AreGroups}
use Rattle.pair_search.specs.Search.{at}
use Rattle.pair_search.specs.Side.{SideView, side_slots, place_weight}
use Rattle.pair_search.specs.Visits.{row_of, place_of, IsLook, AreSearches, AreUnlike, IsBetween, IsOfOthers, RowLooks, SearchesOnce, Takes}
use Rattle.pair_search.proofs.GroupLemmas.{begins-there}

-- looks of two kinds, where no look is of both
unlike-append : (P Q : Look → Type 0) → ((x y : Look) → P x → Q y → x ≢ y) → (xs ys : List Look) → All P xs → All Q ys
    → AreUnlike xs → AreUnlike ys → AreUnlike (xs ++ ys)
unlike-append P Q other [] ys p q u v = v
unlike-append P Q other (x ∷ xs) ys p q u v = (
  All-append (λ y. x ≢ y) xs ys u.0 (All-weaker Q (λ y. x ≢ y) (λ y is. other x y (All-head P x xs p) is) ys q),
  unlike-append P Q other xs ys (All-tail P x xs p) q u.1 v,
)

once-append : (side : SideView) (P Q : Look → Type 0) → ((x y : Look) → P x → Q y → x ≢ y) → (xs ys : List Look) → All P xs → All Q ys
    → SearchesOnce side xs → SearchesOnce side ys → SearchesOnce side (xs ++ ys)
once-append side P Q other xs ys p q a b = record {
  each = All-append (IsLook side) xs ys a.each b.each;
  unlike = unlike-append P Q other xs ys p q a.unlike b.unlike;
}

-- no look
pub once-none : (side : SideView) → SearchesOnce side []
once-none side = record { each = All-nil (IsLook side); unlike = tt }

-- a row takes no look
row-none : (side : SideView) (row from to : ℕ) → from ≤ to → RowLooks side row from to []
row-none side row from to le = record {
  few = omega (arith, le);
  once = once-none side;
  between = All-nil (IsBetween side row from to);
}

-- a row takes one look
row-one : (side : SideView) (row from to : ℕ) (look : Look) → from < to → IsLook side look → IsBetween side row from to look
    → RowLooks side row from to (look ∷ [])
row-one side row from to look lt is between = record {
  few = omega (arith, lt);
  once =
      record {
        each = All-cons (IsLook side) look [] is (All-nil (IsLook side));
        unlike = (All-nil (λ other. look ≢ other), tt);
      };
  between = All-cons (IsBetween side row from to) look [] between (All-nil (IsBetween side row from to));
}

-- a row looks on
pub row-append : (side : SideView) (row from mid to : ℕ) (xs ys : List Look) → RowLooks side row from mid xs → RowLooks side row mid to ys
    → RowLooks side row from to (xs ++ ys)
row-append side row from mid to xs ys a b = record {
  few = omega (arith, a.few, b.few, length-append xs ys);
  once =
      once-append side (IsBetween side row from mid) (IsBetween side row mid to)
      (λ x y p q e. absurd (omega (arith, p.2, q.1, ap (place_of side.groups) e))) xs ys a.between b.between a.once b.once;
  between =
      All-append (IsBetween side row from to) xs ys
      (All-weaker (IsBetween side row from mid) (IsBetween side row from to)
      (λ x p. (p.0, p.1, omega (arith, p.2, b.few))) xs a.between)
      (All-weaker (IsBetween side row mid to) (IsBetween side row from to)
      (λ x p. (p.0, omega (arith, p.1, a.few), p.2)) ys b.between);
}

-- a row visits columns that stand next to each other
row-visits : (side : SideView) (row first m : ℕ) → row < side_slots side → first + m ≤ side_slots side
    → ((j : ℕ) → first ≤ j → j < first + m → place_weight side row j ≢ None)
    → RowLooks side row first (first + m) (map (Visited row) (range_with_len first m))
row-visits side row first zero inside within fits = row-none side row first (first + zero) (omega arith)
row-visits side row first (suc m) inside within fits =
    let e : m + 1 ≡ suc m = omega arith in
    subst (λ n. RowLooks side row first (first + n) (map (Visited row) (range_with_len first n))) e
    (subst (RowLooks side row first (first + (m + 1))) (sym (map-range_with_len_more (Visited row) first m (first + m) refl))
    (row-append side row first (first + m) (first + (m + 1)) (map (Visited row) (range_with_len first m)) (Visited row (first + m) ∷ [])
    (row-visits side row first m inside (omega (arith, within)) (λ j from to. fits j from (omega (arith, to))))
    (row-one side row (first + m) (first + (m + 1)) (Visited row (first + m)) (omega arith)
    (inside, omega (arith, within), fits (first + m) (omega arith) (omega arith))
    (refl, omega arith, omega arith))))

-- a row passes groups that follow on each other
row-passes : (side : SideView) (row a m : ℕ) → AreGroups (side_slots side) side.columns side.count side.groups → row < side_slots side
    → a + m ≤ side.count
    → RowLooks side row (begins (side_slots side) side.count side.groups a) (begins (side_slots side) side.count side.groups (a + m))
    (map (Passed row) (range_with_len a m))
row-passes side row a zero are inside within =
    row-none side row (begins (side_slots side) side.count side.groups a) (begins (side_slots side) side.count side.groups (a + zero))
    (omega (arith, ap (begins (side_slots side) side.count side.groups) (the-same a)))
  where
    the-same : (a : ℕ) → a ≡ a + zero
    the-same a = omega arith
row-passes side row a (suc m) are inside within =
    let e : m + 1 ≡ suc m = omega arith in
    let r = a + m in
    let lt : r < side.count = omega (arith, within) in
    let start = begins (side_slots side) side.count side.groups in
    let here : start r ≡ (group_at side.groups r).from = begins-there (side_slots side) side.count side.groups r lt in
    let next : (group_at side.groups r).to ≡ start (a + (m + 1)) = are.next r lt ∙ ap start (omega arith) in
    let some : (group_at side.groups r).from < (group_at side.groups r).to = are.after r lt in
    subst (λ n. RowLooks side row (start a) (start (a + n)) (map (Passed row) (range_with_len a n))) e
    (subst (RowLooks side row (start a) (start (a + (m + 1)))) (sym (map-range_with_len_more (Passed row) a m r refl))
    (row-append side row (start a) (start r) (start (a + (m + 1))) (map (Passed row) (range_with_len a m)) (Passed row r ∷ [])
    (row-passes side row a m are inside (omega (arith, within)))
    (row-one side row (start r) (start (a + (m + 1))) (Passed row r) (omega (arith, here, next, some)) (inside, lt)
    (refl, omega (arith, here), omega (arith, here, next, some)))))

-- a row looks at no column beyond others
pub row-wider : (side : SideView) (row from to start end : ℕ) (xs : List Look) → start ≤ from → to ≤ end → RowLooks side row from to xs
    → RowLooks side row start end xs
row-wider side row from to start end xs low high a = record {
  few = omega (arith, a.few, low, high);
  once = a.once;
  between =
      All-weaker (IsBetween side row from to) (IsBetween side row start end)
      (λ x p. (p.0, omega (arith, p.1, low), omega (arith, p.2, high))) xs a.between;
}

-- looks are taken after others
pub Takes-append : (P Q R : List Look → Type 0) → ((xs ys : List Look) → P xs → Q ys → R (xs ++ ys)) → (was mid now : List Look)
    (paid spent total : ℕ)
    → Takes P was mid paid spent → Takes Q mid now spent total → Takes R was now paid total
Takes-append P Q R both was mid now paid spent total a b = record {
  looks = a.looks ++ b.looks;
  after = b.after ∙ ap (λ l. l ++ b.looks) a.after ∙ append_assoc was a.looks b.looks;
  steps = omega (arith, a.steps, b.steps, length-append a.looks b.looks);
  are = both a.looks b.looks a.are b.are;
}

-- looks that are such are also others
pub Takes-weaker : (P Q : List Look → Type 0) → ((xs : List Look) → P xs → Q xs) → (was now : List Look) (paid total : ℕ)
    → Takes P was now paid total → Takes Q was now paid total
Takes-weaker P Q more was now paid total a = record { looks = a.looks; after = a.after; steps = a.steps; are = more a.looks a.are }

-- a look is of a row of the tree past the first
abbrev pub IsOfTree : List ℕ → ℕ → Look → Type 0
IsOfTree rows size look = (t : ℕ) × (0 < t) × (t < size) × (at rows t ≡ row_of look)

-- the looks of the rows of a tree past the first
pub record TreeLooks (side : SideView) (rows : List ℕ) (size : ℕ) (looks : List Look) : Type 0 where
  pub once : SearchesOnce side looks
  pub each : All (IsOfTree rows size) looks

-- the first row is no other
pub TreeLooks-others : (side : SideView) (rows : List ℕ) (size first : ℕ) → ((t : ℕ) → 0 < t → t < size → first ≢ at rows t)
    → (looks : List Look) → TreeLooks side rows size looks → IsOfOthers side first looks
TreeLooks-others side rows size first apart looks tree = record {
  once = tree.once;
  others =
      All-weaker (IsOfTree rows size) (λ look. row_of look ≢ first)
      (λ look p e. apart p.0 p.1 p.2 (sym e ∙ sym p.3)) looks tree.each;
}

-- one more row comes into the tree
pub TreeLooks-more : (side : SideView) (rows now : List ℕ) (size row : ℕ) → 0 < size → size < length rows → now ≡ set rows size row
    → ((t : ℕ) → t < size → at now t ≢ at now size)
    → (xs ys : List Look) → TreeLooks side rows size xs → RowLooks side row 0 (side_slots side) ys
    → TreeLooks side now (size + 1) (xs ++ ys)
TreeLooks-more side rows now size row some room is apart xs ys tree one = record {
  once =
      once-append side (IsOfTree rows size) (IsBetween side row 0 (side_slots side))
      (λ x y p q e. apart p.0 p.2 (before p.0 p.2 ∙ p.3 ∙ ap row_of e ∙ q.0 ∙ sym here)) xs ys tree.each one.between
      tree.once one.once;
  each =
      All-append (IsOfTree now (size + 1)) xs ys
      (All-weaker (IsOfTree rows size) (IsOfTree now (size + 1))
      (λ look p. (p.0, p.1, omega (arith, p.2), before p.0 p.2 ∙ p.3)) xs tree.each)
      (All-weaker (IsBetween side row 0 (side_slots side)) (IsOfTree now (size + 1))
      (λ look q. (size, some, omega arith, here ∙ sym q.0)) ys one.between);
}
  where
    here : at now size ≡ row
    here = ap (λ xs. at xs size) is ∙ get_or-set_same rows size row 0 room

    before : (t : ℕ) → t < size → at now t ≡ at rows t
    before t lt = ap (λ xs. at xs t) is ∙ get_or-set_other rows size t row 0 (λ e. absurd (omega (arith, lt, e)))

-- the looks of the first row, and those of the others
pub search-once : (side : SideView) (first : ℕ) (xs ys : List Look) → RowLooks side first 0 (side_slots side) xs → IsOfOthers side first ys
    → SearchesOnce side (xs ++ ys)
search-once side first xs ys one rest =
    once-append side (IsBetween side first 0 (side_slots side)) (λ look. row_of look ≢ first)
    (λ x y is other e. other (ap row_of (sym e) ∙ is.0)) xs ys one.between rest.others one.once rest.once

-- one more search
pub AreSearches-more : (side : SideView) (searches : ℕ) (xs ys : List Look) → AreSearches searches side xs → SearchesOnce side ys
    → AreSearches (searches + 1) side (xs ++ ys)
AreSearches-more side searches xs ys before last =
    let e : suc searches ≡ searches + 1 = omega arith in
    subst (λ n. AreSearches n side (xs ++ ys)) e (xs, ys, refl, before, last)

-- no look is taken
pub Takes-none : (P : List Look → Type 0) → P [] → (was : List Look) (paid : ℕ) → Takes P was was paid paid
Takes-none P are was paid = record { looks = []; after = sym (append-nil was); steps = omega arith; are = are }

-- a row takes one look
pub Takes-one : (side : SideView) (row from to : ℕ) (look : Look) → from < to → IsLook side look → IsBetween side row from to look
    → (was now : List Look) (paid total : ℕ) → now ≡ was ++ look ∷ [] → total ≡ paid + 1
    → Takes (RowLooks side row from to) was now paid total
Takes-one side row from to look lt is between was now paid total after one = record {
  looks = look ∷ [];
  after = after;
  steps = omega (arith, one);
  are = row-one side row from to look lt is between;
}

-- a row visits columns that stand next to each other
pub Takes-visits : (side : SideView) (row from to first upto : ℕ) → row < side_slots side → from ≤ first → first ≤ upto → upto ≤ to
    → to ≤ side_slots side
    → ((j : ℕ) → first ≤ j → j < upto → place_weight side row j ≢ None)
    → (was now : List Look) (paid total : ℕ) → now ≡ was ++ map (Visited row) (range_with_len first (upto - first))
    → total ≡ paid + (upto - first) → Takes (RowLooks side row from to) was now paid total
Takes-visits side row from to first upto inside low le high within fits was now paid total after steps = record {
  looks = map (Visited row) (range_with_len first (upto - first));
  after = after;
  steps = omega (arith, steps, length-map-range_with_len (Visited row) first (upto - first));
  are =
      row-wider side row first (first + (upto - first)) from to (map (Visited row) (range_with_len first (upto - first))) low
      (omega (arith, le, high))
      (row-visits side row first (upto - first) inside (omega (arith, le, high, within))
      (λ j after before. fits j after (omega (arith, before, le))));
}

-- a row passes groups up to another one
pub Takes-passed : (side : SideView) (row a b : ℕ) → AreGroups (side_slots side) side.columns side.count side.groups → row < side_slots side
    → a ≤ b → b ≤ side.count
    → (was now : List Look) (paid total : ℕ) → now ≡ was ++ map (Passed row) (range_with_len a (b - a)) → total ≡ paid + (b - a)
    → Takes (RowLooks side row (begins (side_slots side) side.count side.groups a) (begins (side_slots side) side.count side.groups b))
    was now paid total
Takes-passed side row a b are inside le within was now paid total after steps = record {
  looks = map (Passed row) (range_with_len a (b - a));
  after = after;
  steps = omega (arith, steps, length-map-range_with_len (Passed row) a (b - a));
  are =
      subst (λ r. RowLooks side row (begins (side_slots side) side.count side.groups a)
      (begins (side_slots side) side.count side.groups r) (map (Passed row) (range_with_len a (b - a)))) (omega (arith, le))
      (row-passes side row a (b - a) are inside (omega (arith, le, within)));
}

-- one more is listed
pub listed-more : (f : ℕ → Look) (was mid now : List Look) (first column : ℕ) → first ≤ column
    → mid ≡ was ++ map f (range_with_len first (column - first)) → now ≡ mid ++ f column ∷ []
    → now ≡ was ++ map f (range_with_len first (column + 1 - first))
listed-more f was mid now first column le listed more =
    let e : column - first + 1 ≡ column + 1 - first = omega (arith, le) in
    more ∙ ap (λ l. l ++ f column ∷ []) listed ∙ append_assoc was (map f (range_with_len first (column - first))) (f column ∷ [])
    ∙ ap (λ l. was ++ l) (sym (map-range_with_len_more f first (column - first) column (omega (arith, le)))
    ∙ ap (λ n. map f (range_with_len first n)) e)

-- what holds of each element holds of one that stands there
all-there : (P : Look → Type 0) (xs : List Look) (y : Look) (ys : List Look) → All P (xs ++ y ∷ ys) → P y
all-there P [] y ys all = All-head P y ys all
all-there P (x ∷ xs) y ys all = all-there P xs y ys (All-tail P x (xs ++ y ∷ ys) all)

unlike-rest : (xs ys : List Look) → AreUnlike (xs ++ ys) → AreUnlike ys
unlike-rest [] ys u = u
unlike-rest (x ∷ xs) ys u = unlike-rest xs ys u.1

-- a search takes no look twice
pub not-twice : (side : SideView) (xs ys zs : List Look) (look : Look) → SearchesOnce side (xs ++ look ∷ (ys ++ look ∷ zs)) → ⊥
not-twice side xs ys zs look once =
    all-there (λ other. look ≢ other) ys look zs (unlike-rest xs (look ∷ (ys ++ look ∷ zs)) once.unlike).0 refl

-- the looks of a call are those by which the list grew
pub Takes-grown : (P : List Look → Type 0) (was looks : List Look) (paid total : ℕ) → Takes P was (was ++ looks) paid total
    → P looks × (total ≡ paid + length looks)
Takes-grown P was looks paid total takes =
    let same : takes.looks ≡ looks = sym (append_cancel_left was looks takes.looks takes.after) in
    (subst P same takes.are, takes.steps ∙ ap (λ l. paid + length l) same)
