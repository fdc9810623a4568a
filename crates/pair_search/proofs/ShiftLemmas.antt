-- Where a search has ended, the shift of prices keeps links tight and pairs covered.
use Rattle.std.proofs.Common.{◌≡◌, ◌≢◌, ℕ, ◌+◌, ◌-◌, ◌<◌, ◌≤◌, Bool, true, false, List, length, set, Option, None, Some, refl, sym, ap}
use Rattle.std.proofs.Common.{subst, ◌∙◌, ⊎_elim, arith}
use Rattle.std.specs.Prelude.{IsSome, IfSome}
use Rattle.std.proofs.lemmas.Bool.{cases_Bool, cases_eq, cases_lt}
use Rattle.std.proofs.lemmas.List.{get_or-set_same, get_or-set_other, get_or_past}
use Rattle.std.proofs.lemmas.Option.{none-some, same_Some}
use Rattle.trip_model.specs.Links.{next_of, before_of}
use Rattle.trip_model.proofs.BeforeLemmas.{next-before, before-next, next-within}
use Rattle.assignment_model.specs.Paths.{AreNextTrips}
use Rattle.assignment_model.specs.Prices.{price}
use Rattle.pair_search.specs.declared.grow.End.{End}
use Rattle.pair_search.specs.Assignment.{AreWeights, IsMatched, Covers, MayBegin}
use Rattle.pair_search.specs.Inverse.{IsInverse}
use Rattle.pair_search.specs.Relinking.{lost, IsShifted, IsAlong, LeadsBack, IsTightBack, IsPassing}
use Rattle.pair_search.specs.Search.{at, is_done, Problem, problem, IsGiven, TreeView, IsVia, IsTree, HasEnded}
use Rattle.pair_search.proofs.InverseLemmas.{inverse-before}

-- linked rows and columns are among so many
pub AreNextTrips-matched : (w : ℕ → ℕ → Option ℕ) (n : ℕ) (out : ℕ → Bool) (a b : Option ℕ) (next : List (Option ℕ)) (leave enter : List ℕ)
    → AreWeights w n → length next ≡ n
    → IsMatched w out a b next leave enter → AreNextTrips next
AreNextTrips-matched w n out a b next leave enter weights len matched = record {
  within = λ i j e. omega (arith, (weights.within i j (price leave i + price enter j) (matched.tight i j e)).1, len);
  once = matched.once;
}

-- a column that fits a row has no price above the greatest
pub enter-low : (w : ℕ → ℕ → Option ℕ) (n : ℕ) (out : ℕ → Bool) (a b : Option ℕ) (next : List (Option ℕ)) (leave enter : List ℕ)
    → AreWeights w n
    → IsMatched w out a b next leave enter → (i j k : ℕ) → w i j ≡ Some k → price enter j ≤ 4503599627370496
enter-low w n out a b next leave enter weights matched i j k fits = by (before_of next j) refl
  where
    by : (before : Option ℕ) → before_of next j ≡ before → price enter j ≤ 4503599627370496
    by None e =
        omega (
          arith,
          matched.enter_zero j (λ last. none-some k (sym (matched.last i j last) ∙ fits))
              (λ h linked. none-some h (sym e ∙ before-next next h j matched.once linked)),
        )
    by (Some h) e =
        let linked = matched.tight h j (next-before next h j e) in
        omega (arith, weights.most h j (price leave h + price enter j) linked)

-- a row other than the one at which a search begins has no price above it
leave-low : (w : ℕ → ℕ → Option ℕ) (n : ℕ) (out : ℕ → Bool) (a b : Option ℕ) (next : List (Option ℕ)) (leave enter : List ℕ)
    → AreWeights w n
    → IsMatched w out a b next leave enter → (i : ℕ) → a ≢ Some i → price leave i ≤ 4503599627370496
leave-low w n out a b next leave enter weights matched i other = by (next_of next i) refl
  where
    by : (to : Option ℕ) → next_of next i ≡ to → price leave i ≤ 4503599627370496
    by None e = omega (arith, matched.leave_zero i other e)
    by (Some j) e = omega (arith, weights.most i j (price leave i + price enter j) (matched.tight i j e))

set-other : (leave : List ℕ) (a x i : ℕ) → Some a ≢ Some i → price (set leave a x) i ≡ price leave i
set-other leave a x i other = get_or-set_other leave a i x 0 (λ e. other (ap Some (sym e)))

-- the price of the row at which a search begins is not asked
matched-set : (w : ℕ → ℕ → Option ℕ) (out : ℕ → Bool) (a x : ℕ) (b : Option ℕ) (next : List (Option ℕ)) (leave enter : List ℕ)
    → IsMatched w out (Some a) b next leave enter
    → IsMatched w out (Some a) b next (set leave a x) enter
matched-set w out a x b next leave enter matched = record {
  once = matched.once;
  tight = λ i j e.
      let other : Some a ≢ Some i = λ same. none-some j (sym (matched.first i same) ∙ e) in
      matched.tight i j e ∙ ap (λ k. Some (k + price enter j)) (sym (set-other leave a x i other));
  left = matched.left;
  first = matched.first;
  last = matched.last;
  leave_zero = λ i other none. set-other leave a x i other ∙ matched.leave_zero i other none;
  enter_zero = matched.enter_zero;
}

covers-set : (w : ℕ → ℕ → Option ℕ) (out : ℕ → Bool) (a x : ℕ) (leave enter : List ℕ) → Covers w out (Some a) leave enter
    → Covers w out (Some a) (set leave a x) enter
covers-set w out a x leave enter covers i j k inside other fits = omega (arith, covers i j k inside other fits, set-other leave a x i other)

-- what a search is given as it begins
IsGiven-begun : (w : ℕ → ℕ → Option ℕ) (n : ℕ) (out : ℕ → Bool) (a : ℕ) (b : Option ℕ) (next before : List (Option ℕ))
    (leave enter : List ℕ) → n ≤ 4096 → AreWeights w n
    → length next ≡ n → length leave ≡ n → IsInverse (length next) next before → MayBegin w n out a b next leave enter
    → IsGiven (problem w n a before (set leave a 4503599627370496) enter)
IsGiven-begun w n out a b next before leave enter few weights len len' inverse begins =
    let matched = begins.matched in
    let root : price (set leave a 4503599627370496) a ≡ 4503599627370496 = get_or-set_same leave a 4503599627370496 0 (omega (arith, begins.start, len')) in
    record {
      few = few;
      weights = weights;
      start = begins.start;
      root = λ j e. none-some j (sym (matched.first a refl) ∙ (inverse.linked a j e).1);
      once = λ h j i e f. same_Some h j (sym (inverse.linked i h e).1 ∙ (inverse.linked i j f).1);
      rows = λ i j e. let linked = (inverse.linked i j e).1 in
          weights.within i j (price leave i + price enter j) (matched.tight i j linked);
      leave_low = λ i. ⊎_elim
          (λ (e : i ≡ a). let same : price (set leave a 4503599627370496) i ≡ price (set leave a 4503599627370496) a = ap (price (set leave a 4503599627370496))
          e in omega (arith, same, root))
          (λ (ne : i ≡ a → ⊥).
          let other : Some a ≢ Some i = λ e. ne (sym (same_Some a i e)) in
          omega (arith, set-other leave a 4503599627370496 i other, leave-low w n out (Some a) b next leave enter weights matched i other))
          (cases_eq i a);
      enter_low = enter-low w n out (Some a) b next leave enter weights matched;
      covers = λ i j k inside fits. ⊎_elim
          (λ (e : i ≡ a).
          let same : price (set leave a 4503599627370496) i ≡ price (set leave a 4503599627370496) a = ap (price (set leave a 4503599627370496)) e in
          omega (arith, same, root, weights.most i j k fits))
          (λ (linked : (h : ℕ) × (next_of before h ≡ Some i)).
          let to = (inverse.linked i linked.0 linked.1).1 in
          let other : Some a ≢ Some i = λ e. none-some linked.0 (sym (matched.first i e) ∙ to) in
          omega (arith, set-other leave a 4503599627370496 i other, begins.covers i j k (in-tree i linked.0 to (out i) refl) other fits))
          inside;
    }
  where
    in-tree : (i j : ℕ) → next_of next i ≡ Some j → (left : Bool) → out i ≡ left → out i ≡ false
    in-tree i j to false e = e
    in-tree i j to true e = absurd (none-some j (sym (begins.matched.left i e) ∙ to))

-- the same, said of the first row of the tree and of the prices that it begins with
pub given-at : (w : ℕ → ℕ → Option ℕ) (n : ℕ) (out : ℕ → Bool) (a : ℕ) (b : Option ℕ) (next before : List (Option ℕ))
    (leave enter : List ℕ) (first : ℕ) (raised : List ℕ)
    → n ≤ 4096 → AreWeights w n → length next ≡ n → length leave ≡ n → IsInverse (length next) next before
    → MayBegin w n out a b next leave enter → first ≡ a → raised ≡ set leave a 4503599627370496
    → IsGiven (problem w n first before raised enter)
given-at w n out a b next before leave enter first raised few weights len len' inverse begins same set-is =
    subst (λ x. IsGiven (problem w n x before raised enter)) (sym same)
    (subst (λ prices. IsGiven (problem w n a before prices enter)) (sym set-is)
    (IsGiven-begun w n out a b next before leave enter few weights len len' inverse begins))

-- a search has ended over links that are matched but for its first row
pub record IsOver (p : Problem) (s : TreeView) (end : End) (out : ℕ → Bool) (b : Option ℕ) (next : List (Option ℕ)) : Type 0 where
  pub given : IsGiven p
  pub tree : IsTree p s
  pub ended : HasEnded p s end
  pub inside : out p.a ≡ false
  pub matched : IsMatched p.w out (Some p.a) b next p.leave p.enter
  pub covers : Covers p.w out (Some p.a) p.leave p.enter
  pub inverse : IsInverse (length next) next p.before
  pub slots : length next ≡ p.n

-- the row that is linked to a column that is done, and its place
pub place-of : (p : Problem) (s : TreeView) (end : End) (out : ℕ → Bool) (b : Option ℕ) (next : List (Option ℕ)) → IsOver p s end out b next
    → (i j : ℕ) → next_of next i ≡ Some j
    → is_done s.done j ≡ true → (t : ℕ) × (t < s.size) × (at s.rows t ≡ i) × (at s.dist j ≡ at s.far t)
place-of p s end out b next o i j linked done =
    let before = o.inverse.told i j (next-within next i j linked) linked in
    let at-tree = o.tree.done j (o.given.rows i j before).1 done in
    (at-tree.place, at-tree.within.1, same_Some (at s.rows at-tree.place) i (sym at-tree.linked ∙ before), at-tree.far)

-- a row that is linked can lose what its column gains
enough : (p : Problem) (s : TreeView) (end : End) (out : ℕ → Bool) (b : Option ℕ) (next : List (Option ℕ)) → IsOver p s end out b next
    → (i j : ℕ) → next_of next i ≡ Some j
    → end.fall - at s.dist j ≤ at p.leave i
enough p s end out b next o i j linked = ⊎_elim
    (λ (done : is_done s.done j ≡ true).
    let placed = place-of p s end out b next o i j linked done in
    let leaves : at p.leave (at s.rows placed.0) ≡ at p.leave i = ap (at p.leave) placed.2 in
    omega (arith, o.ended.rows placed.0 placed.1, leaves, placed.3))
    (λ (undone : is_done s.done j ≡ false).
    let inside = (o.given.rows i j (o.inverse.told i j (next-within next i j linked) linked)).1 in
    omega (arith, o.ended.columns j inside undone))
    (cases_Bool (is_done s.done j))

-- a column that gains has no price above the greatest
pub gain-low : (p : Problem) (s : TreeView) (end : End) (out : ℕ → Bool) (b : Option ℕ) (next : List (Option ℕ))
    → IsOver p s end out b next → (j : ℕ) → j < p.n → at s.dist j < end.fall
    → at p.enter j ≤ 4503599627370496
gain-low p s end out b next o j inside near =
    let from = o.tree.reached j inside (omega (arith, near, o.ended.low)) in
    o.given.enter_low (at s.rows (at s.parent j)) j from.weight from.fits

-- what the row at a place of the tree is linked to
pub row-linked : (p : Problem) (s : TreeView) (end : End) (out : ℕ → Bool) (b : Option ℕ) (next : List (Option ℕ)) → IsOver p s end out b next
    → (t : ℕ) → 0 < t → t < s.size
    → (via : IsVia p s t) × (next_of next (at s.rows t) ≡ Some via.column)
row-linked p s end out b next o t positive lt = let via = o.tree.via t positive lt in
    (via, (o.inverse.linked (at s.rows t) via.column via.linked).1)

not-first : (p : Problem) (s : TreeView) (end : End) (out : ℕ → Bool) (b : Option ℕ) (next : List (Option ℕ)) → IsOver p s end out b next
    → (i j : ℕ) → next_of next i ≡ Some j → i ≢ p.a
not-first p s end out b next o i j linked = λ e. none-some j (sym (o.matched.first p.a refl) ∙ ap (next_of next) (sym e) ∙ linked)

-- the row at a place of the tree loses what prices fall past it
leave-at : (p : Problem) (s : TreeView) (end : End) (out : ℕ → Bool) (b : Option ℕ) (next : List (Option ℕ)) (leave enter : List ℕ)
    → IsOver p s end out b next
    → IsShifted p.n p.a next s.dist end.fall p.leave p.enter leave enter → (t : ℕ) → t < s.size
    → price leave (at s.rows t) ≡ price p.leave (at s.rows t) - (end.fall - at s.far t)
leave-at p s end out b next leave enter o shifted t lt = ⊎_elim
    (λ (e : t ≡ 0).
    let first : at s.rows t ≡ p.a = ap (at s.rows) e ∙ o.tree.root.1 in
    let far : at s.far t ≡ 0 = ap (at s.far) e ∙ o.tree.root.2 in
    let new : price leave (at s.rows t) ≡ price leave p.a = ap (price leave) first in
    let old : price p.leave (at s.rows t) ≡ price p.leave p.a = ap (price p.leave) first in
    omega (arith, far, new, old, shifted.root))
    (λ (ne : t ≡ 0 → ⊥).
    let linked = row-linked p s end out b next o t (omega arith) lt in
    let loses : lost s.dist end.fall (next_of next (at s.rows t)) ≡ end.fall - at s.dist linked.0.column =
    ap (lost s.dist end.fall) linked.1 in
    omega (arith, shifted.rows (at s.rows t) (not-first p s end out b next o (at s.rows t) linked.0.column linked.1), loses, linked.0.far))
    (cases_eq t 0)

-- rows of the tree are not left out
inside-at : (p : Problem) (s : TreeView) (end : End) (out : ℕ → Bool) (b : Option ℕ) (next : List (Option ℕ)) → IsOver p s end out b next
    → (t : ℕ) → t < s.size → out (at s.rows t) ≡ false
inside-at p s end out b next o t lt = ⊎_elim
    (λ (e : t ≡ 0). ap out (ap (at s.rows) e ∙ o.tree.root.1) ∙ o.inside)
    (λ (ne : t ≡ 0 → ⊥).
    let linked = row-linked p s end out b next o t (omega arith) lt in
    by linked.0.column linked.1 (out (at s.rows t)) refl)
    (cases_eq t 0)
  where
    by : (j : ℕ) → next_of next (at s.rows t) ≡ Some j → (left : Bool) → out (at s.rows t) ≡ left → out (at s.rows t) ≡ false
    by j to false e = e
    by j to true e = absurd (none-some j (sym (o.matched.left (at s.rows t) e) ∙ to))

-- pairs stay covered, and those of the first row are
pub covers-over : (p : Problem) (s : TreeView) (end : End) (out : ℕ → Bool) (b : Option ℕ) (next : List (Option ℕ)) (leave enter : List ℕ)
    → IsOver p s end out b next
    → IsShifted p.n p.a next s.dist end.fall p.leave p.enter leave enter → Covers p.w out None leave enter
covers-over p s end out b next leave enter o shifted i j k inside _ fits =
    let columns = (o.given.weights.within i j k fits).1 in
    let gains = shifted.columns j columns in
    ⊎_elim
    (λ (e : i ≡ p.a). in-tree 0 o.tree.root.0 (o.tree.root.1 ∙ sym e))
    (λ (ne : i ≡ p.a → ⊥).
    let covered = o.covers i j k inside (λ e. ne (sym (same_Some p.a i e))) fits in
    by ne covered gains (next_of next i) refl)
    (cases_eq i p.a)
  where
    in-tree : (t : ℕ) → t < s.size → at s.rows t ≡ i → k ≤ price leave i + price enter j
    in-tree t lt e =
        let columns = (o.given.weights.within i j k fits).1 in
        let fits-at : p.w (at s.rows t) j ≡ Some k = ap (λ r. p.w r j) e ∙ fits in
        let new : price leave (at s.rows t) ≡ price leave i = ap (price leave) e in
        omega (
          arith,
          new,
          leave-at p s end out b next leave enter o shifted t lt,
          o.tree.covered t j k lt fits-at,
          shifted.columns j
              columns,
          o.ended.rows t lt,
          o.tree.within t lt,
          o.ended.later,
        )

    by : i ≢ p.a → k ≤ price p.leave i + price p.enter j → price enter j ≡ price p.enter j + (end.fall - at s.dist j) → (to : Option ℕ)
        → next_of next i ≡ to → k ≤ price leave i + price enter j
    by ne covered gains None e =
        let loses : lost s.dist end.fall (next_of next i) ≡ 0 = ap (lost s.dist end.fall) e in
        omega (arith, shifted.rows i ne, loses, covered, gains)
    by ne covered gains (Some c) e = ⊎_elim
        (λ (done : is_done s.done c ≡ true). let placed = place-of p s end out b next o i c e done in in-tree placed.0 placed.1 placed.2)
        (λ (undone : is_done s.done c ≡ false).
        let loses : lost s.dist end.fall (next_of next i) ≡ end.fall - at s.dist c = ap (lost s.dist end.fall) e in
        let column = (o.given.rows i c (o.inverse.told i c (next-within next i c e) e)).1 in
        omega (arith, shifted.rows i ne, loses, o.ended.columns c column undone, covered, gains))
        (cases_Bool (is_done s.done c))

-- rows of the tree are among those that may be linked
row-within : (p : Problem) (s : TreeView) (end : End) (out : ℕ → Bool) (b : Option ℕ) (next : List (Option ℕ)) → IsOver p s end out b next
    → (t : ℕ) → t < s.size → at s.rows t < length next
row-within p s end out b next o t lt = ⊎_elim
    (λ (e : t ≡ 0). let first : at s.rows t ≡ p.a = ap (at s.rows) e ∙ o.tree.root.1 in omega (arith, first, o.given.start, o.slots))
    (λ (ne : t ≡ 0 → ⊥).
    let via = o.tree.via t (omega arith) lt in
    omega (arith, (o.given.rows (at s.rows t) via.column via.linked).0, o.slots))
    (cases_eq t 0)

-- prices fall along the rows of the tree alone
pub IsAlong-over : (p : Problem) (s : TreeView) (end : End) (out : ℕ → Bool) (b : Option ℕ) (next : List (Option ℕ))
    → IsOver p s end out b next → length s.dist ≡ p.n → IsAlong next s.dist s.far s.rows s.size end.fall
IsAlong-over p s end out b next o dists = record {
  root = (o.tree.root.0, ap (next_of next) o.tree.root.1 ∙ o.matched.first p.a refl, o.tree.root.2);
  within = λ t lt. (row-within p s end out b next o t lt, omega (arith, o.tree.within t lt, o.ended.later));
  apart = o.tree.apart;
  once = o.matched.once;
  via = λ t positive lt. let linked = row-linked p s end out b next o t positive lt in
      (linked.0.column, linked.1, linked.0.far);
  near = λ j inside near. ⊎_elim
      (λ (done : is_done s.done j ≡ true).
      let placed = o.tree.done j (omega (arith, inside, dists)) done in
      (placed.place, placed.within.1, (o.inverse.linked (at s.rows placed.place) j placed.linked).1))
      (λ (undone : is_done s.done j ≡ false). absurd (omega (arith, near, o.ended.columns j (omega (arith, inside, dists)) undone)))
      (cases_Bool (is_done s.done j));
}

-- the tree leads back from where the search ended
pub LeadsBack-over : (p : Problem) (s : TreeView) (end : End) (out : ℕ → Bool) (b : Option ℕ) (next : List (Option ℕ))
    → IsOver p s end out b next → length s.parent ≡ p.n → length s.rows ≡ p.n + 1
    → LeadsBack next s.parent s.rows end.from
LeadsBack-over p s end out b next o parents rows = record {
  inside = omega (arith, o.ended.within, o.tree.count, rows);
  root = ap (next_of next) o.tree.root.1 ∙ o.matched.first p.a refl;
  linked = λ t positive le. subst IsSome (sym (row-linked p s end out b next o t positive (omega (arith, o.ended.within))).1) refl;
  back = λ t j le linked. ⊎_elim
      (λ (e : t ≡ 0). absurd (none-some j
      (sym (o.matched.first p.a refl) ∙ ap (next_of next) (sym o.tree.root.1 ∙ ap (at s.rows) (sym e)) ∙ linked)))
      (λ (ne : t ≡ 0 → ⊥).
      let to = row-linked p s end out b next o t (omega arith) (omega (arith, o.ended.within)) in
      let same : to.0.column ≡ j = same_Some to.0.column j (sym to.1 ∙ linked) in
      let parent : at s.parent to.0.column ≡ at s.parent j = ap (at s.parent) same in
      (omega (arith, same, (o.given.rows (at s.rows t) to.0.column to.0.linked).1, parents), omega (arith, parent, to.0.parent)))
      (cases_eq t 0);
  apart = λ r t less le. o.tree.apart r t less (omega (arith, o.ended.within));
  within = λ t le. row-within p s end out b next o t (omega (arith, o.ended.within));
}

-- on the way back each column has the weight of the row from which it was reached
tight-from : (p : Problem) (s : TreeView) (end : End) (out : ℕ → Bool) (b : Option ℕ) (next : List (Option ℕ)) (leave enter : List ℕ)
    → IsOver p s end out b next
    → IsShifted p.n p.a next s.dist end.fall p.leave p.enter leave enter → (j : ℕ) → j < p.n → at s.dist j ≤ end.fall
    → p.w (at s.rows (at s.parent j)) j ≡ Some (price leave (at s.rows (at s.parent j)) + price enter j)
tight-from p s end out b next leave enter o shifted j inside near =
    let from = o.tree.reached j inside (omega (arith, near, o.ended.low)) in
    let sum : from.weight ≡ price leave (at s.rows (at s.parent j)) + price enter j =
    omega (
      arith,
      from.exact,
      leave-at p s end out b next leave enter o shifted (at s.parent j) from.within,
      shifted.columns j inside,
      o.ended.rows (at s.parent j) from.within,
      o.tree.within (at s.parent j) from.within,
      o.ended.later,
    ) in
    from.fits ∙ ap Some sum

pub IsTightBack-over : (p : Problem) (s : TreeView) (end : End) (out : ℕ → Bool) (b : Option ℕ) (next : List (Option ℕ))
    (leave enter : List ℕ) → IsOver p s end out b next
    → IsShifted p.n p.a next s.dist end.fall p.leave p.enter leave enter → IsTightBack p.w out next leave enter s.parent s.rows end.from
IsTightBack-over p s end out b next leave enter o shifted = record {
  inside = λ t le. inside-at p s end out b next o t (omega (arith, o.ended.within));
  tight = λ t j le linked. ⊎_elim
      (λ (e : t ≡ 0). absurd (none-some j
      (sym (o.matched.first p.a refl) ∙ ap (next_of next) (sym o.tree.root.1 ∙ ap (at s.rows) (sym e)) ∙ linked)))
      (λ (ne : t ≡ 0 → ⊥).
      let lt : t < s.size = omega (arith, o.ended.within) in
      let to = row-linked p s end out b next o t (omega arith) lt in
      let same : to.0.column ≡ j = same_Some to.0.column j (sym to.1 ∙ linked) in
      let far : at s.dist j ≡ at s.far t = ap (at s.dist) (sym same) ∙ to.0.far in
      tight-from p s end out b next leave enter o shifted j (omega (arith, same, (o.given.rows (at s.rows t) to.0.column to.0.linked).1))
      (omega (arith, far, o.tree.within t lt, o.ended.later)))
      (cases_eq t 0);
}

-- and links are matched but for the row where the search ended
pub IsPassing-over : (p : Problem) (s : TreeView) (end : End) (out : ℕ → Bool) (b : Option ℕ) (next : List (Option ℕ))
    (leave enter : List ℕ) → IsOver p s end out b next → length enter ≡ p.n
    → IsShifted p.n p.a next s.dist end.fall p.leave p.enter leave enter
    → IsPassing p.w out p.a b next leave enter (at s.rows end.from) end.to
IsPassing-over p s end out b next leave enter o len shifted = record {
  once = o.matched.once;
  tight = λ i j linked.
      let loses : lost s.dist end.fall (next_of next i) ≡ end.fall - at s.dist j = ap (lost s.dist end.fall) linked in
      let column = (o.given.rows i j (o.inverse.told i j (next-within next i j linked) linked)).1 in
      let sum : price p.leave i + price p.enter j ≡ price leave i + price enter j =
      omega (
        arith,
        shifted.rows i (not-first p s end out b next o i j linked),
        loses,
        shifted.columns j column,
        enough p s end out b next
            o i j linked,
      ) in
      o.matched.tight i j linked ∙ ap Some sum;
  left = o.matched.left;
  last = o.matched.last;
  leave_zero = λ i other none.
      let loses : lost s.dist end.fall (next_of next i) ≡ 0 = ap (lost s.dist end.fall) none in
      omega (arith, shifted.rows i other, loses, o.matched.leave_zero i (λ e. other (sym (same_Some p.a i e))) none);
  enter_zero = λ j other _ none. ⊎_elim
      (λ (inside : j < p.n).
      omega (
        arith,
        shifted.columns j inside,
        o.matched.enter_zero j other none,
        o.ended.columns j inside
            (undone j inside none (is_done s.done j) refl),
      ))
      (λ (past : p.n ≤ j). get_or_past enter j 0 (omega (arith, past, len)))
      (cases_lt j p.n);
  alone = λ none. omega (
    arith,
    leave-at p s end out b next leave enter o shifted end.from o.ended.within,
    o.ended.alone none,
    o.tree.within end.from o.ended.within,
    o.ended.later,
  );
  column = λ j to.
      let ended = o.ended.column j to in (
        subst (λ t. p.w (at s.rows t) j ≡ Some (price leave (at s.rows t) + price enter j)) ended.2
            (tight-from p s end out b next leave enter o shifted j ended.0 (omega (arith, ended.1))),
        λ i linked. none-some i (sym ended.3 ∙ o.inverse.told i j (next-within next i j linked) linked),
      );
}
  where
    undone : (j : ℕ) → j < p.n → ((i : ℕ) → next_of next i ≢ Some j) → (done : Bool) → is_done s.done j ≡ done → is_done s.done j ≡ false
    undone j inside none false e = e
    undone j inside none true e = let at-tree = o.tree.done j inside e in
        absurd (none (at s.rows at-tree.place) (o.inverse.linked (at s.rows at-tree.place) j at-tree.linked).1)

-- the column at which a search ends was the next of none
pub free-over : (p : Problem) (s : TreeView) (end : End) (out : ℕ → Bool) (b : Option ℕ) (next : List (Option ℕ))
    → IsOver p s end out b next → IfSome end.to (λ j. before_of next j ≡ None)
free-over p s end out b next o = by end.to refl
  where
    by : (to : Option ℕ) → end.to ≡ to → IfSome to (λ j. before_of next j ≡ None)
    by None e = tt
    by (Some j) e = sym (inverse-before next p.before o.matched.once o.inverse j) ∙ (o.ended.column j e).3

-- and it is one of the columns
pub to-over : (p : Problem) (s : TreeView) (end : End) → HasEnded p s end → IfSome end.to (λ j. j < p.n)
to-over p s end ended = by end.to refl
  where
    by : (to : Option ℕ) → end.to ≡ to → IfSome to (λ j. j < p.n)
    by None e = tt
    by (Some j) e = (ended.column j e).0

-- where a tree that began so has grown until the search ended
pub IsOver-grown : (w : ℕ → ℕ → Option ℕ) (n : ℕ) (out : ℕ → Bool) (a : ℕ) (b : Option ℕ) (next before : List (Option ℕ))
    (leave enter : List ℕ) (first : ℕ) (raised : List ℕ) (s : TreeView) (end : End)
    → n ≤ 4096 → AreWeights w n → length next ≡ n → length leave ≡ n → IsInverse (length next) next before
    → MayBegin w n out a b next leave enter → first ≡ a → raised ≡ set leave a 4503599627370496
    → IsTree (problem w n first before raised enter) s → HasEnded (problem w n first before raised enter) s end
    → IsOver (problem w n first before raised enter) s end out b next
IsOver-grown w n out a b next before leave enter first raised s end few weights len len' inverse begins same set-is tree ended = record {
  given = given-at w n out a b next before leave enter first raised few weights len len' inverse begins same set-is;
  tree = tree;
  ended = ended;
  inside = ap out same ∙ begins.inside;
  matched =
      subst (λ x. IsMatched w out (Some x) b next raised enter) (sym same)
      (subst (λ prices. IsMatched w out (Some a) b next prices enter) (sym set-is)
      (matched-set w out a 4503599627370496 b next leave enter begins.matched));
  covers =
      subst (λ x. Covers w out (Some x) raised enter) (sym same)
      (subst (λ prices. Covers w out (Some a) prices enter) (sym set-is) (covers-set w out a 4503599627370496 leave enter begins.covers));
  inverse = inverse;
  slots = len;
}
