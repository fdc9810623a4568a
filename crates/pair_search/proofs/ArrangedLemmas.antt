-- Lists in a strict order with the same entries are equal. So columns in their order are those that are computed.
use Rattle.std.proofs.Common.{◌≡◌, ℕ, zero, suc, ◌+◌, ◌-◌, ◌<◌, ◌≤◌, nat_le, ◌⊎◌, inl, inr, Bool, true, false, List, [], ◌∷◌, length}
use Rattle.std.proofs.Common.{get_or, fold, Option, None, if◌then◌else◌, refl, sym, ap, subst, ◌∙◌, ⊎_elim, arith}
use Rattle.std.specs.Prelude.{⊤, slice_index_or}
use Rattle.std.specs.List.{AllByRecursion, range_with_len}
use Rattle.std.proofs.lemmas.Bool.{cases_lt, leb-true, leb-false}
use Rattle.std.proofs.Math.ListN.{get_or-map}
use Rattle.std.proofs.lemmas.List.{length-map}
use Rattle.trip_model.specs.Order.{placed_by, by_key}
use Rattle.pair_search.specs.Arranged.{post_key, slots_of, StandsBefore, AreInOrder}
use Rattle.pair_search.specs.Order.{no_column, slot_at, place_of, IsOrder, IsRenaming}
use Rattle.pair_search.specs.declared.order.Column.{Column}

-- each entry comes before those after it
pub Rises : (ℕ → ℕ → Type 0) → List ℕ → Type 0
Rises R [] = ⊤
Rises R (x ∷ xs) = AllByRecursion (R x) xs × Rises R xs

-- one comes before another by key, and of one key by another order
pub ByKey : (ℕ → ℕ) → (ℕ → ℕ → Type 0) → ℕ → ℕ → Type 0
ByKey key R s t = (key s < key t) ⊎ ((key s ≡ key t) × R s t)

-- an entry is in a list
pub Has : List ℕ → ℕ → Type 0
Has [] s = ⊥
Has (x ∷ xs) s = (x ≡ s) ⊎ Has xs s

all-map : (P Q : ℕ → Type 0) → ((x : ℕ) → P x → Q x) → (xs : List ℕ) → AllByRecursion P xs → AllByRecursion Q xs
all-map P Q f [] all = tt
all-map P Q f (x ∷ xs) all = (f x all.0, all-map P Q f xs all.1)

all-placed : (P : ℕ → Type 0) (key : ℕ → ℕ) (xs : List ℕ) (s : ℕ) → AllByRecursion P xs → P s → AllByRecursion P (placed_by key xs s)
all-placed P key [] s all here = (here, tt)
all-placed P key (x ∷ xs) s all here = by (nat_le (key x) (key s)) (all-placed P key xs s all.1 here)
  where
    by : (b : Bool) → AllByRecursion P (placed_by key xs s) → AllByRecursion P (if b then x ∷ placed_by key xs s else s ∷ x ∷ xs)
    by true rest = (all.0, rest)
    by false rest = (here, all)

rises-placed : (key : ℕ → ℕ) (R : ℕ → ℕ → Type 0) (xs : List ℕ) (s : ℕ) → Rises (ByKey key R) xs → AllByRecursion (λ x. R x s) xs
    → Rises (ByKey key R) (placed_by key xs s)
unfolding Rises ByKey
rises-placed key R [] s rises before = (tt, tt)
rises-placed key R (x ∷ xs) s rises before = by (nat_le (key x) (key s)) refl (rises-placed key R xs s rises.1 before.1)
  where
    behind : key x ≤ key s → ByKey key R x s
    behind le = ⊎_elim
        (λ (lt : key x < key s). inl lt)
        (λ (ge : key s ≤ key x). inr (omega (arith, le, ge), before.0))
        (cases_lt (key x) (key s))

    first : key s < key x → (y : ℕ) → ByKey key R x y → ByKey key R s y
    first lt y (inl less) = inl (omega (arith, lt, less))
    first lt y (inr same) = inl (omega (arith, lt, same.0))

    by : (b : Bool) → nat_le (key x) (key s) ≡ b → Rises (ByKey key R) (placed_by key xs s)
        → Rises (ByKey key R) (if b then x ∷ placed_by key xs s else s ∷ x ∷ xs)
    by true e rest = (all-placed (ByKey key R x) key xs s rises.0 (behind (leb-true (key x) (key s) e)), rest)
    by false e rest =
        let lt = leb-false (key x) (key s) e in
        ((inl lt, all-map (ByKey key R x) (ByKey key R s) (first lt) xs rises.0), rises)

cross : (R : ℕ → ℕ → Type 0) (key : ℕ → ℕ) (front : List ℕ) (y : ℕ) (ys : List ℕ)
    → AllByRecursion (λ z. AllByRecursion (λ x. R x z) front) ys → AllByRecursion (R y) ys
    → AllByRecursion (λ z. AllByRecursion (λ x. R x z) (placed_by key front y)) ys
cross R key front y [] all rises = tt
cross R key front y (z ∷ ys) all rises = (all-placed (λ x. R x z) key front y all.0 rises.0, cross R key front y ys all.1 rises.1)

rises-fold : (key : ℕ → ℕ) (R : ℕ → ℕ → Type 0) (front xs : List ℕ) → Rises (ByKey key R) front → Rises R xs
    → AllByRecursion (λ z. AllByRecursion (λ x. R x z) front) xs
    → Rises (ByKey key R) (fold (placed_by key) front xs)
unfolding Rises
rises-fold key R front [] rises given all = rises
rises-fold key R front (y ∷ ys) rises given all =
    rises-fold key R (placed_by key front y) ys (rises-placed key R front y rises all.0) given.1 (cross R key front y ys all.1 given.0)

none-before : (R : ℕ → ℕ → Type 0) (xs : List ℕ) → AllByRecursion (λ z. AllByRecursion (λ x. R x z) []) xs
none-before R [] = tt
none-before R (x ∷ xs) = (tt, none-before R xs)

-- a list in order by key is so where it was in order before
pub rises-by_key : (key : ℕ → ℕ) (R : ℕ → ℕ → Type 0) (xs : List ℕ) → Rises R xs → Rises (ByKey key R) (by_key key xs)
unfolding Rises
rises-by_key key R xs given = rises-fold key R [] xs tt given (none-before R xs)

above-range : (a b n : ℕ) → a < b → AllByRecursion (λ t. a < t) (range_with_len b n)
above-range a b zero lt = tt
above-range a b (suc n) lt = (lt, above-range a (b + 1) n (omega (arith, lt)))

rises-range : (a n : ℕ) → Rises (λ s t. s < t) (range_with_len a n)
unfolding Rises
rises-range a zero = tt
rises-range a (suc n) = (above-range a (a + 1) n (omega arith), rises-range (a + 1) n)

has-placed : (key : ℕ → ℕ) (xs : List ℕ) (s t : ℕ) → (s ≡ t) ⊎ Has xs t → Has (placed_by key xs s) t
unfolding Has
has-placed key [] s t has = has
has-placed key (x ∷ xs) s t has = by (nat_le (key x) (key s)) has (λ h. has-placed key xs s t h)
  where
    by : (b : Bool) → (s ≡ t) ⊎ Has (x ∷ xs) t → ((s ≡ t) ⊎ Has xs t → Has (placed_by key xs s) t)
        → Has (if b then x ∷ placed_by key xs s else s ∷ x ∷ xs) t
    by true (inl e) rest = inr (rest (inl e))
    by true (inr (inl e)) rest = inl e
    by true (inr (inr h)) rest = inr (rest (inr h))
    by false h rest = h

placed-has : (key : ℕ → ℕ) (xs : List ℕ) (s t : ℕ) → Has (placed_by key xs s) t → (s ≡ t) ⊎ Has xs t
unfolding Has
placed-has key [] s t has = has
placed-has key (x ∷ xs) s t has = by (nat_le (key x) (key s)) (λ h. placed-has key xs s t h) has
  where
    swap : (s ≡ t) ⊎ Has xs t → (s ≡ t) ⊎ Has (x ∷ xs) t
    swap (inl e) = inl e
    swap (inr h) = inr (inr h)

    by : (b : Bool) → (Has (placed_by key xs s) t → (s ≡ t) ⊎ Has xs t) → Has (if b then x ∷ placed_by key xs s else s ∷ x ∷ xs) t
        → (s ≡ t) ⊎ Has (x ∷ xs) t
    by true rest (inl e) = inr (inl e)
    by true rest (inr h) = swap (rest h)
    by false rest h = h

has-fold : (key : ℕ → ℕ) (front xs : List ℕ) (t : ℕ) → Has front t ⊎ Has xs t → Has (fold (placed_by key) front xs) t
unfolding Has
has-fold key front [] t (inl h) = h
has-fold key front [] t (inr h) = absurd h
has-fold key front (x ∷ xs) t (inl h) = has-fold key (placed_by key front x) xs t (inl (has-placed key front x t (inr h)))
has-fold key front (x ∷ xs) t (inr (inl e)) = has-fold key (placed_by key front x) xs t (inl (has-placed key front x t (inl e)))
has-fold key front (x ∷ xs) t (inr (inr h)) = has-fold key (placed_by key front x) xs t (inr h)

fold-has : (key : ℕ → ℕ) (front xs : List ℕ) (t : ℕ) → Has (fold (placed_by key) front xs) t → Has front t ⊎ Has xs t
unfolding Has
fold-has key front [] t h = inl h
fold-has key front (x ∷ xs) t h = ⊎_elim
    (λ (p : Has (placed_by key front x) t). ⊎_elim (λ (e : x ≡ t). inr (inl e)) (λ (f : Has front t). inl f) (placed-has key front x t p))
    (λ (r : Has xs t). inr (inr r))
    (fold-has key (placed_by key front x) xs t h)

-- it has the same entries
pub has-by_key : (key : ℕ → ℕ) (xs : List ℕ) (t : ℕ) → Has xs t → Has (by_key key xs) t
has-by_key key xs t h = has-fold key [] xs t (inr h)

pub by_key-has : (key : ℕ → ℕ) (xs : List ℕ) (t : ℕ) → Has (by_key key xs) t → Has xs t
unfolding Has
by_key-has key xs t h = ⊎_elim (λ (none : Has [] t). absurd none) (λ (r : Has xs t). r) (fold-has key [] xs t h)

has-range : (a n t : ℕ) → a ≤ t → t < a + n → Has (range_with_len a n) t
unfolding Has
has-range a zero t le lt = absurd (omega (arith, le, lt))
has-range a (suc n) t le lt = ⊎_elim
    (λ (l : a < t). inr (has-range (a + 1) n t (omega (arith, l)) (omega (arith, lt))))
    (λ (g : t ≤ a). inl (omega (arith, le, g)))
    (cases_lt a t)

range-has : (a n t : ℕ) → Has (range_with_len a n) t → t < a + n
unfolding Has
range-has a zero t h = absurd h
range-has a (suc n) t (inl e) = omega (arith, e)
range-has a (suc n) t (inr h) = omega (arith, range-has (a + 1) n t h)

all-has : (P : ℕ → Type 0) (xs : List ℕ) (t : ℕ) → AllByRecursion P xs → Has xs t → P t
unfolding Has
all-has P [] t all h = absurd h
all-has P (x ∷ xs) t all (inl e) = subst P e all.0
all-has P (x ∷ xs) t all (inr h) = all-has P xs t all.1 h

-- two lists in one strict order that have the same entries are equal
pub rises-equal : (R : ℕ → ℕ → Type 0) → ((s t : ℕ) → R s t → R t s → ⊥) → (xs ys : List ℕ) → Rises R xs → Rises R ys
    → ((t : ℕ) → Has xs t → Has ys t) → ((t : ℕ) → Has ys t → Has xs t) → xs ≡ ys
unfolding Rises Has
rises-equal R apart [] [] one two there back = refl
rises-equal R apart [] (y ∷ ys) one two there back = absurd (back y (inl refl))
rises-equal R apart (x ∷ xs) [] one two there back = absurd (there x (inl refl))
rises-equal R apart (x ∷ xs) (y ∷ ys) one two there back =
    ap (λ (s : ℕ). s ∷ xs) (heads (there x (inl refl)) (back y (inl refl)))
    ∙ ap (λ (l : List ℕ). y ∷ l) (rises-equal R apart xs ys one.1 two.1
    (λ t h. rest (heads (there x (inl refl)) (back y (inl refl))) t h (there t (inr h)))
    (λ t h. rest' (heads (there x (inl refl)) (back y (inl refl))) t h (back t (inr h))))
  where
    heads : Has (y ∷ ys) x → Has (x ∷ xs) y → x ≡ y
    heads (inl e) h = sym e
    heads (inr h) (inl e) = e
    heads (inr h) (inr g) = absurd (apart x y (all-has (R x) xs y one.0 g) (all-has (R y) ys x two.0 h))

    rest : x ≡ y → (t : ℕ) → Has xs t → Has (y ∷ ys) t → Has ys t
    rest e t h (inl same) = let less : R x x = subst (R x) (sym same ∙ sym e) (all-has (R x) xs t one.0 h) in absurd (apart x x less less)
    rest e t h (inr g) = g

    rest' : x ≡ y → (t : ℕ) → Has ys t → Has (x ∷ xs) t → Has xs t
    rest' e t h (inl same) = let less : R y y = subst (R y) (sym same ∙ e) (all-has (R y) ys t two.0 h) in absurd (apart y y less less)
    rest' e t h (inr g) = g

-- of two in an order by key the first is not after the second too
pub apart-by_key : (key : ℕ → ℕ) (R : ℕ → ℕ → Type 0) → ((s t : ℕ) → R s t → R t s → ⊥) → (s t : ℕ) → ByKey key R s t → ByKey key R t s → ⊥
unfolding ByKey
apart-by_key key R apart s t (inl one) (inl two) = absurd (omega (arith, one, two))
apart-by_key key R apart s t (inl one) (inr two) = absurd (omega (arith, one, two.0))
apart-by_key key R apart s t (inr one) (inl two) = absurd (omega (arith, one.0, two))
apart-by_key key R apart s t (inr one) (inr two) = apart s t one.1 two.1

apart-less : (s t : ℕ) → s < t → t < s → ⊥
apart-less s t one two = absurd (omega (arith, one, two))

has-at : (xs : List ℕ) (k s d : ℕ) → k < length xs → get_or xs k d ≡ s → Has xs s
unfolding Has
has-at [] k s d lt e = absurd (omega (arith, lt))
has-at (x ∷ xs) zero s d lt e = inl e
has-at (x ∷ xs) (suc k) s d lt e = inr (has-at xs k s d (omega (arith, lt)) e)

at-has : (xs : List ℕ) (s d : ℕ) → Has xs s → (k : ℕ) × (k < length xs) × (get_or xs k d ≡ s)
unfolding Has
at-has [] s d h = absurd h
at-has (x ∷ xs) s d (inl e) = (0, omega arith, e)
at-has (x ∷ xs) s d (inr h) = let found = at-has xs s d h in (suc found.0, omega (arith, found.1), found.2)

all-at : (P : ℕ → Type 0) (xs : List ℕ) (d : ℕ) → ((k : ℕ) → k < length xs → P (get_or xs k d)) → AllByRecursion P xs
all-at P [] d each = tt
all-at P (x ∷ xs) d each = (each 0 (omega arith), all-at P xs d (λ k lt. each (suc k) (omega (arith, lt))))

rises-at : (R : ℕ → ℕ → Type 0) (xs : List ℕ) (d : ℕ) → ((h k : ℕ) → h < k → k < length xs → R (get_or xs h d) (get_or xs k d)) → Rises R xs
unfolding Rises
rises-at R [] d each = tt
rises-at R (x ∷ xs) d each = (
  all-at (R x) xs d (λ k lt. each 0 (suc k) (omega arith) (omega (arith, lt))),
  rises-at R xs d
      (λ h k lt within. each (suc h) (suc k) (omega (arith, lt)) (omega (arith, within))),
)

-- as many slots as columns
pub slots-length : (columns : List Column) → length (slots_of columns) ≡ length columns
slots-length columns = length-map columns (λ (c : Column). c.slot)

-- the slot at a place is that of the column there
pub slots-at : (n : ℕ) (columns : List Column) (k : ℕ) → get_or (slots_of columns) k n ≡ slot_at n columns k
slots-at n columns k = get_or-map (λ (c : Column). c.slot) columns k (no_column n)

-- columns that are in order by what orders a list have the slots of that list
slots-are : (n : ℕ) (columns : List Column) (place : ℕ → ℕ) (R : ℕ → ℕ → Type 0) (ys : List ℕ) → length columns ≡ n
    → IsRenaming n (slot_at n columns) place
    → ((s t : ℕ) → R s t → R t s → ⊥) → ((h k : ℕ) → h < k → k < n → R (slot_at n columns h) (slot_at n columns k)) → Rises R ys
    → ((t : ℕ) → t < n → Has ys t) → ((t : ℕ) → Has ys t → t < n) → slots_of columns ≡ ys
slots-are n columns place R ys len renaming apart each rises has within =
    rises-equal R apart (slots_of columns) ys
    (rises-at R (slots_of columns) n (λ h k lt below.
    subst (λ s. R s (get_or (slots_of columns) k n)) (sym (slots-at n columns h))
    (subst (R (slot_at n columns h)) (sym (slots-at n columns k)) (each h k lt (omega (arith, below, slots-length columns, len))))))
    rises
    (λ t h. let found = at-has (slots_of columns) t n h in
    has t (subst (λ s. s < n) (sym (slots-at n columns found.0) ∙ found.2)
    (renaming.slot_within found.0 (omega (arith, found.1, slots-length columns, len)))))
    (λ t h. has-at (slots_of columns) (place t) t n
    (omega (arith, renaming.place_within t (within t h), slots-length columns, len))
    (slots-at n columns (place t) ∙ renaming.there t (within t h)))

module _ (n : ℕ) (minute : ℕ → ℕ) (post : ℕ → Option ℕ) (columns : List Column) (places : List ℕ)
    (is : IsOrder n minute post columns places) (order : AreInOrder n columns) where
  keys : (k : ℕ) → k < n → post_key (slice_index_or columns k (no_column n)).post ≡ post_key (post (slot_at n columns k))
  keys k lt = ap post_key (is.posts k lt)

  stands : (h k : ℕ) → h < k → k < n
      → ByKey (λ j. post_key (post j)) (ByKey minute (λ s t. s < t)) (slot_at n columns h) (slot_at n columns k)
  unfolding ByKey
  stands h k lt within = by (order h k lt within)
    where
      by : StandsBefore (slice_index_or columns h (no_column n)) (slice_index_or columns k (no_column n))
          → ByKey (λ j. post_key (post j)) (ByKey minute (λ s t. s < t)) (slot_at n columns h) (slot_at n columns k)
      by (inl less) = inl (omega (arith, less, keys h (omega (arith, lt, within)), keys k within))
      by (inr (same, inl less)) = inr (
        omega (arith, same, keys h (omega (arith, lt, within)), keys k within),
        inl
            (omega (arith, less, is.minutes h (omega (arith, lt, within)), is.minutes k within)),
      )
      by (inr (same, inr (even, less))) =
          inr (
            omega (arith, same, keys h (omega (arith, lt, within)), keys k within),
            inr
                (omega (arith, even, is.minutes h (omega (arith, lt, within)), is.minutes k within), less),
          )

  -- columns in order by post, by minute and by slot
  pub slots-by_post : slots_of columns ≡ by_key (λ j. post_key (post j)) (by_key minute (range_with_len 0 n))
  slots-by_post =
      slots-are n columns (place_of n places) (ByKey (λ j. post_key (post j)) (ByKey minute (λ s t. s < t)))
      (by_key (λ j. post_key (post j)) (by_key minute (range_with_len 0 n))) is.count is.renaming
      (apart-by_key (λ j. post_key (post j)) (ByKey minute (λ s t. s < t)) (apart-by_key minute (λ s t. s < t) apart-less))
      stands
      (rises-by_key (λ j. post_key (post j)) (ByKey minute (λ s t. s < t)) (by_key minute (range_with_len 0 n))
      (rises-by_key minute (λ s t. s < t) (range_with_len 0 n) (rises-range 0 n)))
      (λ t lt. has-by_key (λ j. post_key (post j)) (by_key minute (range_with_len 0 n)) t
      (has-by_key minute (range_with_len 0 n) t (has-range 0 n t (omega arith) (omega (arith, lt)))))
      (λ t h. let below = range-has 0 n t
      (by_key-has minute (range_with_len 0 n) t (by_key-has (λ j. post_key (post j)) (by_key minute (range_with_len 0 n)) t h)) in
      omega (arith, below))

  -- and those that stand nowhere by minute and by slot
  pub slots-by_minute : ((j : ℕ) → post j ≡ None) → slots_of columns ≡ by_key minute (range_with_len 0 n)
  unfolding ByKey
  slots-by_minute nowhere =
      slots-are n columns (place_of n places) (ByKey minute (λ s t. s < t)) (by_key minute (range_with_len 0 n)) is.count is.renaming
      (apart-by_key minute (λ s t. s < t) apart-less)
      (λ h k lt within. later h k (stands h k lt within))
      (rises-by_key minute (λ s t. s < t) (range_with_len 0 n) (rises-range 0 n))
      (λ t lt. has-by_key minute (range_with_len 0 n) t (has-range 0 n t (omega arith) (omega (arith, lt))))
      (λ t h. let below = range-has 0 n t (by_key-has minute (range_with_len 0 n) t h) in omega (arith, below))
    where
      later : (h k : ℕ) → ByKey (λ j. post_key (post j)) (ByKey minute (λ s t. s < t)) (slot_at n columns h) (slot_at n columns k)
          → ByKey minute (λ s t. s < t) (slot_at n columns h) (slot_at n columns k)
      later h k (inl less) = absurd (omega
          (arith, less, ap post_key (nowhere (slot_at n columns h)), ap post_key (nowhere (slot_at n columns k))))
      later h k (inr rest) = rest.1

stands-on : (b c d : Column) → StandsBefore b c → StandsBefore c d → StandsBefore b d
stands-on b c d (inl one) (inl two) = inl (omega (arith, one, two))
stands-on b c d (inl one) (inr two) = inl (omega (arith, one, two.0))
stands-on b c d (inr one) (inl two) = inl (omega (arith, one.0, two))
stands-on b c d (inr (same, inl one)) (inr (alike, inl two)) = inr (same ∙ alike, inl (omega (arith, one, two)))
stands-on b c d (inr (same, inl one)) (inr (alike, inr two)) = inr (same ∙ alike, inl (omega (arith, one, two.0)))
stands-on b c d (inr (same, inr one)) (inr (alike, inl two)) = inr (same ∙ alike, inl (omega (arith, one.0, two)))
stands-on b c d (inr (same, inr one)) (inr (alike, inr two)) =
    inr (same ∙ alike, inr (omega (arith, one.0, two.0), omega (arith, one.1, two.1)))

-- columns are in order where each stands before the next
pub AreInOrder-next : (n : ℕ) (columns : List Column)
    → ((k : ℕ) → k + 1 < n → StandsBefore (slice_index_or columns k (no_column n)) (slice_index_or columns (k + 1) (no_column n)))
    → AreInOrder n columns
AreInOrder-next n columns next h k lt within = by (k - h - 1) k (omega (arith, lt)) within
  where
    by : (gap k : ℕ) → k ≡ h + gap + 1 → k < n
        → StandsBefore (slice_index_or columns h (no_column n)) (slice_index_or columns k (no_column n))
    by zero k e within =
        let near : k ≡ h + 1 = omega (arith, e) in
        subst (λ (i : ℕ). StandsBefore (slice_index_or columns h (no_column n)) (slice_index_or columns i (no_column n))) (sym near)
        (next h (omega (arith, near, within)))
    by (suc gap) k e within =
        let near : k ≡ (h + gap + 1) + 1 = omega (arith, e) in
        stands-on (slice_index_or columns h (no_column n)) (slice_index_or columns (h + gap + 1) (no_column n))
        (slice_index_or columns k (no_column n))
        (by gap (h + gap + 1) refl (omega (arith, near, within)))
        (subst (λ (i : ℕ). StandsBefore (slice_index_or columns (h + gap + 1) (no_column n)) (slice_index_or columns i (no_column n)))
        (sym near) (next (h + gap + 1) (omega (arith, near, within))))
