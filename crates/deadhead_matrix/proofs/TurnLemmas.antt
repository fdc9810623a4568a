-- After a turn of each place no place is farther than through any other.
use Rattle.std.proofs.Common.{◌≡◌, ◌≢◌, ℕ, ◌+◌, ◌<◌, ◌≤◌, List, [], ◌∷◌, ◌++◌, length, get_or, refl, sym, ap, subst, ◌∙◌, ⊎_elim, inl, inr}
use Rattle.std.proofs.Common.{◌⊎◌, take, arith}
use Rattle.std.proofs.lemmas.Bool.{cases_eq, cases_lt}
use Rattle.std.proofs.lemmas.List.{get_or_past, get_or-take, length-take-le}
use Rattle.std.proofs.lemmas.List.Sums.{sum_by-append, sum_by-cons}
use Rattle.deadhead_matrix.specs.declared.entry.Entry.{Entry}
use Rattle.deadhead_matrix.proofs.ClosedRow.{IsClosedRow, IsBounded-closed, IsLeastWalk-closed}
use Rattle.deadhead_matrix.specs.Walks.{IsWalk, walk_minutes, IsLeastWalk}
use Rattle.deadhead_matrix.specs.Rows.{far, dist_at, between, way, AreTold, AreAmong, AreFirstRows, AreDistances, AreThrough, IsTurn}
use Rattle.deadhead_matrix.specs.Rows.{found_at, IsBounded, AreLeastRows}

-- two walks, the second from where the first ends
walk-on : (entries es fs : List Entry) (a x b : ℕ) → IsWalk entries a es x → IsWalk entries x fs b → IsWalk entries a (es ++ fs) b
walk-on entries [] fs a x b walk on = subst (λ y. IsWalk entries y fs b) (sym walk) on
walk-on entries (e ∷ es) fs a x b walk on = (walk.0, walk.1, walk-on entries es fs e.to x b walk.2 on)

minutes-on : (es fs : List Entry) → walk_minutes (es ++ fs) ≡ walk_minutes es + walk_minutes fs
minutes-on es fs = sum_by-append (λ (e : Entry). e.minutes) es fs

-- no place is reached from one past the last row
past-last : (rows : List (List ℕ)) (a b : ℕ) → length rows ≤ a → between rows a b ≡ far
past-last rows a b past = ap (λ row. dist_at row b) (get_or_past rows a [] past) ∙ get_or_past [] b far (omega arith)

-- how far the places are after the turn of k
record IsThroughOne (k : ℕ) (before after : List (List ℕ)) : Type 0 where
  nearer : (a b : ℕ) → between after a b ≤ between before a b
  through : (a b : ℕ) → between after a b ≤ between before a k + between before k b
  by : (a b : ℕ) → (between after a b ≡ between before a b) ⊎ (between after a b ≡ between before a k + between before k b)

through-one : (n k : ℕ) (before after : List (List ℕ)) → AreDistances n before → k < n → IsTurn (get_or before k []) k n before after
    → IsThroughOne k before after
through-one n k before after are lt turn = record {
  nearer = turn.nearer;
  through = through;
  by = λ a b. ⊎_elim
      (λ (less : between after a b < between before a b). inr (turn.by a b less))
      (λ (same : between before a b ≤ between after a b). inl (omega (arith, same, turn.nearer a b)))
      (cases_lt (between after a b) (between before a b));
}
  where
    through : (a b : ℕ) → between after a b ≤ between before a k + between before k b
    through a b = ⊎_elim
        (λ (a_in : a < n). ⊎_elim
        (λ (b_in : b < length (get_or before k [])). turn.through a b a_in b_in)
        (λ (b_past : length (get_or before k []) ≤ b). let is : between before k b ≡ far = get_or_past (get_or before k []) b far b_past in
        omega (arith, is, are.low a b, turn.nearer a b))
        (cases_lt b (length (get_or before k []))))
        (λ (a_past : n ≤ a). let is = past-last before a k (omega (arith, a_past, are.count)) in
        omega (arith, is, are.low a b, turn.nearer a b))
        (cases_lt a n)

pub AreDistances-turn : (n k : ℕ) (before after : List (List ℕ)) → AreDistances n before → k < n
    → IsTurn (get_or before k []) k n before after
    → AreDistances n after
AreDistances-turn n k before after are lt turn = record {
  count = turn.count ∙ are.count;
  columns = λ a within. turn.columns a ∙ are.columns a within;
  low = λ a b. omega (arith, turn.nearer a b, are.low a b);
  home = λ a within. omega (arith, turn.nearer a a, are.home a within);
}

pub AreThrough-turn : (entries : List Entry) (n k : ℕ) (before after : List (List ℕ)) → AreDistances n before → k < n
    → IsTurn (get_or before k []) k n before after
    → AreThrough entries k before → AreThrough entries (k + 1) after
AreThrough-turn entries n k before after are lt turn was = record {
  walks = λ a b near. walks a b near (one.by a b);
  entry = λ e holds. omega (arith, one.nearer e.from e.to, was.entry e holds);
  through = λ a x b within. ⊎_elim
      (λ (same : x ≡ k). subst (λ y. between after a b ≤ between after a y + between after y b) (sym same)
      (at a b (one.by a k) (one.by k b)))
      (λ (differs : x ≢ k). old a x b (omega (arith, within, differs)) (one.by a x) (one.by x b))
      (cases_eq x k);
}
  where
    one : IsThroughOne k before after
    one = through-one n k before after are lt turn

    home : between before k k ≡ 0
    home = are.home k lt

    walks : (a b : ℕ) → between after a b < far
        → (between after a b ≡ between before a b) ⊎ (between after a b ≡ between before a k + between before k b)
        → (es : List Entry) × IsWalk entries a es b × (walk_minutes es ≡ between after a b)
    walks a b near (inl same) = let walk = was.walks a b (omega (arith, near, same)) in (walk.0, walk.1, walk.2 ∙ sym same)
    walks a b near (inr led) =
        let first = was.walks a k (omega (arith, near, led)) in
        let second = was.walks k b (omega (arith, near, led)) in (
          first.0 ++ second.0,
          walk-on entries first.0 second.0 a k b first.1 second.1,
          minutes-on first.0 second.0 ∙ (λ i. first.2 i + second.2 i) ∙ sym led,
        )

    -- the row and the column of k stay as they are
    at : (a b : ℕ) → (between after a k ≡ between before a k) ⊎ (between after a k ≡ between before a k + between before k k)
        → (between after k b ≡ between before k b) ⊎ (between after k b ≡ between before k k + between before k b)
        → between after a b ≤ between after a k + between after k b
    at a b (inl first) (inl second) = omega (arith, first, second, one.through a b)
    at a b (inl first) (inr second) = omega (arith, first, second, home, one.through a b)
    at a b (inr first) (inl second) = omega (arith, first, second, home, one.through a b)
    at a b (inr first) (inr second) = omega (arith, first, second, home, one.through a b)

    old : (a x b : ℕ) → x < k → (between after a x ≡ between before a x) ⊎ (between after a x ≡ between before a k + between before k x)
        → (between after x b ≡ between before x b) ⊎ (between after x b ≡ between before x k + between before k b)
        → between after a b ≤ between after a x + between after x b
    old a x b within (inl first) (inl second) = omega (arith, first, second, one.nearer a b, was.through a x b within)
    old a x b within (inl first) (inr second) = omega (arith, first, second, one.through a b, was.through a x k within)
    old a x b within (inr first) (inl second) = omega (arith, first, second, one.through a b, was.through k x b within)
    old a x b within (inr first) (inr second) = omega (arith, first, second, one.through a b)

-- the minutes along no more than one entry are those before any turn
pub AreThrough-first : (entries : List Entry) (n : ℕ) (ways rows : List (List ℕ)) → AreFirstRows n ways rows → AreTold entries ways
    → AreAmong n entries
    → AreThrough entries 0 rows
AreThrough-first entries n ways rows first are among = record {
  walks = λ a b near. ⊎_elim
      (λ (within : a < n). walks a b within near ((first.each a within).by b near))
      (λ (past : n ≤ a). absurd (let is = past-last rows a b (omega (arith, past, first.count)) in omega (arith, is, near)))
      (cases_lt a n);
  entry = λ e holds.
      let told = are.told.told e holds in
      let leads : way ways e.from e.to ≢ 0 = (λ zero. are.told.lasting e holds (sym told ∙ zero)) in
      omega (arith, told, (first.each e.from (among e holds).0).entry e.to leads);
  through = λ a x b within. absurd (omega (arith, within));
}
  where
    walks : (a b : ℕ) → a < n → between rows a b < far → (b ≡ a) ⊎ ((way ways a b ≢ 0) × (between rows a b ≡ way ways a b))
        → (es : List Entry) × IsWalk entries a es b × (walk_minutes es ≡ between rows a b)
    walks a b within near (inl same) = ([], sym same, sym (ap (between rows a) same ∙ (first.each a within).home))
    walks a b within near (inr led) =
        let e : Entry = record { from = a; to = b; minutes = way ways a b } in
        (e ∷ [], (are.told.entry a b led.0, refl, refl), sum_by-cons (λ (e : Entry). e.minutes) e [] ∙ (let is = led.1 in omega arith))

-- after all turns the rows of the first places are those of least walks
pub AreLeastRows-through : (entries : List Entry) (n places : ℕ) (ways rows all : List (List ℕ)) → AreTold entries ways → AreAmong n entries
    → n ≤ 512 → places ≤ n
    → AreDistances n all → AreThrough entries n all → rows ≡ take places all
    → AreLeastRows entries rows
AreLeastRows-through entries n places ways rows all told among few less are through is = record {
  few = omega (arith, count, few, less);
  columns = λ a within. ap length (at a within) ∙ are.columns a (below a within);
  least = λ a b within. subst (λ (row : List ℕ). IsLeastWalk entries a b (found_at row b)) (sym (at a within))
      (IsLeastWalk-closed entries a (get_or all a []) (closed a (below a within)) b);
  bounded = λ a within. subst IsBounded (sym (at a within)) (IsBounded-closed entries a (get_or all a []) (closed a (below a within)));
}
  where
    count : length rows ≡ places
    count = ap length is ∙ length-take-le places all (omega (arith, less, are.count))

    below : (a : ℕ) → a < length rows → a < n
    below a within = omega (arith, within, count, less)

    at : (a : ℕ) → a < length rows → get_or rows a [] ≡ get_or all a []
    at a within = ap (λ (rows : List (List ℕ)). get_or rows a []) is ∙ get_or-take places all a [] (omega (arith, within, count))

    closed : (a : ℕ) → a < n → IsClosedRow entries a (get_or all a [])
    closed a within = record {
      len = are.columns a within;
      start_in = omega (arith, within, few);
      home = are.home a within;
      walks = through.walks a;
      closed = λ e holds. omega (arith, through.through a e.from e.to (among e holds).0, through.entry e holds);
      short = λ e holds. omega (arith, told.told.told e holds, told.short e.from e.to);
      within = λ e holds. omega (arith, (among e holds).1, few);
    }
