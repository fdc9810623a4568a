-- A shift by which no place loses its greatest value does not lower the sum of the maxima.
use Rattle.std.proofs.Common.{◌≡◌, ℕ, zero, suc, ◌+◌, ◌<◌, ◌≤◌, ◌==◌, ◌&&◌, nat_le, Bool, true, false, cond, List, ◌∷◌, ◌++◌, length}
use Rattle.std.proofs.Common.{count_by, ℤ, pos, neg_ℤ, ◌+ℤ◌, ◌≤ℤ◌, refl, sym, ap, ◌∙◌, subst, arith}
use Rattle.std.specs.Prelude.{unsigned_abs, negsuc}
use Rattle.std.proofs.lemmas.Bool.{eqb-true, leb-true, le-leb}
use Rattle.std.proofs.lemmas.Int.{ints}
use Rattle.std.proofs.lemmas.List.Sums.{sum_by-append, sum_by-cons}
use Rattle.trip_model.specs.declared.trip.Move.{Move}
use Rattle.trip_model.specs.Deficit.{deficit, live_moves}
use Rattle.trip_model.specs.Maximum.{first_maximum, sum_of_maxima}
use Rattle.trip_model.specs.Timetable.{TimetableView, slot_at}
use Rattle.trip_model.specs.Trip.{move_of, shifted}
use Rattle.trip_model.specs.Fleet.{with_shift}
use Rattle.trip_model.proofs.MaximumLemmas.{IsFirstMaximum-first_maximum, first_maximum-agree}
use Rattle.deficit_steps.specs.Changes.{value}
use Rattle.shift_moves.specs.Lowering.{IsLowering}
use Rattle.shift_moves.specs.Trial.{AreSwapped}
use Rattle.shift_moves.proofs.Holding.{AreSwapped-shift}

-- a count of moves, with that of one of them apart
counted : (p : Move → Bool) (front back : List Move) (x : Move)
    → count_by p (front ++ x ∷ back) ≡ count_by p front + count_by p back + cond (p x) 1 0
counted p front back x =
    let c : Move → ℕ = λ m. cond (p m) 1 0 in
    omega (arith, sum_by-append c front (x ∷ back), sum_by-cons c x back)

one-le : (b c : Bool) → (b ≡ true → c ≡ true) → cond b 1 0 ≤ cond c 1 0
one-le false c h = omega arith
one-le true c h = let is : ◌≡◌ {A = ℕ} (cond c 1 0) 1 = ap (λ (x : Bool). cond x 1 0) (h refl) in omega (arith, is)

both-le : (a b c : Bool) → (a ≡ true → b ≡ true → c ≡ true) → cond (a && b) 1 0 ≤ cond (a && c) 1 0
both-le false b c h = omega arith
both-le true b c h = one-le b c (h refl)

-- A move is replaced by another between the same places. The deficit of a place at a minute is no less then, unless that of
-- the first has left the place by then and the other has not, or the other has arrived and the first has not.
deficit-kept : (front back : List Move) (m n : Move) (p t : ℕ) → n.from ≡ m.from → n.to ≡ m.to → (m.from ≡ p → m.leaves ≤ t → n.leaves ≤ t)
    → (m.to ≡ p → n.arrives ≤ t → m.arrives ≤ t)
    → deficit (front ++ m ∷ back) p t ≤ℤ deficit (front ++ n ∷ back) p t
deficit-kept front back m n p t from to leaves arrives =
    let left : Move → Bool = λ x. (x.from == p) && nat_le x.leaves t in
    let came : Move → Bool = λ x. (x.to == p) && nat_le x.arrives t in
    let more : cond (left m) 1 0 ≤ cond ((m.from == p) && nat_le n.leaves t) 1 0 =
    both-le (m.from == p) (nat_le m.leaves t) (nat_le n.leaves t)
    (λ e l. le-leb n.leaves t (leaves (eqb-true m.from p e) (leb-true m.leaves t l))) in
    let less : cond ((m.to == p) && nat_le n.arrives t) 1 0 ≤ cond (came m) 1 0 =
    both-le (m.to == p) (nat_le n.arrives t) (nat_le m.arrives t)
    (λ e l. le-leb m.arrives t (arrives (eqb-true m.to p e) (leb-true n.arrives t l))) in
    let same : ◌≡◌ {A = ℕ} (cond (left n) 1 0) (cond ((m.from == p) && nat_le n.leaves t) 1 0) =
    ap (λ k. cond ((k == p) && nat_le n.leaves t) 1 0) from in
    let same' : ◌≡◌ {A = ℕ} (cond (came n) 1 0) (cond ((m.to == p) && nat_le n.arrives t) 1 0) =
    ap (λ k. cond ((k == p) && nat_le n.arrives t) 1 0) to in
    omega (
      arith,
      ints,
      counted left front back m,
      counted left front back n,
      counted came front back m,
      counted came front back n,
      more,
      less,
      same,
      same',
    )

-- a function that reaches the maximum of another one somewhere has no lesser maximum
reaches : (d e : ℕ → ℤ) (t : ℕ) → t ≤ 8191 → (first_maximum d).0 ≤ℤ e t → (first_maximum d).0 ≤ℤ (first_maximum e).0
reaches d e t within h = let greatest = (IsFirstMaximum-first_maximum e).greatest t within in omega (arith, ints, h, greatest)

sum-kept : (d e : ℕ → ℕ → ℤ) (n : ℕ) → ((p : ℕ) → (first_maximum (d p)).0 ≤ℤ e p (first_maximum (d p)).1)
    → sum_of_maxima d n ≤ℤ sum_of_maxima e n
sum-kept d e zero kept = omega (arith, ints)
sum-kept d e (suc n) kept =
    let rest = sum-kept d e n kept in
    let last = reaches (d n) (e n) (first_maximum (d n)).1 (IsFirstMaximum-first_maximum (d n)).within (kept n) in
    omega (arith, ints, rest, last)

-- the first minute at which a place has its greatest deficit
abbrev pub high_at : TimetableView → ℕ → ℕ
high_at t p = (first_maximum (deficit (live_moves t.slots) p)).1

-- a shift does not lower the sum where, at the first minute of the greatest deficit of the place that the trip leaves, it has
-- left still, and at that of the place where it arrives it has not arrived sooner
pub not-lowering : (t : TimetableView) (s : ℕ) (by : ℤ) (m n : Move) → AreSwapped m n t.slots (with_shift t s by).slots → n.from ≡ m.from
    → n.to ≡ m.to
    → (m.leaves ≤ high_at t m.from → n.leaves ≤ high_at t m.from) → (n.arrives ≤ high_at t m.to → m.arrives ≤ high_at t m.to)
    → IsLowering t s by → ⊥
not-lowering t s by m n are from to leaves arrives lowering =
    let d : ℕ → ℕ → ℤ = deficit (live_moves t.slots) in
    let e : ℕ → ℕ → ℤ = deficit (live_moves (with_shift t s by).slots) in
    let was : (p k : ℕ) → d p k ≡ deficit (are.front ++ m ∷ are.back) p k = λ p k. ap (λ moves. deficit moves p k) are.was in
    let now : (p k : ℕ) → e p k ≡ deficit (are.front ++ n ∷ are.back) p k = λ p k. ap (λ moves. deficit moves p k) are.now in
    let kept : (p : ℕ) → (first_maximum (d p)).0 ≤ℤ e p (first_maximum (d p)).1 = λ p.
    (let at = (first_maximum (d p)).1 in
    let more = deficit-kept are.front are.back m n p at from to
    (λ here. subst (λ k. m.leaves ≤ (first_maximum (d k)).1 → n.leaves ≤ (first_maximum (d k)).1) here leaves)
    (λ here. subst (λ k. n.arrives ≤ (first_maximum (d k)).1 → m.arrives ≤ (first_maximum (d k)).1) here arrives) in
    let reached = (IsFirstMaximum-first_maximum (d p)).reached in
    omega (arith, ints, more, was p at, now p at, reached)) in
    let sums = sum-kept d e (length t.places) kept in
    let lower = lowering.lower in
    absurd (omega (arith, ints, sums, lower))

-- what is not below 0 is its own size
abs-pos : (x : ℤ) → pos 0 ≤ℤ x → pos (unsigned_abs x) ≡ x
abs-pos (pos n) h = refl
abs-pos (negsuc n) h = absurd (omega (arith, ints, h))

-- nor does one of so many minutes earlier, where at that minute the trip has not arrived sooner
pub not-earlier : (t : TimetableView) (s size at : ℕ) (m : Move) → s < length t.slots → (slot_at t s).trip.live ≡ true
    → m ≡ move_of (slot_at t s).trip → m.leaves < m.arrives → high_at t m.to ≡ at
    → (m.arrives ≤ at + size → m.arrives ≤ at) → IsLowering t s (neg_ℤ (pos size)) → ⊥
not-earlier t s size at m within live is forward high late lowering =
    let trip = (slot_at t s).trip in
    let by = neg_ℤ (pos size) in
    let n = move_of (shifted trip by) in
    let leaves : m.leaves ≡ trip.departs = ap (λ (x : Move). x.leaves) is in
    let arrives : m.arrives ≡ trip.ends = ap (λ (x : Move). x.arrives) is in
    let may = lowering.within.departs in
    let leaves' = abs-pos (pos trip.departs +ℤ by) may in
    let arrives' = abs-pos (pos trip.ends +ℤ by) (omega (arith, ints, may, forward, leaves, arrives)) in
    not-lowering t s by m n (AreSwapped-shift t s by m n within live is refl) (ap (λ (x : Move). x.from) (sym is))
    (ap (λ (x : Move). x.to) (sym is))
    (λ h. omega (arith, ints, h, leaves, leaves'))
    (λ h. let there = late (omega (arith, ints, h, high, arrives, arrives')) in omega (arith, there, high)) lowering

-- nor one of so many minutes later, where at that minute it has left still
pub not-later : (t : TimetableView) (s size at : ℕ) (m : Move) → s < length t.slots → (slot_at t s).trip.live ≡ true
    → m ≡ move_of (slot_at t s).trip → high_at t m.from ≡ at
    → (m.leaves ≤ at → m.leaves + size ≤ at) → IsLowering t s (pos size) → ⊥
not-later t s size at m within live is high still lowering =
    let trip = (slot_at t s).trip in
    let n = move_of (shifted trip (pos size)) in
    let leaves : m.leaves ≡ trip.departs = ap (λ (x : Move). x.leaves) is in
    let arrives : m.arrives ≡ trip.ends = ap (λ (x : Move). x.arrives) is in
    let leaves' = abs-pos (pos trip.departs +ℤ pos size) lowering.within.departs in
    let arrives' = abs-pos (pos trip.ends +ℤ pos size) (omega (arith, ints)) in
    not-lowering t s (pos size) m n (AreSwapped-shift t s (pos size) m n within live is refl) (ap (λ (x : Move). x.from) (sym is))
    (ap (λ (x : Move). x.to) (sym is))
    (λ h. let there = still (omega (arith, h, high)) in omega (arith, ints, there, high, leaves, leaves'))
    (λ h. omega (arith, ints, h, arrives, arrives')) lowering

-- the first minute of the greatest value of a place, where the deficits hold the trips that run
pub high-read : (t : TimetableView) (d : List (List ℤ)) (p high at : ℕ)
    → ((k minute : ℕ) → k < length d → minute ≤ 8191 → value d k minute ≡ deficit (live_moves t.slots) k minute) → p < length d
    → first_maximum (value d p) ≡ (pos high, at) → high_at t p ≡ at
high-read t d p high at held within is =
    ap (λ (x : ℤ × ℕ). x.1) (sym (first_maximum-agree (value d p) (deficit (live_moves t.slots) p) (λ minute h. held p minute within h))
    ∙ is)
