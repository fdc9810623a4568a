-- Neighbours in stated blocks, and next trips by names.
use Rattle.std.proofs.Common.{◌≡◌, inl, inr, ⊎_elim, ℕ, zero, suc, ◌<◌, ◌≤◌, ◌==◌, ◌||◌, Bool, true, false, cond}
use Rattle.std.proofs.Common.{List, [], ◌∷◌, length, map, filter, Option, None, Some, is_some, if◌then◌else◌, refl, sym, ap, subst}
use Rattle.std.proofs.Common.{◌∙◌, arith}
use Rattle.std.specs.Prelude.{slice_get}
use Rattle.std.specs.Str.{bytes_eq}
use Rattle.std.proofs.lemmas.Bool.{cases_lt, eq-eqb, eqb-true, ne_eqb, false≢true}
use Rattle.std.proofs.lemmas.List.{length-map}
use Rattle.std.proofs.lemmas.List.FromFn.{get_or-map-range_with_len, length-map-range_with_len}
use Rattle.std.proofs.lemmas.Slice.Eq.{bytes_eq-Decides}
use Rattle.gtfs_tables.specs.Table.{TableView}
use Rattle.trip_model.specs.Blocking.{times}
use Rattle.trip_model.specs.Links.{next_of}
use Rattle.trip_model.specs.Order.{by_departure}
use Rattle.trip_model.specs.Plain.{move_at, move_of_slot, trip_moves}
use Rattle.trip_model.specs.Timetable.{TimetableView}
use Rattle.trip_model.specs.declared.trip.Move.{Move}
use Rattle.trip_model.proofs.Counting.{times-cons}
use Rattle.trip_model.proofs.OrderLemmas.{StandsOnce-by_departure}
use Rattle.block_audit.specs.Stated.{stated_names, name_at, is_alone, is_of, is_first, begins, block_from, blocks_by}
use Rattle.feed_likings.specs.Alike.{first_of_block, first_with, stated_next}
use Rattle.feed_likings.specs.Likings.{nexts_by}
use Rattle.likings_laws.specs.Laws.{AreNeighbours, AreNextAsStated, IsBehind}

abbrev one : Bool → ℕ
one b = cond b 1 0

bytes-turned : (xs ys : List ℕ) → bytes_eq xs ys ≡ bytes_eq ys xs
bytes-turned xs ys = by (bytes_eq xs ys) (bytes_eq ys xs) refl refl
  where
    by : (a b : Bool) → bytes_eq xs ys ≡ a → bytes_eq ys xs ≡ b → a ≡ b
    by true true e f = refl
    by false false e f = refl
    by true false e f = absurd (false≢true (sym f ∙ (bytes_eq-Decides ys xs).1 (sym ((bytes_eq-Decides xs ys).0 e))))
    by false true e f = absurd (false≢true (sym e ∙ (bytes_eq-Decides xs ys).1 (sym ((bytes_eq-Decides ys xs).0 f))))

module _ (names : List (List ℕ)) where
  -- the first of a name heads those of that name
  head-first : (name : List ℕ) (order : List ℕ) → slice_get (filter (is_of names name) order) 0 ≡ first_with names name order
  head-first name [] = refl
  head-first name (x ∷ order) =
      by (is_of names name x) (head-first name order)
      ∙ ap (λ b. cond b (Some x) (first_with names name order)) (bytes-turned (name_at names x) name)
    where
      by : (b : Bool) → slice_get (filter (is_of names name) order) 0 ≡ first_with names name order
          → slice_get (cond b (x ∷ filter (is_of names name) order) (filter (is_of names name) order)) 0
          ≡ cond b (Some x) (first_with names name order)
      by true rest = refl
      by false rest = rest

  -- a slot with one behind it among those that pass passes, and stands in the list
  behind-passes : (p : ℕ → Bool) (s t : ℕ) (order : List ℕ) → IsBehind s t (filter p order) → (p s ≡ true) × (0 < times s order)
  behind-passes p s t [] behind = absurd behind
  behind-passes p s t (x ∷ order) behind =
      by (λ rest. let found =
      behind-passes p s t order rest in (found.0, omega (arith, found.1, times-cons s x order))) (p x) refl behind
    where
      by : (IsBehind s t (filter p order) → (p s ≡ true) × (0 < times s (x ∷ order)))
          → (b : Bool) → p x ≡ b → IsBehind s t (cond b (x ∷ filter p order) (filter p order)) → (p s ≡ true)
          × (0 < times s (x ∷ order))
      by later true e behind = ⊎_elim
          (λ (here : (x ≡ s) × (slice_get (filter p order) 0 ≡ Some t)).
          (ap p (sym here.0) ∙ e, omega (arith, times-cons s x order, ap one (eq-eqb x s here.0))))
          later
          behind
      by later false e rest = later rest

  -- a slot of a name that stands once has as its next trip the one behind it among those of that name
  next-behind : (s t : ℕ) (order : List ℕ) → is_alone names s ≡ false → times s order ≤ 1
      → IsBehind s t (filter (is_of names (name_at names s)) order) → stated_next names order s ≡ Some t
  next-behind s t [] named once behind = absurd behind
  next-behind s t (x ∷ order) named once behind =
      by (later (λ few rest. next-behind s t order named few rest)) (is_of names name x) refl behind
    where
      name : List ℕ
      name = name_at names s

      here : (x ≡ s) → slice_get (filter (is_of names name) order) 0 ≡ Some t → stated_next names (x ∷ order) s ≡ Some t
      here same head =
          ap (λ b. if b then first_of_block names s order else stated_next names order s) (eq-eqb x s same)
          ∙ ap (λ b. cond b None (first_with names name order)) named
          ∙ sym (head-first name order) ∙ head

      later : (times s order ≤ 1 → IsBehind s t (filter (is_of names name) order) → stated_next names order s ≡ Some t)
          → IsBehind s t (filter (is_of names name) order) → stated_next names (x ∷ order) s ≡ Some t
      later go_on rest = apart (x == s) refl
        where
          apart : (b : Bool) → (x == s) ≡ b → (if b then first_of_block names s order else stated_next names order s) ≡ Some t
          apart true e =
              let stands = (behind-passes (is_of names name) s t order rest).1 in
              absurd (let more = ap one e in omega (arith, times-cons s x order, more, once, stands))
          apart false e = go_on (let more = ap one e in omega (arith, times-cons s x order, more, once)) rest

      by : (IsBehind s t (filter (is_of names name) order) → stated_next names (x ∷ order) s ≡ Some t)
          → (b : Bool) → is_of names name x ≡ b
          → IsBehind s t (cond b (x ∷ filter (is_of names name) order) (filter (is_of names name) order))
          → stated_next names (x ∷ order) s ≡ Some t
      by behind-later true e behind = ⊎_elim
          (λ (first : (x ≡ s) × (slice_get (filter (is_of names name) order) 0 ≡ Some t)). here first.0 first.1)
          behind-later
          behind
      by behind-later false e rest = behind-later rest

  -- a slot with a next trip has a name, and that one is behind it among those of the name
  behind-next : (s t : ℕ) (order : List ℕ) → stated_next names order s ≡ Some t
      → (is_alone names s ≡ false) × IsBehind s t (filter (is_of names (name_at names s)) order)
  behind-next s t [] next = absurd cc
  behind-next s t (x ∷ order) next = by (λ rest. behind-next s t order rest) (x == s) refl next
    where
      name : List ℕ
      name = name_at names s

      put : (b : Bool) → IsBehind s t (filter (is_of names name) order)
          → IsBehind s t (cond b (x ∷ filter (is_of names name) order) (filter (is_of names name) order))
      put true rest = inr rest
      put false rest = rest

      first : (alone : Bool) → is_alone names s ≡ alone → x ≡ s → cond alone None (first_with names name order) ≡ Some t
          → (is_alone names s ≡ false) × IsBehind s t (filter (is_of names name) (x ∷ order))
      first true e same next = absurd cc
      first false e same next =
          let passes : is_of names name x ≡ true = (bytes_eq-Decides (name_at names x) name).1 (ap (name_at names) same) in
          let front : IsBehind s t (x ∷ filter (is_of names name) order) = inl (same, head-first name order ∙ next) in
          let P : Bool → Type 0 =
          λ b. IsBehind s t (cond b (x ∷ filter (is_of names name) order) (filter (is_of names name) order)) in
          (e, subst P (sym passes) front)

      by : (stated_next names order s ≡ Some t → (is_alone names s ≡ false) × IsBehind s t (filter (is_of names name) order))
          → (b : Bool) → (x == s) ≡ b → (if b then first_of_block names s order else stated_next names order s) ≡ Some t
          → (is_alone names s ≡ false) × IsBehind s t (filter (is_of names name) (x ∷ order))
      by later true e next = first (is_alone names s) refl (eqb-true x s e) next
      by later false e next = let rest = later next in (rest.0, put (is_of names name x) rest.1)

  -- the first of a name stands in the order, has the name, and begins its block
  pub record IsFirstOf (name : List ℕ) (order : List ℕ) (f : ℕ) : Type 0 where
    pub named : name_at names f ≡ name
    pub stands : 0 < times f order
    pub first : is_first names name order f ≡ true

  first-of : (name : List ℕ) (order : List ℕ) (s : ℕ) → name_at names s ≡ name → 0 < times s order → (f : ℕ)
      × IsFirstOf name order f
  first-of name [] s same stands = absurd (omega (arith, stands))
  first-of name (x ∷ order) s same stands = by (λ rest. first-of name order s same rest) (is_of names name x) refl
    where
      by : (0 < times s order → (f : ℕ) × IsFirstOf name order f) → (b : Bool) → is_of names name x ≡ b
          → (f : ℕ) × IsFirstOf name (x ∷ order) f
      by later true e = (
        x,
        record {
          named = (bytes_eq-Decides (name_at names x) name).0 e;
          stands = omega (arith, times-cons x x order, ap one (eq-eqb x x refl));
          first = ap (λ b. if b then x == x else is_first names name order x) e ∙ eq-eqb x x refl;
        },
      )
      by later false e =
          let other : (x == s) ≡ false = ne_eqb x s (λ is. false≢true (sym e
          ∙ (bytes_eq-Decides (name_at names x) name).1 (ap (name_at names) is ∙ same))) in
          let rest = later (omega (arith, stands, times-cons s x order, ap one other)) in (
            rest.0,
            record {
              named = rest.1.named;
              stands = omega (arith, times-cons rest.0 x order, rest.1.stands);
              first = ap (λ b. if b then x == rest.0 else is_first names name order rest.0) e ∙ rest.1.first;
            },
          )

  -- neighbours in a block that some trip begins are neighbours in the blocks, and the other way round
  among : (s t : ℕ) (order xs : List ℕ) (f : ℕ) → 0 < times f xs → begins names order f ≡ true
      → IsBehind s t (block_from names order f).slots
      → AreNeighbours s t (map (block_from names order) (filter (begins names order) xs))
  among s t order [] f stands first behind = absurd (omega (arith, stands))
  among s t order (x ∷ xs) f stands first behind = by (λ rest. among s t order xs f rest first behind) (x == f) refl
    where
      put : (b : Bool) → AreNeighbours s t (map (block_from names order) (filter (begins names order) xs))
          → AreNeighbours s t (map (block_from names order)
          (cond b (x ∷ filter (begins names order) xs) (filter (begins names order) xs)))
      put true rest = inr rest
      put false rest = rest

      by : (0 < times f xs → AreNeighbours s t (map (block_from names order) (filter (begins names order) xs)))
          → (b : Bool) → (x == f) ≡ b → AreNeighbours s t (map (block_from names order) (filter (begins names order) (x ∷ xs)))
      by later true e =
          let same = eqb-true x f e in
          let P : Bool → Type 0 = λ b. AreNeighbours s t
          (map (block_from names order) (cond b (x ∷ filter (begins names order) xs) (filter (begins names order) xs))) in
          subst P (sym (ap (begins names order) same ∙ first))
          (inl (subst (λ g. IsBehind s t (block_from names order g).slots) (sym same) behind))
      by later false e = put (begins names order x)
          (later (let other = ap one e in omega (arith, stands, times-cons f x xs, other)))

  one-of : (s t : ℕ) (order xs : List ℕ) → AreNeighbours s t (map (block_from names order) (filter (begins names order) xs))
      → (f : ℕ) × IsBehind s t (block_from names order f).slots
  one-of s t order [] neighbours = absurd neighbours
  one-of s t order (x ∷ xs) neighbours = by (λ rest. one-of s t order xs rest) (begins names order x) neighbours
    where
      by : (AreNeighbours s t (map (block_from names order) (filter (begins names order) xs))
          → (f : ℕ) × IsBehind s t (block_from names order f).slots)
          → (b : Bool) → AreNeighbours s t
          (map (block_from names order) (cond b (x ∷ filter (begins names order) xs) (filter (begins names order) xs)))
          → (f : ℕ) × IsBehind s t (block_from names order f).slots
      by later true both = ⊎_elim (λ (here : IsBehind s t (block_from names order x).slots). (x, here)) later both
      by later false rest = later rest

  -- next trips by names are neighbours in the blocks by names
  stated-neighbours : (order : List ℕ) (s t : ℕ) → stated_next names order s ≡ Some t → AreNeighbours s t (blocks_by names order)
  stated-neighbours order s t next =
      let found = behind-next s t order next in
      let name = name_at names s in
      let passes = behind-passes (is_of names name) s t order found.1 in
      let first = first-of name order s refl passes.1 in
      let f = first.0 in
      let named : is_alone names f ≡ false = ap (λ (xs : List ℕ). length xs == 0) first.1.named ∙ found.0 in
      let begins-it : begins names order f ≡ true =
      (λ i. named i || is_first names (first.1.named i) order f) ∙ first.1.first in
      let slots : filter (is_of names name) order ≡ (block_from names order f).slots =
      sym (λ i. if named i then f ∷ [] else filter (is_of names (first.1.named i)) order) in
      among s t order order f first.1.stands begins-it (subst (IsBehind s t) slots found.1)

  neighbours-stated : (order : List ℕ) (s t : ℕ) → times s order ≤ 1 → AreNeighbours s t (blocks_by names order)
      → stated_next names order s ≡ Some t
  neighbours-stated order s t once neighbours =
      let found = one-of s t order order neighbours in by found.0 (is_alone names found.0) refl found.1
    where
      by : (f : ℕ) (alone : Bool) → is_alone names f ≡ alone
          → IsBehind s t (if alone then f ∷ [] else filter (is_of names (name_at names f)) order)
          → stated_next names order s ≡ Some t
      by f true e (inl here) = absurd (let no = here.1 in cc)
      by f true e (inr rest) = absurd rest
      by f false e behind =
          let passes = behind-passes (is_of names (name_at names f)) s t order behind in
          let same : name_at names s ≡ name_at names f = (bytes_eq-Decides (name_at names s) (name_at names f)).0 passes.0 in
          next-behind s t order (ap (λ (xs : List ℕ). length xs == 0) same ∙ e) once
          (subst (λ name. IsBehind s t (filter (is_of names name) order)) (sym same) behind)

module _ (trips : TableView) (timetable : TimetableView) (chosen : List Bool) where
  abbrev names : List (List ℕ)
  names = stated_names trips chosen

  abbrev moves : List (Option Move)
  moves = trip_moves timetable.slots

  abbrev order : List ℕ
  order = by_departure moves

  times-order : (s : ℕ) → times s order ≡ cond (is_some (move_at moves s)) 1 0
  times-order s = (StandsOnce-by_departure moves).once s

  at-most-one : (s : ℕ) → times s order ≤ 1
  at-most-one s = by (is_some (move_at moves s)) (times-order s)
    where
      by : (b : Bool) → times s order ≡ cond b 1 0 → times s order ≤ 1
      by true e = omega (arith, e)
      by false e = omega (arith, e)

  past : (ms : List (Option Move)) (s : ℕ) → length ms ≤ s → move_at ms s ≡ None
  past [] s le = refl
  past (m ∷ ms) zero le = absurd (omega (arith, le))
  past (m ∷ ms) (suc s) le = past ms s (omega (arith, le))

  -- a slot that stands in the order is one of the timetable
  within : (s : ℕ) → 0 < times s order → s < length timetable.slots
  within s stands = ⊎_elim
      (λ (lt : s < length timetable.slots). lt)
      (λ (le : length timetable.slots ≤ s).
      let count = length-map timetable.slots move_of_slot in
      let none = past moves s (omega (arith, le, count)) in
      absurd (omega (arith, stands, times-order s ∙ ap (λ o. cond (is_some o) 1 0) none)))
      (cases_lt s (length timetable.slots))

  next-of : (s : ℕ) → s < length timetable.slots → next_of (nexts_by names timetable) s ≡ stated_next names order s
  next-of s lt = get_or-map-range_with_len (stated_next names order) 0 (length timetable.slots) s s None lt (omega arith)

  none-past : (xs : List (Option ℕ)) (s : ℕ) → length xs ≤ s → next_of xs s ≡ None
  none-past [] s le = refl
  none-past (x ∷ xs) zero le = absurd (omega (arith, le))
  none-past (x ∷ xs) (suc s) le = none-past xs s (omega (arith, le))

  next-within : (s t : ℕ) → next_of (nexts_by names timetable) s ≡ Some t → s < length timetable.slots
  next-within s t next = ⊎_elim
      (λ (lt : s < length timetable.slots). lt)
      (λ (le : length timetable.slots ≤ s).
      let count = length-map-range_with_len (stated_next names (by_departure (trip_moves timetable.slots))) 0
      (length timetable.slots) in
      let none = none-past (nexts_by names timetable) s (omega (arith, le, count)) in
      absurd (some-none t (sym next ∙ none)))
      (cases_lt s (length timetable.slots))
    where
      some-none : (t : ℕ) → Some t ≡ None → ⊥
      some-none t e = cc

pub next-as-stated : AreNextAsStated
next-as-stated trips timetable chosen s t = (
  (λ next. stated-neighbours (stated_names trips chosen) (order trips timetable chosen) s t
      (sym (next-of trips timetable chosen s (next-within trips timetable chosen s t next)) ∙ next)),
  (λ neighbours.
      let next = neighbours-stated (stated_names trips chosen) (order trips timetable chosen) s t
      (at-most-one trips timetable chosen s) neighbours in
      let found = behind-next (stated_names trips chosen) s t (order trips timetable chosen) next in
      let passes = behind-passes (stated_names trips chosen)
      (is_of (stated_names trips chosen) (name_at (stated_names trips chosen) s)) s t
      (order trips timetable chosen) found.1 in
      next-of trips timetable chosen s (within trips timetable chosen s passes.1) ∙ next),
)
