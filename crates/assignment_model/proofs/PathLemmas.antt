-- The inverse of a list of next trips, and the paths that change nothing.
use Rattle.std.proofs.Common.{◌≡◌, ℕ, zero, suc, ◌<◌, ◌≤◌, ◌==◌, true, false, cond, List, [], ◌∷◌, ◌++◌, length, set, Option, None, Some}
use Rattle.std.proofs.Common.{refl, sym, ap, subst, ◌∙◌, ⊎_elim, zero-add, arith}
use Rattle.std.specs.Prelude.{IfSome}
use Rattle.std.specs.List.{range_with_len}
use Rattle.std.proofs.Math.ListN.{get_or-map}
use Rattle.std.proofs.lemmas.Bool.{cases_lt, cases_eq, eq-eqb, ne_eqb}
use Rattle.std.proofs.lemmas.List.{length-map, length-append, ext_get_or, get_or_default, get_or_past, set-get_or}
use Rattle.std.proofs.lemmas.List.FromFn.{length-range_with_len, get_or-range_with_len}
use Rattle.std.proofs.lemmas.Option.{none-some, same_Some}
use Rattle.trip_model.specs.Links.{next_of, before_of}
use Rattle.trip_model.proofs.BeforeLemmas.{next-before, before-next, next-within}
use Rattle.assignment_model.specs.Paths.{AreNextTrips, AreAlike, befores, IsPath, IsLeftPath, IsRightPath, IsAlone, without_link, cut_at}
use Rattle.assignment_model.specs.Paths.{with_slot, IsLeftFrom, IsRightFrom, IsTaken, IsAdded}

length-befores : (links : List (Option ℕ)) → length (befores links) ≡ length links
length-befores links = length-map (range_with_len 0 (length links)) (before_of links) ∙ length-range_with_len 0 (length links)

-- what the inverse list has at a slot is the trip before it
next-befores : (links : List (Option ℕ)) (s : ℕ) → AreNextTrips links → next_of (befores links) s ≡ before_of links s
next-befores links s are = ⊎_elim
    (λ (h : s < length links).
    let slots = range_with_len 0 (length links) in
    let within : s < length (befores links) = omega (arith, length-befores links) in
    get_or_default (befores links) s None (before_of links 0) within ∙ get_or-map (before_of links) slots s 0
    ∙ ap (before_of links) (get_or-range_with_len 0 (length links) s 0 h ∙ zero-add s))
    (λ (h : length links ≤ s). get_or_past (befores links) s None (omega (arith, length-befores links)) ∙ past h (before_of links s) refl)
    (cases_lt s (length links))
  where
    past : length links ≤ s → (before : Option ℕ) → before_of links s ≡ before → None ≡ before_of links s
    past h None none = sym none
    past h (Some i) found = absurd (omega (arith, h, are.within i s (next-before links i s found)))

-- the inverse of a list of next trips is one of trips before
pub AreNextTrips-befores : (links : List (Option ℕ)) → AreNextTrips links → AreNextTrips (befores links)
AreNextTrips-befores links are =
    let before : (s i : ℕ) → next_of (befores links) s ≡ Some i
    → next_of links i ≡ Some s = λ s i e. next-before links i s (sym (next-befores links s are) ∙ e) in
    record {
      within = λ s i e. omega (arith, length-befores links, next-within links i s (before s i e));
      once = λ r s i e f. same_Some r s (sym (before r i e) ∙ before s i f);
    }

-- and its inverse is the list itself
pub before-befores : (links : List (Option ℕ)) (i : ℕ) → AreNextTrips links → before_of (befores links) i ≡ next_of links i
before-befores links i are = by (next_of links i) refl
  where
    none : (before : Option ℕ) → before_of (befores links) i ≡ before → next_of links i ≡ None → before_of (befores links) i ≡ None
    none None e last = e
    none (Some j) e last =
        let found = next-before links i j (sym (next-befores links j are) ∙ next-before (befores links) j i e) in
        absurd (none-some j (sym last ∙ found))

    by : (next : Option ℕ) → next_of links i ≡ next → before_of (befores links) i ≡ next_of links i
    by None e = none (before_of (befores links) i) refl e ∙ sym e
    by (Some j) e =
        before-next (befores links) j i (AreNextTrips-befores links are).once (next-befores links j are ∙ before-next links i j are.once e)
        ∙ sym e

pub befores-befores : (links : List (Option ℕ)) → AreNextTrips links → befores (befores links) ≡ links
befores-befores links are =
    ext_get_or None _ _ (length-befores (befores links) ∙ length-befores links)
    (λ i _. next-befores (befores links) i (AreNextTrips-befores links are) ∙ before-befores links i are)

AreAlike-befores : (old new : List (Option ℕ)) → AreAlike old new → AreAlike (befores old) (befores new)
AreAlike-befores old new are = record {
  before = AreNextTrips-befores old are.before;
  after = AreNextTrips-befores new are.after;
  slots = length-befores new ∙ are.slots ∙ sym (length-befores old);
}

-- a path of functions that are equal
path-same : (had had' had_by had_by' given given' : ℕ → Option ℕ) (a : ℕ) → ((s : ℕ) → had s ≡ had' s) → ((s : ℕ) → had_by s ≡ had_by' s)
    → ((s : ℕ) → given s ≡ given' s)
    → IsPath had had_by given a → IsPath had' had_by' given' a
path-same had had' had_by had_by' given given' a h b g path =
    let hads : had ≡ had' = λ j s. h s j in
    let bys : had_by ≡ had_by' = λ j s. b s j in
    let givens : given ≡ given' = λ j s. g s j in
    subst (λ f. IsPath f had_by' given' a) hads (subst (λ f. IsPath had f given' a) bys (subst (λ f. IsPath had had_by f a) givens path))

-- a right path is a left path of the inverse lists
pub right-left : (old new : List (Option ℕ)) (b : ℕ) → IsRightPath old new b → IsLeftPath (befores old) (befores new) b
right-left old new b right = record {
  lists = AreAlike-befores old new right.lists;
  slot = omega (arith, right.slot, length-befores old);
  path = path-same _ _ _ _ _ _ b (λ s. sym (next-befores old s right.lists.before)) (λ s. sym (before-befores old s right.lists.before))
      (λ s. sym (next-befores new s right.lists.after)) right.path;
}

-- and a left path is a right one of them
pub left-right : (old new : List (Option ℕ)) (a : ℕ) → IsLeftPath old new a → IsRightPath (befores old) (befores new) a
left-right old new a left = record {
  lists = AreAlike-befores old new left.lists;
  slot = omega (arith, left.slot, length-befores old);
  path = path-same _ _ _ _ _ _ a (λ s. sym (before-befores old s left.lists.before)) (λ s. sym (next-befores old s left.lists.before))
      (λ s. sym (before-befores new s left.lists.after)) left.path;
}

-- a path of one slot that is given nothing, and had nothing
still : (had had_by : ℕ → Option ℕ) (a : ℕ) → had a ≡ None → IsPath had had_by had a
still had had_by a none = record {
  path = [];
  distinct = (tt, tt);
  passed = subst (λ given. IfSome given (λ t. had_by t ≡ None)) (sym none) tt;
  others = λ s _. refl;
}

pub IsLeftPath-still : (links : List (Option ℕ)) (a : ℕ) → AreNextTrips links → a < length links → next_of links a ≡ None
    → IsLeftPath links links a
IsLeftPath-still links a are slot none = record {
  lists = record { before = are; after = are; slots = refl };
  slot = slot;
  path = still (next_of links) (before_of links) a none;
}

pub IsRightPath-still : (links : List (Option ℕ)) (b : ℕ) → AreNextTrips links → b < length links → before_of links b ≡ None
    → IsRightPath links links b
IsRightPath-still links b are slot none = record {
  lists = record { before = are; after = are; slots = refl };
  slot = slot;
  path = still (before_of links) (next_of links) b none;
}

-- nothing is cut of a trip that stood alone
cut-alone : (links : List (Option ℕ)) (s : ℕ) → IsAlone links s → cut_at links s ≡ links
cut-alone links s alone =
    ap (λ before. without_link (set links s None) before) alone.1
    ∙ subst (λ next. set links s next ≡ links) alone.0 (set-get_or links s None)

-- a trip that stood alone is taken where nothing changes
pub IsTaken-alone : (links : List (Option ℕ)) (s : ℕ) → AreNextTrips links → IsAlone links s → IsTaken links links s
IsTaken-alone links s are alone = record {
  lists = record { before = are; after = are; slots = refl };
  mid = links;
  left = subst (IsLeftFrom (cut_at links s) links) (sym alone.1) (sym (cut-alone links s alone));
  right = subst (IsRightFrom links links) (sym alone.0) refl;
}

-- and only there
pub taken-alone : (old new : List (Option ℕ)) (s : ℕ) → IsAlone old s → IsTaken old new s → new ≡ old
taken-alone old new s alone taken =
    let left : taken.mid ≡ cut_at old s = subst (IsLeftFrom (cut_at old s) taken.mid) alone.1 taken.left in
    let right : new ≡ taken.mid = subst (IsRightFrom taken.mid new) alone.0 taken.right in
    right ∙ left ∙ cut-alone old s alone

-- a slot without a next trip at the end of a list says nothing new
next-appended : (links : List (Option ℕ)) (i : ℕ) → next_of (links ++ None ∷ []) i ≡ next_of links i
next-appended [] zero = refl
next-appended [] (suc i) = refl
next-appended (next ∷ links) zero = refl
next-appended (next ∷ links) (suc i) = next-appended links i

next-with_slot : (links : List (Option ℕ)) (s i : ℕ) → next_of (with_slot links s) i ≡ next_of links i
next-with_slot links s i =
    elim (length links == s) as (λ b. next_of (cond b (links ++ None ∷ []) links) i ≡ next_of links i)
    [ true ↦ next-appended links i | false ↦ refl ]

-- no slot is lost
longer-with_slot : (links : List (Option ℕ)) (s : ℕ) → length links ≤ length (with_slot links s)
longer-with_slot links s =
    elim (length links == s) as (λ b. length links ≤ length (cond b (links ++ None ∷ []) links))
    [ true ↦ omega (arith, length-append links (None ∷ [])) | false ↦ omega arith ]

-- the slot is there
within-with_slot : (links : List (Option ℕ)) (s : ℕ) → s ≤ length links → s < length (with_slot links s)
within-with_slot links s le = ⊎_elim
    (λ (e : length links ≡ s).
    subst (λ b. s < length (cond b (links ++ None ∷ []) links)) (sym (eq-eqb (length links) s e))
    (omega (arith, e, length-append links (None ∷ []))))
    (λ (ne : length links ≡ s → ⊥). subst (λ b. s < length (cond b (links ++ None ∷ []) links)) (sym (ne_eqb (length links) s ne))
    (omega arith))
    (cases_eq (length links) s)

AreNextTrips-with_slot : (links : List (Option ℕ)) (s : ℕ) → AreNextTrips links → AreNextTrips (with_slot links s)
AreNextTrips-with_slot links s are =
    let known : (i j : ℕ) → next_of (with_slot links s) i ≡ Some j
    → next_of links i ≡ Some j = λ i j e. sym (next-with_slot links s i) ∙ e in
    record {
      within = λ i j e. omega (arith, are.within i j (known i j e), longer-with_slot links s);
      once = λ h i j e f. are.once h i j (known h j e) (known i j f);
    }

IsAlone-with_slot : (links : List (Option ℕ)) (s : ℕ) → AreNextTrips links → IsAlone links s → IsAlone (with_slot links s) s
IsAlone-with_slot links s are alone = (next-with_slot links s s ∙ alone.0, by (before_of (with_slot links s) s) refl)
  where
    by : (before : Option ℕ) → before_of (with_slot links s) s ≡ before → before_of (with_slot links s) s ≡ None
    by None none = none
    by (Some i) found =
        let next = sym (next-with_slot links s i) ∙ next-before (with_slot links s) i s found in
        absurd (none-some i (sym alone.1 ∙ before-next links i s are.once next))

-- a trip that stays alone is added where nothing but its slot is
pub IsAdded-alone : (links : List (Option ℕ)) (s : ℕ) → AreNextTrips links → s ≤ length links → IsAlone links s
    → IsAdded links (with_slot links s) s
IsAdded-alone links s are le alone =
    let now = AreNextTrips-with_slot links s are in
    let here = IsAlone-with_slot links s are alone in
    let slot = within-with_slot links s le in
    record {
      alone = here;
      mid = with_slot links s;
      left = IsLeftPath-still (with_slot links s) s now slot here.0;
      right = IsRightPath-still (with_slot links s) s now slot here.1;
    }
