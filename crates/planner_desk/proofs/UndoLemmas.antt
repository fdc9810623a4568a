-- What each answer to an undo says of the records that stand.
use Rattle.std.proofs.Common.{◌≡◌, ◌≢◌, ℕ, zero, suc, ◌+◌, ◌-◌, ◌<◌, ◌&&◌, Bool, true, false, cond, not, List, [], ◌∷◌, length, drop, All}
use Rattle.std.proofs.Common.{Option, Some, None, Result, Ok, Err, refl, sym, ap, subst, ◌∙◌, add-one, arith, if◌then◌else◌}
use Rattle.std.specs.Prelude.{remove}
use Rattle.std.specs.Str.{bytes_eq}
use Rattle.std.proofs.lemmas.Bool.{false≢true}
use Rattle.std.proofs.lemmas.List.{get_or-drop, length-drop}
use Rattle.std.proofs.lemmas.List.Elements.{All-cons, All-nil}
use Rattle.std.proofs.lemmas.Slice.Eq.{bytes_eq-Decides}
use Rattle.planner_desk.specs.declared.fault.PlannerFault.{PlannerFault}
use Rattle.planner_desk.specs.declared.fault.PlannerFault.TheVariants as fault
use Rattle.planner_desk.specs.declared.standing.Standing.{Standing}
use Rattle.planner_desk.specs.Laws.{HasLast, HasNone, HolderStands, IsHeld, NothingStands, TakesBack, UndoTakesBack, trip_at}
use Rattle.edit_script.specs.Edits.{trip_of}
use Rattle.planner_desk.specs.Standing.{holder, last_from, last_place, standing_at, unless_held, without_last}
use Rattle.planner_desk.proofs.Folding.{NoneNames, NoneOf, none_names, place-is_last}

has_none : (planner : List ℕ) (standing : List Standing) → NoneOf planner standing → HasNone planner standing
has_none planner [] none = All-nil (λ (r : Standing). r.asked.planner ≢ planner)
has_none planner (r ∷ standing) none =
    All-cons (λ (r : Standing). r.asked.planner ≢ planner) r standing
    (λ is. false≢true (sym none.0 ∙ (bytes_eq-Decides r.asked.planner planner).1 is)) (has_none planner standing none.1)

names_none : (trip : List ℕ) (standing : List Standing) → NoneNames trip standing
    → All (λ (r : Standing). trip_of r.asked.edit ≢ trip) standing
names_none trip [] none = All-nil (λ (r : Standing). trip_of r.asked.edit ≢ trip)
names_none trip (r ∷ standing) none =
    All-cons (λ (r : Standing). trip_of r.asked.edit ≢ trip) r standing none.0 (names_none trip standing none.1)

-- a place that is told is that of the planner's last record
has_last : (planner : List ℕ) (standing : List Standing) (n : ℕ) → last_place planner standing ≡ Some n → HasLast planner standing n
has_last planner standing n is =
    let at = place-is_last planner standing n is in
    record {
      within = at.0;
      own = (bytes_eq-Decides (standing_at standing n).asked.planner planner).0 at.1;
      last = subst (λ k. HasNone planner (drop k standing)) (sym (add-one n)) (has_none planner (drop (suc n) standing) at.2);
    }

none_after : (planner : List ℕ) (standing : List Standing) (n : ℕ) → last_place planner standing ≡ Some n
    → NoneOf (standing_at standing n).asked.planner (drop (n + 1) standing)
none_after planner standing n is =
    let at = place-is_last planner standing n is in
    subst (λ k. NoneOf (standing_at standing n).asked.planner (drop k standing)) (sym (add-one n))
    (subst (λ planner. NoneOf planner (drop (suc n) standing))
    (sym ((bytes_eq-Decides (standing_at standing n).asked.planner planner).0 at.1)) at.2)

-- no place is told where no record is the planner's
none_from : (planner : List ℕ) (n k : ℕ) (own : Bool) (so_far : Option ℕ) (standing : List Standing)
    → ((m : ℕ) (so_far : Option ℕ) → last_from planner m so_far standing ≡ None → (so_far ≡ None) × NoneOf planner standing)
    → last_from planner k (if own then Some n else so_far) standing ≡ None → (own ≡ false) × (so_far ≡ None) × NoneOf planner standing
none_from planner n k true so_far standing rest is = let none = (rest k (Some n) is).0 in cc
none_from planner n k false so_far standing rest is = let none = rest k so_far is in (refl, none.0, none.1)

last_from-None : (planner : List ℕ) (standing : List Standing) (n : ℕ) (so_far : Option ℕ) → last_from planner n so_far standing ≡ None
    → (so_far ≡ None) × NoneOf planner standing
last_from-None planner [] n so_far is = (is, tt)
last_from-None planner (r ∷ standing) n so_far is =
    let none = none_from planner n (n + 1) (bytes_eq r.asked.planner planner) so_far standing (last_from-None planner standing) is in
    (none.1, (none.0, none.2))

-- the first of records that names a trip
record FirstNaming (trip : List ℕ) (after : List Standing) (number : ℕ) : Type 0 where
  pub place : ℕ
  pub within : place < length after
  pub number_is : number ≡ (standing_at after place).number
  pub names : trip_at after place ≡ trip
  pub first : (k : ℕ) → k < place → trip_at after k ≢ trip

some-inj : (n m : ℕ) → Some n ≡ Some m → n ≡ m
some-inj n m e = cc

first-before : (trip : List ℕ) (r : Standing) (after : List Standing) (number : ℕ) → trip_of r.asked.edit ≢ trip
    → FirstNaming trip after number → FirstNaming trip (r ∷ after) number
first-before trip r after number differs found = record {
  place = suc found.place;
  within = omega (arith, found.within);
  number_is = found.number_is;
  names = found.names;
  first = before;
}
  where
    before : (k : ℕ) → k < suc found.place → trip_at (r ∷ after) k ≢ trip
    before zero lt = differs
    before (suc k) lt = found.first k (omega arith)

first_naming-by : (held r : Standing) (after : List Standing) (number : ℕ) (other same : Bool)
    → bytes_eq (trip_of r.asked.edit) (trip_of held.asked.edit) ≡ same → other ≡ false
    → (holder held after ≡ Some number → FirstNaming (trip_of held.asked.edit) after number)
    → cond (not other && same) (Some r.number) (holder held after) ≡ Some number
    → FirstNaming (trip_of held.asked.edit) (r ∷ after) number
first_naming-by held r after number true same same_is other rest is = absurd (false≢true (sym other))
first_naming-by held r after number false true same_is other rest is = record {
  place = 0;
  within = omega arith;
  number_is = sym (some-inj r.number number is);
  names = (bytes_eq-Decides (trip_of r.asked.edit) (trip_of held.asked.edit)).0 same_is;
  first = λ k lt. absurd (omega (arith, lt));
}
first_naming-by held r after number false false same_is other rest is =
    first-before (trip_of held.asked.edit) r after number
    (λ same. false≢true (sym same_is ∙ (bytes_eq-Decides (trip_of r.asked.edit) (trip_of held.asked.edit)).1 same)) (rest is)

first_naming : (held : Standing) (after : List Standing) (number : ℕ) → NoneOf held.asked.planner after → holder held after ≡ Some number
    → FirstNaming (trip_of held.asked.edit) after number
first_naming held [] number none is = cc
first_naming held (r ∷ after) number none is =
    first_naming-by held r after number (bytes_eq r.asked.planner held.asked.planner)
    (bytes_eq (trip_of r.asked.edit) (trip_of held.asked.edit)) refl none.0 (first_naming held after number none.1) is

is_held : (planner : List ℕ) (standing : List Standing) (n number : ℕ) → last_place planner standing ≡ Some n
    → holder (standing_at standing n) (drop (n + 1) standing) ≡ Some number → IsHeld planner standing number
is_held planner standing n number last held =
    let found = first_naming (standing_at standing n) (drop (n + 1) standing) number (none_after planner standing n last) held in
    let at : (k : ℕ) → standing_at (drop (n + 1) standing) k ≡ standing_at standing ((n + 1) + k) = λ k. get_or-drop (n + 1) standing k _ in
    record {
      place = n;
      is_last = has_last planner standing n last;
      later = (n + 1) + found.place;
      after = omega arith;
      within = omega (arith, found.within, length-drop (n + 1) standing);
      number_is = found.number_is ∙ ap (λ (r : Standing). r.number) (at found.place);
      names = ap (λ (r : Standing). trip_of r.asked.edit) (sym (at found.place)) ∙ found.names;
      first = λ k low high.
          let away : (n + 1) + (k - (n + 1)) ≡ k = omega (arith, low) in
          subst (λ k. trip_at standing k ≢ trip_at standing n) away
          (subst (λ (r : Standing). trip_of r.asked.edit ≢ trip_at standing n) (at (k - (n + 1)))
          (found.first (k - (n + 1)) (omega (arith, low, high))));
    }

-- the answer by the place of the last record, and by what holds it
takes_back : (planner : List ℕ) (standing next : List Standing) (n : ℕ) → last_place planner standing ≡ Some n → (h : Option ℕ)
    → holder (standing_at standing n) (drop (n + 1) standing) ≡ h
    → unless_held h (remove standing n) ≡ Ok next → TakesBack planner standing next
takes_back planner standing next n last (Some m) held is = cc
takes_back planner standing next n last None held is = record {
  place = n;
  is_last = has_last planner standing n last;
  free = names_none (trip_at standing n) (drop (n + 1) standing)
      (none_names (standing_at standing n) (drop (n + 1) standing) (none_after planner standing n last) held);
  next_is = ok-inj (Ok (remove standing n)) (remove standing n) next refl is;
}
  where
    ok-inj : (due : Result (List Standing) PlannerFault) (xs ys : List Standing) → due ≡ Ok xs → due ≡ Ok ys → ys ≡ xs
    ok-inj due xs ys e f = cc

takes_back-by : (planner : List ℕ) (standing next : List Standing) (o : Option ℕ) → last_place planner standing ≡ o
    → without_last standing o ≡ Ok next → TakesBack planner standing next
takes_back-by planner standing next None last is = cc
takes_back-by planner standing next (Some n) last is =
    takes_back planner standing next n last (holder (standing_at standing n) (drop (n + 1) standing)) refl is

pub undo_takes_back : UndoTakesBack
undo_takes_back planner standing next is = takes_back-by planner standing next (last_place planner standing) refl is

held-by : (planner : List ℕ) (standing : List Standing) (n number : ℕ) → last_place planner standing ≡ Some n → (h : Option ℕ)
    → holder (standing_at standing n) (drop (n + 1) standing) ≡ h
    → unless_held h (remove standing n) ≡ Err (fault.HeldBy number) → IsHeld planner standing number
held-by planner standing n number last None held is = cc
held-by planner standing n number last (Some m) held is =
    is_held planner standing n number last (held ∙ ap Some (same (Err (fault.HeldBy m)) m number refl is))
  where
    same : (due : Result (List Standing) PlannerFault) (n m : ℕ) → due ≡ Err (fault.HeldBy n) → due ≡ Err (fault.HeldBy m) → n ≡ m
    same due n m e f = cc

holder-by : (planner : List ℕ) (standing : List Standing) (number : ℕ) (o : Option ℕ) → last_place planner standing ≡ o
    → without_last standing o ≡ Err (fault.HeldBy number) → IsHeld planner standing number
holder-by planner standing number None last is = cc
holder-by planner standing number (Some n) last is =
    held-by planner standing n number last (holder (standing_at standing n) (drop (n + 1) standing)) refl is

pub holder_stands : HolderStands
holder_stands planner standing number is = holder-by planner standing number (last_place planner standing) refl is

nothing-held : (fewer : List Standing) (h : Option ℕ) → unless_held h fewer ≡ Err fault.NothingToUndo → ⊥
nothing-held fewer None is = cc
nothing-held fewer (Some m) is = cc

nothing-by : (planner : List ℕ) (standing : List Standing) (o : Option ℕ) → last_place planner standing ≡ o
    → without_last standing o ≡ Err fault.NothingToUndo → HasNone planner standing
nothing-by planner standing None last is = has_none planner standing (last_from-None planner standing 0 None last).1
nothing-by planner standing (Some n) last is =
    absurd (nothing-held (remove standing n) (holder (standing_at standing n) (drop (n + 1) standing)) is)

pub nothing_stands : NothingStands
nothing_stands planner standing is = nothing-by planner standing (last_place planner standing) refl is
