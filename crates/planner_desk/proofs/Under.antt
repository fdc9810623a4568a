-- A timetable stays that of the records that stand as one is added and as one is taken out.
use Rattle.std.proofs.Common.{◌≡◌, ℕ, suc, ◌+◌, ◌-◌, List, [], ◌∷◌, ◌++◌, length, take, drop, sym, ap, subst, ◌∙◌, arith, add-one}
use Rattle.std.specs.Prelude.{IsOk, remove}
use Rattle.std.proofs.lemmas.List.{drop-map, length-drop, map-append, take-map, take_all}
use Rattle.std.proofs.lemmas.List.Elements.{All-append, All-drop, All-push, All-take}
use Rattle.std.proofs.lemmas.List.Sums.{fold_push}
use Rattle.trip_model.specs.Timetable.{TimetableView}
use Rattle.edit_script.specs.Changes.{edited}
use Rattle.edit_script.specs.Edits.{EditsTrip, InForm}
use Rattle.edit_script.specs.Machine.{or_same}
use Rattle.planner_desk.specs.declared.edit.PlannerEdit.{PlannerEdit}
use Rattle.planner_desk.specs.declared.standing.Standing.{Standing}
use Rattle.planner_desk.specs.Planners.{IsOfTrip, IsUnder, asked_record}
use Rattle.planner_desk.specs.Standing.{Folds, after_standing, numbers, timetable_of}
use Rattle.planner_desk.proofs.Folding.{folds-push}

-- one more record, which is accepted
pub IsUnder-push : (base t next : TimetableView) (given more : List ℕ) (standing longer : List Standing) (number : ℕ) (asked : PlannerEdit)
    (last : Standing) → IsUnder base t given standing
    → InForm asked.edit → EditsTrip asked.edit → IsOk (edited t asked.edit) → last ≡ asked_record number asked
    → next ≡ or_same t (edited t asked.edit)
    → more ≡ given ++ last.number ∷ [] → longer ≡ standing ++ last ∷ [] → IsUnder base next more longer
IsUnder-push base t next given more standing longer number asked last under form trip ok last_is next_is more_is longer_is =
    let r = asked_record number asked in
    let whole : standing ++ r ∷ [] ≡ longer = ap (λ r. standing ++ r ∷ []) (sym last_is) ∙ sym longer_is in
    subst (IsUnder base next more) whole (record {
      timetable_is = next_is ∙ ap (λ t. or_same t (edited t asked.edit)) under.timetable_is
          ∙ sym (fold_push after_standing base standing r);
      numbered = more_is ∙ (λ i. under.numbered i ++ (last_is i).number ∷ [])
          ∙ sym (map-append (λ (r : Standing). r.number) standing (r ∷ []));
      trips = All-push IsOfTrip standing r under.trips (form, trip);
      folds = folds-push base standing r under.folds (subst (λ t. IsOk (edited t asked.edit)) under.timetable_is ok);
    })

-- the numbers of records without the one of a place
numbers-remove : (standing : List Standing) (n : ℕ) → remove (numbers standing) n ≡ numbers (remove standing n)
numbers-remove standing n =
    (λ i. take-map (λ (r : Standing). r.number) n standing i ++ drop-map (λ (r : Standing). r.number) (suc n) standing i)
    ∙ sym (map-append (λ (r : Standing). r.number) (take n standing) (drop (suc n) standing))

-- without the record of a place
pub IsUnder-remove : (base t next : TimetableView) (given fewer : List ℕ) (standing rest : List Standing) (n : ℕ)
    → IsUnder base t given standing → Folds base (remove standing n)
    → next ≡ timetable_of base (remove standing n) → fewer ≡ remove given n → rest ≡ remove standing n → IsUnder base next fewer rest
IsUnder-remove base t next given fewer standing rest n under folds next_is fewer_is rest_is =
    subst (IsUnder base next fewer) (sym rest_is) (record {
      timetable_is = next_is;
      numbered = fewer_is ∙ ap (λ given. remove given n) under.numbered ∙ numbers-remove standing n;
      trips = All-append IsOfTrip (take n standing) (drop (suc n) standing) (All-take IsOfTrip n standing under.trips)
          (All-drop IsOfTrip (suc n) standing under.trips);
      folds = folds;
    })

-- the records after a place, as far as there are any
pub all-of_rest : (standing : List Standing) (n : ℕ) → take (length standing - (n + 1)) (drop (n + 1) standing) ≡ drop (suc n) standing
all-of_rest standing n =
    take_all (length standing - (n + 1)) (drop (n + 1) standing) (omega (arith, length-drop (n + 1) standing))
    ∙ ap (λ k. drop k standing) (add-one n)
