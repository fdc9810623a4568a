-- Whatever is taken back, each edit that stands is accepted.
use Rattle.std.proofs.Common.{◌≡◌, ◌≢◌, ℕ, zero, suc, ◌+◌, ◌<◌, ◌&&◌, Bool, true, false, cond, not, List, [], ◌∷◌, ◌++◌, length, drop}
use Rattle.std.proofs.Common.{fold, Option, Some, None, Result, Ok, Err, refl, sym, ap, subst, ◌∙◌, add-one, arith, if◌then◌else◌}
use Rattle.std.specs.Bool.{⊤}
use Rattle.std.specs.Prelude.{IsOk, remove}
use Rattle.std.specs.Str.{bytes_eq}
use Rattle.std.proofs.lemmas.Bool.{false≢true}
use Rattle.std.proofs.lemmas.Slice.Eq.{bytes_eq-Decides}
use Rattle.trip_model.specs.Timetable.{TimetableView, Slot}
use Rattle.edit_script.specs.declared.edit.Edit.{Edit}
use Rattle.edit_script.specs.declared.edit.Edit.TheVariants.{Shift, Cancel, Restore, Extra, Undo, Redo, Show}
use Rattle.edit_script.specs.declared.fault.EditFault.{EditFault}
use Rattle.edit_script.specs.Changes.{edited}
use Rattle.edit_script.specs.Machine.{or_same}
use Rattle.planner_desk.specs.declared.edit.PlannerLine.{PlannerLine}
use Rattle.planner_desk.specs.declared.edit.PlannerLine.TheVariants as line
use Rattle.planner_desk.specs.declared.fault.PlannerFault.{PlannerFault}
use Rattle.planner_desk.specs.declared.standing.Standing.{Standing}
use Rattle.planner_desk.specs.Laws.{AlwaysFolds, StaysFolding}
use Rattle.planner_desk.specs.Machine.{Numbered, line_after, or_stays, with_record}
use Rattle.edit_script.specs.Edits.{trip_of}
use Rattle.planner_desk.specs.Planners.{asked_record, if_accepted, standing_by}
use Rattle.planner_desk.specs.Standing.{Folds, after_standing, holder, last_from, last_place, standing_at, timetable_of, undone}
use Rattle.planner_desk.specs.Standing.{unless_held, without_last}
use Rattle.planner_desk.proofs.Agreement.{Agree, edit-differs, edit-goes_on, with_slots}

-- no record is of a planner
abbrev pub NoneOf : List ℕ → List Standing → Type 0
NoneOf planner [] = ⊤
NoneOf planner (r ∷ standing) = (bytes_eq r.asked.planner planner ≡ false) × NoneOf planner standing

-- no record names a trip
abbrev pub NoneNames : List ℕ → List Standing → Type 0
NoneNames trip [] = ⊤
NoneNames trip (r ∷ standing) = (trip_of r.asked.edit ≢ trip) × NoneNames trip standing

-- edits that are accepted one after another, and none of which names a trip, are accepted with slots that agree on the others
folds-agreeing : (trip : List ℕ) (t : TimetableView) (slots : List Slot) (after : List Standing) → Agree trip t.slots slots
    → NoneNames trip after → Folds t after → Folds (with_slots t slots) after
folds-agreeing trip t slots [] agree none folds = tt
folds-agreeing trip t slots (r ∷ after) agree none folds =
    let on = edit-goes_on trip t slots r.asked.edit agree none.0 folds.0 in
    let rest = folds-agreeing trip (after_standing t r) on.slots after on.agree none.1 folds.1 in
    (subst IsOk (sym on.accepted) refl, subst (λ due. Folds (or_same (with_slots t slots) due) after) (sym on.accepted) rest)

-- without a record whose trip no later one names the others are each accepted
pub folds-removed : (t : TimetableView) (standing : List Standing) (n : ℕ) → n < length standing → Folds t standing
    → NoneNames (trip_of (standing_at standing n).asked.edit) (drop (suc n) standing) → Folds t (remove standing n)
folds-removed t [] n within folds none = absurd (omega arith)
folds-removed t (r ∷ standing) zero within folds none =
    let own = edit-differs t r.asked.edit folds.0 in
    subst (λ t. Folds t standing) own.slots_alone
    (folds-agreeing (trip_of r.asked.edit) (after_standing t r) t.slots standing own.agree none folds.1)
folds-removed t (r ∷ standing) (suc n) within folds none =
    (folds.0, folds-removed (after_standing t r) standing n (omega arith) folds.1 none)

-- the place of a planner's last record: none of those after it is the planner's
data IsLast (planner : List ℕ) (n : ℕ) (so_far : Option ℕ) (standing : List Standing) (k : ℕ) : Type 0 where
  before : NoneOf planner standing → so_far ≡ Some k → IsLast planner n so_far standing k
  among : (j : ℕ) → k ≡ n + j → j < length standing → bytes_eq (standing_at standing j).asked.planner planner ≡ true
      → NoneOf planner (drop (suc j) standing) → IsLast planner n so_far standing k

some-inj : (n m : ℕ) → Some n ≡ Some m → n ≡ m
some-inj n m e = cc

is_last-more : (planner : List ℕ) (n : ℕ) (so_far : Option ℕ) (r : Standing) (standing : List Standing) (k : ℕ) (own : Bool)
    → bytes_eq r.asked.planner planner ≡ own
    → IsLast planner (n + 1) (if own then Some n else so_far) standing k → IsLast planner n so_far (r ∷ standing) k
is_last-more planner n so_far r standing k true own (before none is) = among 0 (omega (arith, some-inj n k is)) (omega arith) own none
is_last-more planner n so_far r standing k false own (before none is) = before (own, none) is
is_last-more planner n so_far r standing k own_is own (among j is within last none) =
    among (suc j) (omega (arith, is)) (omega (arith, within)) last none

is_last : (planner : List ℕ) (n : ℕ) (so_far : Option ℕ) (standing : List Standing) (k : ℕ) → last_from planner n so_far standing ≡ Some k
    → IsLast planner n so_far standing k
is_last planner n so_far [] k is = before tt is
is_last planner n so_far (r ∷ standing) k is =
    is_last-more planner n so_far r standing k (bytes_eq r.asked.planner planner) refl
    (is_last planner (n + 1) (if bytes_eq r.asked.planner planner then Some n else so_far) standing k is)

-- where no later record is of the planner and none holds a record, none names its trip
names-differ : (held r : Standing) (after : List Standing) (other same : Bool) → bytes_eq r.asked.planner held.asked.planner ≡ other
    → bytes_eq (trip_of r.asked.edit) (trip_of held.asked.edit) ≡ same
    → other ≡ false → cond (not other && same) (Some r.number) (holder held after) ≡ None
    → (trip_of r.asked.edit ≢ trip_of held.asked.edit) × (holder held after ≡ None)
names-differ held r after true same other_is same_is other none = absurd (false≢true (sym other))
names-differ held r after false true other_is same_is other none = cc
names-differ held r after false false other_is same_is other none =
    (λ is. false≢true (sym same_is ∙ (bytes_eq-Decides (trip_of r.asked.edit) (trip_of held.asked.edit)).1 is), none)

pub none_names : (held : Standing) (after : List Standing) → NoneOf held.asked.planner after → holder held after ≡ None
    → NoneNames (trip_of held.asked.edit) after
none_names held [] none_of none = tt
none_names held (r ∷ after) none_of none =
    let differ = names-differ held r after (bytes_eq r.asked.planner held.asked.planner)
    (bytes_eq (trip_of r.asked.edit) (trip_of held.asked.edit)) refl refl none_of.0 none in
    (differ.0, none_names held after none_of.1 differ.1)

-- an undo that is accepted takes out one record, whose trip no later one names
pub record TakesOut (standing next : List Standing) : Type 0 where
  pub place : ℕ
  pub within : place < length standing
  pub next_is : next ≡ remove standing place
  pub none : NoneNames (trip_of (standing_at standing place).asked.edit) (drop (suc place) standing)

last-within : (planner : List ℕ) (standing : List Standing) (n : ℕ) → IsLast planner 0 None standing n
    → (n < length standing) × (bytes_eq (standing_at standing n).asked.planner planner ≡ true) × NoneOf planner (drop (suc n) standing)
last-within planner standing n (before none is) = cc
last-within planner standing n (among j is within last none) =
    let at : j ≡ n = omega (arith, is) in
    subst (λ n. (n < length standing) × (bytes_eq (standing_at standing n).asked.planner planner ≡ true)
    × NoneOf planner (drop (suc n) standing)) at (within, last, none)

-- the place of the planner's last record is one of them, is the planner's, and none after it is
pub place-is_last : (planner : List ℕ) (standing : List Standing) (n : ℕ) → last_place planner standing ≡ Some n
    → (n < length standing) × (bytes_eq (standing_at standing n).asked.planner planner ≡ true) × NoneOf planner (drop (suc n) standing)
place-is_last planner standing n is = last-within planner standing n (is_last planner 0 None standing n is)

-- a place whose record none holds
pub not_held : (planner : List ℕ) (standing : List Standing) (n : ℕ) → last_place planner standing ≡ Some n
    → holder (standing_at standing n) (drop (n + 1) standing) ≡ None → TakesOut standing (remove standing n)
not_held planner standing n last none =
    let is = place-is_last planner standing n last in
    let same : (standing_at standing n).asked.planner ≡ planner =
    (bytes_eq-Decides (standing_at standing n).asked.planner planner).0 is.1 in
    record {
      place = n;
      within = is.0;
      next_is = refl;
      none = none_names (standing_at standing n) (drop (suc n) standing)
          (subst (λ planner. NoneOf planner (drop (suc n) standing)) (sym same) is.2)
          (subst (λ k. holder (standing_at standing n) (drop k standing) ≡ None) (add-one n) none);
    }

ok-inj : (due : Result (List Standing) PlannerFault) (xs ys : List Standing) → due ≡ Ok xs → due ≡ Ok ys → xs ≡ ys
ok-inj due xs ys e f = cc

taken_out : (planner : List ℕ) (standing next : List Standing) (o : Option ℕ) → last_place planner standing ≡ o
    → without_last standing o ≡ Ok next → TakesOut standing next
taken_out planner standing next None last is = cc
taken_out planner standing next (Some n) last is = by_holder (holder (standing_at standing n) (drop (n + 1) standing)) refl is
  where
    by_holder : (h : Option ℕ) → holder (standing_at standing n) (drop (n + 1) standing) ≡ h → unless_held h (remove standing n) ≡ Ok next
        → TakesOut standing next
    by_holder (Some m) held is = cc
    by_holder None held is = subst (TakesOut standing) (ok-inj (Ok (remove standing n)) (remove standing n) next refl is)
        (not_held planner standing n last held)

pub undo-takes_out : (planner : List ℕ) (standing next : List Standing) → undone planner standing ≡ Ok next → TakesOut standing next
undo-takes_out planner standing next is = taken_out planner standing next (last_place planner standing) refl is

-- so the records that stand after it are each accepted
pub folds-taken_out : (base : TimetableView) (standing next : List Standing) → Folds base standing → TakesOut standing next
    → Folds base next
folds-taken_out base standing next folds out =
    subst (Folds base) (sym out.next_is) (folds-removed base standing out.place out.within folds out.none)

-- so are they after the undo of a planner whose last record none holds
pub folds-not_held : (base : TimetableView) (planner : List ℕ) (standing : List Standing) (n : ℕ) → Folds base standing
    → Some n ≡ last_place planner standing → None ≡ holder (standing_at standing n) (drop (n + 1) standing)
    → Folds base (remove standing n)
folds-not_held base planner standing n folds last none =
    folds-taken_out base standing (remove standing n) folds (not_held planner standing n (sym last) (sym none))

-- the first of records that are each accepted, and the others over the timetable of the first
pub folds-front : (t : TimetableView) (first rest : List Standing) → Folds t (first ++ rest) → Folds t first
folds-front t [] rest folds = tt
folds-front t (r ∷ first) rest folds = (folds.0, folds-front (after_standing t r) first rest folds.1)

pub folds-back : (t : TimetableView) (first rest : List Standing) → Folds t (first ++ rest) → Folds (timetable_of t first) rest
folds-back t [] rest folds = folds
folds-back t (r ∷ first) rest folds = folds-back (after_standing t r) first rest folds.1

-- one more record, which is accepted
pub folds-push : (t : TimetableView) (standing : List Standing) (r : Standing) → Folds t standing
    → IsOk (edited (timetable_of t standing) r.asked.edit) → Folds t (standing ++ r ∷ [])
folds-push t [] r folds ok = (ok, tt)
folds-push t (s ∷ standing) r folds ok = (folds.0, folds-push (after_standing t s) standing r folds.1 ok)

accepted-folds : (base : TimetableView) (standing next : List Standing) (r : Standing) (due : Result TimetableView EditFault)
    → Folds base standing → edited (timetable_of base standing) r.asked.edit ≡ due
    → if_accepted standing r due ≡ Ok next → Folds base next
accepted-folds base standing next r (Ok changed) folds due is =
    subst (Folds base) (ok-inj (Ok (standing ++ r ∷ [])) (standing ++ r ∷ []) next refl is)
    (folds-push base standing r folds (subst IsOk (sym due) refl))
accepted-folds base standing next r (Err refused) folds due is = cc

by-edit : (base : TimetableView) (standing next : List Standing) (r : Standing) (edit : Edit) → Folds base standing → r.asked.edit ≡ edit
    → standing_by base standing r edit ≡ Ok next → Folds base next
by-edit base standing next r (Shift trip by) folds edit is =
    accepted-folds base standing next r _ folds (ap (edited (timetable_of base standing)) edit) is
by-edit base standing next r (Cancel trip) folds edit is =
    accepted-folds base standing next r _ folds (ap (edited (timetable_of base standing)) edit) is
by-edit base standing next r (Restore trip) folds edit is =
    accepted-folds base standing next r _ folds (ap (edited (timetable_of base standing)) edit) is
by-edit base standing next r (Extra trip from to departs arrives) folds edit is =
    accepted-folds base standing next r _ folds (ap (edited (timetable_of base standing)) edit) is
by-edit base standing next r Undo folds edit is = folds-taken_out base standing next folds (undo-takes_out r.asked.planner standing next is)
by-edit base standing next r Redo folds edit is = cc
by-edit base standing next r Show folds edit is = cc

pub stays_folding : StaysFolding
stays_folding base standing next r folds is = by-edit base standing next r r.asked.edit folds refl is

-- each record of a script leaves records that fold
line-folds : (base : TimetableView) (standing next : List Standing) (number : ℕ) (asked : PlannerLine) → Folds base standing
    → line_after base standing number asked ≡ Ok next → Folds base next
line-folds base standing next number line.NotAnEdit folds is = cc
line-folds base standing next number (line.Edit asked) folds is = stays_folding base standing next (asked_record number asked) folds is

or_stays-folds : (base : TimetableView) (standing : List Standing) (due : Result (List Standing) PlannerFault) → Folds base standing
    → ((next : List Standing) → due ≡ Ok next → Folds base next) → Folds base (or_stays standing due)
or_stays-folds base standing (Ok next) folds on = on next refl
or_stays-folds base standing (Err refused) folds on = folds

after-folds : (base : TimetableView) (standing : List Standing) (records : List Numbered) → Folds base standing
    → Folds base (fold (with_record base) standing records)
after-folds base standing [] folds = folds
after-folds base standing (r ∷ records) folds =
    after-folds base (with_record base standing r) records
    (or_stays-folds base standing (line_after base standing r.number r.line) folds
    (λ next is. line-folds base standing next r.number r.line folds is))

pub always_folds : AlwaysFolds
always_folds base records = after-folds base [] records tt
