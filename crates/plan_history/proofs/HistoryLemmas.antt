-- A history after an edit, an undo and a redo.
use Rattle.std.proofs.Common.{◌≡◌, ℕ, ◌+◌, ◌-◌, ◌<◌, ◌≤◌, ◌==◌, Bool, true, false, cond, List, [], ◌∷◌, ◌++◌, length, drop, take, Option}
use Rattle.std.proofs.Common.{None, Some, refl, sym, ap, subst, ◌∙◌, arith, length-append}
use Rattle.std.specs.Prelude.{slice_get}
use Rattle.assignment_model.specs.Paths.{with_slot}
use Rattle.assignment_model.specs.Prices.{Plan, IsCertified, IsDay}
use Rattle.trip_model.specs.Network.{Network, AreDepartures}
use Rattle.undo_log.specs.Log.{LogView, latest_items, last_item}
use Rattle.undo_log.proofs.LastItem.{take_last_item}
use Rattle.plan_history.specs.Items.{undone_by, redone_by, IsWhole, IsItem, LeadsBack, LeadsForth, plans_along, AreAlong, AreItemsOf}
use Rattle.plan_history.specs.Items.{IsNoted}
use Rattle.plan_history.specs.Stands.{stands, differences}
use Rattle.plan_history.specs.declared.item.Item.{Item}
use Rattle.plan_history.specs.declared.stand.Stand.{Stand}
use Rattle.plan_history.proofs.ItemLemmas.{undone-item, redone-item}
use Rattle.plan_history.proofs.LedLemmas.{plans-last, length-plans, plans-drop, plans-none, along-last, last-along, along-drop}
use Rattle.plan_history.proofs.WriteLemmas.{length-stands}

-- a certified plan is whole
pub IsWhole-certified : (network : Network) (slots : ℕ) (departs : ℕ → ℕ) (plan : Plan) → IsDay network slots
    → AreDepartures network departs → length plan.next ≡ slots → IsCertified network plan → IsWhole plan
IsWhole-certified network slots departs plan day clock e is = record {
  few = omega (arith, e, day.few);
  leaves = is.leaves;
  enters = is.enters;
  within = λ s j next. let inside : j < slots = day.within j (clock.runs s j (is.links.fits s j next)).1 in omega (arith, inside, e);
}

-- with one slot more there are no fewer
pub length-with_slot : (links : List (Option ℕ)) (s : ℕ)
    → (length links ≤ length (with_slot links s)) × (length (with_slot links s) ≤ length links + 1)
length-with_slot links s = by (length links == s)
  where
    by : (more : Bool) → (length links ≤ length (cond more (links ++ None ∷ []) links))
        × (length (cond more (links ++ None ∷ []) links) ≤ length links + 1)
    by true = (omega (arith, length-append links (None ∷ [])), omega (arith, length-append links (None ∷ [])))
    by false = (omega arith, omega arith)

-- what is noted is the item of the edit
item-noted : (old new : Plan) (was now : LogView Item) → IsWhole old → IsWhole new → length old.next ≤ length new.next
    → (noted : IsNoted was now (stands old) new) → IsItem old new noted.item
item-noted old new was now older newer fewer noted = record {
  older = older;
  newer = newer;
  fewer = fewer;
  before = noted.before ∙ length-stands old;
  after = noted.after;
  changes = noted.changes;
}

-- an item is noted by a copy of the stands, and by the plan that was lent
pub noted-of : (old new lent : Plan) (was now : LogView Item) (copied : List Stand) → copied ≡ stands old → lent ≡ new
    → IsNoted was now copied lent → IsNoted was now (stands old) new
noted-of old new lent was now copied stood is noted =
    let P : List Stand → Type 0 = λ s. IsNoted was now s lent in
    let Q : Plan → Type 0 = λ p. IsNoted was now (stands old) p in
    subst Q is (subst P stood noted)

-- after an edit
pub AreItems-noted : (old new : Plan) (was now : LogView Item) → AreItemsOf old was → IsWhole new → length old.next ≤ length new.next
    → IsNoted was now (stands old) new → AreItemsOf new now
AreItems-noted old new was now items newer fewer noted =
    let is : IsItem old new noted.item = item-noted old new was now items.whole newer fewer noted in
    let to : undone_by new noted.item ≡ old = undone-item old new noted.item is in
    let P : Plan → Type 0 = λ p. IsItem p new noted.item in
    let Q : Plan → Type 0 = λ p. AreAlong undone_by LeadsBack p was.kept in
    let R : List Item → Type 0 = λ xs. AreAlong undone_by LeadsBack new xs in
    let S : List Item → Type 0 = λ xs. AreAlong redone_by LeadsForth new xs in
    record {
      whole = newer;
      back = subst R (sym noted.kept)
          (along-drop undone_by LeadsBack new (length (was.kept ++ noted.item ∷ []) - 256) (was.kept ++ noted.item ∷ [])
          (along-last undone_by LeadsBack new was.kept noted.item (subst P (sym to) is) (subst Q (sym to) items.back)));
      forth = subst S (sym noted.undone) tt;
    }

pub earlier-noted : (old new : Plan) (was now : LogView Item) → AreItemsOf old was → IsWhole new → length old.next ≤ length new.next
    → IsNoted was now (stands old) new
    → plans_along undone_by new now.kept ≡ latest_items (plans_along undone_by old was.kept ++ old ∷ [])
earlier-noted old new was now items newer fewer noted =
    let is : IsItem old new noted.item = item-noted old new was now items.whole newer fewer noted in
    let to : undone_by new noted.item ≡ old = undone-item old new noted.item is in
    let along : plans_along undone_by new (was.kept ++ noted.item ∷ []) ≡ plans_along undone_by old was.kept ++ old ∷ [] =
    plans-last undone_by new was.kept noted.item ∙ ap (λ (p : Plan). plans_along undone_by p was.kept ++ p ∷ []) to in
    let same : length (was.kept ++ noted.item ∷ []) ≡ length (plans_along undone_by old was.kept ++ old ∷ []) =
    sym (length-plans undone_by new (was.kept ++ noted.item ∷ [])) ∙ ap length along in
    ap (plans_along undone_by new) noted.kept
    ∙ (plans-drop undone_by new (length (was.kept ++ noted.item ∷ []) - 256) (was.kept ++ noted.item ∷ [])
    ∙ (ap (drop (length (was.kept ++ noted.item ∷ []) - 256)) along
    ∙ ap (λ (k : ℕ). drop (k - 256) (plans_along undone_by old was.kept ++ old ∷ [])) same))

-- the last item that is kept leads back, and the last that is undone forth
pub leads-back : (plan : Plan) (was now : LogView Item) (item : Item) → AreItemsOf plan was
    → was ≡ record now { kept = now.kept ++ item ∷ [] } → LeadsBack plan item
leads-back plan was now item items e =
    let P : LogView Item → Type 0 = λ l. AreAlong undone_by LeadsBack plan l.kept in
    (last-along undone_by LeadsBack plan now.kept item (subst P e items.back)).0

pub leads-forth : (plan : Plan) (was now : LogView Item) (item : Item) → AreItemsOf plan was
    → was ≡ record now { undone = now.undone ++ item ∷ [] } → LeadsForth plan item
leads-forth plan was now item items e =
    let P : LogView Item → Type 0 = λ l. AreAlong redone_by LeadsForth plan l.undone in
    (last-along redone_by LeadsForth plan now.undone item (subst P e items.forth)).0

-- after an undo
pub AreItems-undone : (plan : Plan) (was now : LogView Item) (item : Item) → AreItemsOf plan was
    → was ≡ record now { kept = now.kept ++ item ∷ [] }
    → AreItemsOf (undone_by plan item) (record now { undone = now.undone ++ item ∷ [] })
AreItems-undone plan was now item items e =
    let P : LogView Item → Type 0 = λ l. AreAlong undone_by LeadsBack plan l.kept in
    let P' : LogView Item → Type 0 = λ l. AreAlong redone_by LeadsForth plan l.undone in
    let both = last-along undone_by LeadsBack plan now.kept item (subst P e items.back) in
    let leads : LeadsBack plan item = both.0 in
    let to : redone_by (undone_by plan item) item ≡ plan = redone-item (undone_by plan item) plan item leads in
    let Q : Plan → Type 0 = λ p. IsItem (undone_by plan item) p item in
    let R : Plan → Type 0 = λ p. AreAlong redone_by LeadsForth p now.undone in
    record {
      whole = leads.older;
      back = both.1;
      forth = along-last redone_by LeadsForth (undone_by plan item) now.undone item (subst Q (sym to) leads)
          (subst R (sym to) (subst P' e items.forth));
    }

pub earlier-undone : (plan : Plan) (was now : LogView Item) (item : Item) → was ≡ record now { kept = now.kept ++ item ∷ [] }
    → plans_along undone_by plan was.kept ≡ plans_along undone_by (undone_by plan item) now.kept ++ undone_by plan item ∷ []
earlier-undone plan was now item e = ap (λ (l : LogView Item). plans_along undone_by plan l.kept) e
    ∙ plans-last undone_by plan now.kept item

pub later-undone : (plan : Plan) (was now : LogView Item) (item : Item) → AreItemsOf plan was
    → was ≡ record now { kept = now.kept ++ item ∷ [] }
    → plans_along redone_by (undone_by plan item) (now.undone ++ item ∷ []) ≡ plans_along redone_by plan was.undone ++ plan ∷ []
later-undone plan was now item items e =
    let to : redone_by (undone_by plan item) item ≡ plan =
    redone-item (undone_by plan item) plan item (leads-back plan was now item items e) in
    plans-last redone_by (undone_by plan item) now.undone item
    ∙ (ap (λ (p : Plan). plans_along redone_by p now.undone ++ p ∷ []) to
    ∙ ap (λ (l : LogView Item). plans_along redone_by plan l.undone ++ plan ∷ []) (sym e))

-- after a redo
pub AreItems-redone : (plan : Plan) (was now : LogView Item) (item : Item) → AreItemsOf plan was
    → was ≡ record now { undone = now.undone ++ item ∷ [] }
    → AreItemsOf (redone_by plan item) (record now { kept = now.kept ++ item ∷ [] })
AreItems-redone plan was now item items e =
    let P : LogView Item → Type 0 = λ l. AreAlong redone_by LeadsForth plan l.undone in
    let P' : LogView Item → Type 0 = λ l. AreAlong undone_by LeadsBack plan l.kept in
    let both = last-along redone_by LeadsForth plan now.undone item (subst P e items.forth) in
    let leads : LeadsForth plan item = both.0 in
    let to : undone_by (redone_by plan item) item ≡ plan = undone-item plan (redone_by plan item) item leads in
    let Q : Plan → Type 0 = λ p. IsItem p (redone_by plan item) item in
    let R : Plan → Type 0 = λ p. AreAlong undone_by LeadsBack p now.kept in
    record {
      whole = leads.newer;
      back = along-last undone_by LeadsBack (redone_by plan item) now.kept item (subst Q (sym to) leads)
          (subst R (sym to) (subst P' e items.back));
      forth = both.1;
    }

pub later-redone : (plan : Plan) (was now : LogView Item) (item : Item) → was ≡ record now { undone = now.undone ++ item ∷ [] }
    → plans_along redone_by plan was.undone ≡ plans_along redone_by (redone_by plan item) now.undone ++ redone_by plan item ∷ []
later-redone plan was now item e = ap (λ (l : LogView Item). plans_along redone_by plan l.undone) e
    ∙ plans-last redone_by plan now.undone item

pub earlier-redone : (plan : Plan) (was now : LogView Item) (item : Item) → AreItemsOf plan was
    → was ≡ record now { undone = now.undone ++ item ∷ [] }
    → plans_along undone_by (redone_by plan item) (now.kept ++ item ∷ []) ≡ plans_along undone_by plan was.kept ++ plan ∷ []
earlier-redone plan was now item items e =
    let to : undone_by (redone_by plan item) item ≡ plan =
    undone-item plan (redone_by plan item) item (leads-forth plan was now item items e) in
    plans-last undone_by (redone_by plan item) now.kept item
    ∙ (ap (λ (p : Plan). plans_along undone_by p now.kept ++ p ∷ []) to
    ∙ ap (λ (l : LogView Item). plans_along undone_by plan l.kept ++ plan ∷ []) (sym e))

-- the last of the plans before, and what its item lists
last-one : {X : Type 0} → (xs : List X) (x : X) → last_item (xs ++ x ∷ []) ≡ Some x
last-one {X} xs x = ap (slice_get (xs ++ x ∷ [])) (omega (arith, length-append xs (x ∷ []))) ∙ at xs
  where
    at : (ys : List X) → slice_get (ys ++ x ∷ []) (length ys) ≡ Some x
    at [] = refl
    at (y ∷ ys) = at ys

pub last-differences : (plan : Plan) (log : LogView Item) (item : Item) → AreItemsOf plan log → last_item log.kept ≡ Some item
    → (old : Plan) → last_item (plans_along undone_by plan log.kept) ≡ Some old → item.changes.items ≡ differences old plan
last-differences plan log item items is old e =
    let split : take (length log.kept - 1) log.kept ++ item ∷ [] ≡ log.kept = take_last_item log.kept item is in
    let P : List Item → Type 0 = λ xs. AreAlong undone_by LeadsBack plan xs in
    let leads : LeadsBack plan item =
    (last-along undone_by LeadsBack plan (take (length log.kept - 1) log.kept) item (subst P (sym split) items.back)).0 in
    let last : last_item (plans_along undone_by plan log.kept) ≡ Some (undone_by plan item) =
    ap (λ (xs : List Item). last_item (plans_along undone_by plan xs)) (sym split)
    ∙ (ap (λ (ps : List Plan). last_item ps) (plans-last undone_by plan (take (length log.kept - 1) log.kept) item)
    ∙ last-one (plans_along undone_by (undone_by plan item) (take (length log.kept - 1) log.kept)) (undone_by plan item)) in
    let same : undone_by plan item ≡ old = cc in
    leads.changes ∙ ap (λ (p : Plan). differences p plan) same

-- nothing was kept or undone, and is not then
pub AreItems-none : (old new : Plan) (log : LogView Item) → plans_along undone_by old log.kept ≡ []
    → plans_along redone_by old log.undone ≡ [] → IsWhole new → AreItemsOf new log
AreItems-none old new log kept undone whole =
    let R : List Item → Type 0 = λ xs. AreAlong undone_by LeadsBack new xs in
    let S : List Item → Type 0 = λ xs. AreAlong redone_by LeadsForth new xs in
    record {
      whole = whole;
      back = subst R (sym (plans-none undone_by old log.kept kept)) tt;
      forth = subst S (sym (plans-none redone_by old log.undone undone)) tt;
    }

pub plans-other : (step : Plan → Item → Plan) (old new : Plan) (items : List Item) → plans_along step old items ≡ []
    → plans_along step new items ≡ []
plans-other step old new items e = ap (plans_along step new) (plans-none step old items e)
