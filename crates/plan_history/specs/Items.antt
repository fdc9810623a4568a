-- What an item writes over a plan, and to which plans the items of a log lead.
use Rattle.std.specs.Prelude.{◌≡◌, ℕ, ◌<◌, ◌≤◌, List, [], ◌∷◌, ◌++◌, length, Option, None, Some, IfSome, ⊤}
use Rattle.assignment_model.specs.Prices.{Plan}
use Rattle.price_assign.specs.Plans.{with_slots, with_entry}
use Rattle.trip_model.specs.Links.{next_of}
use Rattle.trip_model.specs.declared.limits.TheConstants.{MOST_SLOTS}
use Rattle.undo_log.specs.Log.{LogView, latest_items}
use Rattle.plan_history.specs.Stands.{changes_upto, differences}
use Rattle.plan_history.specs.declared.item.Item.{Item}
use Rattle.plan_history.specs.declared.stand.Stand.{Stand}
use Rattle.plan_history.specs.declared.stand.Changed.{Changed}

-- a plan in which a slot has this; as it was where nothing is given
abbrev pub with_stand : Plan → ℕ → Option Stand → Plan
with_stand plan slot None = plan
with_stand plan slot (Some stand) = with_entry plan slot stand.next stand.leave stand.enter

-- the stand of a slot before, and after
abbrev pub stood_before : Changed → Option Stand
stood_before changed = changed.before

abbrev pub stood_after : Changed → Option Stand
stood_after changed = Some changed.after

-- a plan over which one part of each change is written
abbrev pub written : (Changed → Option Stand) → Plan → List Changed → Plan
written part plan [] = plan
written part plan (changed ∷ changes) = written part (with_stand plan changed.slot (part changed)) changes

-- a slot and its next trip are among so many slots
abbrev pub HasRoomFor : ℕ → ℕ → Option Stand → Type 0
HasRoomFor slots slot stand = IfSome stand (λ s. (slot < slots) × IfSome s.next (λ j. j < slots))

-- the plan before an item's edit, by the one after it, and the plan after it, by the one before
abbrev pub undone_by : Plan → Item → Plan
undone_by plan item = with_slots (written stood_before plan item.changes.items) item.before

abbrev pub redone_by : Plan → Item → Plan
redone_by plan item = written stood_after (with_slots plan item.after) item.changes.items

-- of no more slots than there may be, each has a next trip among them or none, and two prices
pub record IsWhole (plan : Plan) : Type 0 where
  pub few : length plan.next ≤ MOST_SLOTS
  pub leaves : length plan.leave ≡ length plan.next
  pub enters : length plan.enter ≡ length plan.next
  pub within : (s j : ℕ) → next_of plan.next s ≡ Some j → j < length plan.next

-- the item is what an edit from the older plan to the newer one changed
pub record IsItem (old new : Plan) (item : Item) : Type 0 where
  pub older : IsWhole old
  pub newer : IsWhole new
  pub fewer : length old.next ≤ length new.next
  pub before : item.before ≡ length old.next
  pub after : item.after ≡ length new.next
  pub changes : item.changes.items ≡ differences old new

-- an item leads back from a plan, and forth from one
abbrev pub LeadsBack : Plan → Item → Type 0
LeadsBack plan item = IsItem (undone_by plan item) plan item

abbrev pub LeadsForth : Plan → Item → Type 0
LeadsForth plan item = IsItem plan (redone_by plan item) item

-- Steps along all items, the last item first. The plan to which they lead. The plan of each item, from the farthest to the
-- nearest. Each step may be taken.
abbrev pub led : (Plan → Item → Plan) → Plan → List Item → Plan
led step plan [] = plan
led step plan (item ∷ items) = step (led step plan items) item

abbrev pub plans_along : (Plan → Item → Plan) → Plan → List Item → List Plan
plans_along step plan [] = []
plans_along step plan (item ∷ items) = step (led step plan items) item ∷ plans_along step plan items

abbrev pub AreAlong : (Plan → Item → Plan) → (Plan → Item → Type 0) → Plan → List Item → Type 0
AreAlong step Leads plan [] = ⊤
AreAlong step Leads plan (item ∷ items) = Leads (led step plan items) item × AreAlong step Leads plan items

-- the items of a log lead from a plan back, and forth
pub record AreItemsOf (plan : Plan) (log : LogView Item) : Type 0 where
  pub whole : IsWhole plan
  pub back : AreAlong undone_by LeadsBack plan log.kept
  pub forth : AreAlong redone_by LeadsForth plan log.undone

-- one more item is kept, by the stands before its edit and the plan after it
pub record IsNoted (old new : LogView Item) (was : List Stand) (plan : Plan) : Type 0 where
  pub item : Item
  pub before : item.before ≡ length was
  pub after : item.after ≡ length plan.next
  pub changes : item.changes.items ≡ changes_upto was plan (length plan.next)
  pub undone : new.undone ≡ []
  pub kept : new.kept ≡ latest_items (old.kept ++ item ∷ [])
