-- What a log is seen as, and how much it may hold.
use Rattle.std.specs.Prelude.{◌+◌, ◌-◌, ◌<◌, ◌≤◌, List, length, drop, slice_get, Option, refl}
use Rattle.std.specs.Coded.{Coded, code_by, coded×, coded_list}
use Rattle.undo_log.specs.declared.log.TheConstants.{UNDO_DEPTH}

-- what can be undone and what can be redone, each from the oldest to the newest
pub record LogView (X : Type 0) : Type 0 where
  pub kept : List X
  pub undone : List X

module _ {X : Type 0} where
  -- a log is stored as the pair of its lists
  abbrev pub log_code : Coded X → Coded (LogView X)
  log_code item_code =
      code_by (List X × List X) (coded× (coded_list item_code) (coded_list item_code)) (λ log. (log.kept, log.undone))
      (λ pair. record { kept = pair.0; undone = pair.1 }) (λ _. refl)

  -- both lists together are at most 256
  abbrev pub IsWithinDepth : LogView X → Type 0
  IsWithinDepth log = length log.kept + length log.undone ≤ UNDO_DEPTH

  -- both lists together are below 256, so that one more item can be put
  abbrev pub HasRoom : LogView X → Type 0
  HasRoom log = length log.kept + length log.undone < UNDO_DEPTH

  -- rule: how many edits can be undone
  -- the newest 256 of the items: the older ones can no longer be undone
  abbrev pub latest_items : List X → List X
  latest_items items = drop (length items - UNDO_DEPTH) items

  -- the last of the items, which is the newest
  abbrev pub last_item : List X → Option X
  last_item items = slice_get items (length items - 1)
