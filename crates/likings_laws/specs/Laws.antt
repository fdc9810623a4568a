-- Which trips come right behind each other in the blocks that a feed states.
use Rattle.std.specs.Prelude.{◌≡◌, ◌⊎◌, ◌↔◌, ℕ, Bool, List, [], ◌∷◌, slice_get, Some}
use Rattle.gtfs_tables.specs.Table.{TableView}
use Rattle.trip_model.specs.Links.{next_of}
use Rattle.trip_model.specs.Timetable.{TimetableView}
use Rattle.block_audit.specs.Stated.{NamedBlock, stated_in, stated_names}
use Rattle.feed_likings.specs.Likings.{nexts_by}

-- t comes right behind s in a list
abbrev pub IsBehind : ℕ → ℕ → List ℕ → Type 0
IsBehind s t [] = ⊥
IsBehind s t (x ∷ slots) = ((x ≡ s) × (slice_get slots 0 ≡ Some t)) ⊎ IsBehind s t slots

-- t comes right behind s in one of the blocks
abbrev pub AreNeighbours : ℕ → ℕ → List NamedBlock → Type 0
AreNeighbours s t [] = ⊥
AreNeighbours s t (block ∷ stated) = IsBehind s t block.slots ⊎ AreNeighbours s t stated

-- the next trips that are preferred as stated are the neighbours in the stated blocks, and no others
abbrev pub AreNextAsStated : Type 0
AreNextAsStated =
    (trips : TableView) (timetable : TimetableView) (chosen : List Bool) (s t : ℕ)
    → (next_of (nexts_by (stated_names trips chosen) timetable) s ≡ Some t)
    ↔ AreNeighbours s t (stated_in trips timetable chosen)
