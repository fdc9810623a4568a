-- The columns of a search in an order.
use Rattle.std.specs.Prelude.{◌≡◌, ℕ, ◌+◌, ◌-◌, ◌<◌, ◌≤◌, nat_le, Bool, List, length, slice_index_or, Option, None, Some, if◌then◌else◌}
use Rattle.trip_model.specs.Links.{leads_to}
use Rattle.trip_model.specs.declared.limits.TheConstants.{LAST_MINUTE}
use Rattle.trip_model.specs.declared.trip.Move.{Move}
use Rattle.pair_search.specs.declared.order.Column.{Column}

-- the minute by which a row that is linked to the column must be ready: when the column's trip departs. Seen from the entering
-- side, it is how long before the last minute that trip ends
abbrev pub column_minute : Bool → Option Move → ℕ
column_minute turned None = 0
column_minute turned (Some m) = if turned then LAST_MINUTE - m.arrives else m.leaves

-- the place of the column of a slot: that at which its trip begins, or, seen from the entering side, ends. None where no trip
-- runs, where the slot is left out, and where a keep has the trip there
abbrev pub column_post : Bool → Option ℕ → Bool → ℕ → Option Move → Option ℕ
column_post turned without kept slot None = None
column_post turned without kept slot (Some m) =
    if kept then None else (if leads_to slot without then None else Some (if turned then m.to else m.from))

-- a column past the last of so many
abbrev pub no_column : ℕ → Column
no_column n = record { post = None; minute = 0; slot = n }

-- the slot of the column at a place of so many; none past the last
abbrev pub slot_at : ℕ → List Column → ℕ → ℕ
slot_at n columns k = (slice_index_or columns k (no_column n)).slot

-- the place of the column of a slot
abbrev pub place_of : ℕ → List ℕ → ℕ → ℕ
place_of n places j = slice_index_or places j n

-- slots and places are numbers of the same columns, so many in all
pub record IsRenaming (n : ℕ) (slot place : ℕ → ℕ) : Type 0 where
  pub slot_within : (k : ℕ) → k < n → slot k < n
  pub place_within : (j : ℕ) → j < n → place j < n
  pub there : (j : ℕ) → j < n → slot (place j) ≡ j
  pub back : (k : ℕ) → k < n → place (slot k) ≡ k
  pub no_slot : (k : ℕ) → n ≤ k → n ≤ slot k
  pub no_place : (j : ℕ) → n ≤ j → n ≤ place j

-- each column is there once, with its minute and its post
pub record IsOrder (n : ℕ) (minute : ℕ → ℕ) (post : ℕ → Option ℕ) (columns : List Column) (places : List ℕ) : Type 0 where
  pub count : length columns ≡ n
  pub slots : length places ≡ n
  pub renaming : IsRenaming n (slot_at n columns) (place_of n places)
  pub minutes : (k : ℕ) → k < n → (slice_index_or columns k (no_column n)).minute ≡ minute (slot_at n columns k)
  pub posts : (k : ℕ) → k < n → (slice_index_or columns k (no_column n)).post ≡ post (slot_at n columns k)

-- the column of a row is before a place
abbrev pub stands_before : (ℕ → ℕ) → ℕ → ℕ → Bool
stands_before place k i = nat_le (place i + 1) k
