-- Rows of minutes between places: those of single entries, and those that become least in turns, one for each place.
use Rattle.std.specs.Prelude.{◌≡◌, ◌≢◌, ◌⊎◌, ℕ, ◌+◌, ◌<◌, ◌≤◌, nat_lt, List, [], length, map, slice_index_or}
use Rattle.std.specs.Prelude.{Contains, Option, Some, None, if◌then◌else◌}
use Rattle.std.specs.List.{range_with_len}
use Rattle.trip_model.specs.declared.limits.TheConstants.{MOST_PLACES}
use Rattle.deadhead_matrix.specs.declared.limits.TheConstants.{LONGEST_WALK}
use Rattle.assignment_model.specs.declared.limits.TheConstants.{MOST_DEADHEAD}
use Rattle.deadhead_matrix.specs.declared.entry.Entry.{Entry}
use Rattle.deadhead_matrix.specs.Walks.{IsWalk, walk_minutes, IsLeastWalk}

-- farther than any walk
abbrev pub far : ℕ
far = 1073741824

-- how far a place is by the row of one
abbrev pub dist_at : List ℕ → ℕ → ℕ
dist_at dist place = slice_index_or dist place far

-- how far b is from a
abbrev pub between : List (List ℕ) → ℕ → ℕ → ℕ
between rows a b = dist_at (slice_index_or rows a []) b

-- the minutes of the entry to a place; 0 where there is none
abbrev pub way_to : List ℕ → ℕ → ℕ
way_to row place = slice_index_or row place 0

-- the minutes of the entry from one place to another; 0 where there is none
abbrev pub way : List (List ℕ) → ℕ → ℕ → ℕ
way ways a b = way_to (slice_index_or ways a []) b

-- rows of minutes tell the entries between so many places: each pair of places has at most one, of 1 to 1,440 minutes
pub record AreWays (places : ℕ) (entries : List Entry) (ways : List (List ℕ)) : Type 0 where
  pub from : (e : Entry) → Contains entries e → e.from < places
  pub to : (e : Entry) → Contains entries e → e.to < places
  pub told : (e : Entry) → Contains entries e → way ways e.from e.to ≡ e.minutes
  pub lasting : (e : Entry) → Contains entries e → e.minutes ≢ 0
  pub entry : (a b : ℕ) → way ways a b ≢ 0 → Contains entries (record { from = a; to = b; minutes = way ways a b })

-- no entry takes more than a day
abbrev pub AreShort : List (List ℕ) → Type 0
AreShort ways = (a b : ℕ) → way ways a b ≤ MOST_DEADHEAD

-- rows of minutes between so many places
pub record AreRows (places : ℕ) (ways : List (List ℕ)) : Type 0 where
  pub rows : length ways ≡ places
  pub columns : (a : ℕ) → a < places → length (slice_index_or ways a []) ≡ places

-- rows of minutes between 512 places tell the entries
pub record AreTold (entries : List Entry) (ways : List (List ℕ)) : Type 0 where
  pub rows : AreRows MOST_PLACES ways
  pub short : AreShort ways
  pub told : AreWays MOST_PLACES entries ways

-- the entries lead between the first places, so many
abbrev pub AreAmong : ℕ → List Entry → Type 0
AreAmong places entries = (e : Entry) → Contains entries e → (e.from < places) × (e.to < places)

-- how far the places are from one along no more than one entry
pub record IsFirstRow (start : ℕ) (ways dist : List ℕ) : Type 0 where
  pub len : length dist ≡ length ways
  pub home : dist_at dist start ≡ 0
  pub entry : (b : ℕ) → way_to ways b ≢ 0 → dist_at dist b ≤ way_to ways b
  pub by : (b : ℕ) → dist_at dist b < far → (b ≡ start) ⊎ ((way_to ways b ≢ 0) × (dist_at dist b ≡ way_to ways b))
  pub low : (b : ℕ) → dist_at dist b ≤ far

-- the same from each of the first places
pub record AreFirstRows (places : ℕ) (ways rows : List (List ℕ)) : Type 0 where
  pub count : length rows ≡ places
  pub each : (a : ℕ) → a < places → IsFirstRow a (slice_index_or ways a []) (slice_index_or rows a [])

-- how far each of 512 places is from each of the first
pub record AreDistances (places : ℕ) (rows : List (List ℕ)) : Type 0 where
  pub count : length rows ≡ places
  pub columns : (a : ℕ) → a < places → length (slice_index_or rows a []) ≡ MOST_PLACES
  pub low : (a b : ℕ) → between rows a b ≤ far
  pub home : (a : ℕ) → a < places → between rows a a ≡ 0

-- The minutes are those of walks, and an entry takes no fewer. No place is farther from another than through one that had
-- its turn: the places below `turns`.
pub record AreThrough (entries : List Entry) (turns : ℕ) (rows : List (List ℕ)) : Type 0 where
  pub walks : (a b : ℕ) → between rows a b < far → (es : List Entry) × IsWalk entries a es b × (walk_minutes es ≡ between rows a b)
  pub entry : (e : Entry) → Contains entries e → between rows e.from e.to ≤ e.minutes
  pub through : (a x b : ℕ) → x < turns → between rows a b ≤ between rows a x + between rows x b

-- the places below a number were looked at through another place, which is so far and has a row of its own. Each is no
-- farther than before and than through it, and as far as one of these. The others are as they were
pub record AreNearer (row : List ℕ) (from upto : ℕ) (before after : List ℕ) : Type 0 where
  pub len : length after ≡ length before
  pub nearer : (j : ℕ) → dist_at after j ≤ dist_at before j
  pub through : (j : ℕ) → j < upto → dist_at after j ≤ from + dist_at row j
  pub by : (j : ℕ) → dist_at after j < dist_at before j → dist_at after j ≡ from + dist_at row j

-- the same in the rows below a number, through the place `via`, whose row this is
pub record IsTurn (row : List ℕ) (via upto : ℕ) (before after : List (List ℕ)) : Type 0 where
  pub count : length after ≡ length before
  pub columns : (a : ℕ) → length (slice_index_or after a []) ≡ length (slice_index_or before a [])
  pub nearer : (a b : ℕ) → between after a b ≤ between before a b
  pub through : (a b : ℕ) → a < upto → b < length row → between after a b ≤ between before a via + dist_at row b
  pub by : (a b : ℕ) → between after a b < between before a b → between after a b ≡ between before a via + dist_at row b
  pub later : (a : ℕ) → upto ≤ a → slice_index_or after a [] ≡ slice_index_or before a []

-- the minutes to a place, where one is reached
abbrev pub found_at : List ℕ → ℕ → Option ℕ
found_at dist place = if nat_lt (dist_at dist place) far then Some (dist_at dist place) else None

-- the minutes to each of so many places, where it is reached
abbrev pub walks_in : List ℕ → ℕ → List (Option ℕ)
walks_in dist places = map (found_at dist) (range_with_len 0 places)

-- no place that is reached is farther than the longest walk
abbrev pub IsBounded : List ℕ → Type 0
IsBounded dist = (b : ℕ) → b < length dist → dist_at dist b < far → dist_at dist b ≤ LONGEST_WALK

-- rows of minutes, each from one place to all, are those of least walks. None is longer than the longest walk
pub record AreLeastRows (entries : List Entry) (rows : List (List ℕ)) : Type 0 where
  pub few : length rows ≤ MOST_PLACES
  pub columns : (a : ℕ) → a < length rows → length (slice_index_or rows a []) ≡ MOST_PLACES
  pub least : (a b : ℕ) → a < length rows → IsLeastWalk entries a b (found_at (slice_index_or rows a []) b)
  pub bounded : (a : ℕ) → a < length rows → IsBounded (slice_index_or rows a [])
