-- How it is liked that one trip is next after another.
use Rattle.std.specs.Prelude.{ℕ, ◌+◌, ◌-◌, ◌*◌, ◌==◌, ◌&&◌, Bool, false, cond, List, [], slice_index_or, Option, None, Some}
use Rattle.trip_model.specs.Links.{next_of, leads_to}
use Rattle.trip_model.specs.declared.limits.TheConstants.{LAST_MINUTE}

-- what counts how much, and what the slots have that is counted
pub record LikingsView : Type 0 where
  pub stated : ℕ  -- what it counts that a trip is next in a block as the feed states it
  pub line : ℕ  -- what it counts that two trips are of one line
  pub waiting : ℕ  -- what each minute counts that a vehicle does not wait
  pub nexts : List (Option ℕ)  -- for each slot the next trip of its stated block
  pub lines : List (Option ℕ)  -- for each slot the number of its line

-- nothing is liked
abbrev pub nothing_liked : LikingsView
nothing_liked = record { stated = 0; line = 0; waiting = 0; nexts = []; lines = [] }

-- nothing counts
abbrev pub likes_nothing : LikingsView → Bool
likes_nothing likings = (likings.stated == 0) && (likings.line == 0) && (likings.waiting == 0)

-- the line of a slot; none past the last one
abbrev pub line_of : List (Option ℕ) → ℕ → Option ℕ
line_of lines s = slice_index_or lines s None

-- both have a line, and it is the same
abbrev pub is_same_line : Option ℕ → Option ℕ → Bool
is_same_line (Some a) (Some b) = a == b
is_same_line _ _ = false

-- rule: how a link is liked
-- how it is liked that the trip of j is next after that of i, with so many minutes of waiting between them
abbrev pub liking : LikingsView → ℕ → ℕ → ℕ → ℕ
liking likings i j wait =
    cond (leads_to j (next_of likings.nexts i)) likings.stated 0
    + cond (is_same_line (line_of likings.lines i) (line_of likings.lines j)) likings.line 0
    + likings.waiting * (LAST_MINUTE - wait)
