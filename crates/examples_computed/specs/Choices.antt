-- A day with two plans that are least, and what is preferred of them.
use Rattle.std.specs.Prelude.{ℕ, List, [], ◌∷◌, codes, pos, true, false, None, Some}
use Rattle.deadhead_matrix.specs.Matrix.{MatrixView}
use Rattle.desk_settings.specs.declared.prefer.Preference.TheVariants.{Stated, Line, Waiting}
use Rattle.desk_settings.specs.Prefer.{standard_preferences}
use Rattle.feed_likings.specs.Likings.{lines_by, nexts_by}
use Rattle.feed_likings.specs.Units.{unit_of}
use Rattle.plan_choice.specs.Likings.{LikingsView}
use Rattle.trip_model.specs.Place.{terminal_place}
use Rattle.trip_model.specs.Timetable.{TimetableView, Slot}

-- a trip between two places, at these minutes
abbrev pub trip_of : List ℕ → ℕ → ℕ → ℕ → ℕ → Slot
trip_of name from to departs ends = record {
  name = name;
  trip = record { from = from; to = to; departs = departs; ends = ends; offset = pos 0; early = 0; late = 0; live = true };
}

-- T1 and T2 go from A to B, and T3 and T4 back: each of these can follow each of those
abbrev pub four_trips : TimetableView
four_trips = record {
  classed = false;
  places = terminal_place (codes "A") 0 ∷ terminal_place (codes "B") 0 ∷ [];
  slots = trip_of (codes "T1") 0 1 420 480 ∷ trip_of (codes "T2") 0 1 420 485 ∷ trip_of (codes "T3") 1 0 490 550
      ∷ trip_of (codes "T4") 1 0 500 560 ∷ [];
  early = 0;
  late = 0;
}

-- nobody runs empty, and there is no depot
abbrev pub no_deadhead : MatrixView
no_deadhead = record {
  entries = [];
  walks = (Some 0 ∷ None ∷ []) ∷ (None ∷ Some 0 ∷ []) ∷ [];
  pulls = record { pull_out = 0; pull_in = 0 } ∷ record { pull_out = 0; pull_in = 0 } ∷ [];
  rules = [];
}

-- the feed states T1 with T3 and T2 with T4, and T1 and T4 are of one line, as T2 and T3 are
abbrev pub block_names : List (List ℕ)
block_names = codes "b1" ∷ codes "b2" ∷ codes "b1" ∷ codes "b2" ∷ []

abbrev pub line_names : List (List ℕ)
line_names = codes "red" ∷ codes "blue" ∷ codes "blue" ∷ codes "red" ∷ []

-- how links are liked where nothing is said, and where lines go before stated neighbours
abbrev pub stated_first : LikingsView
stated_first = record {
  stated = unit_of Stated standard_preferences;
  line = unit_of Line standard_preferences;
  waiting = unit_of Waiting standard_preferences;
  nexts = nexts_by block_names four_trips;
  lines = lines_by line_names four_trips;
}

abbrev pub lines_first : LikingsView
lines_first = record stated_first { stated = unit_of Stated (Line ∷ Stated ∷ []); line = unit_of Line (Line ∷ Stated ∷ []); waiting = 0 }
