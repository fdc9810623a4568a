-- Timetables along a list of changes or edits.
use Rattle.std.specs.Prelude.{List, [], ◌∷◌, ⊤}
use Rattle.trip_model.specs.Timetable.{TimetableView}

module _ {A : Type 0} (f : TimetableView → A → TimetableView) where
  -- the timetable after all items, from the last of the list on
  abbrev pub timetable_past : TimetableView → List A → TimetableView
  timetable_past t [] = t
  timetable_past t (a ∷ items) = f (timetable_past t items) a

  -- of each item the timetable after it and those behind it
  abbrev pub timetables_past : TimetableView → List A → List TimetableView
  timetables_past t [] = []
  timetables_past t (a ∷ items) = f (timetable_past t items) a ∷ timetables_past t items

  -- each item fits the timetable that it comes to
  abbrev pub FitAlong : (TimetableView → A → Type 0) → TimetableView → List A → Type 0
  FitAlong P t [] = ⊤
  FitAlong P t (a ∷ items) = P (timetable_past t items) a × FitAlong P t items

  -- from the first of the list on: of each item the timetable before it
  abbrev pub timetables_before : TimetableView → List A → List TimetableView
  timetables_before t [] = []
  timetables_before t (a ∷ items) = t ∷ timetables_before (f t a) items
