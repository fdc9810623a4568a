-- The places of a terminal: the terminal itself, or where vehicles are of classes a post of it for each class.
use Rattle.std.specs.Prelude.{◌≡◌, ℕ, Bool, true, false, List, [], ◌∷◌, ◌++◌, fold, if◌then◌else◌}
use Rattle.std.specs.List.{list_any}
use Rattle.std.specs.Str.{bytes_eq}
use Rattle.trip_model.specs.Place.{Place, class_of, post_place, terminal_place}
use Rattle.trip_model.specs.Timetable.{TimetableView}
use Rattle.deadhead_matrix.specs.declared.entry.Entry.{Entry}

-- a class, as its bytes
abbrev pub Class : Type 0
Class = List ℕ

-- whether a class is among others
abbrev pub has_class : List Class → Class → Bool
has_class classes class = list_any (bytes_eq class) classes

-- classes, with one more at the end where it is new
abbrev pub with_class : List Class → Class → List Class
with_class classes class = if has_class classes class then classes else classes ++ class ∷ []

-- the classes of places, each where it first comes
abbrev pub classes_met : List Place → List Class
classes_met places = fold (λ classes place. with_class classes place.class) [] places

-- the classes of the places of a timetable; where vehicles are of no classes, the empty class alone
abbrev pub classes_of : TimetableView → List Class
classes_of timetable = if timetable.classed then classes_met timetable.places else [] ∷ []

-- the place of a terminal for vehicles of a class, without layover
abbrev pub place_for : Bool → List ℕ → Class → Place
place_for true terminal class = post_place terminal class 0
place_for false terminal class = terminal_place terminal 0

-- an entry leads between places of one class
abbrev pub JoinsOneClass : List Place → Entry → Type 0
JoinsOneClass places entry = class_of places entry.from ≡ class_of places entry.to
