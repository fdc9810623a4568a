-- The classes of places.
use Rattle.std.proofs.Common.{◌≡◌, ℕ, ◌+◌, ◌<◌, Bool, true, false, List, [], ◌∷◌, ◌++◌, length, take, if◌then◌else◌, sym, subst, ◌∙◌}
use Rattle.std.specs.Prelude.{All}
use Rattle.std.proofs.lemmas.List.Elements.{All-push}
use Rattle.std.proofs.lemmas.List.Sums.{fold_more}
use Rattle.trip_model.specs.Place.{Place, IsPostOrTerminal, class_of, has_slash, place_in, terminal_place}
use Rattle.trip_model.specs.Timetable.{TimetableView, IsTimetable}
use Rattle.deadhead_matrix.specs.Posts.{Class, has_class, with_class, classes_met}

-- the classes after one place more
pub classes_more : (places : List Place) (i : ℕ) (before after : List Class) (class : Class) → i < length places
    → before ≡ classes_met (take i places)
    → class ≡ class_of places i → after ≡ with_class before class → after ≡ classes_met (take (i + 1) places)
unfolding class_of
classes_more places i before after class lt met at with =
    with ∙ (λ j. with_class (met j) (at j))
    ∙ sym (fold_more (λ (classes : List Class) (place : Place). with_class classes place.class) [] places i (terminal_place [] 0) lt)

-- a class of a place of a classed timetable has no `/`
pub class-named : (t : TimetableView) (i : ℕ) → IsTimetable t → t.classed ≡ true → i < length t.places
    → has_slash (class_of t.places i) ≡ false
unfolding class_of
class-named t i valid classed lt =
    let place = place_in t.places i in
    (subst (λ b. IsPostOrTerminal b place) classed (valid.each i (terminal_place [] 0) lt).is).1

-- nor have those of the places
pub classes-named : (classes : List Class) (class : Class) → All (λ class. has_slash class ≡ false) classes → has_slash class ≡ false
    → All (λ class. has_slash class ≡ false) (with_class classes class)
classes-named classes class named is = by (has_class classes class)
  where
    by : (has : Bool) → All (λ class. has_slash class ≡ false) (if has then classes else classes ++ class ∷ [])
    by true = named
    by false = All-push (λ class. has_slash class ≡ false) classes class named is
