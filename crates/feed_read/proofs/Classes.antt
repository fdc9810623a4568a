-- A trip runs between places of one class.
use Rattle.std.proofs.Common.{◌≡◌, ℕ, ◌<◌, ◌==◌, ◌||◌, Bool, true, false, cond, List, [], ◌∷◌, ◌++◌, length, get_or, Some, refl, sym, ap}
use Rattle.std.proofs.Common.{subst, ◌∙◌, arith}
use Rattle.std.specs.Prelude.{All, fold}
use Rattle.std.specs.Str.{bytes_eq}
use Rattle.std.proofs.Math.Bool.{or-true}
use Rattle.std.proofs.lemmas.Bool.{false≢true}
use Rattle.std.proofs.lemmas.Int.{ints}
use Rattle.std.proofs.lemmas.List.{get_or-map, length-map}
use Rattle.std.proofs.lemmas.List.Elements.{All-cons, All-head, All-nil, All-push, All-tail}
use Rattle.std.proofs.lemmas.List.Quantifiers.{position-Some}
use Rattle.std.proofs.lemmas.Slice.Eq.{bytes_eq-Decides}
use Rattle.gtfs_tables.specs.Entries.{Name}
use Rattle.desk_settings.specs.Names.{is_among}
use Rattle.desk_settings.specs.Settings.{SettingsView, is_classed, layover_at}
use Rattle.trip_model.specs.Place.{Place, IsPostOrTerminal, class_of, has_slash, place_in, post_place, terminal_place}
use Rattle.trip_model.specs.Trip.{IsValidTrip}
use Rattle.trip_model.specs.Timetable.{TimetableView, number_of, place_names}
use Rattle.feed_read.specs.declared.feed_trip.FeedTrip.{FeedTrip}
use Rattle.feed_read.specs.Base.{end_of, ends_of, names_of, place_of, places_met, start_of, timetable_over, trip_between, with_place}
use Rattle.feed_read.specs.FeedTrips.{IsFeedTrip}

-- a text that ends with `/` and a class has a `/`
has_slash-class : (before class : List ℕ) → has_slash (before ++ 47 ∷ class) ≡ true
has_slash-class [] class = refl
has_slash-class (x ∷ before) class = ap (λ b. (x == 47) || b) (has_slash-class before class) ∙ or-true (x == 47)

-- a name stands for one class
class-same : (a b c d : List ℕ) → has_slash c ≡ false → has_slash d ≡ false → a ++ 47 ∷ c ≡ b ++ 47 ∷ d → c ≡ d
class-same [] [] c d first second e = cc
class-same [] (x ∷ b) c d first second e =
    let rest : c ≡ b ++ 47 ∷ d = cc in absurd (false≢true (sym first ∙ ap has_slash rest ∙ has_slash-class b d))
class-same (x ∷ a) [] c d first second e =
    let rest : a ++ 47 ∷ c ≡ d = cc in absurd (false≢true (sym second ∙ ap has_slash (sym rest) ∙ has_slash-class a c))
class-same (x ∷ a) (y ∷ b) c d first second e = let rest : a ++ 47 ∷ c ≡ b ++ 47 ∷ d = cc in class-same a b c d first second rest

-- places of one name are of one class
same-class : (classed : Bool) (p q : Place) → IsPostOrTerminal classed p → IsPostOrTerminal classed q → p.name ≡ q.name → p.class ≡ q.class
same-class true p q is other e =
    class-same p.terminal q.terminal p.class q.class is.1 other.1
    (sym (ap (λ (r : Place). r.name) is.0) ∙ e ∙ ap (λ (r : Place). r.name) other.0)
same-class false p q is other e = ap (λ (r : Place). r.class) is ∙ sym (ap (λ (r : Place). r.class) other)

-- the place of a terminal is a post or a terminal
place_of-is : (settings : SettingsView) (terminal class : Name) → has_slash class ≡ false
    → IsPostOrTerminal (is_classed settings) (place_of settings terminal class)
place_of-is settings terminal class plain =
    let layover = layover_at settings terminal in
    elim (is_classed settings) as (λ b. IsPostOrTerminal b (cond b (post_place terminal class layover) (terminal_place terminal layover))) [
      | true ↦ (refl, plain)
      | false ↦ refl
    ]

-- what it is named
pub post_named : (settings : SettingsView) (terminal class : Name) → is_classed settings ≡ true
    → (post_place terminal class 0).name ≡ (place_of settings terminal class).name
post_named settings terminal class classed =
    ap (λ b. (cond b (post_place terminal class (layover_at settings terminal))
    (terminal_place terminal (layover_at settings terminal))).name) (sym classed)

pub terminal_named : (settings : SettingsView) (terminal class : Name) → is_classed settings ≡ false
    → terminal ≡ (place_of settings terminal class).name
terminal_named settings terminal class classed =
    ap (λ b. (cond b (post_place terminal class (layover_at settings terminal))
    (terminal_place terminal (layover_at settings terminal))).name) (sym classed)

-- the places of two terminals for one class are of one class
place_of-class : (settings : SettingsView) (a b class : Name) → (place_of settings a class).class ≡ (place_of settings b class).class
place_of-class settings a b class =
    let l = layover_at settings a in
    let m = layover_at settings b in
    elim (is_classed settings) as (λ
    t. (cond t (post_place a class l) (terminal_place a l)).class ≡ (cond t (post_place b class m) (terminal_place b m)).class) [
      | true ↦ refl
      | false ↦ refl
    ]

-- the places at which trips begin and end are posts or terminals
ends-are : (settings : SettingsView) (feed_trips : List FeedTrip) → All IsFeedTrip feed_trips
    → All (IsPostOrTerminal (is_classed settings)) (ends_of settings feed_trips)
ends-are settings [] valid = All-nil (IsPostOrTerminal (is_classed settings))
ends-are settings (j ∷ js) valid =
    let is = IsPostOrTerminal (is_classed settings) in
    let plain = (All-head IsFeedTrip j js valid).class in
    All-cons is (start_of settings j) (end_of settings j ∷ ends_of settings js) (place_of-is settings j.from j.class plain)
    (All-cons is (end_of settings j) (ends_of settings js) (place_of-is settings j.to j.class plain)
    (ends-are settings js (All-tail IsFeedTrip j js valid)))

-- and the places that are met
met-are : (P : Place → Type 0) (places more : List Place) → All P places → All P more → All P (fold with_place places more)
met-are P places [] are more = are
met-are P places (p ∷ ps) are more =
    met-are P (with_place places p) ps
    (elim (is_among p.name (names_of places)) as (λ b. All P (cond b places (places ++ p ∷ []))) [
      | true ↦ are
      | false ↦ All-push P places p are (All-head P p ps more)
    ]) (All-tail P p ps more)

-- a place that was found by its name is of the class that was asked for
class-found : (classed : Bool) (places : List Place) (place : Place) (n : ℕ) → All (IsPostOrTerminal classed) places
    → IsPostOrTerminal classed place
    → number_of (names_of places) place.name ≡ Some n → class_of places n ≡ place.class
unfolding class_of
class-found classed places place n are is found =
    let at = position-Some (bytes_eq place.name) (names_of places) n [] found in
    let lt : n < length places = omega (arith, at.0, length-map places (λ (p : Place). p.name)) in
    let name = (bytes_eq-Decides place.name (get_or (names_of places) n [])).0 at.1
    ∙ get_or-map (λ (p : Place). p.name) places n (terminal_place [] 0) [] lt in
    same-class classed (place_in places n) place (are n (terminal_place [] 0) lt) is (sym name)

-- the places between which a trip runs are of one class
pub trip_of_one_class : (settings : SettingsView) (feed_trips before : List FeedTrip) (i : ℕ) (feed_trip : FeedTrip)
    (timetable : TimetableView) (from to : ℕ) → All IsFeedTrip feed_trips → i < length feed_trips
    → feed_trip ≡ get_or feed_trips i feed_trip → timetable ≡ timetable_over settings (places_met (ends_of settings feed_trips)) before
    → number_of (place_names timetable) (start_of settings feed_trip).name ≡ Some from
    → number_of (place_names timetable) (end_of settings feed_trip).name ≡ Some to
    → class_of timetable.places from ≡ class_of timetable.places to
trip_of_one_class settings feed_trips before i feed_trip timetable from to valid lt is so_far from_is to_is =
    let classed = is_classed settings in
    let places = ap (λ (t : TimetableView). t.places) so_far in
    let are = subst (All (IsPostOrTerminal classed)) (sym places)
    (met-are (IsPostOrTerminal classed) [] (ends_of settings feed_trips) (All-nil (IsPostOrTerminal classed))
    (ends-are settings feed_trips valid)) in
    let plain = subst (λ (j : FeedTrip). has_slash j.class ≡ false) (sym is) (valid i feed_trip lt).class in
    class-found classed timetable.places (start_of settings feed_trip) from are (place_of-is settings feed_trip.from feed_trip.class plain)
    from_is
    ∙ place_of-class settings feed_trip.from feed_trip.to feed_trip.class
    ∙ sym (class-found classed timetable.places (end_of settings feed_trip) to are
    (place_of-is settings feed_trip.to feed_trip.class plain) to_is)

-- a trip between two places of one class is valid
pub trip_is_valid : (places : List Place) (from to : ℕ) (feed_trip : FeedTrip) → from < length places → to < length places
    → class_of places from ≡ class_of places to → IsFeedTrip feed_trip
    → IsValidTrip places (trip_between from to feed_trip)
trip_is_valid places from to feed_trip from_in to_in one_class is = record {
  from = from_in;
  to = to_in;
  one_class = one_class;
  forward = is.forward;
  early = is.early;
  late = is.late;
  not_too_early = omega (arith, ints);
  not_too_late = omega (arith, ints);
  departs_from_midnight = omega (arith, ints);
  departs_in_day = omega (arith, ints, is.departs);
  ends_in_day = omega (arith, ints, is.ends);
}
