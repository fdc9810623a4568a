-- Walks between places of one class are those of their terminals.
use Rattle.std.proofs.Common.{◌≡◌, ◌≢◌, ℕ, ◌+◌, ◌<◌, ◌≤◌, ⊎_elim, Bool, true, false, List, [], ◌∷◌, length, get_or, Option, None, Some, Result, Ok, Err}
use Rattle.std.proofs.Common.{refl, sym, ap, subst, ◌∙◌, arith}
use Rattle.std.specs.Prelude.{◌↔◌, Contains, IfOk}
use Rattle.std.proofs.lemmas.Bool.{cases_lt}
use Rattle.std.proofs.lemmas.List.{get_or-map, length-map}
use Rattle.std.proofs.lemmas.List.Elements.{All-contains}
use Rattle.std.proofs.lemmas.List.Sums.{sum_by-cons}
use Rattle.desk_io.specs.declared.shelf.Found.{Found}
use Rattle.gtfs_tables.specs.declared.fault.FeedFault.{FeedFault}
use Rattle.gtfs_tables.specs.Reading.{Gives}
use Rattle.trip_model.specs.Place.{Place, IsPlace, class_of, place_in, terminal_place}
use Rattle.trip_model.specs.Timetable.{TimetableView, IsTimetable, place_names}
use Rattle.deadhead_matrix.specs.declared.entry.Entry.{Entry}
use Rattle.deadhead_matrix.specs.Deadheads.{deadheads_of}
use Rattle.deadhead_matrix.specs.Posts.{classes_of, place_for}
use Rattle.deadhead_matrix.specs.Terminals.{AreTerminalWalks, Deadhead, IsAllowed, IsLeastTerminalWalk, IsTerminalWalk, terminal_at, terminal_minutes}
use Rattle.deadhead_matrix.specs.Walks.{IsLeastWalk, IsWalk, walk_minutes}
use Rattle.deadhead_matrix.proofs.OneClass.{HasEntry, IsFileRead, Joins, entries-one_class, file-read, walk-one_class}

-- the name of a place is that of its terminal and class
name-of : (classed : Bool) (p : Place) → IsPlace classed p → p.name ≡ (place_for classed p.terminal p.class).name
name-of true p is = ap (λ (q : Place). q.name) is.is.0
name-of false p is = sym (ap (λ (q : Place). q.terminal) is.is)

-- a timetable has one place of a terminal and a class
same-place : (t : TimetableView) (a b : ℕ) → IsTimetable t → a < length t.places → b < length t.places
    → class_of t.places a ≡ class_of t.places b → terminal_at t.places a ≡ terminal_at t.places b → a ≡ b
unfolding class_of
same-place t a b valid a_in b_in class terminal =
    ⊎_elim (λ (less : a < b). absurd (apart a b less b_in same))
    (λ (least : b ≤ a). ⊎_elim (λ (less : b < a). absurd (apart b a less a_in (sym same))) (λ (most : a ≤ b). omega (arith, least, most))
    (cases_lt b a))
    (cases_lt a b)
  where
    name-at : (n : ℕ) → n < length t.places
        → get_or (place_names t) n [] ≡ (place_for t.classed (terminal_at t.places n) (place_in t.places n).class).name
    name-at n n_in = get_or-map (λ (p : Place). p.name) t.places n (terminal_place [] 0) [] n_in
        ∙ name-of t.classed (place_in t.places n) (valid.each n (terminal_place [] 0) n_in)

    same : get_or (place_names t) a [] ≡ get_or (place_names t) b []
    same = name-at a a_in ∙ (λ i. (place_for t.classed (terminal i) (class i)).name) ∙ sym (name-at b b_in)

    apart : (i j : ℕ) → i < j → j < length t.places → get_or (place_names t) i [] ≡ get_or (place_names t) j [] → ⊥
    apart i j less j_in is = valid.place_names i j [] less (omega (arith, j_in, length-map t.places (λ (p : Place). p.name))) is

module _ (found : Found) (t after : TimetableView) (entries : List Entry) (valid : IsTimetable after)
    (read : IsFileRead found t after entries) where
  -- a walk of entries is one of deadheads between terminals
  to-terminals : (es : List Entry) (a b : ℕ) → IsWalk entries a es b
      → (ds : List Deadhead) × IsTerminalWalk found (terminal_at after.places a) ds (terminal_at after.places b)
      × (terminal_minutes ds ≡ walk_minutes es)
  to-terminals [] a b walk = ([], ap (terminal_at after.places) walk, refl)
  to-terminals (e ∷ es) a b walk =
      let joins = All-contains (Joins (Contains (classes_of t)) (IsAllowed found) after.places) entries e read.joins walk.0 in
      let rest = to-terminals es e.to b walk.2 in (
        joins.deadhead ∷ rest.0,
        (
          joins.allowed,
          sym joins.from.of_terminal ∙ ap (terminal_at after.places) walk.1,
          subst (λ terminal. IsTerminalWalk found terminal rest.0 (terminal_at after.places b)) joins.to.of_terminal rest.1,
        ),
        sum_by-cons (λ (d : Deadhead). d.minutes) joins.deadhead rest.0 ∙ (λ i. sym joins.minutes i + rest.2 i)
            ∙ sym (sum_by-cons (λ (e : Entry). e.minutes) e es),
      )

  -- and the other way round, between places of one class
  to-places : (ds : List Deadhead) (a b : ℕ) (from to : List ℕ) → from ≡ terminal_at after.places a → to ≡ terminal_at after.places b
      → a < length after.places → b < length after.places
      → class_of after.places a ≡ class_of after.places b → IsTerminalWalk found from ds to
      → (es : List Entry) × IsWalk entries a es b × (walk_minutes es ≡ terminal_minutes ds)
  unfolding class_of
  to-places [] a b from to from_is to_is a_in b_in class walk =
      ([], same-place after a b valid a_in b_in class (sym from_is ∙ walk ∙ to_is), refl)
  to-places (d ∷ ds) a b from to from_is to_is a_in b_in class walk =
      let has = All-contains (HasEntry (Contains (classes_of t)) after.places entries d) (classes_of t) (class_of after.places a)
      (read.has d walk.0) (read.among a (terminal_place [] 0) a_in) in
      let starts = same-place after has.entry.from a valid has.from.within a_in has.from.of_class
      (has.from.of_terminal ∙ walk.1 ∙ from_is) in
      let rest = to-places ds has.entry.to b d.to to (sym has.to.of_terminal) to_is has.to.within b_in (has.to.of_class ∙ class) walk.2 in (
        has.entry ∷ rest.0,
        (has.among, starts, rest.1),
        sum_by-cons (λ (e : Entry). e.minutes) has.entry rest.0 ∙ (λ i. has.minutes i + rest.2 i)
            ∙ sym (sum_by-cons (λ (d : Deadhead). d.minutes) d ds),
      )

  module _ (a b : ℕ) (a_in : a < length after.places) (b_in : b < length after.places)
      (class : class_of after.places a ≡ class_of after.places b) where
    abbrev from : List ℕ
    from = terminal_at after.places a

    abbrev to : List ℕ
    to = terminal_at after.places b

    here : (ds : List Deadhead) → IsTerminalWalk found from ds to
        → (es : List Entry) × IsWalk entries a es b × (walk_minutes es ≡ terminal_minutes ds)
    here ds walk = to-places ds a b from to refl refl a_in b_in class walk

    least-terminals : (m : Option ℕ) → IsLeastWalk entries a b m ↔ IsLeastTerminalWalk found from to m
    least-terminals None = (
      λ none ds walk. let on = here ds walk in none on.0 on.1,
      λ none es walk. let on = to-terminals es a b walk in
          none on.0 on.1,
    )
    least-terminals (Some m) = (
      λ least. let on = to-terminals least.reached.0 a b least.reached.1 in record {
        reached = (on.0, on.1, on.2 ∙ least.reached.2);
        least = λ ds walk. let on = here ds walk in subst (λ n. m ≤ n) on.2 (least.least on.0 on.1);
      },
      λ least. let on = here least.reached.0 least.reached.1 in record {
        reached = (on.0, on.1, on.2 ∙ least.reached.2);
        least = λ es walk. let on = to-terminals es a b walk in subst (λ n. m ≤ n) on.2 (least.least on.0 on.1);
      },
    )

pub one_class-terminals : (found : Found) (t after : TimetableView) (entries : List Entry) → IsTimetable t → IsTimetable after
    → deadheads_of found t ≡ Ok (after, entries)
    → (a b : ℕ) → a < length after.places → b < length after.places → class_of after.places a ≡ class_of after.places b
    → (m : Option ℕ) → IsLeastWalk entries a b m ↔ IsLeastTerminalWalk found (terminal_at after.places a) (terminal_at after.places b) m
one_class-terminals found t after entries valid valid_after e a b a_in b_in class m =
    least-terminals found t after entries valid_after (file-read found t after entries valid e) a b a_in b_in class m

-- between places of two classes there is no walk
pub two_classes-none : (found : Found) (t after : TimetableView) (entries : List Entry) → IsTimetable t
    → deadheads_of found t ≡ Ok (after, entries)
    → (a b : ℕ) → class_of after.places a ≢ class_of after.places b → IsLeastWalk entries a b None
two_classes-none found t after entries valid e a b other es walk =
    other (walk-one_class after.places entries es a b (entries-one_class found t after entries valid e) walk)

-- what is read of a file has the walks of its terminals
pub walks-read : (found : Found) (t after : TimetableView) (read : Result (List Entry) FeedFault) → IsTimetable t → IsTimetable after
    → Gives (λ (entries : List Entry). (after, entries)) read (deadheads_of found t) → IfOk read (AreTerminalWalks found after.places)
walks-read found t after (Ok entries) valid valid_after gives = record {
  one_class = one_class-terminals found t after entries valid valid_after gives;
  two_classes = two_classes-none found t after entries valid gives;
}
walks-read found t after (Err refused) valid valid_after gives = tt
