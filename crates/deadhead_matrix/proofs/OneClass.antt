-- What the records of a file give: the places of their terminals for each class, and the entries between these.
use Rattle.std.proofs.Common.{◌≡◌, ℕ, ◌+◌, ◌<◌, ◌≤◌, ◌==◌, ◌||◌, inl, inr, nat_lt, Bool, true, false, not, List, [], ◌∷◌, ◌++◌, length}
use Rattle.std.proofs.Common.{get_or, fold, Option, None, Some, Result, Ok, Err, if◌then◌else◌, refl, sym, ap, subst, ◌∙◌, append_assoc}
use Rattle.std.proofs.Common.{arith}
use Rattle.std.specs.Prelude.{All, Contains}
use Rattle.std.proofs.Math.Bool.{or-true}
use Rattle.std.proofs.Math.Seq.{get_or-append_seam}
use Rattle.std.proofs.lemmas.Bool.{false≢true}
use Rattle.std.proofs.lemmas.List.{append-nil, get_or-map, get_or_append_left, length-append, length-map}
use Rattle.std.proofs.lemmas.List.Elements.{All-cons, All-contains, All-contains_itself, All-head, All-nil, All-tail, All-push}
use Rattle.std.proofs.lemmas.List.Elements.{Contains-append_left, Contains-push}
use Rattle.std.proofs.lemmas.Map.Views.{Contains-from_any}
use Rattle.std.proofs.lemmas.List.Quantifiers.{position-Some}
use Rattle.std.proofs.lemmas.Slice.Eq.{bytes_eq-Decides}
use Rattle.desk_io.specs.declared.shelf.Found.{Found}
use Rattle.desk_io.specs.declared.shelf.Found.TheVariants.{Missing}
use Rattle.gtfs_tables.specs.declared.fault.FeedFault.{FeedFault}
use Rattle.gtfs_tables.specs.declared.fault.FeedFault.TheVariants as fault
use Rattle.gtfs_tables.specs.declared.paper.Paper.TheVariants as paper
use Rattle.gtfs_tables.specs.Fold.{table_read, paper_read}
use Rattle.gtfs_tables.specs.Reading.{◌>>=◌, provided, each_record, table_in}
use Rattle.gtfs_tables.specs.Table.{TableView}
use Rattle.trip_model.specs.declared.limits.TheConstants.{MOST_PLACES}
use Rattle.trip_model.specs.Place.{Place, IsPlace, class_of, has_slash, place_in, terminal_place}
use Rattle.trip_model.specs.Timetable.{TimetableView, IsTimetable, place_names, number_of}
use Rattle.deadhead_matrix.specs.declared.entry.Entry.{Entry}
use Rattle.deadhead_matrix.specs.declared.read.Columns.{Columns}
use Rattle.deadhead_matrix.specs.Deadheads.{ReadingView, begun, columns_in, deadhead_in, deadheads_of, has_entry, or_new_place, with_place}
use Rattle.deadhead_matrix.specs.Deadheads.{with_places, with_entry, with_entries, with_unplaced, with_deadhead}
use Rattle.deadhead_matrix.specs.Posts.{Class, JoinsOneClass, classes_met, classes_of, has_class, place_for, with_class}
use Rattle.deadhead_matrix.specs.Terminals.{Deadhead, IsAllowed, IsRecord, terminal_at}
use Rattle.deadhead_matrix.specs.Walks.{IsWalk}
use Rattle.deadhead_matrix.proofs.ClassLemmas.{classes-named}

-- what was read in two parts was read in each
read-parts : {A B : Type 0} (read : Result A FeedFault) (next : A → Result B FeedFault) (y : B) → (read >>= next) ≡ Ok y
    → (x : A) × (read ≡ Ok x) × (next x ≡ Ok y)
read-parts (Ok x) next y e = (x, refl, e)
read-parts (Err refused) next y e = cc

same_Ok : {A : Type 0} (x y : A) → ◌≡◌ {A = Result A FeedFault} (Ok x) (Ok y) → x ≡ y
same_Ok x y e = cc

provided-read : {A : Type 0} (holds : Bool) (refused : FeedFault) (x y : A) → provided holds refused (Ok x) ≡ Ok y → x ≡ y
provided-read true refused x y e = cc
provided-read false refused x y e = cc

-- a text that ends with `/` and a class has a `/`
has_slash-class : (before class : List ℕ) → has_slash (before ++ 47 ∷ class) ≡ true
has_slash-class [] class = refl
has_slash-class (x ∷ before) class = ap (λ b. (x == 47) || b) (has_slash-class before class) ∙ or-true (x == 47)

-- a name stands for one class
class-same : (a b c d : List ℕ) → has_slash c ≡ false → has_slash d ≡ false → a ++ 47 ∷ c ≡ b ++ 47 ∷ d → c ≡ d
class-same [] [] c d first second e = cc
class-same [] (x ∷ b) c d first second e =
    let rest : c ≡ b ++ 47 ∷ d = cc in absurd (false≢true (sym first ∙ ap has_slash rest ∙ has_slash-class b d))
class-same (x ∷ a) [] c d first second e =
    let rest : a ++ 47 ∷ c ≡ d = cc in absurd (false≢true (sym second ∙ ap has_slash (sym rest) ∙ has_slash-class a c))
class-same (x ∷ a) (y ∷ b) c d first second e = let rest : a ++ 47 ∷ c ≡ b ++ 47 ∷ d = cc in class-same a b c d first second rest

-- and for one terminal
terminal-same : (a b c d : List ℕ) → has_slash c ≡ false → has_slash d ≡ false → a ++ 47 ∷ c ≡ b ++ 47 ∷ d → a ≡ b
terminal-same [] [] c d first second e = refl
terminal-same [] (x ∷ b) c d first second e =
    let rest : c ≡ b ++ 47 ∷ d = cc in absurd (false≢true (sym first ∙ ap has_slash rest ∙ has_slash-class b d))
terminal-same (x ∷ a) [] c d first second e =
    let rest : a ++ 47 ∷ c ≡ d = cc in absurd (false≢true (sym second ∙ ap has_slash (sym rest) ∙ has_slash-class a c))
terminal-same (x ∷ a) (y ∷ b) c d first second e =
    let head : x ≡ y = cc in
    let rest : a ++ 47 ∷ c ≡ b ++ 47 ∷ d = cc in
    λ i. head i ∷ terminal-same a b c d first second rest i

module _ (Among : Class → Type 0) where
  -- a class that places of a timetable may have
  record IsClass (classed : Bool) (class : Class) : Type 0 where
    pub named : has_slash class ≡ false
    pub empty : classed ≡ false → class ≡ []
    pub among : Among class

  -- the place of a terminal for a class is a post or a terminal, of that class
  place_for-is : (classed : Bool) (terminal : List ℕ) (class : Class) → IsClass classed class
      → IsPlace classed (place_for classed terminal class)
  place_for-is true terminal class is = record { is = (refl, is.named); layover = omega arith }
  place_for-is false terminal class is = record { is = refl; layover = omega arith }

  place_for-class : (classed : Bool) (terminal : List ℕ) (class : Class) → IsClass classed class
      → (place_for classed terminal class).class ≡ class
  place_for-class true terminal class is = refl
  place_for-class false terminal class is = sym (is.empty refl)

  -- a place of that name is of that class
  named-class : (classed : Bool) (p : Place) (terminal : List ℕ) (class : Class) → IsPlace classed p → IsClass classed class
      → (place_for classed terminal class).name ≡ p.name → p.class ≡ class
  named-class true p terminal class is of e =
      class-same p.terminal terminal p.class class is.is.1 of.named (ap (λ (q : Place). q.name) (sym is.is.0) ∙ sym e)
  named-class false p terminal class is of e = ap (λ (q : Place). q.class) is.is ∙ sym (of.empty refl)

  -- and of that terminal
  named-terminal : (classed : Bool) (p : Place) (terminal : List ℕ) (class : Class) → IsPlace classed p → IsClass classed class
      → (place_for classed terminal class).name ≡ p.name → p.terminal ≡ terminal
  named-terminal true p terminal class is of e =
      terminal-same p.terminal terminal p.class class is.is.1 of.named (ap (λ (q : Place). q.name) (sym is.is.0) ∙ sym e)
  named-terminal false p terminal class is of e = ap (λ (q : Place). q.terminal) is.is ∙ sym e

  place_for-terminal : (classed : Bool) (terminal : List ℕ) (class : Class) → (place_for classed terminal class).terminal ≡ terminal
  place_for-terminal true terminal class = refl
  place_for-terminal false terminal class = refl

  -- a timetable whose places are all posts, or all terminals, of these classes
  record IsOfPlaces (classed : Bool) (t : TimetableView) : Type 0 where
    pub classed_as : t.classed ≡ classed
    pub each : All (IsPlace classed) t.places
    pub among : All (λ p. Among p.class) t.places

  -- a timetable has gained places at the end
  record HasGained (t after : TimetableView) : Type 0 where
    pub more : List Place
    pub is : after.places ≡ t.places ++ more

  gained-class : (t after : TimetableView) (n : ℕ) → HasGained t after → n < length t.places → class_of after.places n ≡ class_of t.places n
  unfolding class_of
  gained-class t after n gained lt =
      ap (λ places. (place_in places n).class) gained.is
      ∙ ap (λ (p : Place). p.class) (get_or_append_left t.places gained.more (terminal_place [] 0) n lt)

  gained-terminal : (t after : TimetableView) (n : ℕ) → HasGained t after → n < length t.places
      → terminal_at after.places n ≡ terminal_at t.places n
  gained-terminal t after n gained lt =
      ap (λ places. terminal_at places n) gained.is
      ∙ ap (λ (p : Place). p.terminal) (get_or_append_left t.places gained.more (terminal_place [] 0) n lt)

  gained-length : (t after : TimetableView) → HasGained t after → length t.places ≤ length after.places
  gained-length t after gained = omega (arith, ap length gained.is, length-append t.places gained.more)

  gained-twice : (t between after : TimetableView) → HasGained t between → HasGained between after → HasGained t after
  gained-twice t between after first second =
      record {
        more = first.more ++ second.more;
        is = second.is ∙ ap (λ places. places ++ second.more) first.is ∙ append_assoc t.places first.more second.more;
      }

  -- a place that was found or added, of that terminal and class
  record IsPlaced (classed : Bool) (t after : TimetableView) (terminal : List ℕ) (class : Class) (n : ℕ) : Type 0 where
    pub places : IsOfPlaces classed after
    pub gained : HasGained t after
    pub within : n < length after.places
    pub of_class : class_of after.places n ≡ class
    pub of_terminal : terminal_at after.places n ≡ terminal

  found-placed : (classed : Bool) (t : TimetableView) (terminal : List ℕ) (class : Class) (n : ℕ) → IsClass classed class
      → IsOfPlaces classed t
      → number_of (place_names t) (place_for classed terminal class).name ≡ Some n → IsPlaced classed t t terminal class n
  unfolding class_of
  found-placed classed t terminal class n of places found =
      let at = position-Some _ (place_names t) n [] found in
      let lt : n < length t.places = omega (arith, at.0, length-map t.places (λ p. p.name)) in
      let same = (bytes_eq-Decides (place_for classed terminal class).name (get_or (place_names t) n [])).0 at.1 in
      let name = same ∙ get_or-map (λ p. p.name) t.places n (terminal_place [] 0) [] lt in
      record {
        places = places;
        gained = record { more = []; is = sym (append-nil t.places) };
        within = lt;
        of_class = named-class classed (place_in t.places n) terminal class (places.each n (terminal_place [] 0) lt) of name;
        of_terminal = named-terminal classed (place_in t.places n) terminal class (places.each n (terminal_place [] 0) lt) of name;
      }

  added-placed : (classed : Bool) (t : TimetableView) (terminal : List ℕ) (class : Class) → IsClass classed class → IsOfPlaces classed t
      → IsPlaced classed t (record t { places = t.places ++ place_for classed terminal class ∷ [] }) terminal class (length t.places)
  unfolding class_of
  added-placed classed t terminal class of places =
      let place = place_for classed terminal class in
      record {
        places = record {
          classed_as = places.classed_as;
          each = All-push (IsPlace classed) t.places place places.each (place_for-is classed terminal class of);
          among = All-push (λ p. Among p.class) t.places place places.among
              (subst Among (sym (place_for-class classed terminal class of)) of.among);
        };
        gained = record { more = place ∷ []; is = refl };
        within = omega (arith, length-append t.places (place ∷ []));
        of_class = ap (λ (p : Place). p.class) (get_or-append_seam t.places place [] (terminal_place [] 0))
            ∙ place_for-class classed terminal class of;
        of_terminal = ap (λ (p : Place). p.terminal) (get_or-append_seam t.places place [] (terminal_place [] 0))
            ∙ place_for-terminal classed terminal class;
      }

  placed : (classed : Bool) (t after : TimetableView) (terminal : List ℕ) (class : Class) (n : ℕ) → IsClass classed class
      → IsOfPlaces classed t
      → with_place t (place_for t.classed terminal class) ≡ Ok (after, n) → IsPlaced classed t after terminal class n
  placed classed t after terminal class n of places e =
      by (number_of (place_names t) (place_for classed terminal class).name) refl
      (sym (ap (λ b. with_place t (place_for b terminal class)) places.classed_as) ∙ e)
    where
      by : (number : Option ℕ) → number_of (place_names t) (place_for classed terminal class).name ≡ number
          → or_new_place t (place_for classed terminal class) number ≡ Ok (after, n)
          → IsPlaced classed t after terminal class n
      by (Some m) found is =
          let same : (t, m) ≡ (after, n) = cc in
          subst (λ (r : TimetableView × ℕ). IsPlaced classed t r.0 terminal class r.1) same
          (found-placed classed t terminal class m of places found)
      by None found is =
          let same = provided-read (nat_lt (length t.places) MOST_PLACES) (fault.TooManyPlaces paper.Deadheads) _ (after, n) is in
          subst (λ (r : TimetableView × ℕ). IsPlaced classed t r.0 terminal class r.1) same
          (added-placed classed t terminal class of places)

  -- a place of a terminal and a class
  pub record IsPost (places : List Place) (terminal : List ℕ) (class : Class) (n : ℕ) : Type 0 where
    pub within : n < length places
    pub of_class : class_of places n ≡ class
    pub of_terminal : terminal_at places n ≡ terminal

  gained-post : (t after : TimetableView) (terminal : List ℕ) (class : Class) (n : ℕ) → HasGained t after
      → IsPost t.places terminal class n → IsPost after.places terminal class n
  gained-post t after terminal class n gained is = record {
    within = omega (arith, is.within, gained-length t after gained);
    of_class = gained-class t after n gained is.within ∙ is.of_class;
    of_terminal = gained-terminal t after n gained is.within ∙ is.of_terminal;
  }

  -- places of a terminal for these classes, one by one
  abbrev pub ArePosts : List Place → List ℕ → List ℕ → List Class → Type 0
  ArePosts places terminal [] [] = Unit {0}
  ArePosts places terminal (n ∷ ns) (c ∷ cs) = IsPost places terminal c n × ArePosts places terminal ns cs
  ArePosts places terminal (n ∷ ns) [] = ⊥
  ArePosts places terminal [] (c ∷ cs) = ⊥

  gained-posts : (t after : TimetableView) (terminal : List ℕ) → HasGained t after → (ns : List ℕ) (cs : List Class)
      → ArePosts t.places terminal ns cs → ArePosts after.places terminal ns cs
  gained-posts t after terminal gained [] [] are = tt
  gained-posts t after terminal gained (n ∷ ns) (c ∷ cs) are =
      (gained-post t after terminal c n gained are.0, gained-posts t after terminal gained ns cs are.1)
  gained-posts t after terminal gained (n ∷ ns) [] are = are
  gained-posts t after terminal gained [] (c ∷ cs) are = are

  -- the places of a terminal, one for each class
  record ArePlaced (classed : Bool) (t after : TimetableView) (terminal : List ℕ) (before numbers : List ℕ)
      (classes : List Class) : Type 0 where
    pub places : IsOfPlaces classed after
    pub gained : HasGained t after
    pub more : List ℕ
    pub is : numbers ≡ before ++ more
    pub posts : ArePosts after.places terminal more classes

  all-placed : (classed : Bool) (terminal : List ℕ) (t after : TimetableView) (before numbers : List ℕ) (classes : List Class)
      → All (IsClass classed) classes → IsOfPlaces classed t
      → with_places terminal t before classes ≡ Ok (after, numbers) → ArePlaced classed t after terminal before numbers classes
  all-placed classed terminal t after before numbers [] named places e =
      let same : (t, before) ≡ (after, numbers) = cc in
      subst (λ (r : TimetableView × List ℕ). ArePlaced classed t r.0 terminal before r.1 []) same
      (record {
        places = places;
        gained = record { more = []; is = sym (append-nil t.places) };
        more = [];
        is = sym (append-nil before);
        posts = tt;
      })
  all-placed classed terminal t after before numbers (c ∷ cs) named places e =
      let parts = read-parts (with_place t (place_for t.classed terminal c))
      (λ here. with_places terminal here.0 (before ++ here.1 ∷ []) cs) (after, numbers) e in
      let here = placed classed t parts.0.0 terminal c parts.0.1 (All-head (IsClass classed) c cs named) places parts.1 in
      let rest = all-placed classed terminal parts.0.0 after (before ++ parts.0.1 ∷ []) numbers cs (All-tail (IsClass classed) c cs named)
      here.places parts.2 in
      record {
        places = rest.places;
        gained = gained-twice t parts.0.0 after here.gained rest.gained;
        more = parts.0.1 ∷ rest.more;
        is = rest.is ∙ append_assoc before (parts.0.1 ∷ []) rest.more;
        posts = (
          gained-post parts.0.0 after terminal c parts.0.1 rest.gained
              (record { within = here.within; of_class = here.of_class; of_terminal = here.of_terminal }),
          rest.posts,
        );
      }

  -- an entry leads, for some class, between places of the terminals of a deadhead that a record allows, in its minutes
  pub record Joins (Allows : Deadhead → Type 0) (places : List Place) (e : Entry) : Type 0 where
    pub deadhead : Deadhead
    pub allowed : Allows deadhead
    pub class : Class
    pub from : IsPost places deadhead.from class e.from
    pub to : IsPost places deadhead.to class e.to
    pub minutes : e.minutes ≡ deadhead.minutes

  gained-joins : (Allows : Deadhead → Type 0) (t after : TimetableView) (e : Entry) → HasGained t after → Joins Allows t.places e
      → Joins Allows after.places e
  gained-joins Allows t after e gained joins = record {
    deadhead = joins.deadhead;
    allowed = joins.allowed;
    class = joins.class;
    from = gained-post t after joins.deadhead.from joins.class e.from gained joins.from;
    to = gained-post t after joins.deadhead.to joins.class e.to gained joins.to;
    minutes = joins.minutes;
  }

  -- an entry is among these for the deadhead between places of that class
  pub record HasEntry (places : List Place) (entries : List Entry) (deadhead : Deadhead) (class : Class) : Type 0 where
    pub entry : Entry
    pub among : Contains entries entry
    pub from : IsPost places deadhead.from class entry.from
    pub to : IsPost places deadhead.to class entry.to
    pub minutes : entry.minutes ≡ deadhead.minutes

  -- entries of a record come after those before it
  entries-stay : (number minutes : ℕ) (before after : List Entry) (froms tos : List ℕ)
      → with_entries number minutes before froms tos ≡ Ok after → (e : Entry) → Contains before e → Contains after e
  entries-stay number minutes before after [] tos is e among = let same : before ≡ after = cc in subst (λ es. Contains es e) same among
  entries-stay number minutes before after (a ∷ froms) [] is e among = let same : before ≡ after = cc in
      subst (λ es. Contains es e) same among
  entries-stay number minutes before after (a ∷ froms) (b ∷ tos) is e among =
      let entry : Entry = record { from = a; to = b; minutes = minutes } in
      let parts = read-parts (with_entry number before entry) (λ more. with_entries number minutes more froms tos) after is in
      let pushed = provided-read (not (has_entry before a b)) (fault.DuplicateRow paper.Deadheads number) (before ++ entry ∷ []) parts.0
      parts.1 in
      entries-stay number minutes parts.0 after froms tos parts.2 e
      (subst (λ es. Contains es e) pushed (Contains-append_left before (entry ∷ []) e among))

  all-join : (Allows : Deadhead → Type 0) (d : Deadhead) (places : List Place) (number : ℕ) (before after : List Entry)
      (froms tos : List ℕ) (classes : List Class) → Allows d
      → ArePosts places d.from froms classes → ArePosts places d.to tos classes → All (Joins Allows places) before
      → with_entries number d.minutes before froms tos ≡ Ok after → All (Joins Allows places) after
  all-join Allows d places number before after [] [] [] allowed from to are e = let same : before ≡ after = cc in
      subst (All (Joins Allows places)) same are
  all-join Allows d places number before after (a ∷ froms) (b ∷ tos) (c ∷ classes) allowed from to are e =
      let entry : Entry = record { from = a; to = b; minutes = d.minutes } in
      let parts = read-parts (with_entry number before entry) (λ more. with_entries number d.minutes more froms tos) after e in
      let pushed = provided-read (not (has_entry before a b)) (fault.DuplicateRow paper.Deadheads number) (before ++ entry ∷ []) parts.0
      parts.1 in
      let joins : Joins Allows places entry =
      record { deadhead = d; allowed = allowed; class = c; from = from.0; to = to.0; minutes = refl } in
      all-join Allows d places number parts.0 after froms tos classes allowed from.1 to.1
      (subst (All (Joins Allows places)) pushed (All-push (Joins Allows places) before entry are joins)) parts.2
  all-join Allows d places number before after [] [] (c ∷ classes) allowed from to are e = absurd from
  all-join Allows d places number before after [] (b ∷ tos) [] allowed from to are e = absurd to
  all-join Allows d places number before after [] (b ∷ tos) (c ∷ classes) allowed from to are e = absurd from
  all-join Allows d places number before after (a ∷ froms) tos [] allowed from to are e = absurd from
  all-join Allows d places number before after (a ∷ froms) [] (c ∷ classes) allowed from to are e = absurd to

  -- a record has an entry for each class
  all-have : (d : Deadhead) (places : List Place) (number : ℕ) (before after : List Entry) (froms tos : List ℕ) (classes : List Class)
      → ArePosts places d.from froms classes → ArePosts places d.to tos classes → with_entries number d.minutes before froms tos ≡ Ok after
      → All (HasEntry places after d) classes
  all-have d places number before after froms tos [] from to e = All-nil (HasEntry places after d)
  all-have d places number before after (a ∷ froms) (b ∷ tos) (c ∷ classes) from to e =
      let entry : Entry = record { from = a; to = b; minutes = d.minutes } in
      let parts = read-parts (with_entry number before entry) (λ more. with_entries number d.minutes more froms tos) after e in
      let pushed = provided-read (not (has_entry before a b)) (fault.DuplicateRow paper.Deadheads number) (before ++ entry ∷ []) parts.0
      parts.1 in
      let among = entries-stay number d.minutes parts.0 after froms tos parts.2 entry
      (subst (λ es. Contains es entry) pushed (Contains-push before entry)) in
      All-cons (HasEntry places after d) c classes (record { entry = entry; among = among; from = from.0; to = to.0; minutes = refl })
      (all-have d places number parts.0 after froms tos classes from.1 to.1 parts.2)
  all-have d places number before after [] tos (c ∷ classes) from to e = absurd from
  all-have d places number before after (a ∷ froms) [] (c ∷ classes) from to e = absurd to

  -- what records give, whose entries are those of deadheads that records allow
  record IsSound (Allows : Deadhead → Type 0) (classed : Bool) (read : ReadingView) : Type 0 where
    pub places : IsOfPlaces classed read.timetable
    pub joins : All (Joins Allows read.timetable.places) read.entries

  -- what records give has all that stood before
  record Extends (before after : ReadingView) : Type 0 where
    pub gained : HasGained before.timetable after.timetable
    pub entries : (e : Entry) → Contains before.entries e → Contains after.entries e

  extended : (before after : ReadingView) (d : Deadhead) (class : Class) → Extends before after
      → HasEntry before.timetable.places before.entries d class → HasEntry after.timetable.places after.entries d class
  extended before after d class extends has = record {
    entry = has.entry;
    among = extends.entries has.entry has.among;
    from = gained-post before.timetable after.timetable d.from class has.entry.from extends.gained has.from;
    to = gained-post before.timetable after.timetable d.to class has.entry.to extends.gained has.to;
    minutes = has.minutes;
  }

  -- a record was taken in, with an entry of its deadhead for each class
  record IsStepped (Allows : Deadhead → Type 0) (classed : Bool) (classes : List Class) (columns : Columns) (number : ℕ)
      (before after : ReadingView) (fields : List (List ℕ)) : Type 0 where
    pub sound : IsSound Allows classed after
    pub extends : Extends before after
    pub deadhead : Deadhead
    pub is : deadhead_in columns number fields ≡ Ok (deadhead.from, deadhead.to, deadhead.minutes)
    pub has : All (HasEntry after.timetable.places after.entries deadhead) classes

  step-sound : (Allows : Deadhead → Type 0) (classed : Bool) (classes : List Class) (columns : Columns) (number : ℕ)
      (before after : ReadingView) (fields : List (List ℕ)) → All (IsClass classed) classes
      → ((d : Deadhead) → deadhead_in columns number fields ≡ Ok (d.from, d.to, d.minutes) → Allows d)
      → IsSound Allows classed before → with_deadhead classes columns number before fields ≡ Ok after
      → IsStepped Allows classed classes columns number before after fields
  unfolding with_deadhead
  step-sound Allows classed classes columns number before after fields named allows sound e =
      let d = read-parts (deadhead_in columns number fields) _ after e in
      let f = read-parts (with_places d.0.0 before.timetable [] classes) _ after d.2 in
      let t = read-parts (with_places d.0.1 f.0.0 [] classes) _ after f.2 in
      let es = read-parts (with_entries number d.0.2 before.entries f.0.1 t.0.1) _ after t.2 in
      let us = read-parts (with_unplaced number classes before.unplaced (d.0.0, d.0.1)) _ after es.2 in
      let from = all-placed classed d.0.0 before.timetable f.0.0 [] f.0.1 classes named sound.places f.1 in
      let to = all-placed classed d.0.1 f.0.0 t.0.0 [] t.0.1 classes named from.places t.1 in
      let froms = subst (λ ns. ArePosts t.0.0.places d.0.0 ns classes) (sym from.is)
      (gained-posts f.0.0 t.0.0 d.0.0 to.gained from.more classes from.posts) in
      let tos = subst (λ ns. ArePosts t.0.0.places d.0.1 ns classes) (sym to.is) to.posts in
      let gained = gained-twice before.timetable f.0.0 t.0.0 from.gained to.gained in
      let deadhead : Deadhead = record { from = d.0.0; to = d.0.1; minutes = d.0.2 } in
      let given : ReadingView = record { timetable = t.0.0; entries = es.0; unplaced = us.0 } in
      subst (λ (after : ReadingView). IsStepped Allows classed classes columns number before after fields) (same_Ok given after us.2)
      (record {
        sound = record {
          places = to.places;
          joins = all-join Allows deadhead t.0.0.places number before.entries es.0 f.0.1 t.0.1 classes (allows deadhead d.1) froms tos
              (λ k q lt. gained-joins Allows before.timetable t.0.0 _ gained (sound.joins k q lt)) es.1;
        };
        extends = record { gained = gained; entries = entries-stay number d.0.2 before.entries es.0 f.0.1 t.0.1 es.1 };
        deadhead = deadhead;
        is = d.1;
        has = all-have deadhead t.0.0.places number before.entries es.0 f.0.1 t.0.1 classes froms tos es.1;
      })

  -- all records were taken in, with an entry of each deadhead for each class
  record AreStepped (Allows : Deadhead → Type 0) (classed : Bool) (classes : List Class) (columns : Columns) (first : ℕ)
      (before after : ReadingView) (rows : List (List (List ℕ))) : Type 0 where
    pub sound : IsSound Allows classed after
    pub extends : Extends before after
    pub has : (number : ℕ) (fields : List (List ℕ)) (d : Deadhead) → IsRecord first rows number fields
        → deadhead_in columns number fields ≡ Ok (d.from, d.to, d.minutes)
        → All (HasEntry after.timetable.places after.entries d) classes

  -- the deadhead of a record that was taken in
  same-deadhead : (c d : Deadhead)
      → ◌≡◌ {A = Result (List ℕ × List ℕ × ℕ) FeedFault} (Ok (c.from, c.to, c.minutes)) (Ok (d.from, d.to, d.minutes)) → c ≡ d
  same-deadhead c d e =
      let same = same_Ok (c.from, c.to, c.minutes) (d.from, d.to, d.minutes) e in
      λ i. record { from = (same i).0; to = (same i).1; minutes = (same i).2 }

  -- a record and those after it have their entries
  has-all : (Allows : Deadhead → Type 0) (classed : Bool) (classes : List Class) (columns : Columns) (first : ℕ)
      (before between after : ReadingView) (row : List (List ℕ)) (rows : List (List (List ℕ)))
      → IsStepped Allows classed classes columns first before between row
      → AreStepped Allows classed classes columns (first + 1) between after rows
      → (number : ℕ) (fields : List (List ℕ)) (d : Deadhead) → IsRecord first (row ∷ rows) number fields
      → deadhead_in columns number fields ≡ Ok (d.from, d.to, d.minutes)
      → All (HasEntry after.timetable.places after.entries d) classes
  has-all Allows classed classes columns first before between after row rows here rest number fields d (inl (number_is, fields_is)) is =
      let mine : deadhead_in columns first row ≡ Ok (d.from, d.to, d.minutes) =
      subst (λ n. deadhead_in columns n row ≡ Ok (d.from, d.to, d.minutes)) number_is
      (subst (λ f. deadhead_in columns number f ≡ Ok (d.from, d.to, d.minutes)) fields_is is) in
      subst (λ (d : Deadhead). All (HasEntry after.timetable.places after.entries d) classes)
      (same-deadhead here.deadhead d (sym here.is ∙ mine))
      (λ k q lt. extended between after here.deadhead _ rest.extends (here.has k q lt))
  has-all Allows classed classes columns first before between after row rows here rest number fields d (inr later) is =
      rest.has number fields d later is

  each-sound : (Allows : Deadhead → Type 0) (classed : Bool) (classes : List Class) (columns : Columns) (first : ℕ)
      (before after : ReadingView) (rows : List (List (List ℕ))) → All (IsClass classed) classes
      → ((number : ℕ) (fields : List (List ℕ)) (d : Deadhead) → IsRecord first rows number fields
      → deadhead_in columns number fields ≡ Ok (d.from, d.to, d.minutes) → Allows d)
      → IsSound Allows classed before → each_record (with_deadhead classes columns) first before rows ≡ Ok after
      → AreStepped Allows classed classes columns first before after rows
  each-sound Allows classed classes columns first before after [] named allows sound e =
      let same : before ≡ after = cc in
      subst (λ (after : ReadingView). AreStepped Allows classed classes columns first before after []) same (record {
        sound = sound;
        extends = record { gained = record { more = []; is = sym (append-nil before.timetable.places) }; entries = λ e among. among };
        has = λ number fields d row is. absurd row;
      })
  each-sound Allows classed classes columns first before after (row ∷ rows) named allows sound e =
      let parts = read-parts (with_deadhead classes columns first before row)
      (λ more. each_record (with_deadhead classes columns) (first + 1) more rows) after e in
      let here = step-sound Allows classed classes columns first before parts.0 row named
      (λ d is. allows first row d (inl (refl, refl)) is) sound parts.1 in
      let rest = each-sound Allows classed classes columns (first + 1) parts.0 after rows named
      (λ number fields d is. allows number fields d (inr is)) here.sound parts.2 in
      record {
        sound = rest.sound;
        extends = record {
          gained = gained-twice before.timetable parts.0.timetable after.timetable here.extends.gained rest.extends.gained;
          entries = λ e among. rest.extends.entries e (here.extends.entries e among);
        };
        has = has-all Allows classed classes columns first before parts.0 after row rows here rest;
      }

-- the classes of posts
met-classes : (places : List Place) (before : List Class) → All (IsPlace true) places → All (λ class. has_slash class ≡ false) before
    → All (λ class. has_slash class ≡ false) (fold (λ classes place. with_class classes place.class) before places)
met-classes [] before each named = named
met-classes (p ∷ ps) before each named =
    met-classes ps (with_class before p.class) (All-tail (IsPlace true) p ps each)
    (classes-named before p.class named (All-head (IsPlace true) p ps each).is.1)

classes-of : (t : TimetableView) (classed : Bool) → t.classed ≡ classed → All (IsPlace classed) t.places
    → All (IsClass (Contains (classes_of t)) classed) (classes_of t)
classes-of t true is each =
    let named = met-classes t.places [] each (All-nil (λ class. has_slash class ≡ false)) in
    let classes = if_true is in
    λ k d lt. record {
      named = subst (All (λ class. has_slash class ≡ false)) (sym classes) named k d lt;
      empty = λ other. absurd (false≢true (sym other));
      among = All-contains_itself (classes_of t) k d lt;
    }
  where
    if_true : t.classed ≡ true → classes_of t ≡ classes_met t.places
    if_true is = ap (λ b. if b then classes_met t.places else [] ∷ []) is
classes-of t false is each =
    let classes : classes_of t ≡ [] ∷ [] = ap (λ b. if b then classes_met t.places else [] ∷ []) is in
    λ k d lt. one classes k d (All-contains_itself (classes_of t) k d lt) lt
  where
    one : classes_of t ≡ [] ∷ [] → (k : ℕ) (d : Class) → Contains (classes_of t) (get_or (classes_of t) k d) → k < length (classes_of t)
        → IsClass (Contains (classes_of t)) false (get_or (classes_of t) k d)
    one classes k d among lt =
        let empty : get_or (classes_of t) k d ≡ [] = All-contains (λ class. class ≡ []) (classes_of t) (get_or (classes_of t) k d)
        (subst (All (λ class. class ≡ [])) (sym classes) (All-push (λ class. class ≡ []) [] [] (All-nil (λ class. class ≡ [])) refl))
        among in
        record { named = ap has_slash empty; empty = λ other. empty; among = among }

-- the class of a place is among those met
with_class-has : (classes : List Class) (class : Class) → Contains (with_class classes class) class
with_class-has classes class = by (has_class classes class) refl
  where
    by : (has : Bool) → has_class classes class ≡ has → Contains (if has then classes else classes ++ class ∷ []) class
    by true is = Contains-from_any (λ x y same. (bytes_eq-Decides x y).0 same) class classes is
    by false is = Contains-push classes class

with_class-keeps : (classes : List Class) (class other : Class) → Contains classes other → Contains (with_class classes class) other
with_class-keeps classes class other among = by (has_class classes class)
  where
    by : (has : Bool) → Contains (if has then classes else classes ++ class ∷ []) other
    by true = among
    by false = Contains-append_left classes (class ∷ []) other among

met-keeps : (places : List Place) (before : List Class) (class : Class) → Contains before class
    → Contains (fold (λ classes place. with_class classes place.class) before places) class
met-keeps [] before class among = among
met-keeps (p ∷ ps) before class among = met-keeps ps (with_class before p.class) class (with_class-keeps before p.class class among)

met-among : (places : List Place) (before : List Class)
    → All (λ (p : Place). Contains (fold (λ classes place. with_class classes place.class) before places) p.class) places
met-among [] before = All-nil (λ (p : Place). Contains before p.class)
met-among (p ∷ ps) before =
    let met = fold (λ classes place. with_class classes place.class) before (p ∷ ps) in
    All-cons (λ (p : Place). Contains met p.class) p ps (met-keeps ps (with_class before p.class) p.class (with_class-has before p.class))
    (met-among ps (with_class before p.class))

places-among : (t : TimetableView) (classed : Bool) → t.classed ≡ classed → All (IsPlace classed) t.places
    → All (λ p. Contains (classes_of t) p.class) t.places
places-among t true is each =
    subst (λ classes. All (λ (p : Place). Contains classes p.class) t.places)
    (sym (ap (λ b. if b then classes_met t.places else [] ∷ []) is)) (met-among t.places [])
places-among t false is each =
    subst (λ classes. All (λ (p : Place). Contains classes p.class) t.places)
    (sym (ap (λ b. if b then classes_met t.places else [] ∷ []) is))
    (λ k d lt. subst (Contains ([] ∷ [])) (sym (ap (λ (p : Place). p.class) (each k d lt).is)) (Contains-push [] []))

-- what the file gives: entries for the deadheads that it allows, and for no others
pub record IsFileRead (found : Found) (t after : TimetableView) (entries : List Entry) : Type 0 where
  pub among : All (λ (p : Place). Contains (classes_of t) p.class) after.places
  pub joins : All (Joins (Contains (classes_of t)) (IsAllowed found) after.places) entries
  pub has : (d : Deadhead) → IsAllowed found d → All (HasEntry (Contains (classes_of t)) after.places entries d) (classes_of t)

table-read : (found : Found) (t : TimetableView) (after : ReadingView) (table : TableView) → IsTimetable t
    → table_in paper.Deadheads found ≡ Ok table
    → table_read columns_in (with_deadhead (classes_of t)) (begun t) table ≡ Ok after → IsFileRead found t after.timetable after.entries
table-read found t after table valid read e =
    let parts = read-parts (columns_in table.header) (λ columns. each_record (with_deadhead (classes_of t) columns) 1 (begun t) table.rows)
    after e in
    let Among = Contains (classes_of t) in
    let stepped = each-sound Among (IsAllowed found) t.classed (classes_of t) parts.0 1 (begun t) after table.rows
    (classes-of t t.classed refl valid.each)
    (λ number fields d row is. record {
      table = table;
      read = read;
      columns = parts.0;
      header = parts.1;
      number = number;
      fields = fields;
      row = row;
      is = is;
    })
    (record {
      places = record { classed_as = refl; each = valid.each; among = places-among t t.classed refl valid.each };
      joins = All-nil (Joins Among (IsAllowed found) t.places);
    }) parts.2 in
    record {
      among = stepped.sound.places.among;
      joins = stepped.sound.joins;
      has = λ d allowed.
          let tables : allowed.table ≡ table = same_Ok allowed.table table (sym allowed.read ∙ read) in
          let columns : allowed.columns ≡ parts.0 =
          same_Ok allowed.columns parts.0 (sym allowed.header ∙ ap (λ (t : TableView). columns_in t.header) tables ∙ parts.1) in
          stepped.has allowed.number allowed.fields d
          (subst (λ (t : TableView). IsRecord 1 t.rows allowed.number allowed.fields) tables allowed.row)
          (subst (λ columns. deadhead_in columns allowed.number allowed.fields ≡ Ok (d.from, d.to, d.minutes)) columns allowed.is);
    }

pub file-read : (found : Found) (t after : TimetableView) (entries : List Entry) → IsTimetable t
    → deadheads_of found t ≡ Ok (after, entries) → IsFileRead found t after entries
file-read Missing t after entries valid e =
    let same = same_Ok (t, []) (after, entries) e in
    subst (λ (r : TimetableView × List Entry). IsFileRead Missing t r.0 r.1) same (record {
      among = places-among t t.classed refl valid.each;
      joins = All-nil (Joins (Contains (classes_of t)) (IsAllowed Missing) t.places);
      has = λ d allowed. absurd (none allowed.table allowed.read);
    })
  where
    none : (table : TableView) → table_in paper.Deadheads Missing ≡ Ok table → ⊥
    none table is = cc is
file-read found t after entries valid e =
    let parts = read-parts (paper_read paper.Deadheads columns_in (with_deadhead (classes_of t)) (begun t) found)
    (λ read. Ok (read.timetable, read.entries)) (after, entries) e in
    let table = read-parts (table_in paper.Deadheads found) (table_read columns_in (with_deadhead (classes_of t)) (begun t)) parts.0
    parts.1 in
    let same = same_Ok (parts.0.timetable, parts.0.entries) (after, entries) parts.2 in
    subst (λ (r : TimetableView × List Entry). IsFileRead found t r.0 r.1) same (table-read found t parts.0 table.0 valid table.1 table.2)

-- the entries of a file lead between places of one class
pub entries-one_class : (found : Found) (t after : TimetableView) (entries : List Entry) → IsTimetable t
    → deadheads_of found t ≡ Ok (after, entries)
    → All (JoinsOneClass after.places) entries
entries-one_class found t after entries valid e = λ k d lt.
    let joins = (file-read found t after entries valid e).joins k d lt in
    joins.from.of_class ∙ sym joins.to.of_class

-- and so do walks of such entries
pub walk-one_class : (places : List Place) (entries es : List Entry) (a b : ℕ) → All (JoinsOneClass places) entries → IsWalk entries a es b
    → class_of places a ≡ class_of places b
walk-one_class places entries [] a b are walk = ap (class_of places) walk
walk-one_class places entries (e ∷ es) a b are walk =
    ap (class_of places) (sym walk.1) ∙ (All-contains (JoinsOneClass places) entries e are walk.0)
    ∙ walk-one_class places entries es e.to b are walk.2
