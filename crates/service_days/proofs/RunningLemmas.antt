-- The services that the definition takes in, one after another, are those that run.
use Rattle.std.proofs.Common.{◌≡◌, ◌≢◌, ℕ, Bool, true, false, cond, ◌&&◌, ◌||◌, ◌==◌, List, [], ◌∷◌, fold, Option, Some, None, is_some}
use Rattle.std.proofs.Common.{refl, sym, ap, ◌∙◌, Ordering, Less, Equal, Greater, nat_cmp}
use Rattle.std.specs.BTreeSet.{insert_key}
use Rattle.std.specs.Cmp.Lexicographic.{slice_cmp}
use Rattle.std.specs.List.{AllByRecursion, list_any}
use Rattle.std.specs.List.Sorted.{IsStrictlySortedBy}
use Rattle.std.specs.Map.{lookup}
use Rattle.std.specs.Ordering.{is_eq, match_ordering, ordering_reverse}
use Rattle.std.specs.Str.{bytes_eq}
use Rattle.std.proofs.Math.Bool.{and-false, and-true, or-false, or_comm}
use Rattle.std.proofs.lemmas.Bool.{eq-eqb, ne_eqb}
use Rattle.std.proofs.lemmas.Cmp.{nat_eq_equiv, nat_list_cmp_total, nat_list_eq_equiv}
use Rattle.std.proofs.lemmas.Map.Text.{is_eq-slice_cmp}
use Rattle.std.proofs.lemmas.Map.Views.{Contains-from_any, list_any-from_Contains}
use Rattle.std.proofs.lemmas.Slice.Eq.{bytes_eq-Decides}
use Rattle.gtfs_tables.specs.Entries.{Name, value_of}
use Rattle.service_days.specs.declared.calendar.ServicePeriod.{ServicePeriod}
use Rattle.service_days.specs.declared.calendar_dates.Exception.{Exception}
use Rattle.service_days.specs.CalendarDates.{ServiceDate, exception_of, is_same}
use Rattle.service_days.specs.Services.{ServicesView, runs_by, is_running, with_running, with_excepted, scheduled_on, services_on}
use Rattle.service_days.specs.Services.{AreRunning}

-- an exception of the date adds its service where it runs, and one of another date adds none
pub of-date : (services : ServicesView) (date : ℕ) (names : List Name) (key : ServiceDate) → key.1 ≡ date
    → with_running services date names key.0 ≡ with_excepted services date names key
of-date services date names key on = sym (ap (λ b. cond b (with_running services date names key.0) names) (eq-eqb key.1 date on))

pub not_of-date : (services : ServicesView) (date : ℕ) (names : List Name) (key : ServiceDate) → key.1 ≢ date
    → names ≡ with_excepted services date names key
not_of-date services date names key off = sym (ap (λ b. cond b (with_running services date names key.0) names) (ne_eqb key.1 date off))

-- the order of the bytes
abbrev order : Name → Name → Ordering
order = slice_cmp nat_cmp

abbrev IsBelow : Name → List Name → Type 0
IsBelow low names = AllByRecursion (λ name. order low name ≡ Less) names

-- a name that is below others and below one more is below all of them
below-insert : (low n : Name) (names : List Name) → order low n ≡ Less → IsBelow low names → IsBelow low (insert_key order names n)
below-insert low n [] less all = (less, tt)
below-insert low n (x ∷ names) less all = by (order n x) (below-insert low n names less all.1)
  where
    by : (r : Ordering) → IsBelow low (insert_key order names n)
        → IsBelow low (match_ordering r (n ∷ x ∷ names) (x ∷ names) (x ∷ insert_key order names n))
    by Less more = (less, all)
    by Equal more = all
    by Greater more = (all.0, more)

-- a name that is below the first of others that rise is below all of them
below-first : (low first : Name) (names : List Name) → order low first ≡ Less → IsBelow first names → IsBelow low names
below-first low first [] less all = tt
below-first low first (x ∷ names) less all = (nat_list_cmp_total.trans low first x less all.0, below-first low first names less all.1)

-- names that rise still do with one more at its place
rising-insert : (n : Name) (names : List Name) → IsStrictlySortedBy order names → IsStrictlySortedBy order (insert_key order names n)
unfolding IsStrictlySortedBy
rising-insert n [] rising = (tt, tt)
rising-insert n (x ∷ names) rising = by (order n x) refl (rising-insert n names rising.1)
  where
    by : (r : Ordering) → order n x ≡ r → IsStrictlySortedBy order (insert_key order names n)
        → IsStrictlySortedBy order (match_ordering r (n ∷ x ∷ names) (x ∷ names) (x ∷ insert_key order names n))
    by Less is more = ((is, below-first n x names is rising.0), rising)
    by Equal is more = rising
    by Greater is more = (below-insert x n names (nat_list_cmp_total.antisymm x n ∙ ap ordering_reverse is) rising.0, more)

-- whether a service is among names
abbrev is_among : Name → List Name → Bool
is_among service names = list_any (bytes_eq service) names

or-swap : (a b c : Bool) → (a || (b || c)) ≡ (b || (a || c))
or-swap true true c = refl
or-swap true false c = refl
or-swap false b c = refl

or-again : (a b c : Bool) → a ≡ b → (a || c) ≡ (b || (a || c))
or-again true b c same = ap (λ d. d || true) same
or-again false b c same = ap (λ d. d || c) same

-- a name is among others with one more where it was or is that one
among-insert : (service n : Name) (names : List Name)
    → is_among service (insert_key order names n) ≡ (bytes_eq service n || is_among service names)
among-insert service n [] = refl
among-insert service n (x ∷ names) = by (order n x) refl (among-insert service n names)
  where
    by : (r : Ordering) → order n x ≡ r → is_among service (insert_key order names n) ≡ (bytes_eq service n || is_among service names)
        → is_among service (match_ordering r (n ∷ x ∷ names) (x ∷ names) (x ∷ insert_key order names n)) ≡ (bytes_eq service
        n || (bytes_eq service x || is_among service names))
    by Less is more = refl
    by Equal is more =
        let same : n ≡ x = (bytes_eq-Decides n x).0 (sym (is_eq-slice_cmp n x) ∙ ap is_eq is) in
        or-again (bytes_eq service x) (bytes_eq service n) (is_among service names) (ap (bytes_eq service) (sym same))
    by Greater is more = ap (λ b. bytes_eq service x || b) more ∙ or-swap (bytes_eq service x) (bytes_eq service n) (is_among service names)

-- where names are those with one more, or not, by a test
if-more : (runs : Bool) (service n : Name) (names : List Name)
    → is_among service (cond runs (insert_key order names n) names) ≡ (is_among service names || (bytes_eq service n && runs))
if-more true service n names = among-insert service n names ∙ or_comm (bytes_eq service n) (is_among service names)
    ∙ ap (λ b. is_among service names || b) (sym (and-true (bytes_eq service n)))
if-more false service n names = sym (or-false (is_among service names))
    ∙ ap (λ b. is_among service names || b) (sym (and-false (bytes_eq service n)))

and-same : (d runs other : Bool) → (d ≡ true → runs ≡ other) → (d && runs) ≡ (d && other)
and-same true runs other same = same refl
and-same false runs other same = refl

-- what one service adds
among-running : (services : ServicesView) (date : ℕ) (names : List Name) (n service : Name)
    → is_among service (with_running services date names n) ≡ (is_among service
    names || (bytes_eq service n && is_running services date service))
among-running services date names n service =
    if-more (is_running services date n) service n names
    ∙ ap (λ b. is_among service names || b)
    (and-same (bytes_eq service n) (is_running services date n) (is_running services date service)
    (λ same. ap (is_running services date) (sym ((bytes_eq-Decides service n).0 same))))

-- what one exception adds
among-excepted : (services : ServicesView) (date : ℕ) (names : List Name) (key : ServiceDate) (service : Name)
    → is_among service (with_excepted services date names key) ≡ (is_among service
    names || (is_same (service, date) key && is_running services date service))
among-excepted services date names key service = by (key.1 == date) refl
  where
    by : (on : Bool) → (key.1 == date) ≡ on
        → is_among service (with_excepted services date names key) ≡ (is_among service
        names || (is_same (service, date) key && is_running services date service))
    by true on =
        ap (λ b. is_among service (cond b (with_running services date names key.0) names)) on
        ∙ among-running services date names key.0 service
        ∙ ap (λ b. is_among service names || (b && is_running services date service))
        (sym (ap (λ b. bytes_eq service key.0 && b) (nat_eq_equiv.symm date key.1 ∙ on) ∙ and-true (bytes_eq service key.0)))
    by false off =
        ap (λ b. is_among service (cond b (with_running services date names key.0) names)) off
        ∙ sym (or-false (is_among service names))
        ∙ ap (λ b. is_among service names || (b && is_running services date service))
        (sym (ap (λ b. bytes_eq service key.0 && b) (nat_eq_equiv.symm date key.1 ∙ off) ∙ and-false (bytes_eq service key.0)))

or-self : (r d : Bool) → (r || (d && r)) ≡ r
or-self true d = refl
or-self false true = refl
or-self false false = refl

-- what entries add, where each adds its key if that has the service and the service runs
among-all : {K X : Type 0} (f : List Name → K → List Name) (test : K → Bool) (runs : Bool) (service : Name)
    → ((names : List Name) (key : K) → is_among service (f names key) ≡ (is_among service names || (test key && runs)))
    → (names : List Name) (entries : List (K × X))
    → is_among service (fold (λ before entry. f before entry.0) names entries) ≡ (is_among service
    names || (is_some (lookup test entries) && runs))
among-all f test runs service each names [] = sym (or-false (is_among service names))
among-all f test runs service each names (e ∷ entries) =
    among-all f test runs service each (f names e.0) entries
    ∙ ap (λ b. b || (is_some (lookup test entries) && runs)) (each names e.0)
    ∙ either (is_among service names) (test e.0)
  where
    either : (m d : Bool) → ((m || (d && runs)) || (is_some (lookup test entries) && runs)) ≡ (m || (is_some
        (cond d (Some e.1) (lookup test entries)) && runs))
    either true d = refl
    either false true = or-self runs (is_some (lookup test entries))
    either false false = refl

-- a service that runs has a schedule or an exception
running-found : (exception : Option Exception) (schedule : Option ServicePeriod) (date : ℕ) → runs_by exception schedule date ≡ true
    → (is_some schedule || is_some exception) ≡ true
running-found (Some exception) None date runs = refl
running-found (Some exception) (Some schedule) date runs = refl
running-found None (Some schedule) date runs = refl
running-found None None date runs = runs

-- the services that are found and run are all that run
all-running : (scheduled excepted runs : Bool) → (runs ≡ true → (scheduled || excepted) ≡ true)
    → ((false || (scheduled && runs)) || (excepted && runs)) ≡ runs
all-running true excepted true found = refl
all-running true true false found = refl
all-running true false false found = refl
all-running false true runs found = refl
all-running false false true found = found refl
all-running false false false found = refl

among-on : (services : ServicesView) (date : ℕ) (service : Name)
    → is_among service (services_on services date) ≡ is_running services date service
among-on services date service =
    let runs = is_running services date service in
    let exception = exception_of services.exceptions (service, date) in
    let schedule = value_of service services.schedules in
    among-all (with_excepted services date) (is_same (service, date)) runs service
    (λ names key. among-excepted services date names key service) (scheduled_on services date []) services.exceptions
    ∙ ap (λ b. b || (is_some exception && runs))
    (among-all (with_running services date) (bytes_eq service) runs service (λ names n. among-running services date names n service) []
    services.schedules)
    ∙ all-running (is_some schedule) (is_some exception) runs (running-found exception schedule date)

rising-running : (services : ServicesView) (date : ℕ) (names : List Name) (n : Name) → IsStrictlySortedBy order names
    → IsStrictlySortedBy order (with_running services date names n)
rising-running services date names n rising = by (is_running services date n)
  where
    by : (runs : Bool) → IsStrictlySortedBy order (cond runs (insert_key order names n) names)
    by true = rising-insert n names rising
    by false = rising

rising-excepted : (services : ServicesView) (date : ℕ) (names : List Name) (key : ServiceDate) → IsStrictlySortedBy order names
    → IsStrictlySortedBy order (with_excepted services date names key)
rising-excepted services date names key rising = by (key.1 == date)
  where
    by : (on : Bool) → IsStrictlySortedBy order (cond on (with_running services date names key.0) names)
    by true = rising-running services date names key.0 rising
    by false = rising

-- names that rise still do after entries that each leave them rising
rising-all : {K X : Type 0} (f : List Name → K → List Name)
    → ((names : List Name) (key : K) → IsStrictlySortedBy order names → IsStrictlySortedBy order (f names key))
    → (names : List Name) (entries : List (K × X)) → IsStrictlySortedBy order names
    → IsStrictlySortedBy order (fold (λ before entry. f before entry.0) names entries)
rising-all f each names [] rising = rising
rising-all f each names (e ∷ entries) rising = rising-all f each (f names e.0) entries (each names e.0 rising)

none-rise : IsStrictlySortedBy order []
unfolding IsStrictlySortedBy
none-rise = tt

-- the definition takes in exactly the services that run, in the order of their bytes
pub are-running : (services : ServicesView) (date : ℕ) → AreRunning services date (services_on services date)
are-running services date = record {
  exact = λ service. (
    λ runs. Contains-from_any (λ x y. (bytes_eq-Decides x y).0) service (services_on services date) (among-on services date service ∙ runs),
    λ member. sym (among-on services date service) ∙ list_any-from_Contains nat_list_eq_equiv service (services_on services date) member,
  );
  rising = rising-all (with_excepted services date) (rising-excepted services date) (scheduled_on services date []) services.exceptions
      (rising-all (with_running services date) (rising-running services date) [] services.schedules none-rise);
}
