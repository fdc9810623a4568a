-- What is kept of the stop times of a trip as they are met one after the other.
use Rattle.std.proofs.Common.{◌≡◌, ℕ, ◌≤◌, Bool, true, false, cond, ◌||◌, ◌==◌, nat_eq, List, [], ◌∷◌, ◌++◌, length, None, refl, sym, ap}
use Rattle.std.proofs.Common.{◌∙◌, arith}
use Rattle.std.specs.List.{list_any}
use Rattle.std.proofs.lemmas.Bool.{false≢true}
use Rattle.std.proofs.lemmas.Grind.{fold-append}
use Rattle.std.proofs.lemmas.List.{map_push}
use Rattle.feed_read.specs.FeedTrips.{sequences, has_repeat, sooner, later}
use Rattle.feed_read.specs.Kept.{Kept, with_kept, nothing_kept, AreTripEnds}
use Rattle.feed_read.specs.StopTimes.{StopTimeView}

any_push : {A : Type 0} (test : A → Bool) (xs : List A) (x : A) → list_any test (xs ++ x ∷ []) ≡ (list_any test xs || test x)
any_push test [] x = elim (test x) as (λ b. (b || false) ≡ b) [
  | true ↦ refl
  | false ↦ refl
]
any_push test (y ∷ ys) x = ap (λ b. test y || b) (any_push test ys x)
    ∙ elim (test y) as (λ b. (b || (list_any test ys || test x)) ≡ ((b || list_any test ys) || test x)) [
      | true ↦ refl
      | false ↦ refl
    ]

exchanged : (a b c d : Bool) → ((a || b) || (c || d)) ≡ ((a || c) || (b || d))
exchanged true b c d = refl
exchanged false true true d = refl
exchanged false true false true = refl
exchanged false true false false = refl
exchanged false false true d = refl
exchanged false false false d = refl

-- a number more repeats, or repeats one before it
pub has_repeat-push : (numbers : List ℕ) (number : ℕ)
    → has_repeat (numbers ++ number ∷ []) ≡ (has_repeat numbers || list_any (λ other. number == other) numbers)
has_repeat-push [] number = refl
has_repeat-push (x ∷ xs) number =
    ap (λ b. b || has_repeat (xs ++ number ∷ [])) (any_push (λ other. other == x) xs number)
    ∙ ap (λ b. (list_any (λ other. other == x) xs || (number == x)) || b) (has_repeat-push xs number)
    ∙ exchanged (list_any (λ other. other == x) xs) (number == x) (has_repeat xs) (list_any (λ other. number == other) xs)

-- two numbers at least repeat
pub has_repeat-two : (numbers : List ℕ) → has_repeat numbers ≡ true → 2 ≤ length numbers
has_repeat-two [] repeats = absurd (false≢true repeats)
has_repeat-two (x ∷ []) repeats = absurd (false≢true repeats)
has_repeat-two (x ∷ y ∷ rest) repeats = omega arith

or_false : (a b : Bool) → (a || b) ≡ false → (a ≡ false) × (b ≡ false)
or_false true b is = absurd (false≢true (sym is))
or_false false b is = (refl, is)

-- what is kept of stop times and one more
pub AreTripEnds-add : (before : List StopTimeView) (stop_time : StopTimeView) (kept : Kept) → AreTripEnds before kept
    → AreTripEnds (before ++ stop_time ∷ []) (with_kept kept stop_time)
AreTripEnds-add before stop_time kept are = record {
  numbers = λ none. numbers (or_false kept.repeated (list_any (nat_eq stop_time.sequence) kept.sequences) none);
  repeated = by kept.repeated refl;
  first = ap (λ f. sooner f stop_time) are.first ∙ sym (fold-append sooner None before (stop_time ∷ []));
  last = ap (λ l. later l stop_time) are.last ∙ sym (fold-append later None before (stop_time ∷ []));
}
  where
    more : sequences (before ++ stop_time ∷ []) ≡ sequences before ++ stop_time.sequence ∷ []
    more = map_push (λ (v : StopTimeView). v.sequence) before stop_time

    numbers : (kept.repeated ≡ false) × (list_any (nat_eq stop_time.sequence) kept.sequences ≡ false)
        → (with_kept kept stop_time).sequences ≡ sequences (before ++ stop_time ∷ [])
    numbers none =
        ap (λ b. cond b kept.sequences (kept.sequences ++ stop_time.sequence ∷ [])) none.1
        ∙ ap (λ ns. ns ++ stop_time.sequence ∷ []) (are.numbers none.0) ∙ sym more

    all : has_repeat (sequences (before ++ stop_time ∷ [])) ≡ (has_repeat (sequences before) || list_any (nat_eq stop_time.sequence)
        (sequences before))
    all = ap has_repeat more ∙ has_repeat-push (sequences before) stop_time.sequence

    by : (was : Bool) → kept.repeated ≡ was → (with_kept kept stop_time).repeated ≡ has_repeat (sequences (before ++ stop_time ∷ []))
    by true is =
        ap (λ b. b || list_any (nat_eq stop_time.sequence) kept.sequences) is
        ∙ sym (all ∙ ap (λ b. b || list_any (nat_eq stop_time.sequence) (sequences before)) (sym are.repeated ∙ is))
    by false is =
        ap (λ b. b || list_any (nat_eq stop_time.sequence) kept.sequences) is ∙ ap (list_any (nat_eq stop_time.sequence)) (are.numbers is)
        ∙ sym (all ∙ ap (λ b. b || list_any (nat_eq stop_time.sequence) (sequences before)) (sym are.repeated ∙ is))

-- of no stop times nothing is kept
pub AreTripEnds-none : AreTripEnds [] nothing_kept
AreTripEnds-none = record { numbers = λ _. refl; repeated = refl; first = refl; last = refl }
