-- Where a name stands among names.
use Rattle.std.proofs.Common.{◌≡◌, ◌≢◌, ℕ, ◌<◌, nat_lt, Bool, true, false, cond, List, [], length, get_or, Some, None, refl, sym, ap, ◌∙◌}
use Rattle.std.proofs.Common.{arith}
use Rattle.std.specs.Str.{bytes_eq}
use Rattle.std.proofs.lemmas.Bool.{lt-ltb, le-ltb}
use Rattle.std.proofs.lemmas.List.Sums.{position_or_len_is}
use Rattle.std.proofs.lemmas.Slice.Eq.{bytes_eq-Decides}
use Rattle.trip_model.specs.Timetable.{number_of, AreDistinct}

-- a name is itself
pub name-itself : (name : List ℕ) → bytes_eq name name ≡ true
name-itself name = (bytes_eq-Decides name name).1 refl

pub name-other : (x y : List ℕ) → x ≢ y → bytes_eq x y ≡ false
name-other x y ne = by (bytes_eq x y) refl
  where
    by : (b : Bool) → bytes_eq x y ≡ b → b ≡ false
    by false e = refl
    by true e = absurd (ne ((bytes_eq-Decides x y).0 e))

-- the number of a name that stands at a place and nowhere before it
pub number-at : (names : List (List ℕ)) (name : List ℕ) (i : ℕ) → i < length names → get_or names i [] ≡ name
    → ((k : ℕ) → k < i → get_or names k [] ≢ name) → number_of names name ≡ Some i
number-at names name i lt here before =
    let at = position_or_len_is (bytes_eq name) names i [] (omega arith)
    (λ k less. name-other name (get_or names k []) (λ e. before k less (sym e))) (λ _. ap (bytes_eq name) here ∙ name-itself name) in
    (λ j. cond (nat_lt (at j) (length names)) (Some (at j)) None) ∙ ap (λ b. cond b (Some i) None) (lt-ltb i (length names) lt)

-- a name that stands nowhere has none
pub number-none : (names : List (List ℕ)) (name : List ℕ) → ((k : ℕ) → k < length names → get_or names k [] ≢ name)
    → number_of names name ≡ None
number-none names name none =
    let at = position_or_len_is (bytes_eq name) names (length names) [] (omega arith)
    (λ k less. name-other name (get_or names k []) (λ e. none k less (sym e))) (λ lt. absurd (omega arith)) in
    (λ j. cond (nat_lt (at j) (length names)) (Some (at j)) None)
    ∙ ap (λ b. cond b (Some (length names)) None) (le-ltb (length names) (length names) (omega arith))

-- in distinct names each has its own place
pub number-distinct : (names : List (List ℕ)) (i : ℕ) → AreDistinct names → i < length names → number_of names (get_or names i []) ≡ Some i
number-distinct names i distinct lt = number-at names (get_or names i []) i lt refl (λ k less. distinct k i [] less lt)
