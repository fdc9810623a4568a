-- Printed lines, as they are written piece by piece.
use Rattle.std.proofs.Common.{◌≡◌, ℕ, suc, ◌+◌, ◌<◌, ◌≤◌, List, [], ◌∷◌, ◌++◌, length, get_or, take, ℤ, pos, refl, sym, ap, ◌∙◌, codes}
use Rattle.std.proofs.Common.{append_assoc, arith}
use Rattle.std.specs.Fmt.{signed_decimal, decimal}
use Rattle.std.specs.List.{flat_map, enumerate_from}
use Rattle.std.proofs.lemmas.Grind.{flat_map-append}
use Rattle.std.proofs.lemmas.List.{append-nil, take_more, take_all, length-take-le}
use Rattle.gtfs_tables.specs.Times.{minute_digits}
use Rattle.trip_model.specs.Maximum.{first_maximum, sum_of_maxima}
use Rattle.trip_model.specs.Steps.{steps}
use Rattle.trip_model.proofs.MaximumLemmas.{first_maximum-agree}
use Rattle.trip_model.proofs.StepsLemmas.{steps-agree}
use Rattle.deficit_steps.specs.Lines.{step_line, place_lines, sum_line, deficit_text}
use Rattle.deficit_steps.proofs.DeficitsLemmas.{sum_of_maxima-agree}

-- the text after one step more
pub steps-more : (before : List ℕ) (list : List (ℕ × ℤ)) (n : ℕ) (step : ℕ × ℤ) (now next minute : List ℕ) → n < length list
    → step ≡ get_or list n (0, pos 0)
    → now ≡ before ++ flat_map step_line (take n list) → minute ≡ minute_digits step.0
    → next ≡ now ++ 32 ∷ (minute ++ 32 ∷ (signed_decimal step.1 ++ 10 ∷ []))
    → next ≡ before ++ flat_map step_line (take (n + 1) list)
unfolding step_line
steps-more before list n step now next minute h read so_far digits written =
    written
    ∙ (λ i. so_far i ++ 32 ∷ (digits i ++ 32 ∷ (signed_decimal step.1 ++ 10 ∷ [])))
    ∙ ap (λ s. (before ++ flat_map step_line (take n list)) ++ 32 ∷ (minute_digits s.0 ++ 32 ∷ (signed_decimal s.1 ++ 10 ∷ []))) read
    ∙ sym (ap (λ xs. before ++ flat_map step_line xs) (take_more list n (0, pos 0) h)
    ∙ ap (λ xs. before ++ xs) (flat_map-append step_line (take n list) (get_or list n (0, pos 0) ∷ []))
    ∙ simp (append_assoc, append-nil))

-- the text after the lines of one place
pub place-written : (before name : List ℕ) (d : ℕ → ℤ) (high at : ℕ) (minute : List ℕ) (list : List (ℕ × ℤ)) (line next : List ℕ)
    → first_maximum d ≡ (pos high, at)
    → minute ≡ minute_digits at → list ≡ steps d
    → line ≡ before ++ (name ++ 32 ∷ 109 ∷ 97 ∷ 120 ∷ 32 ∷ (decimal high ++ 32 ∷ 97 ∷ 116 ∷ 32 ∷ (minute ++ 10 ∷ [])))
    → next ≡ line ++ flat_map step_line list
    → next ≡ before ++ place_lines name d
unfolding place_lines
place-written before name d high at minute list line next maximum digits is written all =
    all
    ∙ (λ i. written i ++ flat_map step_line (is i))
    ∙ (λ i. (before ++ (name ++ 32 ∷ 109 ∷ 97 ∷ 120 ∷ 32
    ∷ (signed_decimal (sym maximum i).0 ++ 32 ∷ 97 ∷ 116 ∷ 32 ∷ ((digits ∙ ap (λ b. minute_digits b.1) (sym maximum)) i ++ 10 ∷ []))))
    ++ flat_map step_line (steps d))
    ∙ simp append_assoc

-- names in order, numbered, with one more
enumerate_from-push : (from : ℕ) (names : List (List ℕ)) (name : List ℕ)
    → enumerate_from from (names ++ name ∷ []) ≡ enumerate_from from names ++ (from + length names, name) ∷ []
enumerate_from-push from [] name = let e : from ≡ from + 0 = omega arith in ap (λ n. (n, name) ∷ []) e
enumerate_from-push from (x ∷ names) name =
    ap (λ rest. (from, x) ∷ rest) (enumerate_from-push (from + 1) names name
    ∙ (let e : from + 1 + length names ≡ from + suc (length names) = omega arith in
    ap (λ n. enumerate_from (from + 1) names ++ (n, name) ∷ []) e))

-- the text after the lines of one place more
pub lines-more : (names : List (List ℕ)) (d : ℕ → ℕ → ℤ) (k : ℕ) (name text next : List ℕ) → k < length names → name ≡ get_or names k []
    → text ≡ flat_map (λ place. place_lines place.1 (d place.0)) (enumerate_from 0 (take k names))
    → next ≡ text ++ place_lines name (d k)
    → next ≡ flat_map (λ place. place_lines place.1 (d place.0)) (enumerate_from 0 (take (k + 1) names))
lines-more names d k name text next h is so_far written =
    let lines : (ℕ × List ℕ) → List ℕ = λ place. place_lines place.1 (d place.0) in
    let number : 0 + length (take k names) ≡ k = omega (arith, length-take-le k names) in
    written
    ∙ (λ i. so_far i ++ place_lines (is i) (d k))
    ∙ sym (ap (λ ns. flat_map lines (enumerate_from 0 ns)) (take_more names k [] h)
    ∙ ap (flat_map lines) (enumerate_from-push 0 (take k names) (get_or names k []))
    ∙ flat_map-append lines (enumerate_from 0 (take k names)) ((0 + length (take k names), get_or names k []) ∷ [])
    ∙ ap (λ xs. flat_map lines (enumerate_from 0 (take k names)) ++ xs)
    (append-nil (place_lines (get_or names k []) (d (0 + length (take k names)))))
    ∙ ap (λ n. flat_map lines (enumerate_from 0 (take k names)) ++ place_lines (get_or names k []) (d n)) number)

-- the whole text, once the sum is written
pub text-written : (names : List (List ℕ)) (d : ℕ → ℕ → ℤ) (k sum n : ℕ) (text next : List ℕ) → length names ≤ k → n ≡ length names
    → text ≡ flat_map (λ place. place_lines place.1 (d place.0)) (enumerate_from 0 (take k names))
    → pos sum ≡ sum_of_maxima d n
    → next ≡ text ++ 115 ∷ 117 ∷ 109 ∷ 32 ∷ (decimal sum ++ 10 ∷ [])
    → next ≡ deficit_text names d
unfolding deficit_text sum_line
text-written names d k sum n text next all len so_far total written =
    written
    ∙ (λ i. (so_far ∙ ap (λ ns. flat_map (λ place. place_lines place.1 (d place.0)) (enumerate_from 0 ns)) (take_all k names all)) i
    ++ 115 ∷ 117 ∷ 109 ∷ 32 ∷ (signed_decimal ((total ∙ ap (sum_of_maxima d) len) i) ++ 10 ∷ []))

-- functions that agree at every minute have the same lines
place_lines-agree : (name : List ℕ) (d e : ℕ → ℤ) → ((t : ℕ) → t ≤ 8191 → d t ≡ e t) → place_lines name d ≡ place_lines name e
unfolding place_lines
place_lines-agree name d e same =
    let maximum = first_maximum-agree d e same in
    let all = steps-agree d e 8192 refl (λ t h. same t (omega arith)) in
    λ i. name ++ codes " max " ++ signed_decimal (maximum i).0 ++ codes " at " ++ minute_digits (maximum i).1 ++ 10 ∷ []
    ++ flat_map step_line (all i)

all_lines-agree : (from : ℕ) (names : List (List ℕ)) (d e : ℕ → ℕ → ℤ) → ((k t : ℕ) → k < from + length names → t ≤ 8191 → d k t ≡ e k t)
    → flat_map (λ place. place_lines place.1 (d place.0)) (enumerate_from from names) ≡ flat_map (λ place. place_lines place.1 (e place.0))
    (enumerate_from from names)
all_lines-agree from [] d e same = refl
all_lines-agree from (x ∷ names) d e same =
    λ i. place_lines-agree x (d from) (e from) (λ t h. same from t (omega arith) h) i
    ++ all_lines-agree (from + 1) names d e (λ k t h g. same k t (omega arith) g) i

pub deficit_text-agree : (names : List (List ℕ)) (d e : ℕ → ℕ → ℤ) → ((k t : ℕ) → k < length names → t ≤ 8191 → d k t ≡ e k t)
    → deficit_text names d ≡ deficit_text names e
unfolding deficit_text
deficit_text-agree names d e same =
    λ i. all_lines-agree 0 names d e (λ k t h g. same k t (omega arith) g) i ++ sum_line (sum_of_maxima-agree d e (length names) same i)
