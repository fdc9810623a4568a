-- The printed lines of joined deficits, as they are written piece by piece.
use Rattle.std.proofs.Common.{◌≡◌, ℕ, suc, ◌+◌, ◌<◌, ◌≤◌, List, [], ◌∷◌, ◌++◌, length, get_or, take, ℤ, pos, refl, sym, ap, ◌∙◌, codes}
use Rattle.std.proofs.Common.{append_assoc, arith}
use Rattle.std.specs.Fmt.{signed_decimal, decimal}
use Rattle.std.specs.List.{flat_map, enumerate_from}
use Rattle.std.proofs.lemmas.Grind.{flat_map-append}
use Rattle.std.proofs.lemmas.List.{append-nil, take_more, take_all, length-take-le}
use Rattle.gtfs_tables.specs.Times.{minute_digits}
use Rattle.trip_model.specs.Maximum.{first_maximum, sum_of_maxima}
use Rattle.trip_model.specs.Steps.{steps}
use Rattle.trip_model.proofs.MaximumLemmas.{first_maximum-agree}
use Rattle.trip_model.proofs.StepsLemmas.{steps-agree}
use Rattle.deficit_steps.specs.Lines.{step_line}
use Rattle.deficit_steps.proofs.DeficitsLemmas.{sum_of_maxima-agree}
use Rattle.joined_deficits.specs.Lines.{joined_place, joined_sum, joined_text}

-- the pieces of the lines of one place
place-parts : (text name high minute was list : List ℕ)
    → (text ++ (name ++ 32 ∷ 109 ∷ 97 ∷ 120 ∷ 32
    ∷ (high ++ 32 ∷ 97 ∷ 116 ∷ 32 ∷ (minute ++ 44 ∷ 32 ∷ 119 ∷ 97 ∷ 115 ∷ 32 ∷ (was ++ 10 ∷ []))))) ++ list
    ≡ text ++ (name ++ codes " max " ++ high ++ codes " at " ++ minute ++ codes ", was " ++ was ++ 10 ∷ [] ++ list)
place-parts text name high minute was list = simp append_assoc

-- the text after the lines of one place
pub place-written : (text name : List ℕ) (joined before : ℕ → ℤ) (high at was first : ℕ) (minute : List ℕ) (list : List (ℕ × ℤ))
    (line next : List ℕ)
    → first_maximum joined ≡ (pos high, at) → first_maximum before ≡ (pos was, first)
    → minute ≡ minute_digits at → list ≡ steps joined
    → line ≡ text ++ (name ++ 32 ∷ 109 ∷ 97 ∷ 120 ∷ 32
    ∷ (decimal high ++ 32 ∷ 97 ∷ 116 ∷ 32 ∷ (minute ++ 44 ∷ 32 ∷ 119 ∷ 97 ∷ 115 ∷ 32 ∷ (decimal was ++ 10 ∷ []))))
    → next ≡ line ++ flat_map step_line list
    → next ≡ text ++ joined_place name joined before
unfolding joined_place
place-written text name joined before high at was first minute list line next maximum earlier digits is written all =
    all
    ∙ (λ i. written i ++ flat_map step_line (is i))
    ∙ place-parts text name (decimal high) minute (decimal was) (flat_map step_line (steps joined))
    ∙ (λ i. text ++ (name ++ codes " max " ++ signed_decimal (sym maximum i).0 ++ codes " at "
    ++ (digits ∙ ap (λ b. minute_digits b.1) (sym maximum)) i
    ++ codes ", was " ++ signed_decimal (sym earlier i).0 ++ 10 ∷ [] ++ flat_map step_line (steps joined)))

-- names in order, numbered, with one more
enumerate_from-push : (from : ℕ) (names : List (List ℕ)) (name : List ℕ)
    → enumerate_from from (names ++ name ∷ []) ≡ enumerate_from from names ++ (from + length names, name) ∷ []
enumerate_from-push from [] name = let e : from ≡ from + 0 = omega arith in ap (λ n. (n, name) ∷ []) e
enumerate_from-push from (x ∷ names) name =
    ap (λ rest. (from, x) ∷ rest) (enumerate_from-push (from + 1) names name
    ∙ (let e : from + 1 + length names ≡ from + suc (length names) = omega arith in
    ap (λ n. enumerate_from (from + 1) names ++ (n, name) ∷ []) e))

-- the text after the lines of one place more
pub lines-more : (names : List (List ℕ)) (joined before : ℕ → ℕ → ℤ) (k : ℕ) (name text next : List ℕ) → k < length names
    → name ≡ get_or names k []
    → text ≡ flat_map (λ place. joined_place place.1 (joined place.0) (before place.0)) (enumerate_from 0 (take k names))
    → next ≡ text ++ joined_place name (joined k) (before k)
    → next ≡ flat_map (λ place. joined_place place.1 (joined place.0) (before place.0)) (enumerate_from 0 (take (k + 1) names))
lines-more names joined before k name text next h is so_far written =
    let lines : (ℕ × List ℕ) → List ℕ = λ place. joined_place place.1 (joined place.0) (before place.0) in
    let number : 0 + length (take k names) ≡ k = omega (arith, length-take-le k names) in
    written
    ∙ (λ i. so_far i ++ joined_place (is i) (joined k) (before k))
    ∙ sym (ap (λ ns. flat_map lines (enumerate_from 0 ns)) (take_more names k [] h)
    ∙ ap (flat_map lines) (enumerate_from-push 0 (take k names) (get_or names k []))
    ∙ flat_map-append lines (enumerate_from 0 (take k names)) ((0 + length (take k names), get_or names k []) ∷ [])
    ∙ ap (λ xs. flat_map lines (enumerate_from 0 (take k names)) ++ xs)
    (append-nil (joined_place (get_or names k []) (joined (0 + length (take k names))) (before (0 + length (take k names)))))
    ∙ ap (λ n. flat_map lines (enumerate_from 0 (take k names)) ++ joined_place (get_or names k []) (joined n) (before n)) number)

-- the pieces of the last line
sum-parts : (text sum blocks : List ℕ)
    → text ++ 115 ∷ 117 ∷ 109 ∷ 32 ∷ (sum ++ 44 ∷ 32 ∷ 98 ∷ 108 ∷ 111 ∷ 99 ∷ 107 ∷ 115 ∷ 32 ∷ (blocks ++ 10 ∷ []))
    ≡ text ++ (codes "sum " ++ sum ++ codes ", blocks " ++ blocks ++ 10 ∷ [])
sum-parts text sum blocks = simp append_assoc

-- the whole text, once the last line is written
pub text-written : (names : List (List ℕ)) (joined before : ℕ → ℕ → ℤ) (blocks k sum n : ℕ) (text next : List ℕ) → length names ≤ k
    → n ≡ length names
    → text ≡ flat_map (λ place. joined_place place.1 (joined place.0) (before place.0)) (enumerate_from 0 (take k names))
    → pos sum ≡ sum_of_maxima joined n
    → next ≡ text ++ 115 ∷ 117 ∷ 109 ∷ 32 ∷ (decimal sum ++ 44 ∷ 32 ∷ 98 ∷ 108 ∷ 111 ∷ 99 ∷ 107 ∷ 115 ∷ 32 ∷ (decimal blocks ++ 10 ∷ []))
    → next ≡ joined_text names joined before blocks
unfolding joined_text joined_sum
text-written names joined before blocks k sum n text next all len so_far total written =
    written
    ∙ sum-parts text (decimal sum) (decimal blocks)
    ∙ (λ i. (so_far ∙ ap (λ ns. flat_map (λ place. joined_place place.1 (joined place.0) (before place.0)) (enumerate_from 0 ns))
    (take_all k names all)) i
    ++ (codes "sum " ++ signed_decimal ((total ∙ ap (sum_of_maxima joined) len) i) ++ codes ", blocks " ++ decimal blocks ++ 10 ∷ []))

-- functions that agree at every minute have the same lines
place-agree : (name : List ℕ) (d e f g : ℕ → ℤ) → ((t : ℕ) → t ≤ 8191 → d t ≡ e t) → ((t : ℕ) → t ≤ 8191 → f t ≡ g t)
    → joined_place name d f ≡ joined_place name e g
unfolding joined_place
place-agree name d e f g same too =
    let maximum = first_maximum-agree d e same in
    let earlier = first_maximum-agree f g too in
    let all = steps-agree d e 8192 refl (λ t h. same t (omega arith)) in
    λ i. name ++ codes " max " ++ signed_decimal (maximum i).0 ++ codes " at " ++ minute_digits (maximum i).1 ++ codes ", was "
    ++ signed_decimal (earlier i).0 ++ 10 ∷ [] ++ flat_map step_line (all i)

all-agree : (from : ℕ) (names : List (List ℕ)) (d e f g : ℕ → ℕ → ℤ) → ((k t : ℕ) → k < from + length names → t ≤ 8191 → d k t ≡ e k t)
    → ((k t : ℕ) → k < from + length names → t ≤ 8191 → f k t ≡ g k t)
    → flat_map (λ place. joined_place place.1 (d place.0) (f place.0)) (enumerate_from from names) ≡ flat_map
    (λ place. joined_place place.1 (e place.0) (g place.0)) (enumerate_from from names)
all-agree from [] d e f g same too = refl
all-agree from (x ∷ names) d e f g same too =
    λ i. place-agree x (d from) (e from) (f from) (g from) (λ t h. same from t (omega arith) h) (λ t h. too from t (omega arith) h) i
    ++ all-agree (from + 1) names d e f g (λ k t h l. same k t (omega arith) l) (λ k t h l. too k t (omega arith) l) i

pub text-agree : (names : List (List ℕ)) (d e f g : ℕ → ℕ → ℤ) (blocks : ℕ) → ((k t : ℕ) → k < length names → t ≤ 8191 → d k t ≡ e k t)
    → ((k t : ℕ) → k < length names → t ≤ 8191 → f k t ≡ g k t)
    → joined_text names d f blocks ≡ joined_text names e g blocks
unfolding joined_text
text-agree names d e f g blocks same too =
    λ i. all-agree 0 names d e f g (λ k t h l. same k t (omega arith) l) (λ k t h l. too k t (omega arith) l) i
    ++ joined_sum (sum_of_maxima-agree d e (length names) same i) blocks
