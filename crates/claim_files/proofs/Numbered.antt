-- What numbered blocks give, one after the other.
use Rattle.std.proofs.Common.{◌≡◌, ℕ, zero, suc, ◌+◌, ◌<◌, List, [], ◌∷◌, ◌++◌, length, get_or, map, refl, ap, ◌∙◌, arith}
use Rattle.std.specs.List.{AllByRecursion, flat_map, range_with_len}

-- what blocks give, each with its number, the first with this one
abbrev pub on : {X : Type 0} → (ℕ → List ℕ → List X) → ℕ → List (List ℕ) → List X
on f k [] = []
on f k (block ∷ blocks) = f k block ++ on f (k + 1) blocks

pub flat-on : {X : Type 0} (f : ℕ → List ℕ → List X) (all rest : List (List ℕ)) (k : ℕ)
    → ((j : ℕ) → j < length rest → get_or all (k + j) [] ≡ get_or rest j [])
    → flat_map (λ n. f n (get_or all n [])) (range_with_len k (length rest)) ≡ on f k rest
flat-on f all [] k same = refl
flat-on f all (block ∷ rest) k same =
    let at : k ≡ k + 0 = omega arith in
    let here : get_or all k [] ≡ block = ap (λ n. get_or all n []) at ∙ same 0 (omega arith) in
    let later = flat-on f all rest (k + 1)
    (λ j lt. (let next : k + 1 + j ≡ k + suc j = omega arith in ap (λ n. get_or all n []) next ∙ same (suc j) (omega (arith, lt)))) in
    λ i. f k (here i) ++ later i

pub flat-numbered : {X : Type 0} (f : ℕ → List ℕ → List X) (blocks : List (List ℕ))
    → flat_map (λ n. f n (get_or blocks n [])) (range_with_len 0 (length blocks)) ≡ on f 0 blocks
flat-numbered f blocks = flat-on f blocks blocks 0 (λ j lt. (let same : 0 + j ≡ j = omega arith in ap (λ n. get_or blocks n []) same))

-- what holds of each element of two lists
pub each-append : {X : Type 0} (P : X → Type 0) (xs ys : List X) → AllByRecursion P xs → AllByRecursion P ys → AllByRecursion P (xs ++ ys)
each-append P [] ys first second = second
each-append P (x ∷ xs) ys first second = (first.0, each-append P xs ys first.1 second)

pub each-map : {X Y : Type 0} (P : Y → Type 0) (f : X → Y) (xs : List X) → ((x : X) → P (f x)) → AllByRecursion P (map f xs)
each-map P f [] holds = tt
each-map P f (x ∷ xs) holds = (holds x, each-map P f xs holds)

pub each-flat : {X Y : Type 0} (P : Y → Type 0) (f : X → List Y) (xs : List X) → ((x : X) → AllByRecursion P (f x))
    → AllByRecursion P (flat_map f xs)
each-flat P f [] holds = tt
each-flat P f (x ∷ xs) holds = each-append P (f x) (flat_map f xs) (holds x) (each-flat P f xs holds)

-- the numbers of a range
pub each-range : (P : ℕ → Type 0) (a n : ℕ) → ((k : ℕ) → k < a + n → P k) → AllByRecursion P (range_with_len a n)
each-range P a zero holds = tt
each-range P a (suc n) holds = (holds a (omega arith), each-range P (a + 1) n (λ k lt. holds k (omega (arith, lt))))
