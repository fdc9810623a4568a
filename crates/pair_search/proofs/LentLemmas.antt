-- What is said of lists is said of those that are equal to them, as lists are after their fronts were lent.
use Rattle.std.proofs.Common.{◌≡◌, ℕ, ◌++◌, Bool, List, length, take, drop, Option, sym, ap, subst, ◌∙◌}
use Rattle.std.proofs.Math.Seq.{take-append_seam}
use Rattle.assignment_model.specs.Prices.{Plan}
use Rattle.pair_search.specs.Assignment.{IsMatched, Covers, MayBegin}

-- a list whose front was lent whole is what was written there
pub written : {T : Type 0} (xs old : List T) (len : ℕ) → length xs ≡ len → take len (xs ++ drop (length xs) old) ≡ xs
written xs old len e = ap (λ n. take n (xs ++ drop (length xs) old)) (sym e) ∙ take-append_seam xs (drop (length xs) old)

pub MayBegin-same : (w : ℕ → ℕ → Option ℕ) (n : ℕ) (out : ℕ → Bool) (a : ℕ) (b : Option ℕ) (next next' : List (Option ℕ))
    (leave leave' enter enter' : List ℕ) → next' ≡ next → leave' ≡ leave
    → enter' ≡ enter → MayBegin w n out a b next leave enter → MayBegin w n out a b next' leave' enter'
MayBegin-same w n out a b next next' leave leave' enter enter' nexts leaves enters begins =
    subst (λ xs. MayBegin w n out a b xs leave' enter') (sym nexts)
    (subst (λ xs. MayBegin w n out a b next xs enter') (sym leaves) (subst (λ xs. MayBegin w n out a b next leave xs) (sym enters) begins))

pub IsMatched-same : (w : ℕ → ℕ → Option ℕ) (out : ℕ → Bool) (a b : Option ℕ) (next next' : List (Option ℕ))
    (leave leave' enter enter' : List ℕ) → next' ≡ next → leave' ≡ leave → enter' ≡ enter
    → IsMatched w out a b next leave enter → IsMatched w out a b next' leave' enter'
IsMatched-same w out a b next next' leave leave' enter enter' nexts leaves enters matched =
    subst (λ xs. IsMatched w out a b xs leave' enter') (sym nexts)
    (subst (λ xs. IsMatched w out a b next xs enter') (sym leaves) (subst (λ xs. IsMatched w out a b next leave xs) (sym enters) matched))

pub Covers-same : (w : ℕ → ℕ → Option ℕ) (out : ℕ → Bool) (a : Option ℕ) (leave leave' enter enter' : List ℕ) → leave' ≡ leave
    → enter' ≡ enter → Covers w out a leave enter → Covers w out a leave' enter'
Covers-same w out a leave leave' enter enter' leaves enters covers =
    subst (λ xs. Covers w out a xs enter') (sym leaves) (subst (λ xs. Covers w out a leave xs) (sym enters) covers)

abbrev plan_of : List (Option ℕ) → List ℕ → List ℕ → Plan
plan_of next leave enter = record { next = next; leave = leave; enter = enter }

-- a plan of equal lists is the same plan
pub plan-same : (plan : Plan) (next next' : List (Option ℕ)) (leave leave' enter enter' : List ℕ) → next' ≡ next → leave' ≡ leave
    → enter' ≡ enter
    → ◌≡◌ {A = Plan} (record { next = next; leave = leave; enter = enter }) plan
    → ◌≡◌ {A = Plan} (record { next = next'; leave = leave'; enter = enter' }) plan
plan-same plan next next' leave leave' enter enter' nexts leaves enters is =
    ap (λ (xs : List (Option ℕ)). plan_of xs leave' enter') nexts ∙ ap (λ (xs : List ℕ). plan_of next xs enter') leaves
    ∙ ap (plan_of next leave) enters ∙ is
