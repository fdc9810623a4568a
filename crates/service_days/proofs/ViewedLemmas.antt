-- What a map holds in order, seen by what its keys are seen as.
use Rattle.std.proofs.Common.{◌≡◌, ℕ, ◌+◌, zero, suc, add-one, Bool, true, false, cond, not, List, [], ◌∷◌, ◌++◌, map, take, fold}
use Rattle.std.proofs.Common.{slice_get, Option, Some, None, is_some, option_map, refl, sym, ap, ◌∙◌}
use Rattle.std.specs.Map.{lookup}
use Rattle.std.proofs.lemmas.List.{map-append}
use Rattle.indexmap.specs.IndexMap.{IndexMap, insert_entry}
use Rattle.indexmap.proofs.CallerLemmas.{insert_entry-new}

-- the entries, with what their keys are seen as
abbrev pub viewed : {K N X : Type 0} → (K → N) → List (K × X) → List (N × X)
viewed view entries = map (λ e. (view e.0, e.1)) entries

-- a key has the value that the map finds
pub lookup-viewed : {K N X : Type 0} (view : K → N) (test : N → Bool) (es : List (K × X))
    → lookup test (viewed view es) ≡ lookup (λ k. test (view k)) es
lookup-viewed view test [] = refl
lookup-viewed view test (e ∷ es) = ap (λ found. cond (test (view e.0)) (Some e.1) found) (lookup-viewed view test es)

-- what is told not to have been there was not
pub told-new : {X : Type 0} (found : Option X) (new : Bool) → is_some found ≡ not new → new ≡ not (is_some found)
told-new None true told = refl
told-new None false told = told
told-new (Some x) true told = told
told-new (Some x) false told = refl

none_from : {X : Type 0} (found : Option X) → is_some found ≡ false → found ≡ None
none_from None is = refl
none_from (Some x) is = cc

-- a new key goes last
pub pushed : {K N X S : Type 0} (view : K → N) (eq : K → K → Bool) (m new : IndexMap K X S) (k : K) (v : X) (found : Option X) (told : Bool)
    → is_some found ≡ not told → found ≡ lookup (eq k) m.entries → new.entries ≡ insert_entry eq m.entries k v → told ≡ true
    → viewed view new.entries ≡ viewed view m.entries ++ (view k, v) ∷ []
pushed view eq m new k v found told absent looked put is =
    let none : lookup (eq k) m.entries ≡ None = sym looked ∙ none_from found (absent ∙ ap not is) in
    ap (viewed view) (put ∙ insert_entry-new eq m k v none) ∙ map-append _ m.entries ((k, v) ∷ [])

fold-more : {K X A : Type 0} (f : A → K → A) (a : A) (es : List (K × X)) (n : ℕ) (k : K) → option_map (λ e. e.0) (slice_get es n) ≡ Some k
    → fold (λ a e. f a e.0) a (take (suc n) es) ≡ f (fold (λ a e. f a e.0) a (take n es)) k
fold-more f a [] n k at = cc
fold-more f a (e ∷ es) zero k at = ap (f a) (let same : e.0 ≡ k = cc in same)
fold-more f a (e ∷ es) (suc n) k at = fold-more f (f a e.0) es n k at

-- what is made of the keys of the entries, with one more
pub fold-next : {K X A : Type 0} (f : A → K → A) (a : A) (es : List (K × X)) (n : ℕ) (k : K)
    → option_map (λ e. e.0) (slice_get es n) ≡ Some k
    → fold (λ a e. f a e.0) a (take (n + 1) es) ≡ f (fold (λ a e. f a e.0) a (take n es)) k
fold-next f a es n k at = rw (add-one n) (fold-more f a es n k at)
