-- Records that are read one after the other.
use Rattle.std.proofs.Common.{◌≡◌, ℕ, suc, ◌+◌, ◌<◌, ◌≤◌, List, [], ◌∷◌, ◌++◌, length, map, Bool, true, false, Result, Ok, Err, refl, sym}
use Rattle.std.proofs.Common.{ap, subst, ◌∙◌, arith, append_assoc}
use Rattle.std.specs.List.{AllByRecursion}
use Rattle.std.proofs.lemmas.List.{append-nil, length-append}
use Rattle.gtfs_tables.specs.declared.fault.FeedFault.{FeedFault}
use Rattle.gtfs_tables.specs.Reading.{◌>>=◌, provided, each_record}

-- what was read in two parts
pub read-parts : {A B : Type 0} (read : Result A FeedFault) (next : A → Result B FeedFault) (x : B) → (read >>= next) ≡ Ok x
    → (y : A) × (read ≡ Ok y) × (next y ≡ Ok x)
read-parts (Ok y) next x e = (y, refl, e)
read-parts (Err refused) next x e = cc

pub provided-parts : {A : Type 0} (holds : Bool) (refused : FeedFault) (rest : Result A FeedFault) (x : A)
    → provided holds refused rest ≡ Ok x → (holds ≡ true) × (rest ≡ Ok x)
provided-parts true refused rest x e = (refl, e)
provided-parts false refused rest x e = cc

pub same_Ok : {A : Type 0} (x y : A) → ◌≡◌ {A = Result A FeedFault} (Ok x) (Ok y) → x ≡ y
same_Ok x y e = cc

-- what is read of records keeps a fact that each of them keeps
pub each-keeps : {A R : Type 0} (read : ℕ → A → R → Result A FeedFault) (P : A → Type 0)
    → ((n : ℕ) (a b : A) (row : R) → P a → read n a row ≡ Ok b → P b)
    → (n : ℕ) (a b : A) (rows : List R) → P a → each_record read n a rows ≡ Ok b → P b
each-keeps read P keeps n a b [] here e = let same : a ≡ b = cc in subst P same here
each-keeps read P keeps n a b (row ∷ rows) here e =
    let parts = read-parts (read n a row) (λ more. each_record read (n + 1) more rows) b e in
    each-keeps read P keeps (n + 1) parts.0 b rows (keeps n a parts.0 row here parts.1) parts.2

after : {A R : Type 0} (read : ℕ → A → R → Result A FeedFault) (n : ℕ) (here : Result A FeedFault) (xs ys : List R)
    → ((b : A) → each_record read (n + 1) b (xs ++ ys) ≡ (each_record read (n + 1) b xs >>= λ c. each_record read (n + 1 + length xs) c ys))
    → (here >>= λ more. each_record read (n + 1) more (xs ++ ys)) ≡ ((here >>= λ more. each_record read (n + 1) more xs) >>=
    λ b. each_record read (n + suc (length xs)) b ys)
after read n (Ok b) xs ys rest =
    let same : n + 1 + length xs ≡ n + suc (length xs) = omega arith in
    rest b ∙ ap (λ m. each_record read (n + 1) b xs >>= λ c. each_record read m c ys) same
after read n (Err refused) xs ys rest = refl

-- records, and then more of them
pub each-append : {A R : Type 0} (read : ℕ → A → R → Result A FeedFault) (n : ℕ) (a : A) (xs ys : List R)
    → each_record read n a (xs ++ ys) ≡ (each_record read n a xs >>= λ b. each_record read (n + length xs) b ys)
each-append read n a [] ys = let same : n ≡ n + 0 = omega arith in ap (λ m. each_record read m a ys) same
each-append read n a (x ∷ xs) ys = after read n (read n a x) xs ys (λ b. each-append read (n + 1) b xs ys)

-- records, each of which adds a row as long as there are few
pub each-adds : {S X R : Type 0} (step : ℕ → S → List (List ℕ) → Result S FeedFault) (put : List R → S) (record_of : X → List (List ℕ))
    (row_of : X → R) (most : ℕ) (Good : X → Type 0)
    → ((n : ℕ) (rows : List R) (x : X) → Good x → length rows < most → step n (put rows) (record_of x) ≡ Ok (put (rows ++ row_of x ∷ [])))
    → (n : ℕ) (rows : List R) (xs : List X) → AllByRecursion Good xs → length rows + length xs ≤ most
    → each_record step n (put rows) (map record_of xs) ≡ Ok (put (rows ++ map row_of xs))
each-adds step put record_of row_of most Good adds n rows [] good few = ap (λ more. Ok (put more)) (sym (append-nil rows))
each-adds step put record_of row_of most Good adds n rows (x ∷ xs) good few =
    ap (λ here. here >>= λ more. each_record step (n + 1) more (map record_of xs)) (adds n rows x good.0 (omega arith))
    ∙ each-adds step put record_of row_of most Good adds (n + 1) (rows ++ row_of x ∷ []) xs good.1
    (omega (arith, length-append rows (row_of x ∷ [])))
    ∙ ap (λ more. Ok (put more)) (append_assoc rows (row_of x ∷ []) (map row_of xs))
