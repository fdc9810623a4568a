-- Where the columns of a table stand, and which fields of a record stay as another is written.
use Rattle.std.proofs.Common.{◌≡◌, ◌≢◌, ℕ, suc, ◌+◌, ◌<◌, Bool, true, false, cond, List, [], ◌∷◌, ◌++◌, length, get_or, Option, Some, None}
use Rattle.std.proofs.Common.{Ok, refl, sym, ap, subst, ◌∙◌, arith}
use Rattle.std.specs.Prelude.{position}
use Rattle.std.specs.List.{position_from}
use Rattle.std.specs.Option.{ok_or}
use Rattle.std.specs.Str.{bytes_eq}
use Rattle.std.proofs.lemmas.Bool.{false≢true}
use Rattle.std.proofs.lemmas.Iterator.Adapters.{position_from-zero}
use Rattle.std.proofs.lemmas.Option.{same_Some}
use Rattle.std.proofs.lemmas.Slice.Eq.{bytes_eq-Decides}
use Rattle.gtfs_tables.specs.declared.fault.FeedFault.TheVariants as fault
use Rattle.gtfs_tables.specs.declared.paper.Column.{Column}
use Rattle.gtfs_tables.specs.declared.paper.Paper.{Paper}
use Rattle.gtfs_tables.specs.Papers.{column_name_of}
use Rattle.gtfs_tables.specs.Reading.{column_in}
use Rattle.gtfs_tables.specs.Spaces.{without_spaces}
use Rattle.gtfs_tables.specs.Table.{column_of}
use Rattle.claim_files.proofs.EachRecord.{same_Ok}

-- the first place that passes is one that passes
found-from : {X : Type 0} (p : X → Bool) (i : ℕ) (xs : List X) (k : ℕ) (d : X) → position_from p i xs ≡ Some k
    → (j : ℕ) × (k ≡ i + j) × (j < length xs) × (p (get_or xs j d) ≡ true)
found-from p i [] k d e = absurd (cc)
found-from p i (x ∷ xs) k d e = by (found-from p (i + 1) xs k d) (p x) refl e
  where
    by : (position_from p (i + 1) xs ≡ Some k → (j : ℕ) × (k ≡ i + 1 + j) × (j < length xs) × (p (get_or xs j d) ≡ true)) → (b : Bool)
        → p x ≡ b → cond b (Some i) (position_from p (i + 1) xs) ≡ Some k
        → (j : ℕ) × (k ≡ i + j) × (j < length (x ∷ xs)) × (p (get_or (x ∷ xs) j d) ≡ true)
    by rest true is e = (0, omega (arith, same_Some i k e), omega arith, is)
    by rest false is e =
        let more = rest e in
        (suc more.0, omega (arith, more.1), omega (arith, more.2), more.3)

-- and stays the first as more are put behind
found-kept : {X : Type 0} (p : X → Bool) (i : ℕ) (xs ys : List X) (k : ℕ) → position_from p i xs ≡ Some k
    → position_from p i (xs ++ ys) ≡ Some k
found-kept p i [] ys k e = absurd (cc)
found-kept p i (x ∷ xs) ys k e = by (found-kept p (i + 1) xs ys k) (p x) e
  where
    by : (position_from p (i + 1) xs ≡ Some k → position_from p (i + 1) (xs ++ ys) ≡ Some k) → (b : Bool)
        → cond b (Some i) (position_from p (i + 1) xs) ≡ Some k → cond b (Some i) (position_from p (i + 1) (xs ++ ys)) ≡ Some k
    by rest true e = e
    by rest false e = rest e

pub position-kept : {X : Type 0} (p : X → Bool) (xs ys : List X) (k : ℕ) → position p xs ≡ Some k → position p (xs ++ ys) ≡ Some k
position-kept p xs ys k e = position_from-zero p (xs ++ ys) ∙ found-kept p 0 xs ys k (sym (position_from-zero p xs) ∙ e)

-- a column that is found stands in the header under its name
pub column-found : (name : List ℕ) (header : List (List ℕ)) (k : ℕ) → column_of name header ≡ Some k
    → (k < length header) × (bytes_eq (without_spaces (get_or header k [])) name ≡ true)
column-found name header k e =
    let found = found-from (λ column. bytes_eq (without_spaces column) name) 0 header k [] e in
    let at : k ≡ found.0 = omega (arith, found.1) in
    (omega (arith, found.2), subst (λ k. bytes_eq (without_spaces (get_or header k [])) name ≡ true) (sym at) found.3)

-- columns of two names stand apart
pub columns-apart : (one other : List ℕ) (header : List (List ℕ)) (j k : ℕ) → bytes_eq one other ≡ false → column_of one header ≡ Some j
    → column_of other header ≡ Some k → j ≢ k
columns-apart one other header j k differ at to same =
    let here = column-found one header j at in
    let there = column-found other header k to in
    let first : without_spaces (get_or header j []) ≡ one = (bytes_eq-Decides (without_spaces (get_or header j [])) one).0 here.1 in
    let second : without_spaces (get_or header k []) ≡ other = (bytes_eq-Decides (without_spaces (get_or header k [])) other).0 there.1 in
    let names : one ≡ other = sym first ∙ ap (λ k. without_spaces (get_or header k [])) same ∙ second in
    false≢true (sym differ ∙ (bytes_eq-Decides one other).1 names)

-- a column that was asked of a header was found
pub column_in-found : (paper : Paper) (asked : Column) (header : List (List ℕ)) (k : ℕ) → column_in paper asked header ≡ Ok k
    → column_of (column_name_of asked) header ≡ Some k
column_in-found paper asked header k e = by (column_of (column_name_of asked) header) e
  where
    by : (found : Option ℕ) → ok_or found (fault.NoColumn paper asked) ≡ Ok k → found ≡ Some k
    by None e = absurd (cc)
    by (Some j) e = ap Some (same_Ok j k e)

-- a column that is found is found in a header with one more behind
pub column-kept : (name : List ℕ) (header more : List (List ℕ)) (k : ℕ) → column_of name header ≡ Some k
    → column_of name (header ++ more) ≡ Some k
column-kept name header more k e = found-kept (λ column. bytes_eq (without_spaces column) name) 0 header more k e
