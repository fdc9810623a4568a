-- Which fields of a record and of a table are texts.
use Rattle.std.proofs.Common.{◌≡◌, ℕ, zero, suc, ◌+◌, ◌-◌, ◌<◌, ◌≤◌, inl, inr, Bool, true, false, cond, List, [], ◌∷◌, length}
use Rattle.std.proofs.Common.{get_or, All, Option, Some, None, refl, sym, subst, ap, ◌∙◌, arith}
use Rattle.std.specs.Prelude.{not}
use Rattle.std.specs.List.{position_from}
use Rattle.std.specs.Str.{IsUtf8, is_utf8}
use Rattle.std.proofs.lemmas.Bool.{cases_lt}
use Rattle.std.proofs.lemmas.List.Elements.{All-cons, All-from_get_or, All-nil}
use Rattle.std.proofs.lemmas.Str.{IsUtf8-from_is_utf8, is_utf8-from_IsUtf8}
use Rattle.gtfs_tables.specs.Table.{TableView}
use Rattle.block_writer.specs.Texts.{AreTexts, IsFirstBad, IsFirstBadField, bad_field, record_at}

-- what is told of a record whose fields count from this number
abbrev TellsFrom : ℕ → List (List ℕ) → Option ℕ → Type 0
TellsFrom i row None = All IsUtf8 row
TellsFrom i row (Some place) = (k : ℕ) × (place ≡ i + k) × IsFirstBadField row k

tells-from : (i : ℕ) (row : List (List ℕ)) → TellsFrom i row (position_from (λ field. not (is_utf8 field)) i row)
tells-from i [] = All-nil IsUtf8
tells-from i (field ∷ row) = by (is_utf8 field) refl (position_from (λ field. not (is_utf8 field)) (i + 1) row) (tells-from (i + 1) row)
  where
    here : is_utf8 field ≡ false → IsFirstBadField (field ∷ row) 0
    here bad = record {
      within = omega arith;
      bad = λ text. let wrong : true ≡ false = sym (is_utf8-from_IsUtf8 field text) ∙ bad in cc;
      before = λ k below. absurd (omega arith);
    }

    up_to : IsUtf8 field → (n : ℕ) → ((k : ℕ) → k < n → IsUtf8 (get_or row k [])) → (k : ℕ) → k < suc n → IsUtf8 (get_or (field ∷ row) k [])
    up_to text n before zero below = text
    up_to text n before (suc k) below = before k (omega arith)

    there : IsUtf8 field → (n : ℕ) → IsFirstBadField row n → IsFirstBadField (field ∷ row) (suc n)
    there text n first = record { within = omega (arith, first.within); bad = first.bad; before = up_to text n first.before }

    by : (is : Bool) → is_utf8 field ≡ is → (rest : Option ℕ) → TellsFrom (i + 1) row rest
        → TellsFrom i (field ∷ row) (cond (not is) (Some i) rest)
    by true text None rest = All-cons IsUtf8 field row (IsUtf8-from_is_utf8 field text) rest
    by true text (Some place) rest = (suc rest.0, omega (arith, rest.1), there (IsUtf8-from_is_utf8 field text) rest.0 rest.2)
    by false bad rest more = (0, omega arith, here bad)

-- what is told of a record
abbrev pub Tells : List (List ℕ) → Option ℕ → Type 0
Tells row None = All IsUtf8 row
Tells row (Some place) = IsFirstBadField row place

pub tells : (row : List (List ℕ)) → Tells row (bad_field row)
tells row = by (bad_field row) (tells-from 0 row)
  where
    by : (bad : Option ℕ) → TellsFrom 0 row bad → Tells row bad
    by None is = is
    by (Some place) is = let same : is.0 ≡ place = omega (arith, is.1) in subst (IsFirstBadField row) same is.2

-- what is told of a record by its first bad field, as it was found
pub none-bad : (row : List (List ℕ)) (found : Option ℕ) → found ≡ None → found ≡ bad_field row → All IsUtf8 row
none-bad row found none is = subst (Tells row) (sym is ∙ none) (tells row)

pub first-bad : (row : List (List ℕ)) (found : Option ℕ) (place : ℕ) → found ≡ Some place → found ≡ bad_field row
    → IsFirstBadField row place
first-bad row found place some is = subst (Tells row) (sym is ∙ some) (tells row)

-- a record of texts has no bad field
pub no-bad : (row : List (List ℕ)) → All IsUtf8 row → bad_field row ≡ None
no-bad row are = by (bad_field row) (tells row)
  where
    by : (bad : Option ℕ) → Tells row bad → bad ≡ None
    by None told = refl
    by (Some place) first = absurd (first.bad (are place [] first.within))

-- the first bad field of a table, in its header and in a record
pub bad-header : (table : TableView) (header : List (List ℕ)) (place : ℕ) → header ≡ table.header → IsFirstBadField header place
    → IsFirstBad table 0 place
bad-header table header place is first = record {
  within = omega arith;
  field = subst (λ row. IsFirstBadField row place) is first;
  before = λ k below. absurd (omega arith);
}

pub bad-row : (table : TableView) (row : List (List ℕ)) (n place : ℕ) → n < length table.rows
    → ((k : ℕ) → k ≤ n → All IsUtf8 (record_at table k)) → row ≡ get_or table.rows (n + 1 - 1) []
    → IsFirstBadField row place → IsFirstBad table (n + 1) place
bad-row table row n place within texts is first =
    let same : n + 1 - 1 ≡ n = omega arith in
    let next : suc n ≡ n + 1 = omega arith in
    record {
      within = omega arith;
      field = subst (λ k. IsFirstBadField (record_at table k) place) next
          (subst (λ row. IsFirstBadField row place) (is ∙ ap (λ k. get_or table.rows k []) same) first);
      before = λ k below. texts k (omega arith);
    }

-- the records up to the header
pub up-to-header : (table : TableView) (header : List (List ℕ)) → header ≡ table.header → All IsUtf8 header → (k : ℕ) → k ≤ 0
    → All IsUtf8 (record_at table k)
up-to-header table header is are zero below = subst (All IsUtf8) is are
up-to-header table header is are (suc k) below = absurd (omega arith)

-- the records up to one more
pub up-to-more : (table : TableView) (row : List (List ℕ)) (n : ℕ) → ((k : ℕ) → k ≤ n → All IsUtf8 (record_at table k))
    → row ≡ get_or table.rows (n + 1 - 1) [] → All IsUtf8 row
    → (k : ℕ) → k ≤ n + 1 → All IsUtf8 (record_at table k)
up-to-more table row n before is are zero below = before zero (omega arith)
up-to-more table row n before is are (suc k) below = elim (cases_lt (suc k) (n + 1)) [
  | inl earlier ↦ before (suc k) (omega arith)
  | inr last ↦ let same : n + 1 - 1 ≡ k = omega arith in subst (All IsUtf8) (is ∙ ap (λ k. get_or table.rows k []) same) are
]

-- all records
pub all-told : (table : TableView) (n : ℕ) → length table.rows ≤ n → ((k : ℕ) → k ≤ n → All IsUtf8 (record_at table k)) → AreTexts table
all-told table n enough each = record {
  header = each 0 (omega arith);
  rows = All-from_get_or (All IsUtf8) table.rows [] (λ i within. each (suc i) (omega arith));
}
