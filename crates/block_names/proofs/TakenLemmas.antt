-- Names that blocks take: each is stated, and asks for the block that takes it. So no name is taken by two.
use Rattle.std.proofs.Common.{◌≡◌, ◌≢◌, ℕ, zero, suc, ◌+◌, ◌<◌, ◌==◌, nat_lt, Bool, true, false, cond, List, [], ◌∷◌, length, map}
use Rattle.std.proofs.Common.{fold, get_or, Option, Some, None, option_map, refl, sym, ap, ◌∙◌, arith}
use Rattle.std.specs.Prelude.{All, IfSome, IsUtf8}
use Rattle.std.specs.List.{AllByRecursion, list_any, range_with_len}
use Rattle.std.specs.Str.{bytes_eq}
use Rattle.std.proofs.lemmas.Bool.{false≢true, eqb-true, ltb-true}
use Rattle.std.proofs.lemmas.List.Folds.{list_any_at}
use Rattle.std.proofs.lemmas.Slice.Eq.{bytes_eq-Decides}
use Rattle.desk_settings.specs.Selected.{slot_field}
use Rattle.trip_model.specs.Links.{leads_to}
use Rattle.block_names.specs.Names.{asks_for, first_most, taken_by, trips_asking, trips_named, with_more}
use Rattle.block_names.proofs.FilledLemmas.{AreTakenOnce}

pub leads_to-is : (b : ℕ) (o : Option ℕ) → leads_to b o ≡ true → o ≡ Some b
leads_to-is b None e = absurd (false≢true e)
leads_to-is b (Some j) e = ap Some (eqb-true j b e)

pub positive : (n : ℕ) → (n == 0) ≡ false → 0 < n
positive zero e = absurd cc
positive (suc n) e = omega arith

-- what counts most counts more than nothing
most-counts : (count : ℕ → ℕ) (xs : List ℕ) (o : Option ℕ) → IfSome o (λ x. 0 < count x)
    → IfSome (fold (with_more count) o xs) (λ x. 0 < count x)
most-counts count [] o so_far = so_far
most-counts count (x ∷ xs) None so_far = most-counts count xs _ (by (count x == 0) refl)
  where
    by : (b : Bool) → (count x == 0) ≡ b → IfSome (cond b None (Some x)) (λ x. 0 < count x)
    by true e = tt
    by false e = positive (count x) e
most-counts count (x ∷ xs) (Some most) so_far = most-counts count xs _ (by (nat_lt (count most) (count x)) refl)
  where
    by : (b : Bool) → nat_lt (count most) (count x) ≡ b → IfSome (cond b (Some x) (Some most)) (λ x. 0 < count x)
    by true e = let more = ltb-true (count most) (count x) e in omega (arith, more)
    by false e = so_far

pub first_most-counts : (count : ℕ → ℕ) (xs : List ℕ) → IfSome (first_most count xs) (λ x. 0 < count x)
first_most-counts count xs = most-counts count xs None tt

-- a slot with a field has a record
pub field-past : (fields : List (List ℕ)) (s : ℕ) → 0 < length (slot_field fields s) → s < length fields
field-past [] s filled = absurd (omega (arith, filled))
field-past (x ∷ fields) zero filled = omega arith
field-past (x ∷ fields) (suc s) filled = let rest = field-past fields s filled in omega (arith, rest)

pub bytes-itself : (xs : List ℕ) → bytes_eq xs xs ≡ true
bytes-itself xs = (bytes_eq-Decides xs xs).1 refl

-- a stated name that asks for a block
pub record IsTakenBy (stated blocks : List (List ℕ)) (b : ℕ) (name : List ℕ) : Type 0 where
  pub filled : 0 < length name
  pub asks : asks_for stated blocks name ≡ Some b
  pub has : list_any (bytes_eq name) stated ≡ true
  pub text : All IsUtf8 stated → IsUtf8 name

module _ (stated blocks : List (List ℕ)) where
  abbrev pub IsTaken : ℕ → List ℕ → Type 0
  IsTaken b name = IsTakenBy stated blocks b name

  asking-parts : (b s : ℕ) → 0 < trips_asking stated blocks b s → IsTaken b (slot_field stated s)
  asking-parts b s counts = by (length (slot_field stated s) == 0) refl counts
    where
      asks : (c : Bool) → leads_to b (asks_for stated blocks (slot_field stated s)) ≡ c
          → 0 < cond c (trips_named stated (slot_field stated s) (get_or blocks b [])) 0
          → asks_for stated blocks (slot_field stated s) ≡ Some b
      asks true e counts = leads_to-is b _ e
      asks false e counts = absurd (omega (arith, counts))

      by : (empty : Bool) → (length (slot_field stated s) == 0) ≡ empty
          → 0 < cond empty 0
          (cond (leads_to b (asks_for stated blocks (slot_field stated s))) (trips_named stated (slot_field stated s) (get_or blocks b [])) 0)
          → IsTaken b (slot_field stated s)
      by true e counts = absurd (omega (arith, counts))
      by false e counts =
          let filled = positive (length (slot_field stated s)) e in
          let within = field-past stated s filled in
          record {
            filled = filled;
            asks = asks (leads_to b (asks_for stated blocks (slot_field stated s))) refl counts;
            has = list_any_at (bytes_eq (slot_field stated s)) stated s [] within (bytes-itself (slot_field stated s));
            text = λ texts. texts s [] within;
          }

  pub taken-parts : (b : ℕ) → IfSome (taken_by stated blocks b) (IsTaken b)
  taken-parts b = by (first_most (trips_asking stated blocks b) (get_or blocks b [])) (first_most-counts (trips_asking stated blocks b) (get_or blocks b []))
    where
      by : (o : Option ℕ) → IfSome o (λ s. 0 < trips_asking stated blocks b s) → IfSome (option_map (slot_field stated) o) (IsTaken b)
      by None counts = tt
      by (Some s) counts = asking-parts b s counts

  -- what each block takes
  abbrev pub taken_from : ℕ → ℕ → List (Option (List ℕ))
  taken_from a n = map (taken_by stated blocks) (range_with_len a n)

  others : (b : ℕ) (name : List ℕ) → IsTaken b name → (a n : ℕ) → b < a
      → AllByRecursion (λ o. IfSome o (λ y. name ≢ y)) (taken_from a n)
  others b name is a zero less = tt
  others b name is a (suc n) less =
      (by (taken_by stated blocks a) (taken-parts a), others b name is (a + 1) n (omega (arith, less)))
    where
      by : (o : Option (List ℕ)) → IfSome o (IsTaken a) → IfSome o (λ y. name ≢ y)
      by None taken = tt
      by (Some y) taken = λ e.
          let same : Some b ≡ Some a = sym is.asks ∙ ap (asks_for stated blocks) e ∙ taken.asks in
          let one : b ≡ a = cc in
          absurd (omega (arith, one, less))

  pub taken-once : (a n : ℕ) → AreTakenOnce (taken_from a n)
  taken-once a zero = tt
  taken-once a (suc n) = by (taken_by stated blocks a) (taken-parts a) (taken-once (a + 1) n)
    where
      by : (o : Option (List ℕ)) → IfSome o (IsTaken a) → AreTakenOnce (taken_from (a + 1) n) → AreTakenOnce (o ∷ taken_from (a + 1) n)
      by None taken rest = rest
      by (Some x) taken rest = (others a x taken (a + 1) n (omega arith), rest)

  pub taken-each : (P : List ℕ → Type 0) → ((b : ℕ) (name : List ℕ) → IsTaken b name → P name) → (a n : ℕ)
      → AllByRecursion (λ o. IfSome o P) (taken_from a n)
  taken-each P each a zero = tt
  taken-each P each a (suc n) = (by (taken_by stated blocks a) (taken-parts a), taken-each P each (a + 1) n)
    where
      by : (o : Option (List ℕ)) → IfSome o (IsTaken a) → IfSome o P
      by None taken = tt
      by (Some x) taken = each a x taken
