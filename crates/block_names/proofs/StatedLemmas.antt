-- A block that a stated name asks for has a stated name of one of its trips.
use Rattle.std.proofs.Common.{◌≡◌, ℕ, zero, suc, ◌<◌, ◌==◌, nat_lt, Bool, true, false, cond, List, [], ◌∷◌, length, map, fold, get_or}
use Rattle.std.proofs.Common.{Option, Some, None, option_map, refl, ap, subst, ◌∙◌, arith}
use Rattle.std.specs.Prelude.{Contains, IfSome}
use Rattle.std.specs.List.{AllByRecursion, range_with_len}
use Rattle.std.specs.Str.{bytes_eq}
use Rattle.std.proofs.lemmas.Bool.{eq-eqb, eqb-true, ne_eqb}
use Rattle.std.proofs.lemmas.List.{get_or_default}
use Rattle.std.proofs.lemmas.List.Elements.{recursion_from_All}
use Rattle.std.proofs.lemmas.List.FromFn.{get_or-map-range_with_len, get_or-range_with_len, length-range_with_len}
use Rattle.std.proofs.lemmas.Slice.Eq.{bytes_eq-Decides}
use Rattle.desk_settings.specs.Selected.{slot_field}
use Rattle.trip_model.specs.Links.{leads_to}
use Rattle.block_build.specs.Names.{block_name}
use Rattle.block_names.specs.Names.{NamingView, asks_for, filled_up, first_most, free_names, names_of, taken_by, trips_asking, trips_named}
use Rattle.block_names.specs.Names.{with_more}
use Rattle.block_names.proofs.FilledLemmas.{each-weaker}
use Rattle.block_names.proofs.FreeLemmas.{filter-none}
use Rattle.block_names.proofs.TakenLemmas.{first_most-counts}

-- what counts most is one of them
most-among : (P : ℕ → Type 0) (count : ℕ → ℕ) (xs : List ℕ) (o : Option ℕ) → AllByRecursion P xs → IfSome o P
    → IfSome (fold (with_more count) o xs) P
most-among P count [] o each so_far = so_far
most-among P count (x ∷ xs) None each so_far = most-among P count xs _ each.1 (by (count x == 0))
  where
    by : (b : Bool) → IfSome (cond b None (Some x)) P
    by true = tt
    by false = each.0
most-among P count (x ∷ xs) (Some most) each so_far = most-among P count xs _ each.1 (by (nat_lt (count most) (count x)))
  where
    by : (b : Bool) → IfSome (cond b (Some x) (Some most)) P
    by true = each.0
    by false = so_far

first_most-among : (count : ℕ → ℕ) (xs : List ℕ) → IfSome (first_most count xs) (Contains xs)
first_most-among count xs = most-among (Contains xs) count xs None
    (recursion_from_All (Contains xs) xs (λ k d lt. (k, lt, get_or_default xs k (get_or xs k d) d lt))) tt

-- where none is found each counts nothing
most-stays : (count : ℕ → ℕ) (xs : List ℕ) (most : ℕ) → fold (with_more count) (Some most) xs ≡ None → ⊥
most-stays count [] most none = cc
most-stays count (x ∷ xs) most none = by (nat_lt (count most) (count x)) none (most-stays count xs x) (most-stays count xs most)
  where
    by : (b : Bool) → fold (with_more count) (cond b (Some x) (Some most)) xs ≡ None
        → (fold (with_more count) (Some x) xs ≡ None → ⊥) → (fold (with_more count) (Some most) xs ≡ None → ⊥) → ⊥
    by true none here there = here none
    by false none here there = there none

first_most-none : (count : ℕ → ℕ) (xs : List ℕ) → first_most count xs ≡ None → AllByRecursion (λ x. count x ≡ 0) xs
first_most-none count [] none = tt
first_most-none count (x ∷ xs) none = by (count x == 0) refl none (first_most-none count xs)
  where
    by : (b : Bool) → (count x == 0) ≡ b → fold (with_more count) (cond b None (Some x)) xs ≡ None
        → (first_most count xs ≡ None → AllByRecursion (λ x. count x ≡ 0) xs)
        → (count x ≡ 0) × AllByRecursion (λ x. count x ≡ 0) xs
    by true e none rest = (eqb-true (count x) 0 e, rest none)
    by false e none rest = absurd (most-stays count xs x none)

-- a name that is taken is the name of the block
filled-at : (free : List (List ℕ)) (taken : List (Option (List ℕ))) (b : ℕ) (name : List ℕ) → get_or taken b None ≡ Some name
    → get_or (filled_up free taken) b [] ≡ name
filled-at free [] b name is = absurd cc
filled-at free (Some x ∷ taken) zero name is = cc
filled-at free (Some x ∷ taken) (suc b) name is = filled-at free taken b name is
filled-at [] (None ∷ taken) zero name is = absurd cc
filled-at [] (None ∷ taken) (suc b) name is = filled-at [] taken b name is
filled-at (y ∷ free) (None ∷ taken) zero name is = absurd cc
filled-at (y ∷ free) (None ∷ taken) (suc b) name is = filled-at free taken b name is

module _ (naming : NamingView) (blocks : List (List ℕ)) where
  -- the trips of a block that a name asks for do not all count nothing
  asking-some : (b : ℕ) (name : List ℕ) → 0 < length name → asks_for naming.stated blocks name ≡ Some b
      → AllByRecursion (λ s. trips_asking naming.stated blocks b s ≡ 0) (get_or blocks b []) → ⊥
  asking-some b name filled asks none =
      let some : 0 < trips_named naming.stated name (get_or blocks b []) =
      subst (λ o. IfSome o (λ b. 0 < trips_named naming.stated name (get_or blocks b []))) asks
      (first_most-counts (λ b. trips_named naming.stated name (get_or blocks b [])) (range_with_len 0 (length blocks))) in
      let zero = filter-none (λ s. bytes_eq (slot_field naming.stated s) name) (get_or blocks b [])
      (each-weaker (λ s. trips_asking naming.stated blocks b s ≡ 0) (λ s. bytes_eq (slot_field naming.stated s) name ≡ false)
      (λ s nothing. by s (bytes_eq (slot_field naming.stated s) name) refl nothing some) (get_or blocks b []) none) in
      omega (arith, some, zero)
    where
      by : (s : ℕ) (c : Bool) → bytes_eq (slot_field naming.stated s) name ≡ c → trips_asking naming.stated blocks b s ≡ 0
          → 0 < trips_named naming.stated name (get_or blocks b []) → c ≡ false
      by s false e nothing some = refl
      by s true e nothing some =
          let same = (bytes_eq-Decides (slot_field naming.stated s) name).0 e in
          let counts : trips_asking naming.stated blocks b s ≡ trips_named naming.stated name (get_or blocks b []) =
          ap (λ n. cond (length n == 0) 0 (cond (leads_to b (asks_for naming.stated blocks n))
          (trips_named naming.stated n (get_or blocks b [])) 0)) same
          ∙ ap (λ c. cond c 0 (cond (leads_to b (asks_for naming.stated blocks name))
          (trips_named naming.stated name (get_or blocks b [])) 0)) (ne_eqb (length name) 0 (λ e. omega (arith, e, filled)))
          ∙ ap (λ o. cond (leads_to b o) (trips_named naming.stated name (get_or blocks b [])) 0) asks
          ∙ ap (λ c. cond c (trips_named naming.stated name (get_or blocks b [])) 0) (eq-eqb b b refl) in
          absurd (omega (arith, counts, nothing, some))

  -- a name asks for one of the blocks
  asked-within : (b : ℕ) (name : List ℕ) → asks_for naming.stated blocks name ≡ Some b → b < length blocks
  asked-within b name asks = subst (λ o. IfSome o (λ b. b < length blocks)) asks
      (most-among (λ b. b < length blocks) (λ b. trips_named naming.stated name (get_or blocks b [])) (range_with_len 0 (length blocks)) None
      (recursion_from_All (λ b. b < length blocks) (range_with_len 0 (length blocks))
      (λ k d lt. let long = length-range_with_len 0 (length blocks) in
      let at = get_or-range_with_len 0 (length blocks) k d (omega (arith, lt, long)) in omega (arith, at, lt, long)))
      tt)

  pub stated-kept : (b : ℕ) (name : List ℕ) → 0 < length name → asks_for naming.stated blocks name ≡ Some b
      → (s : ℕ) × Contains (get_or blocks b []) s × (block_name (names_of naming blocks) b ≡ slot_field naming.stated s)
  unfolding names_of
  stated-kept b name filled asks =
      by (first_most (trips_asking naming.stated blocks b) (get_or blocks b [])) refl
      (first_most-among (trips_asking naming.stated blocks b) (get_or blocks b []))
    where
      by : (o : Option ℕ) → first_most (trips_asking naming.stated blocks b) (get_or blocks b []) ≡ o
          → IfSome o (Contains (get_or blocks b []))
          → (s : ℕ) × Contains (get_or blocks b []) s
          × (get_or (filled_up (free_names naming (length blocks)) (map (taken_by naming.stated blocks) (range_with_len 0 (length blocks)))) b []
          ≡ slot_field naming.stated s)
      by None is among = absurd (asking-some b name filled asks
          (first_most-none (trips_asking naming.stated blocks b) (get_or blocks b []) is))
      by (Some s) is among = (
        s,
        among,
        filled-at (free_names naming (length blocks)) _ b (slot_field naming.stated s)
            (get_or-map-range_with_len (taken_by naming.stated blocks) 0 (length blocks) b b None (asked-within b name asks) (omega arith)
            ∙ ap (option_map (slot_field naming.stated)) is),
      )
