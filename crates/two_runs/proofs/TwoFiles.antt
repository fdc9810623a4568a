-- A shelf with two more files.
use Rattle.std.proofs.Common.{◌≡◌, ◌≢◌, ℕ, Bool, true, false, cond, nat_le, List, length, Option, Some, refl, ap, ◌∙◌}
use Rattle.std.specs.Prelude.{option_map, if◌then◌else◌}
use Rattle.std.proofs.lemmas.Cmp.{nat_list_cmp_total}
use Rattle.std.specs.Cmp.Lexicographic.{slice_cmp}
use Rattle.std.specs.FinMap.{get, insert, get-insert}
use Rattle.std.specs.Ordering.{eq_by_cmp, nat_cmp}
use Rattle.desk_io.specs.Shelf.{Files, found_as}
use Rattle.desk_io.specs.declared.shelf.Found.TheVariants.{File, TooLong}
use Rattle.gtfs_tables.specs.declared.paper.TheConstants.{MOST_BYTES}

-- whether two names are one
abbrev pub is_name : List ℕ → List ℕ → Bool
is_name a b = eq_by_cmp (slice_cmp nat_cmp) a b

-- the files with two more, and those of a shelf, where it tells them
abbrev pub with_two : List ℕ → List ℕ → List ℕ → List ℕ → Files → Files
with_two one first other second files = insert (insert files one first) other second

abbrev pub with_two_told : List ℕ → List ℕ → List ℕ → List ℕ → Option Files → Option Files
with_two_told one first other second files = option_map (λ fs. insert fs other second) (option_map (λ fs. insert fs one first) files)

-- a file that is there and not too long is found
pub found-short : (bytes : List ℕ) → found_as MOST_BYTES (Some bytes) ≢ TooLong → found_as MOST_BYTES (Some bytes) ≡ File bytes
found-short bytes short = by (nat_le (length bytes) MOST_BYTES) short
  where
    by : (fits : Bool) → (if fits then File bytes else TooLong) ≢ TooLong → (if fits then File bytes else TooLong) ≡ File bytes
    by true short = refl
    by false short = absurd (short refl)

module _ (one first other second : List ℕ) (files : Files) where
  -- each other file stands as before
  pub others-stand : (name : List ℕ) → is_name name other ≡ false → is_name name one ≡ false
      → get (with_two one first other second files) name ≡ get files name
  others-stand name not_other not_one =
      get-insert nat_list_cmp_total (insert files one first) other second name
      ∙ ap (λ b. cond b (Some second) (get (insert files one first) name)) not_other
      ∙ get-insert nat_list_cmp_total files one first name
      ∙ ap (λ b. cond b (Some first) (get files name)) not_one

  -- the two stand as they were written
  pub first-stands : is_name one other ≡ false → is_name one one ≡ true → get (with_two one first other second files) one ≡ Some first
  first-stands apart same =
      get-insert nat_list_cmp_total (insert files one first) other second one
      ∙ ap (λ b. cond b (Some second) (get (insert files one first) one)) apart
      ∙ get-insert nat_list_cmp_total files one first one
      ∙ ap (λ b. cond b (Some first) (get files one)) same

  pub second-stands : is_name other other ≡ true → get (with_two one first other second files) other ≡ Some second
  second-stands same = get-insert nat_list_cmp_total (insert files one first) other second other
      ∙ ap (λ b. cond b (Some second) (get (insert files one first) other)) same
