-- The names of written blocks, which are those of no block before.
use Rattle.std.proofs.Common.{◌≡◌, ◌≢◌, ℕ, ◌+◌, ◌<◌, cond, false, List, [], ◌∷◌, ◌++◌, length, get_or, map, Ok, sym, ap, ◌∙◌, arith}
use Rattle.std.specs.List.{range_with_len}
use Rattle.std.specs.Str.{bytes_eq}
use Rattle.std.proofs.lemmas.Bool.{eq-eqb}
use Rattle.std.proofs.lemmas.List.Folds.{list_any_none, list_any_at}
use Rattle.std.proofs.lemmas.List.FromFn.{get_or-map-range_with_len, length-map-range_with_len, map-range_with_len_more}
use Rattle.std.proofs.lemmas.List.Elements.{All-from_get_or}
use Rattle.desk_settings.specs.Names.{with_name}
use Rattle.trip_model.specs.Timetable.{AreDistinct}
use Rattle.block_build.specs.Names.{block_name}
use Rattle.gtfs_tables.specs.declared.fault.FeedFault.TheVariants as fault
use Rattle.gtfs_tables.specs.declared.paper.Paper.TheVariants as paper
use Rattle.gtfs_tables.specs.Reading.{provided}
use Rattle.claim_files.specs.Blocks.{block_number, numbered}
use Rattle.claim_files.proofs.NamesFound.{name-itself, name-other, number-at, number-none}

-- the names of so many blocks
abbrev pub written_names : List (List ℕ) → ℕ → List (List ℕ)
written_names names k = map (block_name names) (range_with_len 0 k)

pub names-length : (names : List (List ℕ)) (k : ℕ) → length (written_names names k) ≡ k
names-length names k = length-map-range_with_len (block_name names) 0 k

name-at : (names : List (List ℕ)) (k j : ℕ) → j < k → get_or (written_names names k) j [] ≡ block_name names j
name-at names k j lt = get_or-map-range_with_len (block_name names) 0 k j j [] lt (omega arith)

-- a block's name after those of the blocks before it
name-new : (names : List (List ℕ)) (k : ℕ) → AreDistinct names → k < length names → (j : ℕ) → j < length (written_names names k)
    → get_or (written_names names k) j [] ≢ block_name names k
name-new names k apart within j lt e =
    let less : j < k = omega (arith, lt, names-length names k) in
    apart j k [] less within (sym (name-at names k j less) ∙ e)

-- the first trip of a block begins it
pub block-begins : (names : List (List ℕ)) (n k : ℕ) → AreDistinct names → k < length names
    → block_number n (written_names names k) (block_name names k) ≡ Ok k
block-begins names n k apart within =
    ap (numbered n (length (written_names names k)))
    (number-none (written_names names k) (block_name names k) (name-new names k apart within))
    ∙ ap Ok (names-length names k)

pub names-more : (names : List (List ℕ)) (k : ℕ) → AreDistinct names → k < length names
    → with_name (written_names names k) (block_name names k) ≡ written_names names (k + 1)
names-more names k apart within =
    ap (λ b. cond b (written_names names k) (written_names names k ++ block_name names k ∷ []))
    (list_any_none (bytes_eq (block_name names k)) (written_names names k)
    (All-from_get_or (λ name. bytes_eq (block_name names k) name ≡ false) (written_names names k) []
    (λ j lt. name-other (block_name names k) (get_or (written_names names k) j []) (λ e. name-new names k apart within j lt (sym e)))))
    ∙ sym (map-range_with_len_more (block_name names) 0 k k (omega arith))

-- the others go on with it
pub block-goes_on : (names : List (List ℕ)) (n k : ℕ) → AreDistinct names → k < length names
    → block_number n (written_names names (k + 1)) (block_name names k) ≡ Ok k
block-goes_on names n k apart within =
    let so_far = written_names names (k + 1) in
    let size = names-length names (k + 1) in
    ap (numbered n (length so_far)) (number-at so_far (block_name names k) k (omega (arith, size)) (name-at names (k + 1) k (omega arith))
    (λ j less e. apart j k [] less within (sym (name-at names (k + 1) j (omega (arith, less))) ∙ e)))
    ∙ ap (λ b. provided b (fault.DuplicateRow paper.Blocks n) (Ok k)) (eq-eqb (k + 1) (length so_far) (sym size))

pub names-stay : (names : List (List ℕ)) (k : ℕ) → with_name (written_names names (k + 1)) (block_name names k) ≡ written_names names (k + 1)
names-stay names k =
    let so_far = written_names names (k + 1) in
    let size = names-length names (k + 1) in
    ap (λ b. cond b so_far (so_far ++ block_name names k ∷ []))
    (list_any_at (bytes_eq (block_name names k)) so_far k [] (omega (arith, size))
    (ap (bytes_eq (block_name names k)) (name-at names (k + 1) k (omega arith)) ∙ name-itself (block_name names k)))
