-- The names of blocks are names, and differ. Where no name is stated they have the numbers of the blocks.
use Rattle.std.proofs.Common.{◌≡◌, ℕ, zero, suc, ◌+◌, ◌<◌, ◌≤◌, ◌^◌, true, not, List, [], ◌∷◌, ◌++◌, length, map}
use Rattle.std.proofs.Common.{filter, fold, get_or, None, option_map, refl, ap, ◌∙◌, arith}
use Rattle.std.specs.Prelude.{All, IsUtf8}
use Rattle.std.specs.Fmt.{decimal}
use Rattle.std.specs.List.{list_any, range_with_len}
use Rattle.std.specs.Str.{bytes_eq}
use Rattle.std.proofs.lemmas.List.Elements.{All-from_recursion}
use Rattle.std.proofs.lemmas.List.FromFn.{length-map-range_with_len}
use Rattle.desk_settings.specs.Selected.{slot_field}
use Rattle.block_build.specs.Names.{AreBlockNames, IsName}
use Rattle.block_names.specs.Names.{NamingView, filled_up, free_names, name_numbered, names_of, taken_by, trips_asking}
use Rattle.block_names.specs.Names.{with_more}
use Rattle.block_names.proofs.FilledLemmas.{filled-apart, filled-count, filled-each, nones, nones-few, pairs-apart}
use Rattle.block_names.proofs.FreeLemmas.{free-apart, free-enough, free-names, free-new, names_numbered}
use Rattle.block_names.proofs.TakenLemmas.{taken-each, taken-once, taken_from}

pub are-names : (naming : NamingView) (blocks : List (List ℕ)) → IsUtf8 naming.prefix → All IsUtf8 naming.stated
    → length blocks + length naming.stated < 10 ^ 64 → AreBlockNames (length blocks) (names_of naming blocks)
unfolding names_of
are-names naming blocks prefix stated small =
    let n = length blocks in
    let free = free_names naming n in
    let taken = taken_from naming.stated blocks 0 n in
    let long = length-map-range_with_len (taken_by naming.stated blocks) 0 n in
    let few = nones-few taken in
    let enough = free-enough naming n small in
    let room : nones taken ≤ length free = omega (arith, long, few, enough) in
    record {
      each = All-from_recursion IsName (filled_up free taken) (filled-each IsName free taken
          (free-names naming n small prefix)
          (taken-each naming.stated blocks IsName (λ b name is. record { text = is.text stated; filled = is.filled }) 0 n) room);
      apart = pairs-apart (filled_up free taken) (filled-apart (λ name. list_any (bytes_eq name) naming.stated) free taken
          (free-apart naming n small)
          (taken-once naming.stated blocks 0 n)
          (free-new naming n small)
          (taken-each naming.stated blocks (λ name. list_any (bytes_eq name) naming.stated ≡ true) (λ b name is. is.has) 0 n)
          room);
      counted = filled-count free taken ∙ long;
    }

-- where no name is stated no block takes one
asking-none : (blocks : List (List ℕ)) (b : ℕ) (slots : List ℕ) → fold (with_more (trips_asking [] blocks b)) None slots ≡ None
asking-none blocks b [] = refl
asking-none blocks b (s ∷ slots) = asking-none blocks b slots

filled-numbers : (prefix : List ℕ) (blocks : List (List ℕ)) (a b n : ℕ)
    → filled_up (filter (λ name. true) (names_numbered prefix (a + 1) n)) (map (taken_by [] blocks) (range_with_len b n))
    ≡ map (λ k. name_numbered prefix (k + 1)) (range_with_len a n)
filled-numbers prefix blocks a b zero = refl
filled-numbers prefix blocks a b (suc n) =
    ap (λ o. filled_up (filter (λ name. true) (names_numbered prefix (a + 1) (suc n)))
    (option_map (slot_field []) o ∷ map (taken_by [] blocks) (range_with_len (b + 1) n)))
    (asking-none blocks b (get_or blocks b []))
    ∙ ap (λ names. name_numbered prefix (a + 1) ∷ names) (filled-numbers prefix blocks (a + 1) (b + 1) n)

pub are-numbered : (naming : NamingView) (blocks : List (List ℕ)) → naming.stated ≡ []
    → names_of naming blocks ≡ map (λ k. naming.prefix ++ decimal (k + 1)) (range_with_len 0 (length blocks))
unfolding names_of
are-numbered naming blocks none =
    (λ i. filled_up
    (filter (λ name. not (list_any (bytes_eq name) (none i))) (names_numbered naming.prefix 1 (length blocks + length (none i))))
    (map (taken_by (none i) blocks) (range_with_len 0 (length blocks))))
    ∙ ap (λ m. filled_up (filter (λ name. true) (names_numbered naming.prefix 1 m)) (map (taken_by [] blocks) (range_with_len 0 (length blocks))))
    (let same : length blocks + 0 ≡ length blocks = omega arith in same)
    ∙ ap (λ m. filled_up (filter (λ name. true) (names_numbered naming.prefix m (length blocks))) (map (taken_by [] blocks) (range_with_len 0 (length blocks))))
    (let same : 1 ≡ 0 + 1 = omega arith in same)
    ∙ filled-numbers naming.prefix blocks 0 0 (length blocks)
