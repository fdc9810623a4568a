-- The names of blocks one by one.
use Rattle.std.proofs.Common.{◌≡◌, ℕ, ◌+◌, ◌<◌, List, [], ◌∷◌, ◌++◌, length, map, drop, get_or, Option, None, option_map, sym, ap, ◌∙◌}
use Rattle.std.proofs.Common.{append_assoc}
use Rattle.std.specs.List.{range_with_len}
use Rattle.std.proofs.lemmas.List.{append-nil, drop_more}
use Rattle.std.proofs.lemmas.List.FromFn.{length-map-range_with_len}
use Rattle.std.proofs.Math.Seq.{drop-length}
use Rattle.desk_settings.specs.Names.{each_once}
use Rattle.desk_settings.specs.Selected.{slot_field}
use Rattle.block_names.specs.Names.{NamingView, filled_up, names_of, taken_by}
use Rattle.block_names.specs.Numbered.{free_from}
use Rattle.block_names.proofs.NumberedLemmas.{free-same}

-- one more name
pub names-more : (names stated held so_far new all : List (List ℕ)) (prefix p name : List ℕ) (a n b m k : ℕ) (found : Option ℕ)
    (taken : List (Option (List ℕ)))
    → p ≡ prefix → held ≡ stated → k < length taken → option_map (slot_field stated) found ≡ get_or taken k None
    → so_far ++ filled_up (free_from prefix names a n) (drop k taken) ≡ all
    → ((rest : List (Option (List ℕ))) → filled_up (free_from p names a n) (option_map (slot_field held) found ∷ rest)
    ≡ name ∷ filled_up (free_from p names b m) rest)
    → new ≡ so_far ++ name ∷ []
    → new ++ filled_up (free_from prefix names b m) (drop (k + 1) taken) ≡ all
names-more names stated held so_far new all prefix p name a n b m k found taken same_prefix same_stated lt takes told step pushed =
    ap (λ xs. xs ++ filled_up (free_from prefix names b m) rest) pushed
    ∙ append_assoc so_far (name ∷ []) (filled_up (free_from prefix names b m) rest)
    ∙ ap (λ xs. so_far ++ xs) (sym here)
    ∙ ap (λ xs. so_far ++ filled_up (free_from prefix names a n) xs) (sym first)
    ∙ told
  where
    rest : List (Option (List ℕ))
    rest = drop (k + 1) taken

    here : filled_up (free_from prefix names a n) (option_map (slot_field stated) found ∷ rest)
        ≡ name ∷ filled_up (free_from prefix names b m) rest
    here =
        (λ i. filled_up (free_from (sym same_prefix i) names a n) (option_map (slot_field (sym same_stated i)) found ∷ rest))
        ∙ step rest
        ∙ ap (λ q. name ∷ filled_up (free_from q names b m) rest) same_prefix

    first : drop k taken ≡ option_map (slot_field stated) found ∷ rest
    first = drop_more taken k None lt ∙ ap (λ o. o ∷ rest) (sym takes)

-- the names of all blocks
pub names-all : (naming : NamingView) (blocks names so_far free : List (List ℕ)) (k : ℕ) → names ≡ each_once naming.stated
    → k ≡ length blocks
    → so_far ++ filled_up free (drop k (map (taken_by naming.stated blocks) (range_with_len 0 (length blocks))))
    ≡ filled_up (free_from naming.prefix names 1 (length blocks + length naming.stated))
    (map (taken_by naming.stated blocks) (range_with_len 0 (length blocks)))
    → so_far ≡ names_of naming blocks
unfolding names_of
names-all naming blocks names so_far free k names_are end told =
    sym (append-nil so_far)
    ∙ ap (λ xs. so_far ++ filled_up free xs) (sym none)
    ∙ told
    ∙ ap (λ ns. filled_up (free_from naming.prefix ns 1 (length blocks + length naming.stated)) taken) names_are
    ∙ ap (λ free. filled_up free taken) (free-same naming (length blocks))
  where
    taken : List (Option (List ℕ))
    taken = map (taken_by naming.stated blocks) (range_with_len 0 (length blocks))

    none : drop k taken ≡ []
    none =
        ap (λ n. drop n taken) (end ∙ sym (length-map-range_with_len (taken_by naming.stated blocks) 0 (length blocks)))
        ∙ drop-length taken
