-- Blocks, as they are made along links.
use Rattle.std.proofs.Common.{◌≡◌, ℕ, suc, ◌+◌, ◌-◌, ◌<◌, Bool, true, false, not, cond, List, [], ◌∷◌, ◌++◌, length, get_or, map, filter}
use Rattle.std.proofs.Common.{take, Option, None, Some, refl, sym, ap, ◌∙◌, append_assoc, arith}
use Rattle.std.proofs.lemmas.List.{append-nil, map-append}
use Rattle.std.proofs.lemmas.List.Elements.{All-map, filter_more}
use Rattle.std.specs.List.{All, list_any}
use Rattle.std.specs.Option.{IfSome}
use Rattle.trip_model.specs.Links.{next_of, leads_to, along, block_from, blocks_along, is_first}

-- the block that begins with a slot, before its first slot is taken
pub block_from-starts : (links : List (Option ℕ)) (first : ℕ) → along links 8192 (Some first) ≡ block_from links first
unfolding block_from
block_from-starts links first = refl

-- the next of a slot is one of the slots
pub next-within : (links : List (Option ℕ)) (s : ℕ) (next : Option ℕ) → next ≡ next_of links s
    → ((i j : ℕ) → next_of links i ≡ Some j → j < length links) → IfSome next (λ j. j < length links)
next-within links s None e within = tt
next-within links s (Some j) e within = within s j (sym e)

-- a block after one slot more
pub along-more : (links : List (Option ℕ)) (first s n : ℕ) (at next : Option ℕ) (slots more : List ℕ) → n < 8192 → at ≡ Some s
    → next ≡ next_of links s → more ≡ slots ++ s ∷ []
    → slots ++ along links (8192 - n) at ≡ block_from links first → more ++ along links (8192 - (n + 1)) next ≡ block_from links first
along-more links first s n at next slots more h is goes put so_far =
    let left : 8192 - n ≡ suc (8192 - (n + 1)) = omega arith in
    (λ i. put i ++ along links (8192 - (n + 1)) (goes i))
    ∙ append_assoc slots (s ∷ []) (along links (8192 - (n + 1)) (next_of links s))
    ∙ sym (λ i. slots ++ along links (left i) (is i))
    ∙ so_far

-- the blocks after one slot more, which is the next of none or of one
pub blocks-more : (links : List (Option ℕ)) (order : List ℕ) (n slot : ℕ) (follows : Bool) (blocks more : List (List ℕ)) (block : List ℕ)
    → n < length order → slot ≡ get_or order n 0
    → blocks ≡ map (block_from links) (filter (is_first links) (take n order))
    → follows ≡ list_any (leads_to slot) links → follows ≡ false → block ≡ block_from links slot → more ≡ blocks ++ block ∷ []
    → more ≡ map (block_from links) (filter (is_first links) (take (n + 1) order))
blocks-more links order n slot follows blocks more block h is so_far mark first made put =
    put
    ∙ (λ i. so_far i ++ (made ∙ ap (block_from links) is) i ∷ [])
    ∙ sym (ap (map (block_from links)) (filter_more (is_first links) order n 0 h
    ∙ ap (λ b. filter (is_first links) (take n order) ++ cond (not b) (get_or order n 0 ∷ []) [])
    (ap (λ s. list_any (leads_to s) links) (sym is) ∙ sym mark ∙ first))
    ∙ map-append (block_from links) (filter (is_first links) (take n order)) (get_or order n 0 ∷ []))

pub blocks-same : (links : List (Option ℕ)) (order : List ℕ) (n slot : ℕ) (follows : Bool) (blocks : List (List ℕ)) → n < length order
    → slot ≡ get_or order n 0
    → blocks ≡ map (block_from links) (filter (is_first links) (take n order))
    → follows ≡ list_any (leads_to slot) links → follows ≡ true
    → blocks ≡ map (block_from links) (filter (is_first links) (take (n + 1) order))
blocks-same links order n slot follows blocks h is so_far mark next =
    so_far
    ∙ sym (ap (map (block_from links)) (filter_more (is_first links) order n 0 h
    ∙ ap (λ b. filter (is_first links) (take n order) ++ cond (not b) (get_or order n 0 ∷ []) [])
    (ap (λ s. list_any (leads_to s) links) (sym is) ∙ sym mark ∙ next)
    ∙ append-nil (filter (is_first links) (take n order))))

-- a block has its first slot
block_from-filled : (links : List (Option ℕ)) (s : ℕ) → 0 < length (block_from links s)
unfolding block_from
block_from-filled links s = omega arith

-- no block along links is empty
pub blocks_along-filled : (links : List (Option ℕ)) (order : List ℕ) → All (λ block. 0 < length block) (blocks_along links order)
blocks_along-filled links order =
    All-map (λ block. 0 < length block) (block_from links) (filter (is_first links) order)
    (λ k d h. block_from-filled links (get_or (filter (is_first links) order) k d))
