-- Blocks along links, grouped by the names that they are given, are the blocks along the links.
use Rattle.std.proofs.Common.{◌≡◌, ℕ, zero, suc, ◌<◌, ◌≤◌, ◌==◌, ◌||◌, ⊎_elim, Bool, true, false, cond, List, [], ◌∷◌, length}
use Rattle.std.proofs.Common.{filter, get_or, map, Option, if◌then◌else◌, refl, sym, ap, ◌∙◌, arith}
use Rattle.std.specs.Prelude.{All}
use Rattle.std.proofs.lemmas.Bool.{cases_Bool, cases_lt, eq-eqb, eqb-true, false≢true, ne_eqb}
use Rattle.std.proofs.lemmas.List.{ext_get_or, get_or-map, length-map}
use Rattle.std.proofs.lemmas.List.Elements.{All-filter, All-from_get_or, All-from_recursion, All-head, All-tail, filter_passes}
use Rattle.std.proofs.lemmas.List.Sums.{sum_by-append}
use Rattle.std.proofs.lemmas.Slice.Eq.{bytes_eq-Decides}
use Rattle.trip_model.specs.Blocking.{times, StandsOnce, IsBlock, IsBlocking, slots_in}
use Rattle.trip_model.specs.Links.{next_of, along, blocks_along}
use Rattle.trip_model.specs.Links as links
use Rattle.trip_model.specs.Network.{Network, AreDepartures}
use Rattle.trip_model.specs.Order.{RiseBy}
use Rattle.trip_model.proofs.Chains.{block_from-is}
use Rattle.trip_model.proofs.Counting.{times-cons}
use Rattle.trip_model.specs.Timetable.{AreDistinct}
use Rattle.block_build.specs.Names.{AreBlockNames, block_name}
use Rattle.block_writer.specs.Laws.{IsBlockOf}
use Rattle.block_writer.specs.Trips.{is_in, name_of, number_in}
use Rattle.block_writer.proofs.BlockNamed.{block-named}
use Rattle.block_audit.specs.Stated.{NamedBlock, name_at, is_alone, is_of, is_first, begins, block_from, blocks_by, slots_by}
use Rattle.block_audit.proofs.Grouping.{times-filter}
use Rattle.block_audit.proofs.Sorted.{climb-block, rise-filter, same-order}

-- blocks of other numbers have other names
name-injective : (names : List (List ℕ)) (i j : ℕ) → AreDistinct names → i < length names → j < length names
    → block_name names i ≡ block_name names j → i ≡ j
name-injective names i j apart low high e = ⊎_elim
    (λ (less : i < j). absurd (apart i j [] less high e))
    (λ (no_less : j ≤ i). ⊎_elim
    (λ (more : j < i). absurd (apart j i [] more low (sym e)))
    (λ (no_more : i ≤ j). let same : i ≡ j = omega (arith, no_less, no_more) in same)
    (cases_lt j i))
    (cases_lt i j)

-- a slot is counted in a block in which it stands, and not in another
counted : (s : ℕ) (block : List ℕ) → is_in s block ≡ true → 1 ≤ times s block
counted s [] stands = absurd (cc)
counted s (x ∷ block) stands = ⊎_elim
    (λ (same : (x == s) ≡ true). let one : ◌≡◌ {A = ℕ} (cond (x == s) 1 0) 1 = ap (λ b. cond b 1 0) same in
    omega (arith, times-cons s x block, one))
    (λ (other : (x == s) ≡ false). omega (arith, times-cons s x block, counted s block (rw other at stands)))
    (cases_Bool (x == s))

uncounted : (s : ℕ) (block : List ℕ) → is_in s block ≡ false → times s block ≡ 0
uncounted s [] out = refl
uncounted s (x ∷ block) out = ⊎_elim
    (λ (same : (x == s) ≡ true). absurd (let wrong = rw same at out in cc))
    (λ (other : (x == s) ≡ false).
    let none : ◌≡◌ {A = ℕ} (cond (x == s) 1 0) 0 = ap (λ b. cond b 1 0) other in
    omega (arith, times-cons s x block, none, uncounted s block (rw other at out)))
    (cases_Bool (x == s))

-- and no more often than in all blocks
times-within : (s : ℕ) (blocks : List (List ℕ)) (b : ℕ) → b < length blocks → times s (get_or blocks b []) ≤ times s (slots_in blocks)
times-within s [] b within = absurd (omega (arith, within))
times-within s (block ∷ blocks) zero within = omega (arith, sum_by-append (λ x. cond (x == s) 1 0) block (slots_in blocks))
times-within s (block ∷ blocks) (suc b) within =
    omega (arith, sum_by-append (λ x. cond (x == s) 1 0) block (slots_in blocks), times-within s blocks b (omega (arith, within)))

-- a slot that is counted stands at a place, and one that stands at a place is counted
place-of : (s : ℕ) (xs : List ℕ) → 0 < times s xs → (k : ℕ) × (k < length xs) × (get_or xs k 0 ≡ s)
place-of s [] some = absurd (omega (arith, some))
place-of s (x ∷ xs) some = ⊎_elim
    (λ (same : (x == s) ≡ true). (0, omega arith, eqb-true x s same))
    (λ (other : (x == s) ≡ false).
    let none : ◌≡◌ {A = ℕ} (cond (x == s) 1 0) 0 = ap (λ b. cond b 1 0) other in
    let rest = place-of s xs (omega (arith, some, times-cons s x xs, none)) in
    (suc rest.0, omega (arith, rest.1), rest.2))
    (cases_Bool (x == s))

stands-at : (xs : List ℕ) (i : ℕ) → i < length xs → 0 < times (get_or xs i 0) xs
stands-at [] i within = absurd (omega (arith, within))
stands-at (x ∷ xs) zero within = let one : ◌≡◌ {A = ℕ} (cond (x == x) 1 0) 1 = ap (λ b. cond b 1 0) (eq-eqb x x refl) in
    omega (arith, times-cons x x xs, one)
stands-at (x ∷ xs) (suc i) within = omega (arith, times-cons (get_or xs i 0) x xs, stands-at xs i (omega (arith, within)))

-- tests that agree on each slot keep the same ones
pub filter-same : (p q : ℕ → Bool) (xs : List ℕ) → All (λ x. p x ≡ q x) xs → filter p xs ≡ filter q xs
filter-same p q [] same = refl
filter-same p q (x ∷ xs) same =
    let rest = filter-same p q xs (All-tail (λ x. p x ≡ q x) x xs same) in
    λ i. cond (All-head (λ x. p x ≡ q x) x xs same i) (x ∷ rest i) (rest i)

-- a list begins with a slot
starts : List ℕ → ℕ → Bool
starts [] s = false
starts (x ∷ xs) s = x == s

-- the first slot of a name is that with which its slots begin
first-starts : (names : List (List ℕ)) (name : List ℕ) (order : List ℕ) (s : ℕ)
    → is_first names name order s ≡ starts (filter (is_of names name) order) s
unfolding starts
first-starts names name [] s = refl
first-starts names name (x ∷ order) s = by (is_of names name x) (first-starts names name order s)
  where
    by : (b : Bool) → is_first names name order s ≡ starts (filter (is_of names name) order) s
        → (if b then x == s else is_first names name order s) ≡ starts
        (cond b (x ∷ filter (is_of names name) order) (filter (is_of names name) order)) s
    by true rest = refl
    by false rest = rest

-- slots in order of their keys, in which each that is live stands once, and blocks along links which are a blocking; each live
-- slot has the name of its block, of which no two have the same
pub record AreNamed (network : Network) (key : ℕ → ℕ) (next : List (Option ℕ)) (order : List ℕ) (names block_names : List (List ℕ))
    : Type 0 where
  pub clock : AreDepartures network key
  pub blocking : IsBlocking network (blocks_along next order)
  pub stands : StandsOnce network.live order
  pub rises : RiseBy key order
  pub given : AreBlockNames (length (blocks_along next order)) block_names
  pub named : (s : ℕ) → network.live s ≡ true → name_at names s ≡ name_of block_names (number_in (blocks_along next order) s)

module _ (network : Network) (key : ℕ → ℕ) (next : List (Option ℕ)) (order : List ℕ) (names block_names : List (List ℕ))
    (are : AreNamed network key next order names block_names) where
  abbrev blocks : List (List ℕ)
  blocks = blocks_along next order

  -- the first slots of the blocks
  abbrev firsts : List ℕ
  firsts = filter (links.is_first next) order

  -- a block has a name
  has-name : (b : ℕ) → b < length (blocks_along next order) → b < length block_names
  has-name b within = omega (arith, within, are.given.counted)

  -- a live slot stands in the block of whose name it is
  pub in-block : (s : ℕ) → network.live s ≡ true
      → (b : ℕ) × IsBlockOf (blocks_along next order) s b × (name_at names s ≡ block_name block_names b)
  in-block s live =
      let at = block-named (blocks_along next order) s block_names (are.blocking.stands.once s ∙ ap (λ b. cond b 1 0) live) in
      (at.0, at.1, are.named s live ∙ at.2)

  -- so it has a name
  not-alone : (s : ℕ) → network.live s ≡ true → is_alone names s ≡ false
  not-alone s live =
      let at = in-block s live in
      ap (λ (name : List ℕ). length name == 0) at.2
      ∙ ne_eqb (length (block_name block_names at.0)) 0 (λ none.
      absurd (omega (arith, none, (are.given.each at.0 [] (has-name at.0 at.1.within)).filled)))

  -- the slots of its name are those of its block
  same-block : (x s : ℕ) (live : network.live s ≡ true) → network.live x ≡ true
      → is_of names (name_at names s) x ≡ is_in x (get_or (blocks_along next order) (in-block s live).0 [])
  same-block x s live runs = ⊎_elim
      (λ (stands : is_in x (get_or (blocks_along next order) (in-block s live).0 []) ≡ true).
      let same : (in-block s live).0 ≡ (in-block x runs).0 =
      (in-block x runs).1.alone (in-block s live).0 (in-block s live).1.within stands in
      (bytes_eq-Decides (name_at names x) (name_at names s)).1
      ((in-block x runs).2 ∙ ap (block_name block_names) (sym same) ∙ sym (in-block s live).2) ∙ sym stands)
      (λ (out : is_in x (get_or (blocks_along next order) (in-block s live).0 []) ≡ false).
      ⊎_elim
      (λ (e : is_of names (name_at names s) x ≡ true).
      let name : name_at names x ≡ name_at names s = (bytes_eq-Decides (name_at names x) (name_at names s)).0 e in
      let same : (in-block x runs).0 ≡ (in-block s live).0 = name-injective block_names (in-block x runs).0 (in-block s live).0 are.given.apart
      (has-name (in-block x runs).0 (in-block x runs).1.within) (has-name (in-block s live).0 (in-block s live).1.within)
      (sym (in-block x runs).2 ∙ name ∙ (in-block s live).2) in
      absurd (false≢true (sym out ∙ ap (λ b. is_in x (get_or (blocks_along next order) b [])) (sym same) ∙ (in-block x runs).1.stands)))
      (λ (e : is_of names (name_at names s) x ≡ false). e ∙ sym out)
      (cases_Bool (is_of names (name_at names s) x)))
      (cases_Bool (is_in x (get_or (blocks_along next order) (in-block s live).0 [])))

  -- each slot as often
  same-times : (s : ℕ) (live : network.live s ≡ true) (x : ℕ)
      → times x (get_or (blocks_along next order) (in-block s live).0 []) ≡ times x (filter (is_of names (name_at names s)) order)
  same-times s live x = ⊎_elim
      (λ (runs : network.live x ≡ true).
      let one : times x order ≡ 1 = are.stands.once x ∙ ap (λ b. cond b 1 0) runs in
      let once : times x (slots_in (blocks_along next order)) ≡ 1 = are.blocking.stands.once x ∙ ap (λ b. cond b 1 0) runs in
      by (is_in x block) refl one once
      ∙ sym (times-filter (is_of names (name_at names s)) x order ∙ ap (λ b. cond b (times x order) 0) (same-block x s live runs)))
      (λ (dead : network.live x ≡ false).
      let none : times x order ≡ 0 = are.stands.once x ∙ ap (λ b. cond b 1 0) dead in
      let nowhere : times x (slots_in (blocks_along next order)) ≡ 0 = are.blocking.stands.once x ∙ ap (λ b. cond b 1 0) dead in
      let here : times x (get_or (blocks_along next order) (in-block s live).0 []) ≡ 0 =
      omega (arith, times-within x (blocks_along next order) (in-block s live).0 (in-block s live).1.within, nowhere) in
      here ∙ sym (times-filter (is_of names (name_at names s)) x order ∙ ap (λ n. cond (is_of names (name_at names s) x) n 0) none
      ∙ zero-either (is_of names (name_at names s) x)))
      (cases_Bool (network.live x))
    where
      block : List ℕ
      block = get_or (blocks_along next order) (in-block s live).0 []

      zero-either : (b : Bool) → ◌≡◌ {A = ℕ} (cond b 0 0) 0
      zero-either true = refl
      zero-either false = refl

      by : (b : Bool) → is_in x (get_or (blocks_along next order) (in-block s live).0 []) ≡ b → times x order ≡ 1
          → times x (slots_in (blocks_along next order)) ≡ 1
          → times x (get_or (blocks_along next order) (in-block s live).0 []) ≡ cond
          (is_in x (get_or (blocks_along next order) (in-block s live).0 [])) (times x order) 0
      by true stands one once =
          let here : times x (get_or (blocks_along next order) (in-block s live).0 []) ≡ times x order =
          omega (
            arith,
            counted x (get_or (blocks_along next order) (in-block s live).0 []) stands,
            times-within x
                (blocks_along next order) (in-block s live).0 (in-block s live).1.within,
            one,
            once,
          ) in
          here ∙ sym (ap (λ b. cond b (times x order) 0) stands)
      by false out one once = uncounted x (get_or (blocks_along next order) (in-block s live).0 []) out
          ∙ sym (ap (λ b. cond b (times x order) 0) out)

  -- and in the same order
  group-is : (s : ℕ) (live : network.live s ≡ true)
      → filter (is_of names (name_at names s)) order ≡ get_or (blocks_along next order) (in-block s live).0 []
  group-is s live =
      sym (same-order key (get_or (blocks_along next order) (in-block s live).0 []) (filter (is_of names (name_at names s)) order)
      (climb-block network key are.clock (get_or (blocks_along next order) (in-block s live).0 [])
      (All-from_recursion (IsBlock network) (blocks_along next order) are.blocking.each (in-block s live).0 []
      (in-block s live).1.within))
      (rise-filter key (is_of names (name_at names s)) order are.rises)
      (same-times s live))

  count-firsts : length (blocks_along next order) ≡ length (filter (links.is_first next) order)
  count-firsts = length-map (filter (links.is_first next) order) (links.block_from next)

  -- a block begins with its first slot
  block-first : (b : ℕ) → b < length (blocks_along next order)
      → (rest : List ℕ) × (get_or (blocks_along next order) b [] ≡ get_or (filter (links.is_first next) order) b 0 ∷ rest)
  block-first b within = (
    along next 8191 (next_of next (get_or (filter (links.is_first next) order) b 0)),
    get_or-map (links.block_from next) (filter (links.is_first next) order) b 0 [] (omega (arith, within, count-firsts))
        ∙ block_from-is next (get_or (filter (links.is_first next) order) b 0),
  )

  -- which stands in no other block
  first-alone : (s : ℕ) (live : network.live s ≡ true) (k : ℕ) → k < length (blocks_along next order)
      → get_or (filter (links.is_first next) order) k 0 ≡ s → k ≡ (in-block s live).0
  first-alone s live k within is =
      (in-block s live).1.alone k within
      (ap (is_in s) (block-first k within).1 ∙ ap (λ x. is_in s (x ∷ (block-first k within).0)) is
      ∙ ap (λ b. b || is_in s (block-first k within).0) (eq-eqb s s refl))

  -- a live slot begins a block of names exactly where it begins one along the links
  begins-same : (s : ℕ) → network.live s ≡ true → begins names order s ≡ links.is_first next s
  unfolding starts
  begins-same s live =
      ap (λ b. b || is_first names (name_at names s) order s) (not-alone s live)
      ∙ first-starts names (name_at names s) order s
      ∙ ap (λ xs. starts xs s) (group-is s live ∙ (block-first (in-block s live).0 (in-block s live).1.within).1)
      ∙ ⊎_elim
      (λ (same : (get_or (filter (links.is_first next) order) (in-block s live).0 0 == s) ≡ true).
      same
      ∙ sym (filter_passes (links.is_first next) order (in-block s live).0 0 (omega (arith, (in-block s live).1.within, count-firsts)))
      ∙ ap (links.is_first next) (eqb-true (get_or (filter (links.is_first next) order) (in-block s live).0 0) s same))
      (λ (other : (get_or (filter (links.is_first next) order) (in-block s live).0 0 == s) ≡ false).
      other ∙ sym (not-first other (links.is_first next s) refl))
      (cases_Bool (get_or (filter (links.is_first next) order) (in-block s live).0 0 == s))
    where
      not-first : (get_or (filter (links.is_first next) order) (in-block s live).0 0 == s) ≡ false → (b : Bool) → links.is_first next s ≡ b
          → b ≡ false
      not-first other false e = refl
      not-first other true e =
          let one : times s order ≡ 1 = are.stands.once s ∙ ap (λ b. cond b 1 0) live in
          let among : times s (filter (links.is_first next) order) ≡ 1 = times-filter (links.is_first next) s order
          ∙ ap (λ b. cond b (times s order) 0) e ∙ one in
          let at = place-of s (filter (links.is_first next) order) (omega (arith, among)) in
          let same = first-alone s live at.0 (omega (arith, at.1, count-firsts)) at.2 in
          absurd (false≢true (sym other ∙ eq-eqb (get_or (filter (links.is_first next) order) (in-block s live).0 0) s
          (ap (λ k. get_or (filter (links.is_first next) order) k 0) (sym same) ∙ at.2)))

  -- each slot of the order is live
  all-live : All (λ s. network.live s ≡ true) order
  all-live = All-from_get_or (λ s. network.live s ≡ true) order 0
      (λ i within. by (get_or order i 0) (stands-at order i within) (network.live (get_or order i 0)) refl)
    where
      by : (s : ℕ) → 0 < times s order → (b : Bool) → network.live s ≡ b → b ≡ true
      by s some true e = refl
      by s some false e = absurd (let none : times s order ≡ 0 = are.stands.once s ∙ ap (λ b. cond b 1 0) e in omega (arith, some, none))

  begin-alike : filter (begins names order) order ≡ filter (links.is_first next) order
  begin-alike = filter-same (begins names order) (links.is_first next) order
      (λ k d within. begins-same (get_or order k d) (all-live k d within))

  -- so the blocks by the names are those along the links
  pub blocks-back : slots_by (blocks_by names order) ≡ blocks_along next order
  blocks-back =
      ap (λ xs. slots_by (map (block_from names order) xs)) begin-alike
      ∙ ext_get_or [] (slots_by (map (block_from names order) (filter (links.is_first next) order))) (blocks_along next order) count each
    where
      count : length (slots_by (map (block_from names order) (filter (links.is_first next) order))) ≡ length (blocks_along next order)
      count =
          length-map (map (block_from names order) (filter (links.is_first next) order)) (λ (b : NamedBlock). b.slots)
          ∙ length-map (filter (links.is_first next) order) (block_from names order)
          ∙ sym count-firsts

      none : NamedBlock
      none = record { name = []; slots = [] }

      each : (k : ℕ) → k < length (slots_by (map (block_from names order) (filter (links.is_first next) order)))
          → get_or (slots_by (map (block_from names order) (filter (links.is_first next) order))) k [] ≡ get_or (blocks_along next order) k
          []
      each k lt =
          let within : k < length (blocks_along next order) = omega (arith, lt, count) in
          let inside : k < length (filter (links.is_first next) order) = omega (arith, within, count-firsts) in
          let s = get_or (filter (links.is_first next) order) k 0 in
          let live : network.live s ≡ true = All-filter (links.is_first next) (λ s. network.live s ≡ true) order all-live k 0 inside in
          let made : k < length (map (block_from names order) (filter (links.is_first next) order)) =
          omega (arith, inside, length-map (filter (links.is_first next) order) (block_from names order)) in
          get_or-map (λ (b : NamedBlock). b.slots) (map (block_from names order) (filter (links.is_first next) order)) k none [] made
          ∙ ap (λ (b : NamedBlock). b.slots) (get_or-map (block_from names order) (filter (links.is_first next) order) k 0 none inside)
          ∙ ap (λ b. if b then s ∷ [] else filter (is_of names (name_at names s)) order) (not-alone s live)
          ∙ group-is s live
          ∙ ap (λ b. get_or (blocks_along next order) b []) (sym (first-alone s live k within refl))

  -- and under the names of these
  pub names-back : map (λ (b : NamedBlock). b.name) (blocks_by names order) ≡ block_names
  names-back =
      ap (λ xs. map (λ (b : NamedBlock). b.name) (map (block_from names order) xs)) begin-alike
      ∙ ext_get_or [] (map (λ (b : NamedBlock). b.name) (map (block_from names order) (filter (links.is_first next) order)))
      block_names count each
    where
      short : length (map (λ (b : NamedBlock). b.name) (map (block_from names order) (filter (links.is_first next) order))) ≡ length
          (blocks_along next order)
      short =
          length-map (map (block_from names order) (filter (links.is_first next) order)) (λ (b : NamedBlock). b.name)
          ∙ length-map (filter (links.is_first next) order) (block_from names order)
          ∙ sym count-firsts

      count : length (map (λ (b : NamedBlock). b.name) (map (block_from names order) (filter (links.is_first next) order))) ≡ length
          block_names
      count = short ∙ sym are.given.counted

      none : NamedBlock
      none = record { name = []; slots = [] }

      each : (k : ℕ) → k < length (map (λ (b : NamedBlock). b.name) (map (block_from names order) (filter (links.is_first next) order)))
          → get_or (map (λ (b : NamedBlock). b.name) (map (block_from names order) (filter (links.is_first next) order))) k [] ≡ get_or
          block_names k []
      each k lt =
          let within : k < length (blocks_along next order) = omega (arith, lt, short) in
          let inside : k < length (filter (links.is_first next) order) = omega (arith, within, count-firsts) in
          let s = get_or (filter (links.is_first next) order) k 0 in
          let live : network.live s ≡ true = All-filter (links.is_first next) (λ s. network.live s ≡ true) order all-live k 0 inside in
          let made : k < length (map (block_from names order) (filter (links.is_first next) order)) =
          omega (arith, inside, length-map (filter (links.is_first next) order) (block_from names order)) in
          get_or-map (λ (b : NamedBlock). b.name) (map (block_from names order) (filter (links.is_first next) order)) k none [] made
          ∙ ap (λ (b : NamedBlock). b.name) (get_or-map (block_from names order) (filter (links.is_first next) order) k 0 none inside)
          ∙ (in-block s live).2
          ∙ ap (block_name block_names) (sym (first-alone s live k within refl))
