-- What the nodes of greatest prefix sums say of the sums of the leaves.
use Rattle.std.proofs.Common.{◌⊎◌, ◌≡◌, ℕ, zero, suc, ◌+◌, ◌*◌, ◌^◌, ◌<◌, ◌≤◌, List, [], ◌∷◌, take, drop, fold, ℤ, pos, ◌+ℤ◌, neg_ℤ, ◌≤ℤ◌}
use Rattle.std.proofs.Common.{◌<ℤ◌, sym, ap, ◌∙◌, refl, inl, inr, arith}
use Rattle.std.specs.Int.{int_max}
use Rattle.std.proofs.lemmas.Bool.{cases_lt}
use Rattle.std.proofs.lemmas.Int.{ints, clamps, by_lt_z}
use Rattle.terminal_maxima.specs.declared.max_prefix.MaxPrefix.{MaxPrefix}
use Rattle.terminal_maxima.specs.declared.summary.TheConstants.{LEAVES}
use Rattle.terminal_maxima.specs.MaxPrefix.{SumsLeaves, no_leaf, both}
use Rattle.terminal_maxima.specs.MaxPrefixLaws.{max_prefix_laws}
use Rattle.terminal_maxima.specs.Nodes.{IsTree, IsSpan, node_of}
use Rattle.terminal_maxima.specs.Reaching.{total, prefix_sum, IsGreatestPrefix}
use Rattle.terminal_maxima.proofs.Folds.{front, front_sums, front_span, leaves_count, node_sums}
use Rattle.terminal_maxima.proofs.Spans.{halved, inner_span, leaf_span, root_span}

-- a number is above another, or it is not
cases_below : (a b : ℤ) → (b ≤ℤ a) ⊎ (a <ℤ b)
cases_below a b = by_lt_z a b inr inl

-- the sum in a fold is the sum of the leaves
fold_sum : (leaves : List MaxPrefix) (start : MaxPrefix)
    → (fold both start leaves).sum ≡ fold (λ sum leaf. sum +ℤ leaf.sum) start.sum leaves
fold_sum [] start = refl
fold_sum (leaf ∷ leaves) start = fold_sum leaves (both start leaf)

module _ (nodes : List MaxPrefix) (leaves depth : ℕ) (tree : IsTree SumsLeaves no_leaf both leaves nodes) (power : leaves ≡ 2 ^ depth)
    (few : leaves ≤ LEAVES) where
  -- the sum of the first so many leaves
  abbrev pub first_total : ℕ → ℤ
  first_total count = total (take count (drop leaves nodes))

  front_total : (count : ℕ) → (front no_leaf both leaves nodes count).sum ≡ first_total count
  front_total count = fold_sum (take count (drop leaves nodes)) no_leaf

  pub total_bounds : (count : ℕ) → count ≤ leaves
      → (neg_ℤ (pos (65536 * leaves)) ≤ℤ first_total count) × (first_total count ≤ℤ pos (65536 * leaves))
  total_bounds count within =
      let sums : SumsLeaves (front no_leaf both leaves nodes count) count =
      front_sums max_prefix_laws nodes leaves depth tree power few count within in
      let same = front_total count in
      (omega (arith, ints, sums.above, same), omega (arith, ints, sums.below, sums.high_below, same))

  pub node_bounds : (height node first width : ℕ) → IsSpan depth height node first width → SumsLeaves (node_of no_leaf nodes node) width
  node_bounds height node first width span = node_sums max_prefix_laws nodes leaves depth tree power few height node first width span

  -- the leaves under a node add its sum
  pub span_total : (height node first width : ℕ) → IsSpan depth height node first width
      → first_total (first + width) ≡ first_total first +ℤ (node_of no_leaf nodes node).sum
  span_total height node first width span =
      let joined : front no_leaf both leaves nodes (first + width) ≡ both (front no_leaf both leaves nodes first)
      (node_of no_leaf nodes node) = front_span max_prefix_laws nodes leaves depth tree power few height node first width span in
      sym (front_total (first + width)) ∙ ap (λ (x : MaxPrefix). x.sum) joined
      ∙ ap (λ (s : ℤ). s +ℤ (node_of no_leaf nodes node).sum) (front_total first)

  -- the greatest prefix sum of a node above the leaves, by its two children
  pub high_by_children : (height node first width : ℕ) → IsSpan depth (suc height) node first width
      → (node_of no_leaf nodes node).high ≡ int_max (node_of no_leaf nodes (2 * node)).high
      ((node_of no_leaf nodes (2 * node)).sum +ℤ (node_of no_leaf nodes (2 * node + 1)).high)
  high_by_children height node first width span =
      let inner = inner_span depth height node first width span in
      ap (λ (x : MaxPrefix). x.high) (tree.inner node inner.0 (omega (arith, inner.1)))

  -- no prefix sum under a node is above its greatest
  pub span_high : (height node first width place : ℕ) → IsSpan depth height node first width → first ≤ place → place < first + width
      → prefix_sum (drop leaves nodes) place ≤ℤ (first_total first +ℤ (node_of no_leaf nodes node).high)
  span_high zero node first width place span after before =
      let leaf = leaf_span depth node first width span in
      let sums = node_bounds zero node first width span in
      let there : place + 1 ≡ first + width = omega (arith, leaf.one) in
      let adds = ap first_total there ∙ span_total zero node first width span in
      omega (arith, ints, sums.below, adds)
  span_high (suc height) node first width place span after before =
      let parts = halved depth height node first width span in
      let high = high_by_children height node first width span in
      elim (cases_lt place (first + parts.half)) [
        | inl left ↦
            let below = span_high height (2 * node) first parts.half place parts.left after left in
            omega (arith, ints, clamps, below, high)
        | inr right ↦
            let below = span_high height (2 * node + 1) (first + parts.half) parts.half place parts.right right
            (omega (arith, parts.twice)) in
            let adds = span_total height (2 * node) first parts.half parts.left in
            omega (arith, ints, clamps, below, high, adds)
      ]

  -- where the greatest prefix sum of a node comes from, by its two children
  abbrev Attained : ℕ → ℕ → ℕ → Type 0
  Attained node first width = ((node_of no_leaf nodes node).high ≡ pos 0)
      ⊎ ((place : ℕ) × (place < first + width)
      × (prefix_sum (drop leaves nodes) place ≡ first_total first +ℤ (node_of no_leaf nodes node).high))

  attained_left : (node first width half : ℕ) → width ≡ half + half
      → (node_of no_leaf nodes node).high ≡ (node_of no_leaf nodes (2 * node)).high → Attained (2 * node) first half
      → Attained node first width
  attained_left node first width half twice same (inl none) = inl (same ∙ none)
  attained_left node first width half twice same (inr found) =
      inr (found.0, omega (arith, found.1, twice), omega (arith, ints, found.2, same))

  attained_above : (node first width half : ℕ) → width ≡ half + half
      → (node_of no_leaf nodes node).high ≡ int_max (node_of no_leaf nodes (2 * node)).high
      ((node_of no_leaf nodes (2 * node)).sum +ℤ (node_of no_leaf nodes (2 * node + 1)).high)
      → first_total (first + half) ≡ first_total first +ℤ (node_of no_leaf nodes (2 * node)).sum
      → (node_of no_leaf nodes (2 * node)).sum ≤ℤ (node_of no_leaf nodes (2 * node)).high → Attained (2 * node) first half
      → Attained (2 * node + 1) (first + half) half → Attained node first width
  attained_above node first width half twice high adds below left (inl none) =
      attained_left node first width half twice (omega (arith, ints, clamps, high, none, below)) left
  attained_above node first width half twice high adds below left (inr found) =
      elim (cases_below (node_of no_leaf nodes (2 * node)).high
      ((node_of no_leaf nodes (2 * node)).sum +ℤ (node_of no_leaf nodes (2 * node + 1)).high)) [
        | inl low ↦ attained_left node first width half twice (omega (arith, ints, clamps, high, low)) left
        | inr more ↦ inr (found.0, omega (arith, found.1, twice), omega (arith, ints, clamps, high, more, adds, found.2))
      ]

  -- the greatest prefix sum under a node is 0, or that of a place under it
  high_attained : (height node first width : ℕ) → IsSpan depth height node first width → Attained node first width
  high_attained zero node first width span =
      let leaf = leaf_span depth node first width span in
      let sums = node_bounds zero node first width span in
      let high = sums.of_one (omega (arith, leaf.one)) in
      let there : first + 1 ≡ first + width = omega (arith, leaf.one) in
      let adds = ap first_total there ∙ span_total zero node first width span in
      elim (cases_below (pos 0) (node_of no_leaf nodes node).sum) [
        | inl low ↦ inl (omega (arith, ints, clamps, high, low))
        | inr some ↦ inr (first, omega (arith, leaf.one), omega (arith, ints, clamps, high, some, adds))
      ]
  high_attained (suc height) node first width span =
      let parts = halved depth height node first width span in
      let high = high_by_children height node first width span in
      let adds = span_total height (2 * node) first parts.half parts.left in
      let left = node_bounds height (2 * node) first parts.half parts.left in
      attained_above node first width parts.half parts.twice high adds left.below
      (high_attained height (2 * node) first parts.half parts.left)
      (high_attained height (2 * node + 1) (first + parts.half) parts.half parts.right)

  -- the root has the greatest of 0 and all prefix sums
  pub root_greatest : IsGreatestPrefix (drop leaves nodes) (node_of no_leaf nodes 1).high
  root_greatest =
      let root = root_span depth in
      let count = leaves_count max_prefix_laws nodes leaves depth tree power few in
      record {
        from_zero = (node_bounds depth 1 0 (2 ^ depth) root).from_zero;
        above_all = λ place within.
            let below = span_high depth 1 0 (2 ^ depth) place root (omega arith) (omega (arith, count, within)) in
            omega (arith, ints, below);
        attained = elim (high_attained depth 1 0 (2 ^ depth) root)
            [ inl none ↦ inl none | inr found ↦ inr (found.0, omega (arith, count, found.1), omega (arith, ints, found.2)) ];
      }
