-- What holds on the way up and down a tree of greatest prefix sums.
use Rattle.std.proofs.Common.{◌≡◌, ℕ, zero, suc, ◌+◌, ◌-◌, ◌*◌, ◌/◌, ◌%◌, ◌^◌, ◌<◌, ◌≤◌, List, length, take, drop, ℤ, pos, ◌+ℤ◌, ◌≤ℤ◌}
use Rattle.std.proofs.Common.{◌<ℤ◌, sym, ap, subst, refl, inl, inr, arith}
use Rattle.std.specs.Int.{int_max}
use Rattle.std.specs.Int.{w32}
use Rattle.std.specs.Prelude.{FitsSigned, ◌≢◌}
use Rattle.std.proofs.lemmas.Bool.{cases_lt}
use Rattle.std.proofs.lemmas.Int.{ints, clamps}
use Rattle.terminal_maxima.specs.declared.max_prefix.MaxPrefix.{MaxPrefix}
use Rattle.terminal_maxima.specs.declared.summary.TheConstants.{LEAVES}
use Rattle.terminal_maxima.specs.MaxPrefix.{SumsLeaves, no_leaf, both}
use Rattle.terminal_maxima.specs.MaxPrefixLaws.{max_prefix_laws}
use Rattle.terminal_maxima.specs.Nodes.{IsTree, IsSpan, node_of}
use Rattle.terminal_maxima.specs.Reaching.{total, prefix_sum, IsFirstReaching, NoneReaches}
use Rattle.terminal_maxima.proofs.Folds.{leaves_count}
use Rattle.terminal_maxima.proofs.Spans.{low_node, halved, leaf_span, inner_span, span_end, is_root, leaf_is_span, over_left, over_right}
use Rattle.terminal_maxima.proofs.Spans.{beside_left, IsHalved}
use Rattle.terminal_maxima.proofs.Totals.{first_total, total_bounds, node_bounds, span_total, span_high, high_by_children}

-- all places from `from` to before `end` fall short of the value
abbrev pub FallShort : List MaxPrefix → ℕ → ℤ → ℕ → Type 0
FallShort leaves from value end = (place : ℕ) → from ≤ place → place < end → prefix_sum leaves place <ℤ value

-- the sum so far, of the leaves from the first under the node up to the place
pub record IsSummed (leaves depth : ℕ) (nodes : List MaxPrefix) (place height node : ℕ) (sum : ℤ) : Type 0 where
  pub first : ℕ
  pub width : ℕ
  pub span : IsSpan depth height node first width
  pub sum_is : (total (take first (drop leaves nodes)) +ℤ sum) ≡ prefix_sum (drop leaves nodes) place

-- on the way up: all places from the start to the last under the node fall short
pub record IsClimbing (leaves depth : ℕ) (nodes : List MaxPrefix) (from : ℕ) (value : ℤ) (height node end width : ℕ)
    (sum : ℤ) : Type 0 where
  pub first : ℕ
  pub span : IsSpan depth height node first width
  pub end_is : end ≡ first + width
  pub after : from ≤ end
  pub sum_is : sum ≡ total (take end (drop leaves nodes))
  pub short : sum <ℤ value
  pub fall_short : FallShort (drop leaves nodes) from value end

-- on the way down: some place under the node reaches the value, and none before it
pub record IsDescending (leaves depth : ℕ) (nodes : List MaxPrefix) (from : ℕ) (value : ℤ) (node first width : ℕ)
    (before : ℤ) : Type 0 where
  pub height : ℕ
  pub span : IsSpan depth height node first width
  pub after : from ≤ first
  pub sum_is : before ≡ total (take first (drop leaves nodes))
  pub short : before <ℤ value
  pub reached : value ≤ℤ (before +ℤ (node_of no_leaf nodes node).high)
  pub fall_short : FallShort (drop leaves nodes) from value first

module _ (nodes : List MaxPrefix) (leaves depth : ℕ) (tree : IsTree SumsLeaves no_leaf both leaves nodes) (power : leaves ≡ 2 ^ depth)
    (few : leaves ≤ LEAVES) where
  -- a node of the tree, and its number
  pub node_within : (height node first width : ℕ) → IsSpan depth height node first width → node < length nodes
  node_within zero node first width span = let leaf = leaf_span depth node first width span in
      omega (arith, tree.count, leaf.node_is, leaf.within)
  node_within (suc height) node first width span = omega (arith, tree.count, (inner_span depth height node first width span).1)

  pub summed_begins : (place : ℕ) → place < leaves
      → IsSummed leaves depth nodes place 0 (leaves + place) (node_of no_leaf nodes (leaves + place)).sum
  summed_begins place within =
      let e : 2 ^ depth + place ≡ leaves + place = omega arith in
      let span : IsSpan depth 0 (leaves + place) place 1 =
      subst (λ (i : ℕ). IsSpan depth 0 i place 1) e (leaf_is_span depth place (omega arith)) in
      record {
        first = place;
        width = 1;
        span = span;
        sum_is = sym (span_total nodes leaves depth tree power few 0 (leaves + place) place 1 span);
      }

  pub summed_left : (place height parent : ℕ) (sum : ℤ) → 1 ≤ parent → IsSummed leaves depth nodes place height (2 * parent) sum
      → IsSummed leaves depth nodes place (suc height) parent sum
  summed_left place height parent sum some state =
      record {
        first = state.first;
        width = 2 * state.width;
        span = over_left depth height parent state.first state.width some state.span;
        sum_is = state.sum_is;
      }

  pub summed_right : (place height parent : ℕ) (sum : ℤ) → 1 ≤ parent → IsSummed leaves depth nodes place height (2 * parent + 1) sum
      → IsSummed leaves depth nodes place (suc height) parent (sum +ℤ (node_of no_leaf nodes (2 * parent)).sum)
  summed_right place height parent sum some state =
      let right = over_right depth height parent state.first state.width some state.span in
      let adds : first_total nodes leaves depth tree power few (right.start + state.width) ≡ first_total nodes leaves depth tree power few
      right.start +ℤ (node_of no_leaf nodes (2 * parent)).sum =
      span_total nodes leaves depth tree power few height (2 * parent) right.start state.width right.left in
      let here : first_total nodes leaves depth tree power few state.first ≡ first_total nodes leaves depth tree power few
      (right.start + state.width) = ap (first_total nodes leaves depth tree power few) right.start_is in
      record { first = right.start; width = 2 * state.width; span = right.over; sum_is = omega (arith, ints, state.sum_is, adds, here) }

  pub summed_ends : (place node : ℕ) (sum : ℤ) → IsSummed leaves depth nodes place depth node sum
      → sum ≡ prefix_sum (drop leaves nodes) place
  summed_ends place node sum state =
      let root = is_root depth node state.first state.width state.span in
      let none : first_total nodes leaves depth tree power few state.first ≡ first_total nodes leaves depth tree power few 0 =
      ap (first_total nodes leaves depth tree power few) root.1 in
      omega (arith, ints, none, state.sum_is)

  -- one height up, from a node on the right or on the left
  pub summed_step_right : (place height node : ℕ) (sum : ℤ) → height < depth → node % 2 ≡ 1
      → IsSummed leaves depth nodes place height node sum
      → IsSummed leaves depth nodes place (height + 1) (node / 2) (sum +ℤ (node_of no_leaf nodes (node - 1)).sum)
  summed_step_right place height node sum low odd state =
      let some = low_node depth height node state.first state.width low state.span in
      let here : node ≡ 2 * (node / 2) + 1 = omega arith in
      let left : 2 * (node / 2) ≡ node - 1 = omega arith in
      let next = summed_right place height (node / 2) sum some
      (subst (λ (i : ℕ). IsSummed leaves depth nodes place height i sum) here state) in
      let up : suc height ≡ height + 1 = omega arith in
      subst (λ (h : ℕ). IsSummed leaves depth nodes place h (node / 2) (sum +ℤ (node_of no_leaf nodes (node - 1)).sum)) up
      (subst (λ (i : ℕ). IsSummed leaves depth nodes place (suc height) (node / 2) (sum +ℤ (node_of no_leaf nodes i).sum)) left next)

  pub summed_step_left : (place height node : ℕ) (sum : ℤ) → height < depth → node % 2 ≢ 1
      → IsSummed leaves depth nodes place height node sum → IsSummed leaves depth nodes place (height + 1) (node / 2) sum
  summed_step_left place height node sum low even state =
      let some = low_node depth height node state.first state.width low state.span in
      let here : node ≡ 2 * (node / 2) = omega arith in
      let next = summed_left place height (node / 2) sum some
      (subst (λ (i : ℕ). IsSummed leaves depth nodes place height i sum) here state) in
      let up : suc height ≡ height + 1 = omega arith in
      subst (λ (h : ℕ). IsSummed leaves depth nodes place h (node / 2) sum) up next

  -- the sum so far fits into 32 bits, and so does that of every node
  pub summed_fits : (place height node : ℕ) (sum : ℤ) → place < leaves → IsSummed leaves depth nodes place height node sum
      → FitsSigned w32 sum
  summed_fits place height node sum within state =
      let ends = span_end depth height node state.first state.width state.span in
      let start = total_bounds nodes leaves depth tree power few state.first (omega (arith, ends.1)) in
      let all = total_bounds nodes leaves depth tree power few (place + 1) (omega arith) in
      omega (arith, ints, start.0, start.1, all.0, all.1, state.sum_is)

  pub node_fits : (height node first width : ℕ) → IsSpan depth height node first width
      → FitsSigned w32 (node_of no_leaf nodes node).sum × FitsSigned w32 (node_of no_leaf nodes node).high
  node_fits height node first width span =
      let ends = span_end depth height node first width span in
      let sums = node_bounds nodes leaves depth tree power few height node first width span in
      (omega (arith, ints, sums.above, sums.below, sums.high_below, ends.1), omega (arith, ints, sums.from_zero, sums.high_below, ends.1))

  -- the node on the left of a right one
  pub left_fits : (height node first width : ℕ) → height < depth → node % 2 ≡ 1 → IsSpan depth height node first width
      → (node - 1 < length nodes) × FitsSigned w32 (node_of no_leaf nodes (node - 1)).sum
  left_fits height node first width low odd span =
      let some = low_node depth height node first width low span in
      let here : node ≡ 2 * (node / 2) + 1 = omega arith in
      let left : 2 * (node / 2) ≡ node - 1 = omega arith in
      let right = over_right depth height (node / 2) first width some (subst (λ (i : ℕ). IsSpan depth height i first width) here span) in
      let beside : IsSpan depth height (node - 1) right.start width =
      subst (λ (i : ℕ). IsSpan depth height i right.start width) left right.left in
      (node_within height (node - 1) right.start width beside, (node_fits height (node - 1) right.start width beside).0)

  -- on the way up: the start, after the place itself fell short
  pub climbing_begins : (place : ℕ) (value sum : ℤ) → place < leaves → sum ≡ prefix_sum (drop leaves nodes) place → sum <ℤ value
      → IsClimbing leaves depth nodes place value 0 (leaves + place) (place + 1) 1 sum
  climbing_begins place value sum within sum_is short =
      let e : 2 ^ depth + place ≡ leaves + place = omega arith in
      record {
        first = place;
        span = subst (λ (i : ℕ). IsSpan depth 0 i place 1) e (leaf_is_span depth place (omega arith));
        end_is = refl;
        after = omega arith;
        sum_is = sum_is;
        short = short;
        fall_short = λ q from before.
            let same : q ≡ place = omega arith in
            let sums : prefix_sum (drop leaves nodes) q ≡ prefix_sum (drop leaves nodes) place = ap (prefix_sum (drop leaves nodes)) same in
            omega (arith, ints, sums, sum_is, short);
      }

  -- the node on the right of a left one
  pub right_span : (height node first width : ℕ) → height < depth → node % 2 ≡ 0 → IsSpan depth height node first width
      → IsSpan depth height (node + 1) (first + width) width
  right_span height node first width low even span =
      let some = low_node depth height node first width low span in
      let here : node ≡ 2 * (node / 2) = omega arith in
      let there : 2 * (node / 2) + 1 ≡ node + 1 = omega arith in
      let right = beside_left depth height (node / 2) first width some (subst (λ (i : ℕ). IsSpan depth height i first width) here span) in
      subst (λ (i : ℕ). IsSpan depth height i (first + width) width) there right

  module _ (from : ℕ) (value : ℤ) (height node end width : ℕ) (sum : ℤ) (low : height < depth)
      (state : IsClimbing leaves depth nodes from value height node end width sum) where
    -- the sum so far fits into 32 bits, also with what the next node adds
    pub climbing_right : node % 2 ≡ 0 → IsSpan depth height (node + 1) end width
    climbing_right even = subst (λ (e : ℕ). IsSpan depth height (node + 1) e width) (sym state.end_is)
        (right_span height node state.first width low even state.span)

    pub climbing_bounds : (even : node % 2 ≡ 0)
        → FitsSigned w32 (sum +ℤ (node_of no_leaf nodes (node + 1)).high) × FitsSigned w32 (sum +ℤ (node_of no_leaf nodes (node + 1)).sum)
    climbing_bounds even =
        let right = climbing_right even in
        let ends = span_end depth height (node + 1) end width right in
        let start = total_bounds nodes leaves depth tree power few end (omega (arith, ends.1)) in
        let sums = node_bounds nodes leaves depth tree power few height (node + 1) end width right in (
          omega (arith, ints, start.0, start.1, state.sum_is, sums.from_zero, sums.high_below, ends.1),
          omega
              (arith, ints, start.0, start.1, state.sum_is, sums.above, sums.below, sums.high_below, ends.1),
        )

    -- the node on the right does not reach the value either
    pub climbing_passes : (even : node % 2 ≡ 0) → (sum +ℤ (node_of no_leaf nodes (node + 1)).high) <ℤ value
        → IsClimbing leaves depth nodes from value (height + 1) (node / 2) (end + width) (2 * width)
        (sum +ℤ (node_of no_leaf nodes (node + 1)).sum)
    climbing_passes even below =
        let right = climbing_right even in
        let sums = node_bounds nodes leaves depth tree power few height (node + 1) end width right in
        let adds : first_total nodes leaves depth tree power few (end + width) ≡ first_total nodes leaves depth tree power few end +ℤ
        (node_of no_leaf nodes (node + 1)).sum = span_total nodes leaves depth tree power few height (node + 1) end width right in
        let some = low_node depth height node state.first width low state.span in
        let here : node ≡ 2 * (node / 2) = omega arith in
        let up : suc height ≡ height + 1 = omega arith in
        let over = over_left depth height (node / 2) state.first width some
        (subst (λ (i : ℕ). IsSpan depth height i state.first width) here state.span) in
        record {
          first = state.first;
          span = subst (λ (h : ℕ). IsSpan depth h (node / 2) state.first (2 * width)) up over;
          end_is = omega (arith, state.end_is);
          after = omega (arith, state.after);
          sum_is = omega (arith, ints, adds, state.sum_is);
          short = omega (arith, ints, sums.below, below);
          fall_short = λ q after before. elim (cases_lt q end) [
            | inl early ↦ state.fall_short q after early
            | inr late ↦
                let high = span_high nodes leaves depth tree power few height (node + 1) end width q right late before in
                omega (arith, ints, high, below, state.sum_is)
          ];
        }

    -- from a node on the right the same leaves end the span above
    pub climbing_rises : node % 2 ≢ 0 → IsClimbing leaves depth nodes from value (height + 1) (node / 2) end (2 * width) sum
    climbing_rises odd =
        let some = low_node depth height node state.first width low state.span in
        let here : node ≡ 2 * (node / 2) + 1 = omega arith in
        let up : suc height ≡ height + 1 = omega arith in
        let right = over_right depth height (node / 2) state.first width some
        (subst (λ (i : ℕ). IsSpan depth height i state.first width) here state.span) in
        record {
          first = right.start;
          span = subst (λ (h : ℕ). IsSpan depth h (node / 2) right.start (2 * width)) up right.over;
          end_is = omega (arith, state.end_is, right.start_is);
          after = state.after;
          sum_is = state.sum_is;
          short = state.short;
          fall_short = state.fall_short;
        }

  -- at the root nothing is left to look at
  pub climbing_ends : (from : ℕ) (value : ℤ) (node end width : ℕ) (sum : ℤ)
      → IsClimbing leaves depth nodes from value depth node end width sum → NoneReaches (drop leaves nodes) from value
  climbing_ends from value node end width sum state = λ q after before.
      let root = is_root depth node state.first width state.span in
      state.fall_short q after (omega (arith, state.end_is, root.1, root.2, leaves_count max_prefix_laws nodes leaves depth tree power few))

  module _ (from : ℕ) (value : ℤ) (node first width : ℕ) (before : ℤ)
      (state : IsDescending leaves depth nodes from value node first width before) where
    -- with more than one leaf under it the node has two below it
    halves : 1 < width → (height : ℕ) × IsSpan depth (suc height) node first width × IsHalved depth height node first width
    halves many = by_height state.height state.span
      where
        by_height : (height : ℕ) → IsSpan depth height node first width
            → (height : ℕ) × IsSpan depth (suc height) node first width × IsHalved depth height node first width
        by_height zero span = absurd (omega (arith, (leaf_span depth node first width span).one))
        by_height (suc height) span = (height, span, halved depth height node first width span)

    -- the half on the left, with what the descent reads there
    pub record IsLeftHalf : Type 0 where
      pub height : ℕ
      pub over : IsSpan depth (suc height) node first width
      pub left : IsSpan depth height (2 * node) first (width / 2)
      pub right : IsSpan depth height (2 * node + 1) (first + width / 2) (width / 2)

    pub left_half : 1 < width → IsLeftHalf
    left_half many =
        let parts = halves many in
        let half : parts.2.half ≡ width / 2 = omega (arith, parts.2.twice) in
        record {
          height = parts.0;
          over = parts.1;
          left = subst (λ (w : ℕ). IsSpan depth parts.0 (2 * node) first w) half parts.2.left;
          right = subst (λ (w : ℕ). IsSpan depth parts.0 (2 * node + 1) (first + w) w) half parts.2.right;
        }

    pub descending_bounds : (many : 1 < width)
        → FitsSigned w32 (before +ℤ (node_of no_leaf nodes (2 * node)).high)
        × FitsSigned w32 (before +ℤ (node_of no_leaf nodes (2 * node)).sum)
    descending_bounds many =
        let half = left_half many in
        let ends = span_end depth half.height (2 * node) first (width / 2) half.left in
        let start = total_bounds nodes leaves depth tree power few first (omega (arith, ends.1)) in
        let sums = node_bounds nodes leaves depth tree power few half.height (2 * node) first (width / 2) half.left in (
          omega (arith, ints, start.0, start.1, state.sum_is, sums.from_zero, sums.high_below, ends.1),
          omega
              (arith, ints, start.0, start.1, state.sum_is, sums.above, sums.below, sums.high_below, ends.1),
        )

    -- some place in the left half reaches the value
    pub descends_left : (many : 1 < width) → value ≤ℤ (before +ℤ (node_of no_leaf nodes (2 * node)).high)
        → IsDescending leaves depth nodes from value (2 * node) first (width / 2) before
    descends_left many reached =
        let half = left_half many in
        record {
          height = half.height;
          span = half.left;
          after = state.after;
          sum_is = state.sum_is;
          short = state.short;
          reached = reached;
          fall_short = state.fall_short;
        }

    -- no place in the left half does, so some place in the right half does
    pub descends_right : (many : 1 < width) → (before +ℤ (node_of no_leaf nodes (2 * node)).high) <ℤ value
        → IsDescending leaves depth nodes from value (2 * node + 1) (first + width / 2) (width / 2)
        (before +ℤ (node_of no_leaf nodes (2 * node)).sum)
    descends_right many below =
        let half = left_half many in
        let sums = node_bounds nodes leaves depth tree power few half.height (2 * node) first (width / 2) half.left in
        let adds : first_total nodes leaves depth tree power few (first + width / 2) ≡ first_total nodes leaves depth tree power few first
        +ℤ (node_of no_leaf nodes (2 * node)).sum =
        span_total nodes leaves depth tree power few half.height (2 * node) first (width / 2) half.left in
        let high = high_by_children nodes leaves depth tree power few half.height node first width half.over in
        record {
          height = half.height;
          span = half.right;
          after = omega (arith, state.after);
          sum_is = omega (arith, ints, adds, state.sum_is);
          short = omega (arith, ints, sums.below, below);
          reached = omega (arith, ints, clamps, high, state.reached, below);
          fall_short = λ q after before_it. elim (cases_lt q first) [
            | inl early ↦ state.fall_short q after early
            | inr late ↦
                let most = span_high nodes leaves depth tree power few half.height (2 * node) first (width / 2) q half.left late
                before_it in
                omega (arith, ints, most, below, state.sum_is)
          ];
        }

    -- one leaf is left, and it reaches the value
    pub descending_ends : width ≤ 1 → IsFirstReaching (drop leaves nodes) from value first
    descending_ends one = by_height state.height state.span
      where
        by_height : (height : ℕ) → IsSpan depth height node first width → IsFirstReaching (drop leaves nodes) from value first
        by_height zero span =
            let leaf = leaf_span depth node first width span in
            let sums = node_bounds nodes leaves depth tree power few 0 node first width span in
            let there : first_total nodes leaves depth tree power few (first + 1) ≡ first_total nodes leaves depth tree power few
            (first + width) = let e : first + 1 ≡ first + width = omega (arith, leaf.one) in
            ap (first_total nodes leaves depth tree power few) e in
            let adds : first_total nodes leaves depth tree power few (first + width) ≡ first_total nodes leaves depth tree power few first
            +ℤ (node_of no_leaf nodes node).sum = span_total nodes leaves depth tree power few 0 node first width span in
            let high : (node_of no_leaf nodes node).high ≡ int_max (pos 0) (node_of no_leaf nodes node).sum = sums.of_one one in
            record {
              not_before = state.after;
              in_range = omega (arith, leaf.within, leaves_count max_prefix_laws nodes leaves depth tree power few);
              reaches = omega (arith, ints, clamps, high, there, adds, state.sum_is, state.short, state.reached);
              first = state.fall_short;
            }
        by_height (suc height) span =
            let parts = halved depth height node first width span in
            let some = span_end depth height (2 * node) first parts.half parts.left in
            absurd (omega (arith, parts.twice, some.0))

  -- what was found from the end of a stretch that falls short is the first from its start
  pub first_from_start : (from : ℕ) (value : ℤ) (end place : ℕ) → from ≤ end → FallShort (drop leaves nodes) from value end
      → IsFirstReaching (drop leaves nodes) end value place → IsFirstReaching (drop leaves nodes) from value place
  first_from_start from value end place early short found = record {
    not_before = omega (arith, found.not_before);
    in_range = found.in_range;
    reaches = found.reaches;
    first = λ q after before. elim (cases_lt q end) [ inl left ↦ short q after left | inr right ↦ found.first q right before ];
  }
