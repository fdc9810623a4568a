-- The nodes of a tree are the folds of the leaves under them.
use Rattle.std.proofs.Common.{◌≡◌, ℕ, zero, suc, ◌+◌, ◌*◌, ◌^◌, ◌<◌, ◌≤◌, List, length, get_or, take, drop, fold, All, sym, ap, ◌∙◌, subst}
use Rattle.std.proofs.Common.{arith, length-drop}
use Rattle.std.proofs.lemmas.List.{get_or-drop, get_or_default, take_all}
use Rattle.std.proofs.lemmas.List.Sums.{fold_more}
use Rattle.terminal_maxima.specs.declared.summary.TheConstants.{LEAVES}
use Rattle.terminal_maxima.specs.Nodes.{IsTree, IsSpan, node_of}
use Rattle.terminal_maxima.specs.Summary.{SummaryLaws}
use Rattle.terminal_maxima.proofs.Spans.{halved, leaf_span, inner_span, span_end, root_span}

-- the fold of the first so many leaves
abbrev pub front : {S : Type 0} → S → (S → S → S) → ℕ → List S → ℕ → S
front unit join leaves nodes count = fold join unit (take count (drop leaves nodes))

module _ {S : Type 0} {sums : S → ℕ → Type 0} {unit : S} {join : S → S → S} (laws : SummaryLaws sums unit join) (nodes : List S)
    (leaves depth : ℕ) (tree : IsTree sums unit join leaves nodes) (power : leaves ≡ 2 ^ depth) (few : leaves ≤ LEAVES) where
  -- there are so many leaves
  pub leaves_count : length (drop leaves nodes) ≡ leaves
  leaves_count = omega (arith, length-drop leaves nodes, tree.count)

  -- the leaf of a place
  pub leaf_at : (place : ℕ) → get_or (drop leaves nodes) place unit ≡ node_of unit nodes (leaves + place)
  leaf_at place = get_or-drop leaves nodes place unit

  -- every leaf sums one leaf
  pub leaves_sum : All (λ leaf. sums leaf 1) (drop leaves nodes)
  leaves_sum place d within =
      let here : get_or (drop leaves nodes) place d ≡ node_of unit nodes (leaves + place) =
      get_or_default (drop leaves nodes) place d unit within ∙ leaf_at place in
      subst (λ (x : S). sums x 1) (sym here) (tree.leaf place (omega (arith, leaves_count)))

  -- a node sums the leaves that stand under it
  pub node_sums : (height node first width : ℕ) → IsSpan depth height node first width → sums (node_of unit nodes node) width
  node_sums zero node first width span =
      let leaf = leaf_span depth node first width span in
      let here : node ≡ leaves + first = omega (arith, leaf.node_is) in
      subst (λ (w : ℕ). sums (node_of unit nodes node) w) (sym leaf.one)
      (subst (λ (i : ℕ). sums (node_of unit nodes i) 1) (sym here) (tree.leaf first (omega (arith, leaf.within))))
  node_sums (suc height) node first width span =
      let parts = halved depth height node first width span in
      let inner = inner_span depth height node first width span in
      let ends = span_end depth (suc height) node first width span in
      let left = node_sums height (2 * node) first parts.half parts.left in
      let right = node_sums height (2 * node + 1) (first + parts.half) parts.half parts.right in
      let both : sums (join (node_of unit nodes (2 * node)) (node_of unit nodes (2 * node + 1))) (parts.half + parts.half) =
      laws.sums_join _ _ parts.half parts.half left right (omega (arith, ends.1, parts.twice)) in
      subst (λ (x : S). sums x width) (sym (tree.inner node inner.0 (omega (arith, inner.1))))
      (subst (λ (w : ℕ). sums (join (node_of unit nodes (2 * node)) (node_of unit nodes (2 * node + 1))) w) (sym parts.twice) both)

  -- one leaf more
  pub front_more : (count : ℕ) → count < leaves
      → front unit join leaves nodes (count + 1) ≡ join (front unit join leaves nodes count) (node_of unit nodes (leaves + count))
  front_more count within = fold_more join unit (drop leaves nodes) count unit (omega (arith, leaves_count))
      ∙ ap (join (front unit join leaves nodes count)) (leaf_at count)

  pub front_sums : (count : ℕ) → count ≤ leaves → sums (front unit join leaves nodes count) count
  front_sums zero within = laws.sums_none
  front_sums (suc count) within =
      let next : sums (join (front unit join leaves nodes count) (node_of unit nodes (leaves + count))) (count + 1) =
      laws.sums_join _ _ count 1 (front_sums count (omega arith)) (tree.leaf count (omega arith)) (omega arith) in
      let one : count + 1 ≡ suc count = omega arith in
      let sums_here = subst (λ (x : S). sums x (count + 1)) (sym (front_more count (omega arith))) next in
      subst (λ (k : ℕ). sums (front unit join leaves nodes k) k) one sums_here

  -- the leaves under a node more
  pub front_span : (height node first width : ℕ) → IsSpan depth height node first width
      → front unit join leaves nodes (first + width) ≡ join (front unit join leaves nodes first) (node_of unit nodes node)
  front_span zero node first width span =
      let leaf = leaf_span depth node first width span in
      let here : leaves + first ≡ node = omega (arith, leaf.node_is) in
      ap (λ (w : ℕ). front unit join leaves nodes (first + w)) leaf.one ∙ front_more first (omega (arith, leaf.within))
      ∙ ap (λ (i : ℕ). join (front unit join leaves nodes first) (node_of unit nodes i)) here
  front_span (suc height) node first width span =
      let parts = halved depth height node first width span in
      let inner = inner_span depth height node first width span in
      let ends = span_end depth (suc height) node first width span in
      let left = node_sums height (2 * node) first parts.half parts.left in
      let right = node_sums height (2 * node + 1) (first + parts.half) parts.half parts.right in
      let start = front_sums first (omega (arith, ends.1)) in
      let by_left = front_span height (2 * node) first parts.half parts.left in
      let by_right = front_span height (2 * node + 1) (first + parts.half) parts.half parts.right in
      let split : first + width ≡ first + parts.half + parts.half = omega (arith, parts.twice) in
      let grouped : join (join (front unit join leaves nodes first) (node_of unit nodes (2 * node)))
      (node_of unit nodes (2 * node + 1)) ≡ join (front unit join leaves nodes first)
      (join (node_of unit nodes (2 * node)) (node_of unit nodes (2 * node + 1))) =
      laws.assoc _ _ _ first parts.half parts.half start left right (omega (arith, ends.1, parts.twice)) in
      ap (front unit join leaves nodes) split ∙ by_right ∙ ap (λ (x : S). join x (node_of unit nodes (2 * node + 1))) by_left ∙ grouped
      ∙ ap (join (front unit join leaves nodes first)) (sym (tree.inner node inner.0 (omega (arith, inner.1))))

  -- the root is the fold of all leaves
  pub root_folds : node_of unit nodes 1 ≡ fold join unit (drop leaves nodes)
  root_folds =
      let root = root_span depth in
      let all : 0 + 2 ^ depth ≡ leaves = omega arith in
      let neutral : join unit (node_of unit nodes 1) ≡ node_of unit nodes 1 =
      laws.unit_left _ (2 ^ depth) (node_sums depth 1 0 (2 ^ depth) root) (omega arith) in
      let ends : front unit join leaves nodes leaves ≡ join unit (node_of unit nodes 1) = ap (front unit join leaves nodes) (sym all)
      ∙ front_span depth 1 0 (2 ^ depth) root in
      sym neutral ∙ sym ends ∙ ap (fold join unit) (take_all leaves (drop leaves nodes) (omega (arith, leaves_count)))
