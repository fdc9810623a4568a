-- How a tree is mended after the change of one leaf: at each height only the node above the last written is stale.
use Rattle.std.proofs.Common.{◌≡◌, ◌≢◌, ℕ, zero, suc, ◌+◌, ◌*◌, ◌/◌, ◌^◌, ◌<◌, ◌≤◌, List, length, set, sym, ap, ◌∙◌, subst, arith}
use Rattle.std.proofs.Common.{length-set, get_or-set_other, get_or-set_same}
use Rattle.std.proofs.lemmas.Bool.{cases_eq}
use Rattle.std.proofs.Common.{inl, inr}
use Rattle.terminal_maxima.specs.declared.summary.TheConstants.{LEAVES}
use Rattle.terminal_maxima.specs.Nodes.{IsTree, IsSpan, node_of}
use Rattle.terminal_maxima.specs.Summary.{SummaryLaws, MayJoin}
use Rattle.terminal_maxima.proofs.Spans.{low_node, halved, leaf_span, inner_span, span_end, is_root, leaf_is_span, over_left, over_right}
use Rattle.terminal_maxima.proofs.Folds.{node_sums}

-- the node was written last, at this height. Every node but the one above it is the join of the two below it.
pub record IsMending {S : Type 0} (sums : S → ℕ → Type 0) (unit : S) (join : S → S → S) (leaves depth : ℕ) (nodes : List S)
    (height node : ℕ) : Type 0 where
  pub count : length nodes ≡ 2 * leaves
  pub node_sums : (height node first width : ℕ) → IsSpan depth height node first width → sums (node_of unit nodes node) width
  pub inner : (i : ℕ) → 1 ≤ i → i < leaves → i ≢ node / 2
      → node_of unit nodes i ≡ join (node_of unit nodes (2 * i)) (node_of unit nodes (2 * i + 1))
  pub first : ℕ
  pub width : ℕ
  pub span : IsSpan depth height node first width

-- a node that was written, and one that was not
written : {S : Type 0} (unit : S) (nodes : List S) (i : ℕ) (x : S) → i < length nodes → node_of unit (set nodes i x) i ≡ x
written unit nodes i x within = get_or-set_same nodes i x unit within

kept : {S : Type 0} (unit : S) (nodes : List S) (i j : ℕ) (x : S) → j ≢ i → node_of unit (set nodes i x) j ≡ node_of unit nodes j
kept unit nodes i j x other = get_or-set_other nodes i j x unit other

-- the span of the node above a node that is not the root
pub record IsUnder (depth height node : ℕ) : Type 0 where
  pub first : ℕ
  pub width : ℕ
  pub span : IsSpan depth (suc height) (node / 2) first width

above : (depth height node first width : ℕ) → height < depth → IsSpan depth height node first width → IsUnder depth height node
above depth height node first width low span = elim (cases_eq node (2 * (node / 2))) [
  | inl even ↦
      let here : IsSpan depth height (2 * (node / 2)) first width = subst (λ (i : ℕ). IsSpan depth height i first width) even span in
      record { first = first; width = 2 * width; span = over_left depth height (node / 2) first width some here }
  | inr odd ↦
      let here : IsSpan depth height (2 * (node / 2) + 1) first width = let e : node ≡ 2 * (node / 2) + 1 = omega arith in
      subst (λ (i : ℕ). IsSpan depth height i first width) e span in
      let right = over_right depth height (node / 2) first width some here in
      record { first = right.start; width = 2 * width; span = right.over }
]
  where
    some : 1 ≤ node / 2
    some = low_node depth height node first width low span

module _ {S : Type 0} {sums : S → ℕ → Type 0} {unit : S} {join : S → S → S} (laws : SummaryLaws sums unit join) (leaves depth : ℕ)
    (power : leaves ≡ 2 ^ depth) (few : leaves ≤ LEAVES) (nodes : List S) where
  -- the joins of the two nodes below a node that is no leaf
  abbrev pub children : ℕ → S
  children i = join (node_of unit nodes (2 * i)) (node_of unit nodes (2 * i + 1))

  -- before the first write the tree was right, and now one leaf is new
  pub mending_begins : IsTree sums unit join leaves nodes → (place : ℕ) (leaf : S) → place < leaves → sums leaf 1
      → IsMending sums unit join leaves depth (set nodes (leaves + place) leaf) 0 (leaves + place)
  mending_begins tree place leaf within lawful = record {
    count = length-set nodes (leaves + place) leaf ∙ tree.count;
    node_sums = all_sum;
    inner = λ i some low other.
        let at : node_of unit (set nodes (leaves + place) leaf) i ≡ node_of unit nodes i =
        kept unit nodes (leaves + place) i leaf (λ e. omega arith) in
        let left : node_of unit (set nodes (leaves + place) leaf) (2 * i) ≡ node_of unit nodes (2 * i) =
        kept unit nodes (leaves + place) (2 * i) leaf (λ e. other (omega arith)) in
        let right : node_of unit (set nodes (leaves + place) leaf) (2 * i + 1) ≡ node_of unit nodes (2 * i + 1) =
        kept unit nodes (leaves + place) (2 * i + 1) leaf (λ e. other (omega arith)) in
        at ∙ tree.inner i some low ∙ ap (λ (x : S). join x (node_of unit nodes (2 * i + 1))) (sym left)
        ∙ ap (join (node_of unit (set nodes (leaves + place) leaf) (2 * i))) (sym right);
    first = place;
    width = 1;
    span = let e : 2 ^ depth + place ≡ leaves + place = omega arith in
        subst (λ (i : ℕ). IsSpan depth 0 i place 1) e (leaf_is_span depth place (omega arith));
  }
    where
      all_sum : (height node first width : ℕ) → IsSpan depth height node first width
          → sums (node_of unit (set nodes (leaves + place) leaf) node) width
      all_sum height node first width span =
          elim (cases_eq node (leaves + place)) [
            | inl same ↦ new_leaf height same span
            | inr other ↦ subst (λ (x : S). sums x width)
                (sym (kept unit nodes (leaves + place) node leaf other))
                (node_sums laws nodes leaves depth tree power few height node first width span)
          ]
        where
          new_leaf : (height : ℕ) → node ≡ leaves + place → IsSpan depth height node first width
              → sums (node_of unit (set nodes (leaves + place) leaf) node) width
          new_leaf zero same span =
              let one : width ≡ 1 = (leaf_span depth node first width span).one in
              let there : leaves + place < length nodes = omega (arith, tree.count) in
              let here : node_of unit (set nodes (leaves + place) leaf) node ≡ leaf =
              ap (node_of unit (set nodes (leaves + place) leaf)) same ∙ written unit nodes (leaves + place) leaf there in
              subst (λ (w : ℕ). sums (node_of unit (set nodes (leaves + place) leaf) node) w) (sym one)
              (subst (λ (x : S). sums x 1) (sym here) lawful)
          new_leaf (suc height) same span = absurd (omega (arith, (inner_span depth height node first width span).1))

  module _ (height node : ℕ) (low : height < depth) (state : IsMending sums unit join leaves depth nodes height node) where
    -- the node that is written next
    over : IsUnder depth height node
    over = above depth height node state.first state.width low state.span

    pub over_inner : (1 ≤ node / 2) × (node / 2 < leaves)
    over_inner = let inner = inner_span depth height (node / 2) over.first over.width over.span in (inner.0, omega (arith, inner.1))

    -- its two children sum the leaves under them, so they may be joined
    children_sum : (first width : ℕ) → (height : ℕ) → IsSpan depth (suc height) (node / 2) first width → sums (children (node / 2)) width
    children_sum first width height span =
        let parts = halved depth height (node / 2) first width span in
        let ends = span_end depth (suc height) (node / 2) first width span in
        let left = state.node_sums height (2 * (node / 2)) first parts.half parts.left in
        let right = state.node_sums height (2 * (node / 2) + 1) (first + parts.half) parts.half parts.right in
        subst (λ (w : ℕ). sums (children (node / 2)) w) (sym parts.twice)
        (laws.sums_join _ _ parts.half parts.half left right (omega (arith, ends.1, parts.twice)))

    pub children_may_join : MayJoin sums (node_of unit nodes (2 * (node / 2))) (node_of unit nodes (2 * (node / 2) + 1))
    children_may_join =
        let parts = halved depth height (node / 2) over.first over.width over.span in
        let ends = span_end depth (suc height) (node / 2) over.first over.width over.span in
        record {
          left_leaves = parts.half;
          right_leaves = parts.half;
          left_sums = state.node_sums height (2 * (node / 2)) over.first parts.half parts.left;
          right_sums = state.node_sums height (2 * (node / 2) + 1) (over.first + parts.half) parts.half parts.right;
          within = omega (arith, ends.1, parts.twice);
        }

    pub children_stand : 2 * (node / 2) + 1 < length nodes
    children_stand = omega (arith, state.count, over_inner.1)

    -- the nodes once it is written
    after : List S
    after = set nodes (node / 2) (children (node / 2))

    stays : (i : ℕ) → i ≢ node / 2 → node_of unit after i ≡ node_of unit nodes i
    unfolding after
    stays i other = kept unit nodes (node / 2) i (children (node / 2)) other

    joined : node_of unit after (node / 2) ≡ children (node / 2)
    unfolding after
    joined = written unit nodes (node / 2) (children (node / 2)) (omega (arith, state.count, over_inner.1))

    after_sums : (height node first width : ℕ) → IsSpan depth height node first width → sums (node_of unit after node) width
    after_sums height i first width span =
        elim (cases_eq i (node / 2)) [
          | inl same ↦ here height same span
          | inr other ↦ subst (λ (x : S). sums x width) (sym (stays i other))
              (state.node_sums height i first width span)
        ]
      where
        here : (height : ℕ) → i ≡ node / 2 → IsSpan depth height i first width → sums (node_of unit after i) width
        here zero same span = absurd (omega (arith, (leaf_span depth i first width span).node_is, over_inner.1))
        here (suc height) same span =
            let there : IsSpan depth (suc height) (node / 2) first width =
            subst (λ (k : ℕ). IsSpan depth (suc height) k first width) same span in
            let is : node_of unit after i ≡ children (node / 2) = ap (node_of unit after) same ∙ joined in
            subst (λ (x : S). sums x width) (sym is) (children_sum first width height there)

    children_stay : (i : ℕ) → 2 * i ≢ node / 2 → 2 * i + 1 ≢ node / 2
        → children i ≡ join (node_of unit after (2 * i)) (node_of unit after (2 * i + 1))
    children_stay i left right = ap (λ (x : S). join x (node_of unit nodes (2 * i + 1))) (sym (stays (2 * i) left))
        ∙ ap (join (node_of unit after (2 * i))) (sym (stays (2 * i + 1) right))

    after_inner : (i : ℕ) → 1 ≤ i → i < leaves → i ≢ node / 2 / 2
        → node_of unit after i ≡ join (node_of unit after (2 * i)) (node_of unit after (2 * i + 1))
    after_inner i some low other =
        let stay = children_stay i (λ e. other (omega arith)) (λ e. other (omega arith)) in
        elim (cases_eq i (node / 2)) [
          | inl same ↦ ap (node_of unit after) same ∙ joined ∙ ap children (sym same) ∙ stay
          | inr apart ↦ stays i apart ∙ state.inner i some low apart ∙ stay
        ]

    pub mending_goes_on : IsMending sums unit join leaves depth (set nodes (node / 2) (children (node / 2))) (height + 1) (node / 2)
    unfolding after
    mending_goes_on = record {
      count = length-set nodes (node / 2) (children (node / 2)) ∙ state.count;
      node_sums = after_sums;
      inner = after_inner;
      first = over.first;
      width = over.width;
      span = let e : suc height ≡ height + 1 = omega arith in
          subst (λ (h : ℕ). IsSpan depth h (node / 2) over.first over.width) e over.span;
    }

  -- once the root was written, no node is stale
  pub mending_ends : (node : ℕ) → IsMending sums unit join leaves depth nodes depth node → IsTree sums unit join leaves nodes
  mending_ends node state =
      let root = is_root depth node state.first state.width state.span in
      record {
        count = state.count;
        leaf = λ p within.
            let e : 2 ^ depth + p ≡ leaves + p = omega arith in
            state.node_sums 0 (leaves + p) p 1 (subst (λ (i : ℕ). IsSpan depth 0 i p 1) e (leaf_is_span depth p (omega arith)));
        inner = λ i some low. state.inner i some low (λ e. omega (arith, root.0));
      }
