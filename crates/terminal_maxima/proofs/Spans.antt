-- Which leaves stand under a node, one height at a time.
use Rattle.std.proofs.Common.{◌≡◌, ℕ, zero, suc, ◌+◌, ◌-◌, ◌*◌, ◌/◌, ◌^◌, ◌<◌, ◌≤◌, sym, ap, ◌∙◌, refl, arith}
use Rattle.std.proofs.Math.Nat.{pow-succ'}
use Rattle.std.proofs.Math.Pow.{pow_mono}
use Rattle.std.proofs.lemmas.Nat.{pow-add, pow_pos, mul-le}
use Rattle.terminal_maxima.specs.Nodes.{IsSpan}

-- a node above the leaves, and the halves under its two children
pub record IsHalved (depth height node first width : ℕ) : Type 0 where
  pub half : ℕ
  pub twice : width ≡ half + half
  pub left : IsSpan depth height (2 * node) first half
  pub right : IsSpan depth height (2 * node + 1) (first + half) half

pub halved : (depth height node first width : ℕ) → IsSpan depth (suc height) node first width → IsHalved depth height node first width
halved depth height node first width span =
    let wide : 2 ^ suc height ≡ 2 * 2 ^ height = pow-succ' 2 height in
    let deep : 2 ^ suc span.level ≡ 2 * 2 ^ span.level = pow-succ' 2 span.level in
    let scaled : span.offset * 2 ^ suc height ≡ span.offset * (2 * 2 ^ height) = ap (λ (x : ℕ). span.offset * x) wide in
    record {
      half = 2 ^ height;
      twice = omega (arith, span.width_is);
      left = record {
        level = suc span.level;
        offset = 2 * span.offset;
        depth_is = omega (arith, span.depth_is);
        within = omega (arith, span.within);
        node_is = omega (arith, span.node_is);
        first_is = omega (arith, span.first_is);
        width_is =
            refl;
      };
      right = record {
        level = suc span.level;
        offset = 2 * span.offset + 1;
        depth_is = omega (arith, span.depth_is);
        within = omega (arith, span.within);
        node_is = omega (arith, span.node_is);
        first_is = omega (arith, span.first_is);
        width_is =
            refl;
      };
    }

-- a node at height 0 is a leaf
pub record IsLeaf (depth node first width : ℕ) : Type 0 where
  pub one : width ≡ 1
  pub node_is : node ≡ 2 ^ depth + first
  pub within : first < 2 ^ depth

pub leaf_span : (depth node first width : ℕ) → IsSpan depth 0 node first width → IsLeaf depth node first width
leaf_span depth node first width span =
    let top : 2 ^ span.level ≡ 2 ^ depth = let e : span.level ≡ depth = omega (arith, span.depth_is) in ap (λ (k : ℕ). 2 ^ k) e in
    record { one = span.width_is; node_is = omega (arith, span.node_is, span.first_is); within = omega (arith, span.within, span.first_is) }

-- a node above the leaves is not a leaf
pub inner_span : (depth height node first width : ℕ) → IsSpan depth (suc height) node first width → (1 ≤ node) × (node < 2 ^ depth)
inner_span depth height node first width span =
    let some = pow_pos span.level in
    let deep : 2 ^ suc span.level ≡ 2 * 2 ^ span.level = pow-succ' 2 span.level in
    let deeper : 2 ^ suc span.level ≤ 2 ^ depth = pow_mono (let e : suc span.level ≤ depth = omega (arith, span.depth_is) in e) in
    (omega (arith, span.node_is), omega (arith, span.node_is, span.within))

-- the leaves of a span are leaves of the tree, and it has one at least
pub span_end : (depth height node first width : ℕ) → IsSpan depth height node first width → (1 ≤ width) × (first + width ≤ 2 ^ depth)
span_end depth height node first width span =
    let some = pow_pos height in
    let product : 2 ^ depth ≡ 2 ^ span.level * 2 ^ height = ap (λ (k : ℕ). 2 ^ k) (sym span.depth_is) ∙ pow-add 2 span.level height in
    let fits : (span.offset + 1) * 2 ^ height ≤ 2 ^ span.level * 2 ^ height =
    mul-le (span.offset + 1) (2 ^ height) (2 ^ span.level) (2 ^ height) (omega (arith, span.within)) (omega arith) in
    (omega (arith, span.width_is), omega (arith, span.width_is, span.first_is))

-- the root stands above all leaves
pub root_span : (depth : ℕ) → IsSpan depth depth 1 0 (2 ^ depth)
root_span depth = record {
  level = 0;
  offset = 0;
  depth_is = omega arith;
  within = omega arith;
  node_is = refl;
  first_is = omega arith;
  width_is = refl;
}

-- a leaf stands above itself
pub leaf_is_span : (depth place : ℕ) → place < 2 ^ depth → IsSpan depth 0 (2 ^ depth + place) place 1
leaf_is_span depth place within =
    record {
      level = depth;
      offset = place;
      depth_is = omega arith;
      within = within;
      node_is = refl;
      first_is = omega arith;
      width_is = refl;
    }

-- only the root is as high as the tree
pub is_root : (depth node first width : ℕ) → IsSpan depth depth node first width → (node ≡ 1) × (first ≡ 0) × (width ≡ 2 ^ depth)
is_root depth node first width span =
    let top : 2 ^ span.level ≡ 1 = let e : span.level ≡ 0 = omega (arith, span.depth_is) in ap (λ (k : ℕ). 2 ^ k) e in
    let none : span.offset ≡ 0 = omega (arith, span.within) in
    let start : span.offset * 2 ^ depth ≡ 0 * 2 ^ depth = ap (λ (k : ℕ). k * 2 ^ depth) none in
    (omega (arith, span.node_is), omega (arith, span.first_is), span.width_is)

-- every node that is lower than the root stands under another
pub low_node : (depth height node first width : ℕ) → height < depth → IsSpan depth height node first width → 1 ≤ node / 2
low_node depth height node first width low span =
    let two : 2 ^ 1 ≤ 2 ^ span.level = pow_mono (let e : 1 ≤ span.level = omega (arith, span.depth_is) in e) in
    let twice : 2 ≤ node = omega (arith, two, span.node_is) in
    omega arith

-- a product with one factor twice as large
twice_product : (k w v : ℕ) → v ≡ 2 * w → 2 * k * w ≡ k * v
twice_product k w v twice = let moved : 2 * k * w ≡ k * (2 * w) = omega arith in moved ∙ ap (λ (x : ℕ). k * x) (sym twice)

-- the node above a left node
pub over_left : (depth height parent first width : ℕ) → 1 ≤ parent → IsSpan depth height (2 * parent) first width
    → IsSpan depth (suc height) parent first (2 * width)
over_left depth height parent first width some span =
    by_level span.level span.offset span.depth_is span.within span.node_is span.first_is span.width_is
  where
    by_level : (level offset : ℕ) → level + height ≡ depth → offset < 2 ^ level → 2 * parent ≡ 2 ^ level + offset
        → first ≡ offset * 2 ^ height → width ≡ 2 ^ height → IsSpan depth (suc height) parent first (2 * width)
    by_level zero offset depth_is within node_is first_is width_is = absurd (omega arith)
    by_level (suc level) offset depth_is within node_is first_is width_is =
        let deep : 2 ^ suc level ≡ 2 * 2 ^ level = pow-succ' 2 level in
        let wide : 2 ^ suc height ≡ 2 * 2 ^ height = pow-succ' 2 height in
        let even : offset ≡ 2 * (parent - 2 ^ level) = omega arith in
        let moved : offset * 2 ^ height ≡ 2 * (parent - 2 ^ level) * 2 ^ height = ap (λ (x : ℕ). x * 2 ^ height) even in
        record {
          level = level;
          offset = parent - 2 ^ level;
          depth_is = omega arith;
          within = omega arith;
          node_is = omega arith;
          first_is = first_is ∙ moved ∙ twice_product (parent - 2 ^ level) (2 ^ height) (2 ^ suc height) wide;
          width_is = omega arith;
        }

-- the left node beside a right one, and the node above both
pub record IsRight (depth height parent first width : ℕ) : Type 0 where
  pub start : ℕ
  pub start_is : first ≡ start + width
  pub left : IsSpan depth height (2 * parent) start width
  pub over : IsSpan depth (suc height) parent start (2 * width)

pub over_right : (depth height parent first width : ℕ) → 1 ≤ parent → IsSpan depth height (2 * parent + 1) first width
    → IsRight depth height parent first width
over_right depth height parent first width some span = by_offset span.offset span.within span.node_is span.first_is
  where
    by_offset : (offset : ℕ) → offset < 2 ^ span.level → 2 * parent + 1 ≡ 2 ^ span.level + offset → first ≡ offset * 2 ^ height
        → IsRight depth height parent first width
    by_offset zero within node_is first_is = absurd (odd_power span.level node_is)
      where
        odd_power : (level : ℕ) → 2 * parent + 1 ≡ 2 ^ level + 0 → ⊥
        odd_power zero e = omega arith
        odd_power (suc level) e = let deep : 2 ^ suc level ≡ 2 * 2 ^ level = pow-succ' 2 level in omega arith
    by_offset (suc offset) within node_is first_is =
        let left : IsSpan depth height (2 * parent) (offset * 2 ^ height) width =
        record {
          level = span.level;
          offset = offset;
          depth_is = span.depth_is;
          within = omega arith;
          node_is = omega arith;
          first_is = refl;
          width_is = span.width_is;
        } in
        let more : suc offset * 2 ^ height ≡ offset * 2 ^ height + 2 ^ height = omega arith in
        record {
          start = offset * 2 ^ height;
          start_is = omega (arith, span.width_is);
          left = left;
          over = over_left depth height parent (offset * 2 ^ height) width some left;
        }

-- the right node beside a left one
pub beside_left : (depth height parent first width : ℕ) → 1 ≤ parent → IsSpan depth height (2 * parent) first width
    → IsSpan depth height (2 * parent + 1) (first + width) width
beside_left depth height parent first width some span = by_level span.level span.offset span.depth_is span.within span.node_is span.first_is
  where
    by_level : (level offset : ℕ) → level + height ≡ depth → offset < 2 ^ level → 2 * parent ≡ 2 ^ level + offset
        → first ≡ offset * 2 ^ height → IsSpan depth height (2 * parent + 1) (first + width) width
    by_level zero offset depth_is within node_is first_is = absurd (omega arith)
    by_level (suc level) offset depth_is within node_is first_is =
        let deep : 2 ^ suc level ≡ 2 * 2 ^ level = pow-succ' 2 level in
        record {
          level = suc level;
          offset = offset + 1;
          depth_is = depth_is;
          within = omega arith;
          node_is = omega arith;
          first_is = omega (arith, span.width_is);
          width_is = span.width_is;
        }
