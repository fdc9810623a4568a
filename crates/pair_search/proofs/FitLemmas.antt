-- What a row weighs with the columns at one post.
use Rattle.std.proofs.Common.{◌≡◌, ℕ, ◌+◌, ◌-◌, ◌<◌, ◌≤◌, nat_le, Bool, true, false, not, ◌&&◌, ◌||◌, cond, List, [], ◌∷◌, length}
use Rattle.std.proofs.Common.{take, drop, get_or}
use Rattle.std.proofs.Common.{Option, None, Some, refl, sym, ap, ◌∙◌, arith}
use Rattle.std.specs.Prelude.{is_some}
use Rattle.std.specs.Option.{option_map}
use Rattle.std.specs.Str.{bytes_eq}
use Rattle.std.proofs.lemmas.Bool.{both_ways, le-leb, lt-leb, or_parts}
use Rattle.std.proofs.lemmas.List.{get_or-drop, get_or-take, length-drop, length-take}
use Rattle.std.proofs.lemmas.Option.{none-some, same_Some}
use Rattle.trip_model.specs.Links.{leads_to}
use Rattle.trip_model.specs.Plain.{move_at, AreMoves, IsMove}
use Rattle.trip_model.specs.declared.trip.Move.{Move}
use Rattle.deadhead_matrix.specs.Matrix.{walk}
use Rattle.deadhead_matrix.specs.Fitting.{empty_between}
use Rattle.assignment_model.specs.Prices.{weight}
use Rattle.deadhead_matrix.specs.Pulls.{pull_at}
use Rattle.deadhead_matrix.specs.Fitting.{name_at}
use Rattle.deadhead_matrix.proofs.Ruled.{unfit-weight, forbidden-weight}
use Rattle.pair_rules.specs.declared.kind.RuleKind.{RuleKind}
use Rattle.pair_rules.specs.declared.kind.RuleKind.TheVariants.{Keep, Never}
use Rattle.pair_rules.specs.Rules.{PairRule, allows, is_allowed, is_keep, keeps_first, keeps_second}
use Rattle.pair_rules.proofs.Allowed.{allows-unnamed_first, allows-unnamed_second}
use Rattle.pair_graph.specs.Pairs.{PairsView, is_kept, is_ruled, pairs_network, pairs_pull, walks_network}
use Rattle.pair_graph.specs.Shares.{saved_along}
use Rattle.pair_search.specs.declared.line.Reach.{Reach}
use Rattle.pair_search.specs.Order.{column_minute, column_post, no_column, IsOrder}
use Rattle.pair_search.specs.declared.order.Column.{Column}
use Rattle.pair_search.specs.Groups.{group_at, AreGroups}
use Rattle.pair_search.specs.declared.groups.Group.{Group}
use Rattle.pair_search.specs.Side.{SideView, LineView, side_slots, side_slot, line_weight, pairs_minute, pairs_post, post_pull}
use Rattle.pair_search.specs.Side.{reach_weight, IsFirstFit, IsFree, IsReachOf}
use Rattle.pair_search.proofs.GroupLemmas.{to-latest}
use Rattle.pair_search.proofs.SideLemmas.{all_weights, masked}

-- the column of a trip that runs and is not left out stands at a post
record IsStanding (pairs : PairsView) (turned : Bool) (without : Option ℕ) (slot p : ℕ) : Type 0 where
  pub made : Move
  pub is : move_at pairs.moves slot ≡ Some made
  pub loose : is_kept pairs turned slot ≡ false
  pub kept : leads_to slot without ≡ false
  pub here : cond turned made.to made.from ≡ p

standing : (pairs : PairsView) (turned : Bool) (without : Option ℕ) (slot p : ℕ) → pairs_post pairs turned without slot ≡ Some p
    → IsStanding pairs turned without slot p
standing pairs turned without slot p e = by (move_at pairs.moves slot) refl e
  where
    left : (m : Move) → move_at pairs.moves slot ≡ Some m → (s t : Bool) → is_kept pairs turned slot ≡ s → leads_to slot without ≡ t
        → cond s None (cond t None (Some (cond turned m.to m.from))) ≡ Some p → IsStanding pairs turned without slot p
    left m is false false loose kept e =
        record { made = m; is = is; loose = loose; kept = kept; here = same_Some (cond turned m.to m.from) p e }
    left m is false true loose kept e = absurd (none-some p e)
    left m is true t loose kept e = absurd (none-some p e)

    by : (o : Option Move) → move_at pairs.moves slot ≡ o → column_post turned without (is_kept pairs turned slot) slot o ≡ Some p
        → IsStanding pairs turned without slot p
    by None is e = absurd (none-some p e)
    by (Some m) is e = left m is (is_kept pairs turned slot) (leads_to slot without) refl refl e

-- nothing fits a trip that does not run
pub idle-walks : (pairs : PairsView) (i j : ℕ) → move_at pairs.moves i ≡ None
    → (weight (walks_network pairs) i j ≡ None) × (weight (walks_network pairs) j i ≡ None)
idle-walks pairs i j none = (
  ap (λ o. weighed (empty_between (walk pairs.matrix) o (move_at pairs.moves j))) none,
  by (move_at pairs.moves j)
      refl,
)
  where
    weighed : Option ℕ → Option ℕ
    weighed o = option_map (λ minutes. 67108864 + (walks_network pairs).home i + (walks_network pairs).out j - minutes) o

    weighed-back : Option ℕ → Option ℕ
    weighed-back o = option_map (λ minutes. 67108864 + (walks_network pairs).home j + (walks_network pairs).out i - minutes) o

    by : (o : Option Move) → move_at pairs.moves j ≡ o → weight (walks_network pairs) j i ≡ None
    by None e = ap (λ m. weighed-back (empty_between (walk pairs.matrix) m (move_at pairs.moves i))) e
    by (Some m) e = ap (λ o. weighed-back (empty_between (walk pairs.matrix) o (move_at pairs.moves i))) e
        ∙ ap (λ o. weighed-back (empty_between (walk pairs.matrix) (Some m) o)) none

pub idle : (pairs : PairsView) (i j : ℕ) → move_at pairs.moves i ≡ None
    → (weight (pairs_network pairs) i j ≡ None) × (weight (pairs_network pairs) j i ≡ None)
idle pairs i j none = (
  unfit-weight pairs.matrix.rules pairs.names (walks_network pairs) i j (idle-walks pairs i j none).0,
  unfit-weight pairs.matrix.rules pairs.names (walks_network pairs) j i (idle-walks pairs i j none).1,
)

-- a row that no rule names fits no trip that a keep has there
free-kept : (pairs : PairsView) (turned : Bool) (row slot : ℕ) → is_ruled pairs turned row ≡ false → is_kept pairs turned slot ≡ true
    → all_weights pairs turned row slot ≡ None
free-kept pairs true row slot free kept =
    forbidden-weight pairs.matrix.rules pairs.names (walks_network pairs) slot row
    (allows-unnamed_second pairs.matrix.rules (name_at pairs.names slot) (name_at pairs.names row) free ∙ ap not kept)
free-kept pairs false row slot free kept =
    forbidden-weight pairs.matrix.rules pairs.names (walks_network pairs) row slot
    (allows-unnamed_first pairs.matrix.rules (name_at pairs.names row) (name_at pairs.names slot) free ∙ ap not kept)

-- a trip that a keep has as its first comes before no trip that no keep has as its second, and the other way round
first-apart : (rules : List PairRule) (a b : List ℕ) → keeps_first rules a ≡ true → keeps_second rules b ≡ false → allows rules a b ≡ false
first-apart [] a b first second = absurd (both_ways false refl first)
first-apart (rule ∷ rules) a b first second =
    let parts = or_parts (is_keep rule.kind && bytes_eq b rule.after) (keeps_second rules b) second in
    by rule.kind (bytes_eq a rule.before) (bytes_eq b rule.after) first parts.0
    (λ later. first-apart rules a b later parts.1)
  where
    by : (kind : RuleKind) (p q : Bool) → (is_keep kind && p) || keeps_first rules a ≡ true → is_keep kind && q ≡ false
        → (keeps_first rules a ≡ true → allows rules a b ≡ false) → is_allowed kind p q && allows rules a b ≡ false
    by Keep true true first unkept rest = absurd (both_ways true unkept refl)
    by Keep true false first unkept rest = refl
    by Keep false true first unkept rest = absurd (both_ways true unkept refl)
    by Keep false false first unkept rest = rest first
    by Never true true first unkept rest = refl
    by Never true false first unkept rest = rest first
    by Never false true first unkept rest = rest first
    by Never false false first unkept rest = rest first

second-apart : (rules : List PairRule) (a b : List ℕ) → keeps_second rules b ≡ true → keeps_first rules a ≡ false → allows rules a b ≡ false
second-apart [] a b second first = absurd (both_ways false refl second)
second-apart (rule ∷ rules) a b second first =
    let parts = or_parts (is_keep rule.kind && bytes_eq a rule.before) (keeps_first rules a) first in
    by rule.kind (bytes_eq a rule.before) (bytes_eq b rule.after) second parts.0
    (λ later. second-apart rules a b later parts.1)
  where
    by : (kind : RuleKind) (p q : Bool) → (is_keep kind && q) || keeps_second rules b ≡ true → is_keep kind && p ≡ false
        → (keeps_second rules b ≡ true → allows rules a b ≡ false) → is_allowed kind p q && allows rules a b ≡ false
    by Keep true q second unkept rest = absurd (both_ways true unkept refl)
    by Keep false true second unkept rest = refl
    by Keep false false second unkept rest = rest second
    by Never true true second unkept rest = refl
    by Never true false second unkept rest = rest second
    by Never false q second unkept rest = rest second

-- a row that a keep has fits no trip that none has there
keeping-loose : (pairs : PairsView) (turned : Bool) (row slot : ℕ) → is_kept pairs (not turned) row ≡ true
    → is_kept pairs turned slot ≡ false → all_weights pairs turned row slot ≡ None
keeping-loose pairs true row slot keeping loose =
    forbidden-weight pairs.matrix.rules pairs.names (walks_network pairs) slot row
    (second-apart pairs.matrix.rules (name_at pairs.names slot) (name_at pairs.names row) keeping loose)
keeping-loose pairs false row slot keeping loose =
    forbidden-weight pairs.matrix.rules pairs.names (walks_network pairs) row slot
    (first-apart pairs.matrix.rules (name_at pairs.names row) (name_at pairs.names slot) keeping loose)

-- the columns of a side are in order and in groups, and moves are of one day
pub record IsArranged (side : SideView) : Type 0 where
  pub order : IsOrder (side_slots side) (pairs_minute side.pairs side.turned) (pairs_post side.pairs side.turned side.without) side.columns
      side.places
  pub groups : AreGroups (side_slots side) side.columns side.count side.groups
  pub moves : AreMoves (length side.pairs.matrix.walks) side.pairs.moves

module _ (line : LineView) (arranged : IsArranged line.side) where
  abbrev column : ℕ → Column
  column k = get_or line.side.columns k (no_column (side_slots line.side))

  at-post : (k p : ℕ) → k < side_slots line.side → (column k).post ≡ Some p
      → IsStanding line.side.pairs line.side.turned line.side.without (side_slot line.side k) p
  at-post k p lt e = standing line.side.pairs line.side.turned line.side.without (side_slot line.side k) p
      (sym (arranged.order.posts k lt) ∙ e)

  -- where the column stands
  pub post-within : (k p : ℕ) → k < side_slots line.side → (column k).post ≡ Some p → p < length line.side.pairs.matrix.walks
  post-within k p lt e =
      let s = at-post k p lt e in
      let move = arranged.moves.each (side_slot line.side k) s.made s.is in
      by s.made move line.side.turned s.here
    where
      by : (m : Move) → IsMove (length line.side.pairs.matrix.walks) m → (t : Bool) → cond t m.to m.from ≡ p
          → p < length line.side.pairs.matrix.walks
      by m move true e = omega (arith, e, move.to)
      by m move false e = omega (arith, e, move.from)

  -- a column that stands nowhere fits none
  pub nowhere : (k : ℕ) → IsFree line → k < side_slots line.side → (column k).post ≡ None → line_weight line k ≡ None
  nowhere k free lt e = by (move_at line.side.pairs.moves (side_slot line.side k)) refl (sym (arranged.order.posts k lt) ∙ e)
    where
      left : (m : Move) → (s t : Bool) → is_kept line.side.pairs line.side.turned (side_slot line.side k) ≡ s
          → leads_to (side_slot line.side k) line.side.without ≡ t
          → cond s None (cond t None (Some (cond line.side.turned m.to m.from))) ≡ None → line_weight line k ≡ None
      left m s true kept out e = masked line.side line.row (side_slot line.side k) true out
      left m true false kept out e = masked line.side line.row (side_slot line.side k) false out
          ∙ free-kept line.side.pairs line.side.turned line.row (side_slot line.side k) free kept
      left m false false kept out e = absurd (none-some _ (sym e))

      off : (t : Bool) → move_at line.side.pairs.moves (side_slot line.side k) ≡ None
          → all_weights line.side.pairs t line.row (side_slot line.side k) ≡ None
      off true none = (idle line.side.pairs (side_slot line.side k) line.row none).0
      off false none = (idle line.side.pairs (side_slot line.side k) line.row none).1

      unmade : (t : Bool) → leads_to (side_slot line.side k) line.side.without ≡ t
          → move_at line.side.pairs.moves (side_slot line.side k) ≡ None → line_weight line k ≡ None
      unmade true out none = masked line.side line.row (side_slot line.side k) true out
      unmade false out none = masked line.side line.row (side_slot line.side k) false out ∙ off line.side.turned none

      by : (o : Option Move) → move_at line.side.pairs.moves (side_slot line.side k) ≡ o
          → column_post line.side.turned line.side.without (is_kept line.side.pairs line.side.turned (side_slot line.side k))
          (side_slot line.side k) o ≡ None → line_weight line k ≡ None
      by None is e = unmade (leads_to (side_slot line.side k) line.side.without) refl is
      by (Some m) is e = left m (is_kept line.side.pairs line.side.turned (side_slot line.side k))
          (leads_to (side_slot line.side k) line.side.without) refl refl e

  -- the weights of the columns at a post
  abbrev pub AreSaved : ℕ → Option ℕ → Type 0
  AreSaved p result = (k : ℕ) → IsFree line → k < side_slots line.side → (column k).post ≡ Some p
      → line_weight line k ≡ saved_along line.share (pairs_pull line.side.pairs line.side.turned p) result (column k).minute

  pub saved-leaving : (p : ℕ) (result : Option ℕ) → line.side.turned ≡ false
      → ((j : ℕ) (m : Move) → is_ruled line.side.pairs false line.row ≡ false → is_kept line.side.pairs false j ≡ false
      → move_at line.side.pairs.moves j ≡ Some m → m.from ≡ p
      → weight (pairs_network line.side.pairs) line.row j
      ≡ saved_along line.share (pull_at line.side.pairs.matrix.pulls p).pull_out result m.leaves)
      → AreSaved p result
  saved-leaving p result leaving weighs k free lt e =
      let s = at-post k p lt e in
      let slot = side_slot line.side k in
      let minute : (column k).minute ≡ s.made.leaves = arranged.order.minutes k lt ∙ ap (column_minute line.side.turned) s.is
      ∙ ap (λ t. column_minute t (Some s.made)) leaving in
      masked line.side line.row slot false s.kept
      ∙ ap (λ t. all_weights line.side.pairs t line.row slot) leaving
      ∙ weighs slot s.made (ap (λ t. is_ruled line.side.pairs t line.row) (sym leaving) ∙ free)
      (ap (λ t. is_kept line.side.pairs t slot) (sym leaving) ∙ s.loose) s.is
      (sym (ap (λ t. cond t s.made.to s.made.from) leaving) ∙ s.here)
      ∙ ap (λ t. saved_along line.share (pairs_pull line.side.pairs t p) result s.made.leaves) (sym leaving)
      ∙ ap (saved_along line.share (pairs_pull line.side.pairs line.side.turned p) result) (sym minute)

  pub saved-entering : (p : ℕ) (result : Option ℕ) → line.side.turned ≡ true
      → ((i : ℕ) (m : Move) → is_ruled line.side.pairs true line.row ≡ false → is_kept line.side.pairs true i ≡ false
      → move_at line.side.pairs.moves i ≡ Some m → m.to ≡ p → m.arrives ≤ 8191
      → weight (pairs_network line.side.pairs) i line.row
      ≡ saved_along line.share (pull_at line.side.pairs.matrix.pulls p).pull_in result (8191 - m.arrives))
      → AreSaved p result
  saved-entering p result entering weighs k free lt e =
      let s = at-post k p lt e in
      let slot = side_slot line.side k in
      let minute : (column k).minute ≡ 8191 - s.made.arrives = arranged.order.minutes k lt ∙ ap (column_minute line.side.turned) s.is
      ∙ ap (λ t. column_minute t (Some s.made)) entering in
      masked line.side line.row slot false s.kept
      ∙ ap (λ t. all_weights line.side.pairs t line.row slot) entering
      ∙ weighs slot s.made (ap (λ t. is_ruled line.side.pairs t line.row) (sym entering) ∙ free)
      (ap (λ t. is_kept line.side.pairs t slot) (sym entering) ∙ s.loose) s.is
      (sym (ap (λ t. cond t s.made.to s.made.from) entering) ∙ s.here)
      (arranged.moves.each slot s.made s.is).in_day
      ∙ ap (λ t. saved_along line.share (pairs_pull line.side.pairs t p) result (8191 - s.made.arrives)) (sym entering)
      ∙ ap (saved_along line.share (pairs_pull line.side.pairs line.side.turned p) result) (sym minute)

  pub saved-idle : (p : ℕ) → (pairs_network line.side.pairs).live line.row ≡ false → AreSaved p None
  saved-idle p dead k free lt e =
      let s = at-post k p lt e in
      masked line.side line.row (side_slot line.side k) false s.kept ∙ by line.side.turned
    where
      true-false : true ≡ false → ⊥
      true-false e = both_ways true e refl

      none : (o : Option Move) → move_at line.side.pairs.moves line.row ≡ o → is_some o ≡ false
          → move_at line.side.pairs.moves line.row ≡ None
      none None is e = is
      none (Some m) is e = absurd (true-false e)

      by : (t : Bool) → all_weights line.side.pairs t line.row (side_slot line.side k) ≡ None
      by true = (idle line.side.pairs line.row (side_slot line.side k) (none (move_at line.side.pairs.moves line.row) refl dead)).1
      by false = (idle line.side.pairs line.row (side_slot line.side k) (none (move_at line.side.pairs.moves line.row) refl dead)).0

  -- a group of columns at one post
  module _ (g : ℕ) (inside : g < line.side.count) where
    in-group : (k : ℕ) → k < (group_at line.side.groups g).to → k < side_slots line.side
    in-group k lt = omega (arith, lt, arranged.groups.within g inside)

    stand : (k : ℕ) → (group_at line.side.groups g).from ≤ k → k < (group_at line.side.groups g).to
        → (column k).post ≡ (group_at line.side.groups g).post
    stand k after before = arranged.groups.posts g k (no_column (side_slots line.side)) inside after before

    pub post-there : (p : ℕ) → (group_at line.side.groups g).post ≡ Some p → p < length line.side.pairs.matrix.walks
    post-there p e =
        let begin = (group_at line.side.groups g).from in
        post-within begin p (in-group begin (arranged.groups.after g inside))
        (stand begin (omega arith) (arranged.groups.after g inside) ∙ e)

    -- for a row that a keep has
    pub keeping-apart : (p : ℕ) → (group_at line.side.groups g).post ≡ Some p
        → is_kept line.side.pairs (not line.side.turned) line.row ≡ true
        → (k : ℕ) → (group_at line.side.groups g).from ≤ k → k < (group_at line.side.groups g).to → line_weight line k ≡ None
    keeping-apart p here keeping k after before =
        let s = at-post k p (in-group k before) (stand k after before ∙ here) in
        masked line.side line.row (side_slot line.side k) false s.kept
        ∙ keeping-loose line.side.pairs line.side.turned line.row (side_slot line.side k) keeping s.loose

    -- for a row that no rule names
    module _ (free : IsFree line) where
      pub IsReachOf-nowhere : (group_at line.side.groups g).post ≡ None → IsReachOf line (group_at line.side.groups g) None
      IsReachOf-nowhere e = record { weights = λ k after before. nowhere k free (in-group k before) (stand k after before ∙ e); walk = tt }

      -- by a walk to the post of the group
      module _ (p : ℕ) (here : (group_at line.side.groups g).post ≡ Some p) where
        saved : (walk : Option ℕ) → AreSaved p walk → (k : ℕ) → (group_at line.side.groups g).from ≤ k
            → k < (group_at line.side.groups g).to
            → line_weight line k ≡ saved_along line.share (post_pull line.side (group_at line.side.groups g).post) walk (column k).minute
        saved walk weighs k after before = weighs k free (in-group k before) (stand k after before ∙ here)
            ∙ ap (λ o. saved_along line.share (post_pull line.side o) walk (column k).minute) (sym here)

        pub IsReachOf-apart : AreSaved p None → IsReachOf line (group_at line.side.groups g) None
        IsReachOf-apart weighs = record { weights = saved None weighs; walk = tt }

        pub IsReachOf-late : (walk : ℕ) → AreSaved p (Some walk) → (group_at line.side.groups g).latest < line.share.ready + walk
            → IsReachOf line (group_at line.side.groups g) None
        IsReachOf-late walk weighs late = record {
          weights = λ k after before. saved (Some walk) weighs k after before
              ∙ ap (λ b. cond b (Some (line.share.saved + post_pull line.side (group_at line.side.groups g).post - walk)) None)
              (lt-leb (line.share.ready + walk) (column k).minute (omega (
                arith,
                late,
                to-latest (side_slots line.side) line.side.columns line.side.count line.side.groups arranged.groups g k
                    (no_column (side_slots line.side)) inside after before,
              )));
          walk = tt;
        }

        pub IsReachOf-found : (r : Reach) → AreSaved p (Some r.walk) → r.minute ≡ line.share.ready + r.walk → r.walk ≤ 735840
            → IsReachOf line (group_at line.side.groups g) (Some r)
        IsReachOf-found r weighs is bound = record {
          weights = λ k after before. saved (Some r.walk) weighs k after before
              ∙ ap (λ m. cond (nat_le m (column k).minute) (Some (reach_weight line (group_at line.side.groups g).post r)) None) (sym is);
          walk = bound;
        }

-- the first column of a group that a row fits is the first that needs it no sooner than it is ready
pub IsFirstFit-found : (line : LineView) (group : Group) (r : Reach) (upto first : ℕ) → IsReachOf line group (Some r) → upto ≤ group.to
    → first ≤ upto → (first < upto → group.from ≤ first)
    → ((k : ℕ) (d : Column) → group.from ≤ k → k < first → (get_or line.side.columns k d).minute < r.minute)
    → ((k : ℕ) (d : Column) → group.from ≤ k → first ≤ k → k < upto → r.minute ≤ (get_or line.side.columns k d).minute)
    → IsFirstFit line group r upto first
IsFirstFit-found line group r upto first reach within le after before later = record {
  within = le;
  after = after;
  sooner = before;
  fits = λ k from past lt. reach.weights k from (omega (arith, lt, within))
      ∙ ap (λ b. cond b (Some (reach_weight line group.post r)) None) (le-leb r.minute (minute k) (later k none from past lt));
}
  where
    none : Column
    none = no_column (side_slots line.side)

    minute : ℕ → ℕ
    minute k = (get_or line.side.columns k none).minute

-- a row does not fit a column that needs it sooner than it is ready
pub too-soon : (line : LineView) (group : Group) (r : Reach) → IsReachOf line group (Some r) → (k : ℕ) → group.from ≤ k → k < group.to
    → ((d : Column) → (get_or line.side.columns k d).minute < r.minute) → line_weight line k ≡ None
too-soon line group r reach k from to soon = reach.weights k from to
    ∙ ap (λ b. cond b (Some (reach_weight line group.post r)) None)
    (lt-leb r.minute (get_or line.side.columns k (no_column (side_slots line.side))).minute (soon (no_column (side_slots line.side))))

-- the columns of a group weigh the same with a row, where they fit it
pub weighs-same : (line : LineView) (group : Group) (r : Reach) → IsReachOf line group (Some r) → (j k : ℕ) → group.from ≤ j → j < group.to
    → line_weight line j ≡ Some k → k ≡ reach_weight line group.post r
weighs-same line group r reach j k from to fit =
    by (nat_le r.minute (get_or line.side.columns j (no_column (side_slots line.side))).minute) (sym fit ∙ reach.weights j from to)
  where
    by : (b : Bool) → Some k ≡ cond b (Some (reach_weight line group.post r)) None → k ≡ reach_weight line group.post r
    by true e = same_Some k (reach_weight line group.post r) e
    by false e = absurd (none-some k (sym e))

-- the columns of a list between two places
abbrev pub piece : List Column → ℕ → ℕ → List Column
piece columns from to = take (to - from) (drop from columns)

piece-at : (columns : List Column) (from to k : ℕ) (d : Column) → from ≤ k → k < to
    → get_or (piece columns from to) (k - from) d ≡ get_or columns k d
piece-at columns from to k d after before =
    get_or-take (to - from) (drop from columns) (k - from) d (omega (arith, after, before)) ∙ get_or-drop from columns (k - from) d
    ∙ ap (λ m. get_or columns m d) (omega (arith, after))

pub length-piece : (columns : List Column) (from to : ℕ) → to ≤ length columns → length (piece columns from to) ≡ to - from
length-piece columns from to within = omega (arith, length-take (to - from) (drop from columns), length-drop from columns, within)

-- how early the columns between two places are
pub early-piece : (columns : List Column) (from to early minute : ℕ) → from + early ≤ to
    → ((k : ℕ) (d : Column) → k < early → (get_or (piece columns from to) k d).minute < minute) → (k : ℕ) (d : Column) → from ≤ k
    → k < from + early → (get_or columns k d).minute < minute
early-piece columns from to early minute within before k d after lt =
    omega (
      arith,
      ap (λ (x : Column). x.minute) (piece-at columns from to k d after (omega (arith, lt, within))),
      before (k - from) d
          (omega (arith, after, lt)),
    )

pub late-piece : (columns : List Column) (from to early minute : ℕ) → to ≤ length columns
    → ((k : ℕ) (d : Column) → early ≤ k → k < length (piece columns from to) → minute ≤ (get_or (piece columns from to) k d).minute)
    → (k : ℕ) (d : Column) → from + early ≤ k → k < to
    → minute ≤ (get_or columns k d).minute
late-piece columns from to early minute all after k d le lt =
    omega (
      arith,
      ap (λ (x : Column). x.minute) (piece-at columns from to k d (omega (arith, le)) lt),
      after (k - from) d (omega (arith, le)) (omega (arith, length-piece columns from to all, le, lt)),
    )
