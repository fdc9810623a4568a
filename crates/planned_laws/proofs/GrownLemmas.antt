-- What the tree of a search is as it grows by computed steps, and where its search ends.
use Rattle.std.proofs.Common.{◌≡◌, ℕ, zero, suc, ◌+◌, ◌<◌, ◌≤◌, min, nat_lt, Bool, true, false, List, length, set, replicate}
use Rattle.std.proofs.Common.{Option, None, Some, if◌then◌else◌, refl, sym, ap, subst, ◌∙◌, ⊎_elim, ◌⊎◌, inl, inr, arith}
use Rattle.std.proofs.lemmas.Bool.{cases_lt, lt-ltb, le-ltb}
use Rattle.std.proofs.lemmas.List.{get_or-set_same, get_or-replicate, length-set, length-replicate}
use Rattle.assignment_model.specs.Prices.{Plan, price}
use Rattle.trip_model.specs.Links.{next_of, before_of}
use Rattle.pair_search.specs.Determined.{Front, first_nearest, nearness, grown, opened, first_front}
use Rattle.pair_search.specs.Fronts.{IsShown, IsOnWay}
use Rattle.pair_search.specs.Search.{at, as_columns, AreLooked, Problem, problem, IsGiven, TreeView, IsTree, IsNext}
use Rattle.pair_search.specs.Search.{IsBest, HasEnded}
use Rattle.pair_search.specs.declared.grow.End.{End}
use Rattle.pair_search.specs.declared.limits.TheConstants.{GREATEST_PRICE, FAR}
use Rattle.pair_search.proofs.FoundLemmas.{last_front}
use Rattle.pair_search.proofs.FrontLemmas.{IsOnWay-first, IsShown-none, IsShown-column}
use Rattle.pair_search.proofs.ShownLemmas.{IsShown-begun, IsOnWay-come}
use Rattle.pair_search.proofs.TreeLemmas.{tree_with, IsVisit, tree-room, IsTree-visit, IsTree-begun, IsBest-first, IsBest-more}
use Rattle.pair_search.proofs.TreeLemmas.{HasEnded-row, HasEnded-column}
use Rattle.planned_laws.proofs.StepLemmas.{pick-is, nearer_dist, nearer_parent, dist-long, parent-long, AreLooked-computed}

-- A tree has grown until its search ended, and it shows the front where that is.
pub record HasGrown (p : Problem) (whole : Front) : Type 0 where
  pub s : TreeView
  pub end : End
  pub tree : IsTree p s
  pub ended : HasEnded p s end
  pub shown : IsShown s.dist s.parent s.done s.rows end.from end.to end.fall whole
  pub dists : length s.dist ≡ p.n
  pub parents : length s.parent ≡ p.n
  pub rows : length s.rows ≡ p.n + 1

-- a tree on its way there
record IsGrowing (p : Problem) (plan : Plan) (whole : Front) (s : TreeView) (end : End) : Type 0 where
  tree : IsTree p s
  best : IsBest p s end
  way : IsOnWay p.w plan whole s.size s.dist s.parent s.done s.rows end.from end.to end.fall
  dists : length s.dist ≡ p.n
  parents : length s.parent ≡ p.n
  marks : length s.done ≡ p.n
  rows : length s.rows ≡ p.n + 1
  far : length s.far ≡ p.n + 1

-- a tree with a row more is on its way
record IsMore (p : Problem) (plan : Plan) (whole : Front) (s : TreeView) : Type 0 where
  more : TreeView
  end : End
  size : more.size ≡ s.size + 1
  growing : IsGrowing p plan whole more end

le-more : (k leave enter dist : ℕ) → k ≤ leave + enter → k ≤ dist + leave + enter
le-more k leave enter dist le = omega (arith, le)

abbrev end_at : ℕ → Option ℕ → ℕ → End
end_at from to fall = record { from = from; to = to; fall = fall }

-- the sooner of the best end and the row that comes in, which costs so much
abbrev sooner : ℕ → ℕ → End → End
sooner size cost best = end_at (if nat_lt cost best.fall then size else best.from) best.to (min best.fall cost)

one-end : (size cost : ℕ) (best : End) → best.to ≡ None → (sooner size cost best ≡ best) ⊎ (sooner size cost best ≡ end_at size None cost)
one-end size cost best alone = ⊎_elim
    (λ (less : cost < best.fall). inr
    (ap (λ (b : Bool). end_at (if b then size else best.from) best.to (min best.fall cost)) (lt-ltb cost best.fall less)
    ∙ ap (λ (t : Option ℕ). end_at size t (min best.fall cost)) alone
    ∙ ap (end_at size None) (least less)))
    (λ (more : best.fall ≤ cost). inl
    (ap (λ (b : Bool). end_at (if b then size else best.from) best.to (min best.fall cost)) (le-ltb cost best.fall more)
    ∙ ap (end_at best.from best.to) (most more)))
    (cases_lt cost best.fall)
  where
    least : cost < best.fall → min best.fall cost ≡ cost
    least less = omega (arith, less)

    most : best.fall ≤ cost → min best.fall cost ≡ best.fall
    most more = omega (arith, more)

module _ (w : ℕ → ℕ → Option ℕ) (n a : ℕ) (before : List (Option ℕ)) (plan : Plan) (whole : Front)
    (given : IsGiven (problem w n a before plan.leave plan.enter)) (befores : (j : ℕ) → before_of plan.next j ≡ next_of before j) where
  -- the row comes in that is linked to the nearest column
  come : (s : TreeView) (best : End) → IsGrowing (problem w n a before plan.leave plan.enter) plan whole s best → (column row : ℕ)
      → first_nearest (length s.dist) s.done s.dist best.fall ≡ Some column → before_of plan.next column ≡ Some row
      → IsMore (problem w n a before plan.leave plan.enter) plan whole s
  come s best growing column row near linked =
      let p : Problem = problem w n a before plan.leave plan.enter in
      let picked = (pick-is (length s.dist) s.done s.dist best.fall).some column near in
      let cost : ℕ = at s.dist column + price plan.leave row in
      let closed : List Bool = set s.done column true in
      let in-tree : next_of before column ≡ Some row = sym (befores column) ∙ linked in
      let parents : length s.parent ≡ length s.dist = growing.parents ∙ sym growing.dists in
      let fair = λ (j k : ℕ) (fits : w row j ≡ Some k). le-more k (at plan.leave row) (at plan.enter j) (at s.dist column)
      (given.covers row j k (inr (column, in-tree)) fits) in
      let dist' : List ℕ = nearer_dist (w row) s.size cost plan.enter closed s.dist s.parent parents fair in
      let parent' : List ℕ = nearer_parent (w row) s.size cost plan.enter closed s.dist s.parent parents fair in
      let long = dist-long (w row) s.size cost plan.enter closed s.dist s.parent parents fair in
      let looked = AreLooked-computed (w row) s.size cost plan.enter closed s.dist s.parent parents fair in
      let end : End = sooner s.size cost best in
      let s' : TreeView = tree_with dist' parent' closed (set s.rows s.size row) (set s.far s.size (at s.dist column)) (s.size + 1)
      (at s.dist column) in
      let room : s.size ≤ n = tree-room p s column growing.tree (omega (arith, picked.0, growing.dists, growing.marks)) picked.1 in
      let close : at s.dist column < FAR = omega (arith, picked.2, growing.best.low) in
      let next : IsNext p s row column = record {
        within = omega (arith, picked.0, growing.dists);
        undone = picked.1;
        near = close;
        least = λ j lt undone. subst (λ pick. nearness s.dist best.fall pick ≤ at s.dist j) near
            ((pick-is (length s.dist) s.done s.dist best.fall).least j (omega (arith, lt, growing.dists)) undone);
        linked = in-tree;
      } in
      let visit : IsVisit p s row column dist' parent' = record {
        next = next;
        done = growing.marks;
        rows = growing.rows;
        far = growing.far;
        looked = subst (λ m. AreLooked (w row) m s.size cost plan.enter (as_columns s.dist s.parent closed)
            (as_columns dist' parent' closed)) growing.dists looked;
      } in
      record {
        more = s';
        end = end;
        size = refl;
        growing =
            record {
              tree = IsTree-visit p s row column dist' parent' given growing.tree visit;
              best = IsBest-more p s s' row (at s.dist column) best end growing.best (omega (arith, room, growing.rows))
                  (omega (arith, room, growing.far)) refl refl refl refl picked.2 (one-end s.size cost best growing.best.alone)
                  (omega arith) (omega arith);
              way = IsOnWay-come w plan whole s.size column row s.dist s.parent s.done s.rows best.from best.to best.fall dist' parent'
                  closed (set s.rows s.size row) end growing.way near linked (omega (arith, room, growing.dists)) long looked
                  (omega (arith, room, growing.rows)) growing.best.within
                  (λ j lt reached. (growing.tree.reached j (omega (arith, lt, growing.dists)) reached).within)
                  refl refl refl refl refl;
              dists = long ∙ growing.dists;
              parents = parent-long (w row) s.size cost plan.enter closed s.dist s.parent parents fair ∙ growing.dists;
              marks = length-set s.done column true ∙ growing.marks;
              rows = length-set s.rows s.size row ∙ growing.rows;
              far = length-set s.far s.size (at s.dist column) ∙ growing.far;
            };
      }

  -- the search ends, or a row comes in
  step : (s : TreeView) (best : End) → IsGrowing (problem w n a before plan.leave plan.enter) plan whole s best
      → HasGrown (problem w n a before plan.leave plan.enter) whole ⊎ IsMore (problem w n a before plan.leave plan.enter) plan whole s
  step s best growing = by (first_nearest (length s.dist) s.done s.dist best.fall) refl
    where
      at-column : (column : ℕ) → first_nearest (length s.dist) s.done s.dist best.fall ≡ Some column → (linked : Option ℕ)
          → before_of plan.next column ≡ linked
          → HasGrown (problem w n a before plan.leave plan.enter) whole ⊎ IsMore (problem w n a before plan.leave plan.enter) plan whole s
      at-column column near (Some row) linked = inr (come s best growing column row near linked)
      at-column column near None none =
          let p : Problem = problem w n a before plan.leave plan.enter in
          let picked = (pick-is (length s.dist) s.done s.dist best.fall).some column near in
          let inside : column < n = omega (arith, picked.0, growing.dists) in
          let room : s.size ≤ n = tree-room p s column growing.tree (omega (arith, inside, growing.marks)) picked.1 in
          inl (record {
            s = s;
            end = end_at (at s.parent column) (Some column) (at s.dist column);
            tree = growing.tree;
            ended =
                HasEnded-column p s best column growing.tree growing.best inside picked.1 picked.2
                (λ j lt undone. subst (λ pick. nearness s.dist best.fall pick ≤ at s.dist j) near
                ((pick-is (length s.dist) s.done s.dist best.fall).least j (omega (arith, lt, growing.dists)) undone))
                (sym (befores column) ∙ none);
            shown =
                IsShown-column w plan whole s.size column s.dist s.parent s.done s.rows best.from best.to best.fall growing.way near none
                (omega (arith, room, growing.dists)) picked.0 (omega (arith, picked.2, growing.best.low));
            dists = growing.dists;
            parents = growing.parents;
            rows = growing.rows;
          })

      by : (pick : Option ℕ) → first_nearest (length s.dist) s.done s.dist best.fall ≡ pick
          → HasGrown (problem w n a before plan.leave plan.enter) whole ⊎ IsMore (problem w n a before plan.leave plan.enter) plan whole s
      by (Some column) near = at-column column near (before_of plan.next column) refl
      by None none = inl (record {
        s = s;
        end = best;
        tree = growing.tree;
        ended =
            HasEnded-row (problem w n a before plan.leave plan.enter) s best growing.best
            (λ j lt undone. subst (λ pick. nearness s.dist best.fall pick ≤ at s.dist j) none
            ((pick-is (length s.dist) s.done s.dist best.fall).least j (omega (arith, lt, growing.dists)) undone));
        shown =
            IsShown-none w plan whole s.size s.dist s.parent s.done s.rows best.from best.to best.fall growing.way none;
        dists = growing.dists;
        parents = growing.parents;
        rows = growing.rows;
      })

  grow : (rows : ℕ) (s : TreeView) (best : End) → IsGrowing (problem w n a before plan.leave plan.enter) plan whole s best
      → rows + s.size ≡ n + 1 → HasGrown (problem w n a before plan.leave plan.enter) whole
  grow zero s best growing left = ⊎_elim
      (λ (grown : HasGrown (problem w n a before plan.leave plan.enter) whole). grown)
      (λ (more : IsMore (problem w n a before plan.leave plan.enter) plan whole s).
      absurd (omega (arith, more.size, left, more.growing.tree.count)))
      (step s best growing)
  grow (suc rows) s best growing left = ⊎_elim
      (λ (grown : HasGrown (problem w n a before plan.leave plan.enter) whole). grown)
      (λ (more : IsMore (problem w n a before plan.leave plan.enter) plan whole s).
      grow rows more.more more.end more.growing (omega (arith, more.size, left)))
      (step s best growing)

-- the tree of the first row grows until the search ends
pub HasGrown-found : (w : ℕ → ℕ → Option ℕ) (n a : ℕ) (before : List (Option ℕ)) (plan : Plan) → length plan.next ≡ n
    → length plan.leave ≡ n → IsGiven (problem w n a before (set plan.leave a GREATEST_PRICE) plan.enter)
    → ((j : ℕ) → before_of plan.next j ≡ next_of before j)
    → HasGrown (problem w n a before (set plan.leave a GREATEST_PRICE) plan.enter) (last_front w a plan)
HasGrown-found w n a before plan slots leaves given befores =
    let p : Problem = problem w n a before (set plan.leave a GREATEST_PRICE) plan.enter in
    let none : List Bool = replicate n false in
    let far : List ℕ = replicate n FAR in
    let places : List ℕ = replicate n 0 in
    let parents : length places ≡ length far = length-replicate n 0 ∙ sym (length-replicate n FAR) in
    let fair = λ (j k : ℕ) (fits : w a j ≡ Some k). heavy k (at plan.enter j) (given.weights.most a j k fits) in
    let dist : List ℕ = nearer_dist (w a) 0 GREATEST_PRICE plan.enter none far places parents fair in
    let parent : List ℕ = nearer_parent (w a) 0 GREATEST_PRICE plan.enter none far places parents fair in
    let long : length dist ≡ n = dist-long (w a) 0 GREATEST_PRICE plan.enter none far places parents fair ∙ length-replicate n FAR in
    let looked : AreLooked (w a) n 0 GREATEST_PRICE plan.enter (as_columns far places none) (as_columns dist parent none) =
    subst (λ m. AreLooked (w a) m 0 GREATEST_PRICE plan.enter (as_columns far places none) (as_columns dist parent none))
    (length-replicate n FAR) (AreLooked-computed (w a) 0 GREATEST_PRICE plan.enter none far places parents fair) in
    let rows : List ℕ = replicate (n + 1) a in
    let starts : List ℕ = replicate (n + 1) 0 in
    let root : at rows 0 ≡ a = get_or-replicate (n + 1) 0 a 0 (omega arith) in
    let s : TreeView = tree_with dist parent none rows starts 1 0 in
    let opening : at (set plan.leave a GREATEST_PRICE) a ≡ GREATEST_PRICE =
    get_or-set_same plan.leave a GREATEST_PRICE 0 (omega (arith, given.start, leaves)) in
    let tree : IsTree p s =
    IsTree-begun p far places dist parent none rows starts given opening refl refl root (get_or-replicate (n + 1) 0 0 0 (omega arith))
    looked in
    let front : Front = first_front w a plan.enter n in
    let way : IsOnWay w (opened a plan) (last_front w a plan) 1 dist parent none rows 0 None GREATEST_PRICE =
    subst (λ m. IsOnWay w (opened a plan) (grown w (opened a plan) m (first_front w a plan.enter m)) 1 dist parent none rows 0 None
    GREATEST_PRICE) (sym slots)
    (subst (λ m. IsOnWay w (opened a plan) (grown w (opened a plan) m front) 1 dist parent none rows 0 None GREATEST_PRICE) long
    (IsOnWay-first w (opened a plan) front dist parent none rows 0 None GREATEST_PRICE
    (IsShown-begun w a n plan.enter dist places parent rows long root looked))) in
    grow w n a before (opened a plan) (last_front w a plan) given befores n s (end_at 0 None GREATEST_PRICE)
    (record {
      tree = tree;
      best = IsBest-first p s GREATEST_PRICE given tree refl refl (sym opening ∙ ap (at (set plan.leave a GREATEST_PRICE)) (sym root));
      way = way;
      dists = long;
      parents = parent-long (w a) 0 GREATEST_PRICE plan.enter none far places parents fair ∙ length-replicate n FAR;
      marks = length-replicate n false;
      rows = length-replicate (n + 1) a;
      far = length-replicate (n + 1) 0;
    })
    refl
  where
    heavy : (k enter : ℕ) → k ≤ GREATEST_PRICE → k ≤ GREATEST_PRICE + enter
    heavy k enter le = omega (arith, le)
